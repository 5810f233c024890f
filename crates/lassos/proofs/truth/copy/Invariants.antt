use Rattle.std.proofs.Common.{◌≡◌, ℕ, ◌<◌, ◌≤◌, get_or}
use Rattle.masks.specs.Masks.{bit}
use Rattle.lassos.proofs.truth.copy.Given as goal

abbrev pub invariant-loop-i : goal.invariant-loop-i
invariant-loop-i l =
    ((i j : ℕ) → i < l.i → j < l.k → bit (get_or l.bits i 0) j ≡ bit (get_or l.initial.bits i 0) j)
    × ((i : ℕ) → i < l.i → bit (get_or l.bits i 0) l.k ≡ bit (get_or l.sets i 0) l.q)
    × ((i : ℕ) → l.i ≤ i → get_or l.bits i 0 ≡ get_or l.initial.bits i 0)
