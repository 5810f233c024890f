-- A ring of n states: each leads to the next, and the last to state 0, which is the start. Proposition 0 is false at state 1 alone.
use Rattle.std.specs.Prelude.{ℕ, ◌+◌, false, cond, not, ◌&&◌, ◌==◌, nat_lt}
use Rattle.models.specs.Markings.{Marking}

-- the state after s
abbrev pub after : ℕ → ℕ → ℕ
after n s = cond (nat_lt s 65536 && nat_lt (s + 1) n) (s + 1) 0

abbrev pub ring_marking : ℕ → Marking
ring_marking n = record {
  sets = 0;
  label = λ s. cond (nat_lt s n && not (s == 1)) 1 0;
  start = λ s. (s == 0) && nat_lt s n;
  fair = λ j s. false;
}
