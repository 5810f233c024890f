use Rattle.std.proofs.Common.{◌≡◌, take}
use Rattle.loops.specs.Words.{overwritten, states_from}
use Rattle.loops.proofs.copying.copy_states.Given as goal

abbrev pub invariant-loop-i : goal.invariant-loop-i
invariant-loop-i l = l.words ≡ overwritten l.at (states_from l.size l.masks (take l.i l.list)) l.initial.words
