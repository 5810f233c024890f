-- Tables by their lines, each over a store that has just the words that it needs.
use Rattle.std.specs.Prelude.{List, [], ◌∷◌, ◌++◌, Result}
use Prim.Native.String.{String}
use Rattle.frames.specs.declared.faults.Refusal.{Refusal}
use Rattle.models.specs.Fillings.{Filled}
use Rattle.examples.specs.Texts.{filled}

-- the lines, after the first, of two states that alternate: it starts at state 0, where alone proposition 0 is true
abbrev pub alternating_lines : List String
alternating_lines = "020000000101" ∷ "0300000001" ∷ "0300010000" ∷ []

-- two states that alternate
abbrev pub alternating : Result Filled Refusal
alternating = filled 4 "01000200" alternating_lines

-- the same, with one line more: state 1 is a start state too
abbrev pub alternating_from_both : Result Filled Refusal
alternating_from_both = filled 4 "01000200" (alternating_lines ++ "020001000001" ∷ [])

-- it starts at state 0, where it may stay for ever, or go to state 1 and stay there; proposition 0 is true at state 1 alone
abbrev pub may_go : Result Filled Refusal
may_go = filled 5 "01000200" ("020000000001" ∷ "020001000100" ∷ "0300000000" ∷ "0300000001" ∷ "0300010001" ∷ [])

-- the same, with a fair set that holds state 1 alone: it has to go there
abbrev pub must_go : Result Filled Refusal
must_go = filled 5 "01000201" ("020000000001" ∷ "020001000102" ∷ "0300000000" ∷ "0300000001" ∷ "0300010001" ∷ [])

-- one state, a start state, that goes nowhere
abbrev pub stuck : Result Filled Refusal
stuck = filled 1 "01000100" ("020000000001" ∷ [])

-- 256 states, without pairs
abbrev pub of_256_states : Result Filled Refusal
of_256_states = filled 256 "01010000" []

-- 300 states, without pairs
abbrev pub of_300_states : Result Filled Refusal
of_300_states = filled 300 "01012C00" []
