-- Properties by their texts.
use Rattle.std.specs.Prelude.{ℕ, List, [], ◌∷◌}
use Rattle.examples.specs.Texts.{text}

-- proposition 0 at every even time: at no even time is it false
abbrev pub even_times : List ℕ
even_times = text ("1003020004" ∷ "11000001" ∷ "11010000" ∷ "11000102" ∷ "26" ∷ "2000" ∷ "2101" ∷ "25000002" ∷ "2103" ∷ "2F" ∷ [])

-- the same property, as it shows: the transitions of state 0 stand first
abbrev pub even_times_shown : List ℕ
even_times_shown = text ("1003020004" ∷ "11000001" ∷ "11000102" ∷ "11010000" ∷ "26" ∷ "2000" ∷ "2101" ∷ "25000002" ∷ "2103" ∷ "2F" ∷ [])

-- proposition 0 at every third time
abbrev pub third_times : List ℕ
third_times = text ("1004020008" ∷ "11000001" ∷ "11010002" ∷ "11020000" ∷ "11000103" ∷ "26" ∷ "2000" ∷ "2101" ∷ "25000002" ∷ "2103" ∷ "2F" ∷ [])

-- proposition 0 at some time
abbrev pub eventually : List ℕ
eventually = text ("1002020002" ∷ "11000000" ∷ "11000101" ∷ "26" ∷ "2000" ∷ "25000001" ∷ "2F" ∷ [])

-- true
abbrev pub always_true : List ℕ
always_true = text ("26" ∷ "2F" ∷ [])

-- not true
abbrev pub never_true : List ℕ
never_true = text ("26" ∷ "2100" ∷ "2F" ∷ [])

-- the negation of a connective without transitions whose start state is final
abbrev pub not_final_start : List ℕ
not_final_start = text ("1001010001" ∷ "26" ∷ "250000" ∷ "2101" ∷ "2F" ∷ [])
