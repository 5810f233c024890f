-- What a check answered, as lines of text.
use Rattle.std.specs.Prelude.{ℕ, ◌+◌, Bool, cond, not, ◌&&◌, List, [], ◌∷◌, ◌++◌, length, take, Ok, Err, Result, ◌==◌, nat_le}
use Rattle.std.specs.List.{flat_map, list_all}
use Rattle.frames.specs.Areas.{filled, told}
use Rattle.frames.specs.Digits.{hexadecimal}
use Rattle.frames.specs.Refusals.{refusal_text}
use Rattle.frames.specs.declared.faults.Refusal.{Refusal}
use Rattle.frames.specs.declared.faults.Refusal.TheVariants.{Value}
use Rattle.decision.specs.declared.verdict.Verdict.{Verdict}
use Rattle.decision.specs.declared.verdict.Verdict.TheVariants.{Holds, Broken}

-- HOLDS: 40, closed by 0A
abbrev pub holds_line : List ℕ
holds_line = hexadecimal 2 0x40 ++ 10 ∷ []

-- BROKEN: 41, how many stem words and how many loop words in eight digits each, closed by 0A
abbrev pub broken_line : (stem loop : ℕ) → List ℕ
broken_line stem loop = hexadecimal 2 0x41 ++ (hexadecimal 8 stem ++ (hexadecimal 8 loop ++ 10 ∷ []))

-- a word of a lasso: 42 and the word in four digits, closed by 0A
abbrev pub word_line : ℕ → List ℕ
word_line w = hexadecimal 2 0x42 ++ (hexadecimal 4 w ++ 10 ∷ [])

-- BROKEN, and then a line for each word of the lasso
abbrev pub broken_text : (stem loop : ℕ) (lasso : List ℕ) → List ℕ
broken_text stem loop lasso = broken_line stem loop ++ flat_map word_line lasso

-- every word can be told in four digits
abbrev pub all_short : List ℕ → Bool
all_short words = list_all (λ w. nat_le w 65535) words

-- there is a loop word, there are as many words as the lasso has, and each of these can be told
abbrev pub tellable : (stem loop : ℕ) (words : List ℕ) → Bool
tellable stem loop words = not (loop == 0) && (nat_le (stem + loop) (length words) && all_short (take (stem + loop) words))

-- the text of BROKEN with the lasso at the front of the words, or the refusal of one that cannot be told
abbrev pub broken_report : (stem loop : ℕ) (words : List ℕ) → Result (List ℕ) Refusal
broken_report stem loop words = cond (tellable stem loop words) (Ok (broken_text stem loop (take (stem + loop) words))) (Err (Value 0))

-- the text of what a check answered: HOLDS, BROKEN with its lasso, or a refusal
abbrev pub reported : Result Verdict Refusal → (words : List ℕ) → Result (List ℕ) Refusal
reported (Ok Holds) words = Ok holds_line
reported (Ok (Broken stem loop)) words = broken_report stem loop words
reported (Err why) words = Ok (refusal_text why)

-- what a report answers: the refusal of what cannot be told comes first, then that the area is too short, or else the text's length
abbrev pub report_told : Result (List ℕ) Refusal → (area : List ℕ) → Result ℕ Refusal
report_told (Ok text) area = told text area
report_told (Err why) area = Err why

-- the area after it: the text and then what stood there before, or all as it was
abbrev pub report_filled : Result (List ℕ) Refusal → (area : List ℕ) → List ℕ
report_filled (Ok text) area = filled text area
report_filled (Err why) area = area
