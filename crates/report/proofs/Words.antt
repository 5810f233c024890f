-- The words of a lasso, one by one.
use Rattle.std.proofs.Common.{◌≡◌, ℕ, ◌+◌, ◌*◌, ◌<◌, Bool, true, cond, List, [], ◌∷◌, ◌++◌, length, get_or, take, Ok, Err, Result, sym, refl, ap, ◌∙◌, arith}
use Rattle.std.specs.List.{flat_map}
use Rattle.std.proofs.lemmas.List.{flat_map_more, take_more}
use Rattle.frames.specs.Areas.{filled, told}
use Rattle.frames.specs.declared.faults.Refusal.{Refusal}
use Rattle.frames.specs.declared.faults.Refusal.TheVariants.{Value}
use Rattle.report.specs.Reports.{broken_report, broken_text, report_filled, report_told, tellable, word_line}

-- the line of one word more
pub words_more : (words : List ℕ) (i : ℕ) → i < length words → flat_map word_line (take i words) ++ word_line (get_or words i 0) ≡ flat_map word_line (take (i + 1) words)
words_more words i lt = flat_map_more word_line [] (take i words) (get_or words i 0) ∙ sym (ap (flat_map word_line) (take_more words i 0 lt))

-- seven bytes for each word
pub words_length : (words : List ℕ) → length (flat_map word_line words) ≡ 7 * length words
words_length [] = refl
words_length (w ∷ words) = let e = words_length words in omega arith

-- nineteen bytes come before them
pub broken_length : (stem loop : ℕ) (lasso : List ℕ) → length (broken_text stem loop lasso) ≡ 19 + 7 * length lasso
broken_length stem loop lasso = let e = words_length lasso in omega arith

-- a lasso that can be told is
pub broken_told : (stem loop : ℕ) (words lasso area : List ℕ) (r : Result ℕ Refusal) → true ≡ tellable stem loop words → lasso ≡ take (stem + loop) words → r ≡ told (broken_text stem loop lasso) area → r ≡ report_told (broken_report stem loop words) area
broken_told stem loop words lasso area r t l e =
    e
    ∙ ap (λ (xs : List ℕ). told (broken_text stem loop xs) area) l
    ∙ ap (λ (b : Bool). report_told (cond b (Ok (broken_text stem loop (take (stem + loop) words))) (Err (Value 0))) area) t

pub broken_filled : (stem loop : ℕ) (words lasso area area' : List ℕ) → true ≡ tellable stem loop words → lasso ≡ take (stem + loop) words → area' ≡ filled (broken_text stem loop lasso) area → area' ≡ report_filled (broken_report stem loop words) area
broken_filled stem loop words lasso area area' t l e =
    e
    ∙ ap (λ (xs : List ℕ). filled (broken_text stem loop xs) area) l
    ∙ ap (λ (b : Bool). report_filled (cond b (Ok (broken_text stem loop (take (stem + loop) words))) (Err (Value 0))) area) t
