-- The states of a walk, written over words.
use Rattle.std.proofs.Common.{◌≡◌, ℕ, ◌+◌, ◌-◌, ◌/◌, ◌%◌, ◌^◌, ◌≤◌, List, ◌++◌, length, take, drop, sym, ap, ap₂, ◌∙◌, arith}
use mathlib.Core.List.{map-map}
use lib.ListN.{length-map}
use Rattle.std.proofs.lemmas.List.{drop-drop, length-take-le, take-take}
use Rattle.kripke.specs.Models.{Kripke}
use Rattle.language.specs.Properties.{Property}
use Rattle.logic.specs.Product.{mask_width}
use Rattle.tableau.specs.Built.{states_on}
use Rattle.tableau.specs.Numbers.{vertex_of, vertices}
use Rattle.tableau.specs.Walks.{Vertex}
use Rattle.loops.specs.Words.{overwritten, states_from}
use Rattle.loops.proofs.Written.{drop_overwritten, take_overwritten}

-- the words, which were `was`, go on at `at` with the states of the walk, up to `end`, and past that are as they were
pub record Copied (m : Kripke) (f : Property) (walk was words : List ℕ) (at end : ℕ) : Type 0 where
  pub written : take end words ≡ take at was ++ states_on m f walk
  pub rest : drop end words ≡ drop end was

-- the states of the first vertices of a list are those of the walk that it begins with
states_same : (m : Kripke) (f : Property) (count : ℕ) (list : List ℕ) → count ≤ length list →
    states_from (vertices m f) (2 ^ mask_width f) (take (count - 1) list) ≡ states_on m f (take count list)
states_same m f count list fits =
    ap (states_from (vertices m f) (2 ^ mask_width f)) (sym (take-take (count - 1) count list (omega arith)) ∙ ap (λ n. take (n - 1) (take count list)) (sym (length-take-le count list fits)))
    ∙ sym (map-map (λ (v : Vertex). v.state) (λ n. vertex_of f (n % vertices m f)) (take (length (take count list) - 1) (take count list)))

-- and there is one for each of its vertices but the last
states_many : (size masks count : ℕ) (list : List ℕ) → count ≤ length list → length (states_from size masks (take (count - 1) list)) ≡ count - 1
states_many size masks count list fits = length-map (take (count - 1) list) (λ n. n % size / masks) ∙ length-take-le (count - 1) list (omega arith)

-- a walk stands in the first `count` words of the list, and the states of all its vertices but the last were written over `was`
pub copied : (m : Kripke) (f : Property) (size masks at end count : ℕ) (list was words : List ℕ) → size ≡ vertices m f → masks ≡ 2 ^ mask_width f →
    count ≤ length list → end ≡ at + (count - 1) → at ≤ length was → words ≡ overwritten at (states_from size masks (take (count - 1) list)) was →
    Copied m f (take count list) was words at end
copied m f size masks at end count list was words size_is masks-is fits end_is low is =
    let part : List ℕ = states_from size masks (take (count - 1) list) in
    let many = states_many size masks count list fits in
    let ends : end ≡ at + length part = end_is ∙ ap (λ n. at + n) (sym many) in
    let same : part ≡ states_on m f (take count list) = ap (λ n. states_from n masks (take (count - 1) list)) size_is ∙ ap (λ n. states_from (vertices m f) n (take (count - 1) list)) masks-is ∙ states_same m f count list fits in
    record {
      written = ap₂ take ends is ∙ take_overwritten at part was low ∙ ap (λ l. take at was ++ l) same;
      rest = ap₂ drop ends is ∙ drop_overwritten at part was low ∙ ap (λ n. drop n was) (sym ends);
    }

-- what is as it was from a place on is so from each later place on
pub later : (low high : ℕ) (xs ys : List ℕ) → low ≤ high → drop low xs ≡ drop low ys → drop high xs ≡ drop high ys
later low high xs ys le e =
    let sum : low + (high - low) ≡ high = omega arith in
    ap (λ n. drop n xs) (sym sum) ∙ sym (drop-drop (high - low) low xs) ∙ ap (drop (high - low)) e ∙ drop-drop (high - low) low ys ∙ ap (λ n. drop n ys) sum
