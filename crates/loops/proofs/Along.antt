-- Where obligations are carried along a walk, as a loop works it out.
use Rattle.std.proofs.Common.{◌≡◌, ℕ, ◌+◌, ◌/◌, ◌%◌, ◌^◌, ◌<◌, ◌≤◌, List, length, get_or, drop, sym, refl, ap, ◌∙◌}
use Rattle.std.proofs.lemmas.List.{at_drop_all, at_drop_more}
use Rattle.frames.specs.Frames.Node.{apply}
use Rattle.kripke.specs.Models.{Kripke}
use Rattle.language.specs.Properties.{Property}
use Rattle.logic.specs.Product.{mask_width}
use Rattle.logic.specs.Truth.{node_at}
use Rattle.tableau.specs.Masked.{carried_along, carried_mask}
use Rattle.tableau.specs.Numbers.{vertex_of, vertices}
use Rattle.loops.specs.Carrying.{CarriedOf, vertices_from}

-- what is left of the walk carries the mask `due` to where the whole walk carries the mask `first`
abbrev pub Left : Kripke → Property → (k first : ℕ) (walk : List ℕ) (i due : ℕ) → Type 0
Left m f k first walk i due = (c : ℕ) (is : List ℕ) → node_at f k ≡ apply c is →
    carried_along m f k c is (vertices_from m f (drop i walk)) due ≡ carried_along m f k c is (vertices_from m f walk) first

pub left_none : (m : Kripke) (f : Property) (k first : ℕ) (walk : List ℕ) → Left m f k first walk 0 first
left_none m f k first walk c is e = refl

-- one vertex more
pub left_more : (m : Kripke) (f : Property) (k first : ℕ) (walk : List ℕ) (i due new size masks lab : ℕ) → i < length walk → size ≡ vertices m f → masks ≡ 2 ^ mask_width f →
    lab ≡ m.label (get_or walk i 0 % size / masks) → CarriedOf f lab (get_or walk i 0 % size % masks) k due new → Left m f k first walk i due → Left m f k first walk (i + 1) new
left_more m f k first walk i due new size masks lab lt es em el carried so c is e =
    let x : ℕ = get_or walk i 0 in
    let u = vertex_of f (x % vertices m f) in
    let label : m.label (x % vertices m f / 2 ^ mask_width f) ≡ lab = sym (el ∙ (λ t. m.label (x % es t / em t))) in
    let mask : x % vertices m f % 2 ^ mask_width f ≡ x % size % masks = sym (λ t. x % es t % em t) in
    let moved : new ≡ carried_mask m f k c is u due = carried m u label mask c is e in
    let split : carried_along m f k c is (vertices_from m f (drop i walk)) due ≡ carried_along m f k c is (vertices_from m f (drop (i + 1) walk)) (carried_mask m f k c is u due) =
    at_drop_more (λ l. carried_along m f k c is (vertices_from m f l) due) walk i 0 lt in
    ap (λ n. carried_along m f k c is (vertices_from m f (drop (i + 1) walk)) n) moved ∙ sym split ∙ so c is e

-- at the end of the walk
pub left_all : (m : Kripke) (f : Property) (k first : ℕ) (walk : List ℕ) (i due : ℕ) → length walk ≤ i → Left m f k first walk i due →
    (c : ℕ) (is : List ℕ) → node_at f k ≡ apply c is → due ≡ carried_along m f k c is (vertices_from m f walk) first
left_all m f k first walk i due le so c is e =
    let end : carried_along m f k c is (vertices_from m f (drop i walk)) due ≡ due = at_drop_all (λ l. carried_along m f k c is (vertices_from m f l) due) walk i le in
    sym end ∙ so c is e
