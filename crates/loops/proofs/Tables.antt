-- The table of where the states of a node are carried on leaving a vertex.
use Rattle.std.proofs.Common.{◌≡◌, ℕ, ◌+◌, ◌<◌, ◌≤◌, Bool, cond, List, length, get_or, take, set, sym, ap, ◌∙◌, subst, ap₂, arith}
use Rattle.std.proofs.lemmas.List.{get_or-take, length-take-le}
use Rattle.std.proofs.lemmas.List.Edits.{fill_by_more}
use Rattle.masks.specs.Masks.{bit}
use Rattle.language.specs.Properties.{Property, connective_at, node_width}
use Rattle.logic.specs.Truth.{node_at}
use Rattle.obligations.proofs.Bridges.{onward_leads}
use Rattle.product.specs.Onward.{onward}
use Rattle.product.specs.Owners.{finals_of}
use Rattle.tableau.specs.Images.{image_of}
use Rattle.tableau.specs.Rounds.{carry, leads, lowest}
use Rattle.tableau.proofs.Images.{carried_by}
use Rattle.loops.specs.Carrying.{CarriedOf}
use Rattle.loops.proofs.Lowest.{lowest_same}

-- where state q of node k is carried on leaving a vertex with the label `lab` and the mask K, or past the states where that is final
abbrev pub target : Property → (lab K k states finals q : ℕ) → ℕ
target f lab K k states finals q =
    cond (bit finals (lowest states (bit (onward f lab K k q)))) states (lowest states (bit (onward f lab K k q)))

-- the table has the first n states
abbrev pub Tabled : Property → (lab K k states finals n : ℕ) → List ℕ → Type 0
Tabled f lab K k states finals n to = (q : ℕ) → q < n → get_or to q 0 ≡ target f lab K k states finals q

-- at first it need have none
pub tabled_none : (f : Property) (lab K k states finals : ℕ) (to : List ℕ) → Tabled f lab K k states finals 0 to
tabled_none f lab K k states finals to q lt = absurd (omega arith)

-- the target of a state that may go on to those of the mask `on`, of which r is the lowest
pub target_is : (f : Property) (lab K k states finals q on r x : ℕ) (b : Bool) → on ≡ onward f lab K k q → r ≡ lowest states (bit on) → b ≡ bit finals r →
    x ≡ cond b states r → x ≡ target f lab K k states finals q
target_is f lab K k states finals q on r x b eo er eb ex =
    let low : r ≡ lowest states (bit (onward f lab K k q)) = er ∙ ap (λ n. lowest states (bit n)) eo in
    ex ∙ ap (λ (t : Bool). cond t states r) eb ∙ ap (λ n. cond (bit finals n) states n) low

-- one state more
pub tabled_more : (f : Property) (lab K k states finals n x : ℕ) (to : List ℕ) → n < length to → Tabled f lab K k states finals n to → x ≡ target f lab K k states finals n →
    Tabled f lab K k states finals (n + 1) (set to n x)
tabled_more f lab K k states finals n x to lt so e =
    subst (λ y. Tabled f lab K k states finals (n + 1) (set to n y)) (sym e) (fill_by_more (target f lab K k states finals) to n 0 lt so)

-- by the table the obligations are carried
pub carried_is : (f : Property) (lab K k due states finals r : ℕ) (to : List ℕ) → states ≡ node_width f.connectives (node_at f k) → finals ≡ finals_of f (node_at f k) →
    states ≤ length to → Tabled f lab K k states finals states to → r ≡ image_of due (take states to) → CarriedOf f lab K k due r
carried_is f lab K k due states finals r to es ef room so er m u el em c is e =
    er ∙ carried_by m f k c is u due (take states to) (long ∙ same) (λ q lt. entry q (subst (λ n. q < n) long lt))
  where
    S : ℕ
    S = (connective_at f.connectives c).states

    F : ℕ
    F = (connective_at f.connectives c).finals

    long : length (take states to) ≡ states
    long = length-take-le states to room

    same : states ≡ S
    same = es ∙ ap (node_width f.connectives) e

    final : finals ≡ F
    final = ef ∙ ap (finals_of f) e

    lower : (q : ℕ) → lowest states (bit (onward f lab K k q)) ≡ carry m f k c is u q
    lower q =
        ap (λ n. lowest n (bit (onward f lab K k q))) same ∙ ap₂ (λ a b. lowest S (bit (onward f a b k q))) (sym el) (sym em) ∙
        lowest_same S (bit (onward f (m.label u.state) u.mask k q)) (leads m f k c is u q) (onward_leads m f u k c is e q)

    entry : (q : ℕ) → q < states → get_or (take states to) q 0 ≡ cond (bit F (carry m f k c is u q)) (length (take states to)) (carry m f k c is u q)
    entry q lt = get_or-take states to q 0 lt ∙ so q lt ∙ (λ t. cond (bit (final t) (lower q t)) (sym long t) (lower q t))
