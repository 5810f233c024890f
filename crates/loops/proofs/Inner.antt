-- A strongly connected set with an edge inside: its vertices, and the walks between them.
use Rattle.std.proofs.Common.{◌≡◌, ℕ, ◌<◌, Bool, true, T, ltb}
use Rattle.std.proofs.lemmas.Bool.{and_from, and_parts, ltb-true}
use Rattle.graphs.specs.Walks.{Reaches}
use Rattle.kripke.specs.Models.{Kripke}
use Rattle.language.specs.Properties.{Property}
use Rattle.logic.proofs.Bools.{T_true, true_T}
use Rattle.tableau.specs.Numbers.{inner_edge, product_edge, vertices}
use Rattle.tableau.specs.Verdicts.{MutuallyReachable, Tested}
use Rattle.tableau.specs.Ways.{Way, Leads, here, step}
use Rattle.tableau.proofs.Judging.{verdicts}

-- an edge leaves only vertices of the product
edge_low : (m : Kripke) (f : Property) (x y : ℕ) → product_edge m f x y ≡ true → x < vertices m f
edge_low m f x y e = ltb-true x (vertices m f) (and_parts (ltb x (vertices m f)) _ e).0

-- the members of the set are vertices of the product
pub member_low : (m : Kripke) (f : Property) (G : ℕ → Bool) (x : ℕ) → MutuallyReachable m f G → Tested m f G x → (y : ℕ) → G y ≡ true → y < vertices m f
member_low m f G x joined tested y in-y =
    go tested.edge.0 tested.edge.1 (joined y tested.edge.0 (true_T _ in-y) tested.edge.2) (T_true _ tested.edge.4)
  where
    go : (z w : ℕ) → Way (product_edge m f) (λ n. T (G n)) y z → product_edge m f z w ≡ true → y < vertices m f
    go z w (here i) e = edge_low m f _ w e
    go z w (step i d way) e = edge_low m f _ _ d

-- a walk inside the set leads from each of its vertices to each
pub inner_reaches : (m : Kripke) (f : Property) (G : ℕ → Bool) → MutuallyReachable m f G → (x y : ℕ) → T (G x) → T (G y) → Reaches (inner_edge m f G) x y
inner_reaches m f G joined x y in-x in-y = verdicts.walk (inner_edge m f G) x y (go (joined x y in-x in-y))
  where
    first : {a b : ℕ} → Way (product_edge m f) (λ n. T (G n)) a b → T (G a)
    first (here i) = i
    first (step i e w) = i

    go : {a b : ℕ} → Way (product_edge m f) (λ n. T (G n)) a b → Leads (inner_edge m f G) a b
    go (here i) = here tt
    go (step i e w) = step tt (and_from _ _ e (and_from _ _ (T_true _ i) (T_true _ (first w)))) (go w)

-- the end of an edge inside the set lies in it
pub inner_parts : (m : Kripke) (f : Property) (G : ℕ → Bool) (x y : ℕ) → inner_edge m f G x y ≡ true → T (product_edge m f x y) × T (G y)
inner_parts m f G x y e =
    let p = and_parts (product_edge m f x y) _ e in
    (true_T _ p.0, true_T _ (and_parts (G x) (G y) p.1).1)
