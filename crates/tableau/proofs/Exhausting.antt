-- Exhausted sets, and what follows when all start vertices are exhausted.
use mathlib.Core.Path.{◌≡◌}
use mathlib.Core.Bool.{Bool}
use mathlib.Core.List.{List, ◌∷◌}
use mathlib.Core.Logic.{◌⊎◌, inl, inr, ◌↔◌}
use Prim.Native.Nat.{ℕ, ◌<◌}
use lib.Dec.{T}
use Rattle.frames.specs.Frames.Node.{apply}
use Rattle.kripke.specs.Models.{Kripke}
use Rattle.masks.specs.Masks.{bit}
use Rattle.language.specs.Properties.{Property, WellFormed, connective_at}
use Rattle.logic.specs.Truth.{node_at, root}
use Rattle.tableau.specs.Walks.{Vertex, IsVertex, Edge, ProductWalk, ProductReaches, StronglyConnected, Discharges, Accepting, everywhere, claimed_at, holds_at}
use Rattle.tableau.specs.Walks.ProductWalk.{stop, leave}
use Rattle.tableau.specs.Walks.Discharges.{discharged, goes}
use Rattle.tableau.specs.Criterion.{AcceptingComponent, Broken}
use Rattle.tableau.specs.Exhausted.{Within, EdgeClosed, Exhausted, BottomComponent, Exhaustion}
use Rattle.tableau.proofs.Tests.{T_dec}
use Rattle.tableau.proofs.Walking.{discharge_there}
use Rattle.tableau.proofs.Criteria.{criterion}

module _ (m : Kripke) (f : Property) (S G : Vertex → Bool) (within : Within S G) where
  -- a walk inside S is one inside G
  pub widen : {u w : Vertex} {us : List Vertex} → ProductWalk m f S u us w → ProductWalk m f G u us w
  widen (stop {v = v} s) = stop (within v s)
  widen (leave {u = u} s e a) = leave (within u s) e (widen a)

  -- discharged inside S, an obligation is discharged inside G, and the walk may then go on inside G
  pub widen_discharges : (k c : ℕ) (is : List ℕ) {v w : Vertex} {q : ℕ} {us : List Vertex} → (z : Vertex) →
      ((x : Vertex) → T (G x) → ProductReaches m f G x z) → Discharges m f S k c is v q us w → (vs : List Vertex) × Discharges m f G k c is v q vs z
  widen_discharges k c is z home (discharged {v = v} t a) = let r = home v (within v (start a)) in (r.0, discharged t r.1)
    where
      start : {u w : Vertex} {us : List Vertex} → ProductWalk m f S u us w → T (S u)
      start (stop s) = s
      start (leave s e a) = s
  widen_discharges k c is z home (goes {u = u} s e x a) =
      let r = widen_discharges k c is z home a in (u ∷ r.0, goes (within u s) e x r.1)

pub grows : (m : Kripke) (f : Property) (S G : Vertex → Bool) → Within S G → StronglyConnected m f G → (v : Vertex) → Accepting m f S v →
    (w : Vertex) → T (G w) → Accepting m f G w
grows m f S G within connected v accepting w inside = record {
  inside = inside;
  edge = let (a, b, sa, sb, e) = accepting.edge in (a, b, within a sa, within b sb, e);
  fair = λ j lt. let (u, su, t) = accepting.fair j lt in (u, within u su, t);
  discharged = λ k c is e q owed.
      discharge_there m f G k c is e w home (connected w v inside (within v accepting.inside)).1 (λ r fits t. there k c is e r fits t (T_dec (bit (connective_at f.connectives c).finals r)))
      q owed.fits owed.claimed;
}
  where
    home : (x : Vertex) → T (G x) → ProductReaches m f G x w
    home x t = connected x w t inside

    there : (k c : ℕ) (is : List ℕ) → node_at f k ≡ apply c is → (r : ℕ) → r < (connective_at f.connectives c).states → T (claimed_at m f v k r) →
        T (bit (connective_at f.connectives c).finals r) ⊎ (¬ T (bit (connective_at f.connectives c).finals r)) → (us : List Vertex) × Discharges m f G k c is v r us w
    there k c is e r fits t (inl final) = let a = home v (within v accepting.inside) in (a.0, discharged final a.1)
    there k c is e r fits t (inr n) =
        widen_discharges m f S G within k c is w home (accepting.discharged k c is e r (record { fits = fits; claimed = t; not_final = n })).1

-- a walk from a closed set ends in it
walk_closed : (m : Kripke) (f : Property) (S D : Vertex → Bool) → EdgeClosed m f D → {u w : Vertex} {us : List Vertex} → ProductWalk m f S u us w → T (D u) → T (D w)
walk_closed m f S D closed (stop s) t = t
walk_closed m f S D closed (leave {u = u} {v = v} s e a) t = walk_closed m f S D closed a (closed u v e t)

-- a walk to a vertex begins at one
walk_vertex : (m : Kripke) (f : Property) (S : Vertex → Bool) → {u w : Vertex} {us : List Vertex} → ProductWalk m f S u us w → IsVertex m f w → IsVertex m f u
walk_vertex m f S (stop s) is = is
walk_vertex m f S (leave s e a) is = e.from

pub none : (m : Kripke) (f : Property) (D : Vertex → Bool) → ((x : Vertex) → T (D x) → ⊥) → Exhausted m f D
none m f D empty = record {
  closed = λ u v e t. absurd (empty u t);
  none_accepting = λ S within connected v accepting. empty v (within v accepting.inside);
}

pub more : (m : Kripke) (f : Property) (D G : Vertex → Bool) → Exhausted m f D → BottomComponent m f D G → (w : Vertex) → T (G w) → (¬ Accepting m f G w) →
    (E : Vertex → Bool) → ((x : Vertex) → T (E x) ↔ (T (D x) ⊎ T (G x))) → Exhausted m f E
more m f D G over last w inside bad E both = record {
  closed = λ u v e t. closed u v e ((both u).0 t);
  none_accepting = λ S within connected v accepting. none_accepting S within connected v accepting ((both v).0 (within v accepting.inside));
}
  where
    swap : (v : Vertex) → T (G v) ⊎ T (D v) → T (D v) ⊎ T (G v)
    swap v (inl t) = inr t
    swap v (inr t) = inl t

    closed : (u v : Vertex) → Edge m f u v → T (D u) ⊎ T (G u) → T (E v)
    closed u v e (inl t) = (both v).1 (inl (over.closed u v e t))
    closed u v e (inr t) = (both v).1 (swap v (last.leads u v e t))

    -- all of S lies on the side of v
    side : (S : Vertex → Bool) → StronglyConnected m f S → (v x : Vertex) → T (S v) → T (S x) → T (D x) ⊎ T (G x) → T (G v) → T (G x)
    side S connected v x sv sx (inl t) g = absurd (last.apart v g (walk_closed m f S D over.closed (connected x v sx sv).1 t))
    side S connected v x sv sx (inr t) g = t

    none_accepting : (S : Vertex → Bool) → Within S E → StronglyConnected m f S → (v : Vertex) → Accepting m f S v → T (D v) ⊎ T (G v) → ⊥
    none_accepting S within connected v accepting (inl t) =
        over.none_accepting S (λ x sx. walk_closed m f S D over.closed (connected v x accepting.inside sx).1 t) connected v accepting
    none_accepting S within connected v accepting (inr t) =
        bad (grows m f S G (λ x sx. side S connected v x accepting.inside sx ((both x).0 (within x sx)) t) last.connected v accepting w inside)

pub holds : (m : Kripke) (f : Property) → WellFormed f → (D : Vertex → Bool) → Exhausted m f D →
    ((u : Vertex) → IsVertex m f u → T (m.start u.state) → (¬ T (holds_at m f u (root f))) → T (D u)) → ¬ Broken m f
holds m f wf D over starts = criterion.complete m f wf none_found
  where
    none_found : AcceptingComponent m f → ⊥
    none_found found = over.none_accepting found.set within found.connected found.centre found.accepting
      where
        centre_is : IsVertex m f found.centre
        centre_is =
            let (a, b, sa, sb, e) = found.accepting.edge in
            walk_vertex m f found.set (found.connected found.centre a found.accepting.inside sa).1 e.from

        first_is : IsVertex m f found.first
        first_is = walk_vertex m f everywhere found.leads.1 centre_is

        centre_in : T (D found.centre)
        centre_in = walk_closed m f everywhere D over.closed found.leads.1 (starts found.first first_is found.starts found.false_root)

        within : Within found.set D
        within x sx = walk_closed m f found.set D over.closed (found.connected found.centre x found.accepting.inside sx).1 centre_in

pub exhaustion : Exhaustion
exhaustion = record { grows = grows; none = none; more = more; holds = holds }
