-- From an accepting component a counterexample is built, round by round.
use mathlib.Core.Path.{◌≡◌, refl, sym, ap, subst, ◌∙◌}
use mathlib.Core.Bool.{Bool, true, false}
use mathlib.Core.List.{List, [], ◌∷◌, ◌++◌}
use mathlib.Core.Logic.{◌⊎◌, inl, inr}
use Prim.Native.Nat.{ℕ, zero, suc, ◌+◌, ◌<◌, ◌≤◌}
use native.Mathlib.Nat.{not-suc-le-zero}
use native.Mathlib.Omega.{arith}
use lib.Dec.{T, eqb, eqb→eq, eqb_refl}
use lib.ListN.{length, get_or, length-append, get_or-append, get_or-eq_default}
use lib.Seq.{get_or-append-add}
use Rattle.frames.specs.Frames.{Node}
use Rattle.frames.specs.Frames.Node.{proposition, truth, negation, next, both, either, apply}
use Rattle.kripke.specs.Models.{Kripke}
use Rattle.language.specs.Properties.{Property, WellFormed, connective_at}
use Rattle.logic.specs.Truth.{node_at}
use Rattle.logic.specs.Product.{some_below}
use Rattle.logic.proofs.Bools.{some_in, some_out}
use Rattle.tableau.specs.Walks.{Vertex, ProductWalk, StronglyConnected, Accepting, everywhere}
use Rattle.tableau.specs.Walks.ProductWalk.{leave}
use Rattle.tableau.specs.Rounds.{PartialLoop, Visits, count, pending, pending_node, lasso_along, no_vertex}
use Rattle.tableau.specs.Criterion.{AcceptingComponent, Broken}
use Rattle.tableau.proofs.Tests.{T_dec}
use Rattle.tableau.proofs.Walking.{walk_append, walk_first}
use Rattle.tableau.proofs.Rounding.{begins, round, next_node, extends}
use Rattle.tableau.proofs.Finishing.{finishes, default_at}

module _ (m : Kripke) (f : Property) (S : Vertex → Bool) (v : Vertex) (accepting : Accepting m f S v) where
  -- a loop on which no obligation of node k is due
  record Settled (k : ℕ) : Type 0 where
    due : ℕ → Bool
    loop : List Vertex
    progress : PartialLoop m f S v k due loop
    empty : (q : ℕ) → T (due q) → ⊥

  -- rounds until none is due; each makes the obligations fewer
  settle : (k c : ℕ) (is : List ℕ) → node_at f k ≡ apply c is → (n : ℕ) (due : ℕ → Bool) (W : List Vertex) → PartialLoop m f S v k due W →
      count (connective_at f.connectives c).states due ≤ n → Settled k
  settle k c is e zero due W progress few = go (T_dec (some_below (connective_at f.connectives c).states due))
    where
      go : T (some_below (connective_at f.connectives c).states due) ⊎ (¬ T (some_below (connective_at f.connectives c).states due)) → Settled k
      go (inl t) =
          let q = some_out (connective_at f.connectives c).states due t in
          let way = accepting.discharged k c is e q.0 (progress.obligations c is e q.0 q.2) in
          let r = round m f S v k c is e due W progress q.0 q.2 way.0 way.1 in
          let fewer : suc (count (connective_at f.connectives c).states _) ≤ count (connective_at f.connectives c).states due = r.fewer in
          absurd (omega arith)
      go (inr n) = record {
        due = due;
        loop = W;
        progress = progress;
        empty = λ q t. n (some_in (connective_at f.connectives c).states due q (progress.obligations c is e q t).fits t);
      }
  settle k c is e (suc n) due W progress few =
      go (T_dec (some_below (connective_at f.connectives c).states due)) (λ due W progress few. settle k c is e n due W progress few)
    where
      go : T (some_below (connective_at f.connectives c).states due) ⊎ (¬ T (some_below (connective_at f.connectives c).states due)) →
          ((due : ℕ → Bool) (W : List Vertex) → PartialLoop m f S v k due W → count (connective_at f.connectives c).states due ≤ n → Settled k) → Settled k
      go (inl t) again =
          let q = some_out (connective_at f.connectives c).states due t in
          let way = accepting.discharged k c is e q.0 (progress.obligations c is e q.0 q.2) in
          let r = round m f S v k c is e due W progress q.0 q.2 way.0 way.1 in
          again _ _ r.progress (omega (arith, r.fewer))
      go (inr no_more) again = record {
        due = due;
        loop = W;
        progress = progress;
        empty = λ q t. no_more (some_in (connective_at f.connectives c).states due q (progress.obligations c is e q t).fits t);
      }

  -- the same for a node of any kind
  settle_node : (k : ℕ) (W : List Vertex) → PartialLoop m f S v k (pending m f v k) W → Settled k
  settle_node k W progress = go (node_at f k) refl
    where
      not_apply : (x : Node) → node_at f k ≡ x → ((q : ℕ) → T (pending_node m f v k x q) → ⊥) → Settled k
      not_apply x e none = record {
        due = pending m f v k;
        loop = W;
        progress = progress;
        empty = λ q t. none q (subst (λ y. T (pending_node m f v k y q)) e t);
      }

      go : (x : Node) → node_at f k ≡ x → Settled k
      go (proposition i) e = not_apply (proposition i) e (λ q t. t)
      go (negation i) e = not_apply (negation i) e (λ q t. t)
      go (next i) e = not_apply (next i) e (λ q t. t)
      go (both i j) e = not_apply (both i j) e (λ q t. t)
      go (either i j) e = not_apply (either i j) e (λ q t. t)
      go (apply c is) e = settle k c is e (count (connective_at f.connectives c).states (pending m f v k)) (pending m f v k) W progress (omega arith)
      go truth e = not_apply truth e (λ q t. t)

  -- the nodes below n, one after another
  nodes_done : (n : ℕ) → (W : List Vertex) × PartialLoop m f S v n (pending m f v n) W
  nodes_done zero = ([], begins m f S v accepting.inside)
  nodes_done (suc n) =
      let before = nodes_done n in
      let r = settle_node n before.0 before.1 in
      (r.loop, next_node m f S v n r.due r.loop r.progress r.empty)

  -- past the last node there is no obligation
  none_after : (q : ℕ) → T (pending m f v (length f.nodes) q) → ⊥
  none_after q t = subst (λ x. T (pending_node m f v (length f.nodes) x q)) (get_or-eq_default f.nodes truth (omega arith)) t

  module _ (connected : StronglyConnected m f S) where
    -- a closed walk with an edge
    circuit : (us : List Vertex) × (1 ≤ length us) × ProductWalk m f S v us v
    circuit =
        let (u, w, su, sw, edge) = accepting.edge in
        let there = connected v u accepting.inside su in
        let back = connected w v sw accepting.inside in
        let sizes : length (there.0 ++ (u ∷ back.0)) ≡ length there.0 + suc (length back.0) = length-append there.0 (u ∷ back.0) in
        (there.0 ++ (u ∷ back.0), omega arith, walk_append m f S there.1 (leave su edge back.1))

    -- a loop on which all obligations are discharged and the first n fair sets are visited
    record RoundFair (n : ℕ) : Type 0 where
      loop : List Vertex
      some : 1 ≤ length loop
      progress : PartialLoop m f S v (length f.nodes) (pending m f v (length f.nodes)) loop
      visits : Visits m n loop

    -- the first n fair sets, one after another
    fair_done : (n : ℕ) → n ≤ m.sets → RoundFair n
    fair_done zero h =
        let all = nodes_done (length f.nodes) in
        let sizes : length (all.0 ++ circuit.0) ≡ length all.0 + length circuit.0 = length-append all.0 circuit.0 in
        let edges : 1 ≤ length circuit.0 = circuit.1 in
        record {
          loop = all.0 ++ circuit.0;
          some = omega arith;
          progress = extends m f S v (length f.nodes) (pending m f v (length f.nodes)) all.0 all.1 none_after circuit.0 circuit.2;
          visits = λ j lt. absurd (not-suc-le-zero lt);
        }
    fair_done (suc n) h = go (fair_done n (omega arith)) (accepting.fair n h)
      where
        go : RoundFair n → ((u : Vertex) × T (S u) × T (m.fair n u.state)) → RoundFair (suc n)
        go r (u, su, fair) = record {
          loop = r.loop ++ (there ++ (back ++ circuit.0));
          some = let z : 1 ≤ length r.loop = r.some in omega (arith, sizes);
          progress = extends m f S v (length f.nodes) (pending m f v (length f.nodes)) r.loop r.progress none_after (there ++ (back ++ circuit.0))
              (walk_append m f S (connected v u accepting.inside su).1 from_u);
          visits = λ j lt. pass j lt (eqb j n) refl;
        }
          where
            there : List Vertex
            there = (connected v u accepting.inside su).0

            back : List Vertex
            back = (connected u v su accepting.inside).0

            from_u : ProductWalk m f S u (back ++ circuit.0) v
            from_u = walk_append m f S (connected u v su accepting.inside).1 circuit.2

            tail : List Vertex
            tail = there ++ (back ++ circuit.0)

            sizes : length (r.loop ++ tail) ≡ length r.loop + length tail
            sizes = length-append r.loop tail

            sizes_tail : length tail ≡ length there + length (back ++ circuit.0)
            sizes_tail = length-append there (back ++ circuit.0)

            sizes_last : length (back ++ circuit.0) ≡ length back + length circuit.0
            sizes_last = length-append back circuit.0

            edges : 1 ≤ length circuit.0
            edges = circuit.1

            at_u : get_or (r.loop ++ tail) (length r.loop + (length there + 0)) no_vertex ≡ u
            at_u =
                get_or-append-add r.loop tail (length there + 0) no_vertex ∙ get_or-append-add there (back ++ circuit.0) 0 no_vertex
                ∙ default_at (back ++ circuit.0) no_vertex v 0 (omega (arith, sizes_last, edges)) ∙ walk_first m f S from_u

            pass : (j : ℕ) → j < suc n → (b : Bool) → eqb j n ≡ b → (i : ℕ) × (i < length (r.loop ++ tail)) × T (m.fair j (get_or (r.loop ++ tail) i no_vertex).state)
            pass j lt true e =
                let same : j ≡ n = eqb→eq j n (subst T (sym e) tt) in (
                  length r.loop + (length there + 0),
                  omega (arith, sizes, sizes_tail, sizes_last, edges),
                  subst (λ i. T (m.fair i (get_or (r.loop ++ tail) (length r.loop + (length there + 0)) no_vertex).state)) (sym same)
                      (subst (λ (x : Vertex). T (m.fair n x.state)) (sym at_u) fair),
                )
            pass j lt false e =
                let other : ¬ (j ≡ n) = λ same. subst T (ap (eqb j) same ∙ e) (eqb_refl j) in
                let was = r.visits j (omega arith) in
                let below : was.0 < length r.loop = was.1 in (
                  was.0,
                  omega (arith, sizes),
                  subst (λ (x : Vertex). T (m.fair j x.state)) (sym (get_or-append r.loop tail no_vertex was.0 below)) was.2,
                )

pub sound : (m : Kripke) (f : Property) → WellFormed f → AcceptingComponent m f → Broken m f
sound m f wf found =
    let r = fair_done m f found.set found.centre found.accepting found.connected m.sets (omega arith) in (
      lasso_along found.leads.0 r.loop,
      finishes m f wf found.set everywhere found.centre (pending m f found.centre (length f.nodes)) r.loop r.progress r.some r.visits
          found.first found.leads.0 found.leads.1 found.starts found.false_root,
    )
