-- The loop builder by numbers.
use mathlib.Core.Path.{◌≡◌, refl, sym, ap, subst, ◌∙◌}
use mathlib.Core.Bool.{Bool, true, false}
use mathlib.Core.List.{List, [], ◌∷◌, ◌++◌, append_assoc, append-nil}
use mathlib.Core.Logic.{◌⊎◌, inl, inr}
use Prim.Native.Nat.{ℕ, suc, ◌+◌, ◌-◌, ◌%◌, ◌^◌, ◌<◌, ◌≤◌, min, zero-le, suc-le-suc}
use native.Mathlib.Nat.{not-suc-le-zero}
use native.Mathlib.Omega.{arith}
use lib.Dec.{T, eqb, eqb→eq, eqb_refl, ltb, ltb→lt, lt→ltb}
use lib.ListN.{length, get_or, take, length-append, length-map, length-take, get_or-append}
use lib.Seq.{get_or-append-add, get_or-append_seam}
use Rattle.frames.specs.Frames.Node.{apply}
use Rattle.kripke.specs.Models.{Kripke}
use Rattle.masks.specs.Masks.{bit}
use Rattle.language.specs.Properties.{Property, WellFormed, connective_at}
use Rattle.logic.specs.Truth.{node_at, root}
use Rattle.logic.specs.OnLassos.{Counterexample}
use Rattle.logic.specs.Product.{start_of}
use Rattle.graphs.specs.Walks.{Walk}
use Rattle.tableau.specs.Walks.{Vertex, ProductWalk, everywhere, holds_at}
use Rattle.tableau.specs.Walks.ProductWalk.{stop, leave}
use Rattle.tableau.specs.Rounds.{PartialLoop, Visits, lasso_along, no_vertex}
use Rattle.tableau.specs.Masked.{MaskRounded}
use Rattle.tableau.specs.Numbers.{vertex_of, vertices, product_edge, of_numbers, obligation_edge, layered, left_on}
use Rattle.tableau.specs.Built.{states_of, states_on, Built, OpenLoop, written_lasso, BuildRounded, Builds}
use Rattle.tableau.proofs.Tests.{T_dec}
use Rattle.tableau.proofs.Walking.{apply_in, walk_append, walk_from}
use Rattle.tableau.proofs.Masking.{masked}
use Rattle.tableau.proofs.Numbering.{edge_in, number_in, number_out, number_vertex}
use Rattle.tableau.proofs.Obliging.{obligation_graph}
use Rattle.tableau.proofs.Finishing.{finishes}

-- the states of a list of two parts
states_append : (us vs : List Vertex) → states_of (us ++ vs) ≡ states_of us ++ states_of vs
states_append [] vs = refl
states_append (u ∷ us) vs = ap {B = List ℕ} (λ r. u.state ∷ r) (states_append us vs)

-- the lasso of the vertices is the one of the states
written_is : (stem W : List Vertex) → lasso_along stem W ≡ written_lasso (states_of stem) (states_of W)
written_is stem W =
    λ i. record {
      list = states_append stem W i;
      stem = sym (length-map stem (λ (v : Vertex). v.state)) i;
      loop = sym (length-map W (λ (v : Vertex). v.state)) i;
    }

-- a walk with its end put last begins with its first vertex
walk_head : (m : Kripke) (f : Property) (S : Vertex → Bool) {u w : Vertex} {us : List Vertex} → ProductWalk m f S u us w → (d : Vertex) → get_or (us ++ (w ∷ [])) 0 d ≡ u
walk_head m f S (stop s) d = refl
walk_head m f S (leave s e a) d = refl

-- a list that visits fair sets, the last perhaps at y, still does with more from y on
visits_on : (m : Kripke) (n : ℕ) (A B : List Vertex) (y : Vertex) → 1 ≤ length B → get_or B 0 no_vertex ≡ y → Visits m n (A ++ (y ∷ [])) → Visits m n (A ++ B)
visits_on m n A B y some first visits j lt = go (visits j lt)
  where
    sizes : length (A ++ B) ≡ length A + length B
    sizes = length-append A B

    sizes_y : length (A ++ (y ∷ [])) ≡ length A + 1
    sizes_y = length-append A (y ∷ [])

    go : ((i : ℕ) × (i < length (A ++ (y ∷ []))) × T (m.fair j (get_or (A ++ (y ∷ [])) i no_vertex).state)) → (i : ℕ) × (i < length (A ++ B)) × T (m.fair j (get_or (A ++ B) i no_vertex).state)
    go (i, h, t) = (i, omega (arith, sizes, sizes_y, some, h), subst (λ (v : Vertex). T (m.fair j v.state)) (same (T_dec (ltb i (length A)))) t)
      where
        same : T (ltb i (length A)) ⊎ (¬ T (ltb i (length A))) → get_or (A ++ (y ∷ [])) i no_vertex ≡ get_or (A ++ B) i no_vertex
        same (inl below) =
            let lt : i < length A = ltb→lt i (length A) below in
            get_or-append A (y ∷ []) no_vertex i lt ∙ sym (get_or-append A B no_vertex i lt)
        same (inr not-below) =
            let above : ¬ (i < length A) = λ lt. not-below (lt→ltb i (length A) lt) in
            let here : i ≡ length A + 0 = omega (arith, sizes_y, h) in
            ap (λ k. get_or (A ++ (y ∷ [])) k no_vertex) here ∙ get_or-append-add A (y ∷ []) 0 no_vertex ∙ sym first ∙ sym (get_or-append-add A B 0 no_vertex)
            ∙ sym (ap (λ k. get_or (A ++ B) k no_vertex) here)

-- past the last node no state is due, whatever the set
past : (m : Kripke) (f : Property) (S : Vertex → Bool) (v : Vertex) (due other : ℕ → Bool) (W : List Vertex) →
    PartialLoop m f S v (length f.nodes) due W → PartialLoop m f S v (length f.nodes) other W
past m f S v due other W progress = record {
  walk = progress.walk;
  before = progress.before;
  obligations = λ c is e. absurd (no_node c is e);
  here = λ c is e. absurd (no_node c is e);
}
  where
    no_node : (c : ℕ) (is : List ℕ) → node_at f (length f.nodes) ≡ apply c is → ⊥
    no_node c is e = let z : length f.nodes < length f.nodes = apply_in f (length f.nodes) c is e in omega arith

-- a round
build_round : (m : Kripke) (f : Property) (G : ℕ → Bool) (x k c : ℕ) (is : List ℕ) → node_at f k ≡ apply c is →
    (M : ℕ) (written : List ℕ) → x < vertices m f → M < 2 ^ (connective_at f.connectives c).states → Built m f G x k M written →
    (q : ℕ) → T (bit M q) → (l : List ℕ) → Walk (obligation_edge m f G) (layered m f x (suc (start_of f k + q))) x l →
    BuildRounded m f G x k c is M q written l
build_round m f G x k c is e M written hx hM b q t l route =
    let r : MaskRounded m f (of_numbers f G) (vertex_of f x) k c is M b.loop q (left_on m f l) =
    masked.round m f (of_numbers f G) (vertex_of f x) k c is e M hM b.loop b.progress q t (left_on m f l)
    (obligation_graph.discharges m f G k c is e q (b.progress.obligations c is e q t).fits x x hx hx inside l route) in
    record {
      fits = r.fits;
      built = record { loop = b.loop ++ left_on m f l; states = states_append b.loop (left_on m f l) ∙ ap (λ s. s ++ states_on m f l) b.states; progress = r.progress };
      fewer = r.fewer;
    }
  where
    inside : T (G x)
    inside = subst (λ n. T (G n)) (number_vertex f x) (number_out f G (vertex_of f x) (walk_from m f (of_numbers f G) b.progress.walk))

-- one more fair set
fair_step : (m : Kripke) (f : Property) (G : ℕ → Bool) (x y z j : ℕ) (written : List ℕ) → OpenLoop m f G x y j written → y < vertices m f → z < vertices m f →
    T (G z) → T (m.fair j (vertex_of f z).state) → (l : List ℕ) → Walk (obligation_edge m f G) y z l → OpenLoop m f G x z (suc j) (written ++ states_on m f l)
fair_step m f G x y z j written w hy hz gz fair l route = record {
  loop = w.loop;
  way = w.way ++ more;
  states = ap states_of (sym (append_assoc w.loop w.way more)) ∙ states_append (w.loop ++ w.way) more ∙ ap (λ s. s ++ states_on m f l) w.states;
  progress = w.progress;
  walk = walk_append m f (of_numbers f G) w.walk goes;
  visits = λ i lt. subst (λ (us : List Vertex). (n : ℕ) × (n < length us) × T (m.fair i (get_or us n no_vertex).state)) regroup (pass i lt (eqb i j) refl);
}
  where
    more : List Vertex
    more = left_on m f l

    goes : ProductWalk m f (of_numbers f G) (vertex_of f y) (left_on m f l) (vertex_of f z)
    goes = obligation_graph.inner m f G y z hy hz gz l route

    A : List Vertex
    A = w.loop ++ w.way

    B : List Vertex
    B = more ++ (vertex_of f z ∷ [])

    regroup : A ++ B ≡ (w.loop ++ (w.way ++ more)) ++ (vertex_of f z ∷ [])
    regroup = sym (append_assoc A more (vertex_of f z ∷ [])) ∙ ap (λ (us : List Vertex). us ++ (vertex_of f z ∷ [])) (append_assoc w.loop w.way more)

    sizes : length (A ++ B) ≡ length A + length B
    sizes = length-append A B

    sizes_B : length B ≡ length more + 1
    sizes_B = length-append more (vertex_of f z ∷ [])

    last_is : get_or (A ++ B) (length A + length more) no_vertex ≡ vertex_of f z
    last_is = get_or-append-add A B (length more) no_vertex ∙ get_or-append_seam more (vertex_of f z) [] no_vertex

    pass : (i : ℕ) → i < suc j → (b : Bool) → eqb i j ≡ b → (n : ℕ) × (n < length (A ++ B)) × T (m.fair i (get_or (A ++ B) n no_vertex).state)
    pass i lt true e =
        let same : i ≡ j = eqb→eq i j (subst T (sym e) tt) in (
          length A + length more,
          omega (arith, sizes, sizes_B),
          subst (λ k. T (m.fair k (get_or (A ++ B) (length A + length more) no_vertex).state)) (sym same) (subst (λ (v : Vertex). T (m.fair j v.state)) (sym last_is) fair),
        )
    pass i lt false e =
        let other : ¬ (i ≡ j) = λ same. subst T (ap (eqb i) same ∙ e) (eqb_refl i) in
        visits_on m j A B (vertex_of f y) (omega (arith, sizes_B)) (walk_head m f (of_numbers f G) goes no_vertex) w.visits i (omega arith)

-- the loop is closed
closing : (m : Kripke) (f : Property) → WellFormed f → (G : ℕ → Bool) (x y z : ℕ) (written : List ℕ) → OpenLoop m f G x y m.sets written →
    x < vertices m f → z < vertices m f → T (G y) → T (G x) → T (product_edge m f y z) → (l : List ℕ) → Walk (obligation_edge m f G) z x l →
    (u : ℕ) → u < vertices m f → T (m.start (vertex_of f u).state) → (¬ T (holds_at m f (vertex_of f u) (root f))) →
    (stem : List ℕ) → Walk (product_edge m f) u x stem →
    Counterexample m f (written_lasso (states_on m f stem) (written ++ ((vertex_of f y).state ∷ states_on m f l)))
closing m f wf G x y z written w hx hz gy gx edge l route u hu start no-root stem stem-route =
    subst (Counterexample m f) (written_is (left_on m f stem) W ∙ ap (λ s. written_lasso (states_on m f stem) s) all_states)
    (finishes m f wf (of_numbers f G) everywhere (vertex_of f x) (bit 0) W progress some visits (vertex_of f u) (left_on m f stem)
    (obligation_graph.walk m f u x hu hx stem stem-route) start no-root)
  where
    tail : List Vertex
    tail = vertex_of f y ∷ left_on m f l

    W : List Vertex
    W = w.loop ++ (w.way ++ tail)

    back : ProductWalk m f (of_numbers f G) (vertex_of f y) tail (vertex_of f x)
    back = leave (number_in f G y gy) (edge_in m f y z edge) (obligation_graph.inner m f G z x hz hx gx l route)

    progress : PartialLoop m f (of_numbers f G) (vertex_of f x) (length f.nodes) (bit 0) W
    progress = masked.append m f (of_numbers f G) (vertex_of f x) (length f.nodes) w.loop w.progress (w.way ++ tail) (walk_append m f (of_numbers f G) w.walk back)

    regroup : (w.loop ++ w.way) ++ tail ≡ W
    regroup = append_assoc w.loop w.way tail

    all_states : states_of W ≡ written ++ ((vertex_of f y).state ∷ states_on m f l)
    all_states = ap states_of (sym regroup) ∙ states_append (w.loop ++ w.way) tail ∙ ap (λ s. s ++ ((vertex_of f y).state ∷ states_on m f l)) w.states

    some : 1 ≤ length W
    some =
        let one : length W ≡ length w.loop + length (w.way ++ tail) = length-append w.loop (w.way ++ tail) in
        let two : length (w.way ++ tail) ≡ length w.way + suc (length (left_on m f l)) = length-append w.way tail in
        omega arith

    visits : Visits m m.sets W
    visits = subst (Visits m m.sets) regroup (visits_on m m.sets (w.loop ++ w.way) tail (vertex_of f y) (suc-le-suc zero-le) refl w.visits)

pub builds : Builds
builds = record {
  sizes = λ m f l.
      length-map (left_on m f l) (λ (v : Vertex). v.state) ∙ length-map (take (length l - 1) l) (λ n. vertex_of f (n % vertices m f)) ∙ length-take (length l - 1) l
      ∙ (let z : min (length l - 1) (length l) ≡ length l - 1 = omega arith in z);
  begins = λ m f G x g. record { loop = []; states = refl; progress = masked.begins m f (of_numbers f G) (vertex_of f x) (number_in f G x g) };
  round = build_round;
  next = λ m f G x k written b. record { loop = b.loop; states = b.states; progress = masked.next m f (of_numbers f G) (vertex_of f x) k b.loop b.progress };
  all_done = λ m f G x M written b. record {
    loop = b.loop;
    way = [];
    states = ap states_of (append-nil b.loop) ∙ b.states;
    progress = past m f (of_numbers f G) (vertex_of f x) (bit M) (bit 0) b.loop b.progress;
    walk = stop (walk_from m f (of_numbers f G) b.progress.walk);
    visits = λ j lt. absurd (not-suc-le-zero lt);
  };
  fair = fair_step;
  closes = closing;
}
