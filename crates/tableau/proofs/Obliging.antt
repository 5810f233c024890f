-- Walks of the obligation graph are walks of the product that discharge obligations.
use mathlib.Core.Path.{◌≡◌, refl, sym, ap, ap₂, subst, subst₂, ◌∙◌}
use mathlib.Core.Bool.{Bool, true, false, not, ◌&&◌, ◌||◌}
use mathlib.Core.List.{List, [], ◌∷◌, ◌++◌, map}
use mathlib.Core.Logic.{◌⊎◌, inl, inr}
use Prim.Native.Nat.{ℕ, suc, ◌+◌, ◌-◌, ◌*◌, ◌/◌, ◌%◌, ◌<◌, ◌≤◌}
use native.Mathlib.Nat.{mod-eq_of_lt, div-eq_of_lt, zero-mul}
use native.Mathlib.Omega.{arith}
use lib.Dec.{T, eqb, eqb→eq, eqb_refl, ltb, ltb→lt, lt→ltb, leb, leb→le, le→leb}
use lib.ListN.{length, get_or, take}
use Rattle.frames.specs.Frames.{Node}
use Rattle.frames.specs.Frames.Node.{proposition, truth, negation, next, both, either, apply}
use Rattle.kripke.specs.Models.{Kripke}
use Rattle.masks.specs.Masks.{bit}
use Rattle.language.specs.Properties.{Connective, Property, connective_at, node_width}
use Rattle.logic.specs.Truth.{node_at}
use Rattle.logic.specs.Product.{claim_of, some_below, sat, start_of}
use Rattle.logic.proofs.Bools.{T_and, T_true, and_T, T_or_left, T_or_right, or_T, some_in, some_out}
use Rattle.logic.proofs.Spread.{start_mono}
use Rattle.logic.proofs.Claims.{claim_is, claim_final, apply_back}
use Rattle.graphs.specs.Walks.{Walk}
use Rattle.tableau.specs.Walks.{Vertex, Edge, ProductWalk, Discharges, Continues, everywhere, holds_at, claimed_at}
use Rattle.tableau.specs.Walks.ProductWalk.{stop, leave}
use Rattle.tableau.specs.Walks.Discharges.{discharged, goes}
use Rattle.tableau.specs.Rounds.{leads}
use Rattle.tableau.specs.Numbers.{number_of, vertex_of, vertices, product_edge, inner_edge, of_numbers, ends_now, moves_node, layer_step, obligation_edge_at, obligation_edge, layered, left_on, ObligationGraph}
use Rattle.tableau.proofs.Tests.{T_dec, T_not, not_T}
use Rattle.tableau.proofs.Walking.{mask_edge, apply_in, walk_from, discharges_walk}
use Rattle.tableau.proofs.Trails.{Trail, to_trail, from_trail}
use Rattle.tableau.proofs.Trails.Trail.{last, then}
use Rattle.tableau.proofs.Numbering.{vertex_number, number_vertex, number_below, edge_in, edge_number, number_in, number_out, layer_mod, layer_div}

-- a bit belongs to one node
one_node : (f : Property) (k j n o : ℕ) → n ≡ node_width f.connectives (node_at f k) → o ≡ node_width f.connectives (node_at f j) → (i : ℕ) →
    start_of f k ≤ i → i < start_of f k + n → start_of f j ≤ i → i < start_of f j + o → k ≡ j
one_node f k j n o en eo i lk hk lj hj = go (ltb k j) refl (ltb j k) refl
  where
    go : (a : Bool) → ltb k j ≡ a → (b : Bool) → ltb j k ≡ b → k ≡ j
    go true ea b eb =
        let top : start_of f (suc k) ≤ start_of f j = start_mono f (suc k) j (ltb→lt k j (subst T (sym ea) tt)) in
        absurd (omega arith)
    go false ea true eb =
        let top : start_of f (suc j) ≤ start_of f k = start_mono f (suc j) k (ltb→lt j k (subst T (sym eb) tt)) in
        absurd (omega arith)
    go false ea false eb =
        let above : ¬ (k < j) = λ lt. subst T ea (lt→ltb k j lt) in
        let below : ¬ (j < k) = λ lt. subst T eb (lt→ltb j k lt) in
        omega arith

-- what an edge from the layer of a state of node k does: the obligation is discharged, or goes on as another
data Onward (m : Kripke) (f : Property) (k c : ℕ) (is : List ℕ) (u : Vertex) (q b : ℕ) : Type 0 where
  ends : (r a : ℕ) → r < (connective_at f.connectives c).states → a < (connective_at f.connectives c).letters → T (bit (connective_at f.connectives c).finals r) → T ((connective_at f.connectives c).may q a r) →
      T (holds_at m f u (get_or is a 0)) → b ≡ 0 → Onward m f k c is u q b
  moves : (r a : ℕ) → r < (connective_at f.connectives c).states → a < (connective_at f.connectives c).letters → T ((connective_at f.connectives c).may q a r) →
      T (holds_at m f u (get_or is a 0)) → T (bit u.mask (start_of f k + r)) → (¬ T (bit (connective_at f.connectives c).finals r)) → b ≡ suc (start_of f k + r) →
      Onward m f k c is u q b

module _ (m : Kripke) (f : Property) (k c : ℕ) (is : List ℕ) (e : node_at f k ≡ apply c is) where
  -- the connective of node k
  abbrev C : Connective
  C = connective_at f.connectives c

  -- a letter whose operand is true at u leads from q to r, which is final
  abbrev final_by : Vertex → ℕ → ℕ → Bool
  final_by u q r = bit C.finals r && some_below C.letters (λ a. holds_at m f u (get_or is a 0) && C.may q a r)

  -- b is the layer of r, to which q leads and which is not final
  abbrev open_by : Vertex → ℕ → ℕ → ℕ → Bool
  open_by u q b r = eqb b (suc (start_of f k + r)) && (not (bit C.finals r) && leads m f k c is u q r)

  -- the letter a, whose operand is true at u, leads from q to r, whose bit is set
  abbrev lead_by : Vertex → ℕ → ℕ → ℕ → Bool
  lead_by u q r a = holds_at m f u (get_or is a 0) && (C.may q a r && bit u.mask (start_of f k + r))

  -- the two parts of the test of an edge
  onward : (u : Vertex) (q b : ℕ) → T ((eqb b 0 && ends_now m f c is u q) || some_below C.states (open_by u q b)) → Onward m f k c is u q b
  onward u q b t = go (or_T (eqb b 0 && ends_now m f c is u q) (some_below C.states (open_by u q b)) t)
    where
      go : T (eqb b 0 && ends_now m f c is u q) ⊎ T (some_below C.states (open_by u q b)) → Onward m f k c is u q b
      go (inl s) =
          let both = and_T (eqb b 0) (ends_now m f c is u q) s in
          let r = some_out C.states (final_by u q) both.1 in
          let parts = and_T (bit C.finals r.0) (some_below C.letters (λ a. holds_at m f u (get_or is a 0) && C.may q a r.0)) r.2 in
          let a = some_out C.letters (λ a. holds_at m f u (get_or is a 0) && C.may q a r.0) parts.1 in
          let by = and_T (holds_at m f u (get_or is a.0 0)) (C.may q a.0 r.0) a.2 in
          ends r.0 a.0 r.1 a.1 parts.0 by.1 by.0 (eqb→eq b 0 both.0)
      go (inr s) =
          let r = some_out C.states (open_by u q b) s in
          let one = and_T (eqb b (suc (start_of f k + r.0))) (not (bit C.finals r.0) && leads m f k c is u q r.0) r.2 in
          let two = and_T (not (bit C.finals r.0)) (leads m f k c is u q r.0) one.1 in
          let a = some_out C.letters (lead_by u q r.0) two.1 in
          let three = and_T (holds_at m f u (get_or is a.0 0)) (C.may q a.0 r.0 && bit u.mask (start_of f k + r.0)) a.2 in
          let four = and_T (C.may q a.0 r.0) (bit u.mask (start_of f k + r.0)) three.1 in
          moves r.0 a.0 r.1 a.1 four.0 three.0 four.1 (not_T (bit C.finals r.0) two.0) (eqb→eq b (suc (start_of f k + r.0)) one.0)

  -- an edge from the layer of a state of node k
  step_from : (u : Vertex) (q b : ℕ) → q < C.states → T (layer_step m f u (suc (start_of f k + q)) b) → Onward m f k c is u q b
  step_from u q b fits t =
      let j = some_out (length f.nodes) (λ j. moves_node m f u j (node_at f j) (start_of f k + q) b) t in
      at_node j.0 (node_at f j.0) refl j.2
    where
      own : T ((leb (start_of f k) (start_of f k + q) && ltb (start_of f k + q) (start_of f k + C.states)) &&
          ((eqb b 0 && ends_now m f c is u (start_of f k + q - start_of f k)) ||
          some_below C.states (open_by u (start_of f k + q - start_of f k) b))) → Onward m f k c is u q b
      own t =
          onward u q b (subst (λ p. T ((eqb b 0 && ends_now m f c is u p) || some_below C.states (open_by u p b))) (let z : start_of f k + q - start_of f k ≡ q = omega arith in z)
          (and_T (leb (start_of f k) (start_of f k + q) && ltb (start_of f k + q) (start_of f k + C.states))
          ((eqb b 0 && ends_now m f c is u (start_of f k + q - start_of f k)) || some_below C.states (open_by u (start_of f k + q - start_of f k) b)) t).1)

      at_node : (j : ℕ) (x : Node) → node_at f j ≡ x → T (moves_node m f u j x (start_of f k + q) b) → Onward m f k c is u q b
      at_node j (proposition p) ex t = absurd t
      at_node j (negation i) ex t = absurd t
      at_node j (next i) ex t = absurd t
      at_node j (both i l) ex t = absurd t
      at_node j (either i l) ex t = absurd t
      at_node j (apply d js) ex t =
          let range = (and_T (leb (start_of f j) (start_of f k + q) && ltb (start_of f k + q) (start_of f j + (connective_at f.connectives d).states)) _ t).0 in
          let sides = and_T (leb (start_of f j) (start_of f k + q)) (ltb (start_of f k + q) (start_of f j + (connective_at f.connectives d).states)) range in
          let low : start_of f j ≤ start_of f k + q = leb→le (start_of f j) (start_of f k + q) sides.0 in
          let high : start_of f k + q < start_of f j + (connective_at f.connectives d).states = ltb→lt (start_of f k + q) (start_of f j + (connective_at f.connectives d).states) sides.1 in
          let same : k ≡ j = one_node f k j C.states (connective_at f.connectives d).states (ap (node_width f.connectives) (sym e)) (ap (node_width f.connectives) (sym ex)) (start_of f k + q) (omega arith) (omega arith) low high in
          let here : apply d js ≡ apply c is = sym ex ∙ ap (node_at f) (sym same) ∙ e in
          own (subst₂ (λ (i : ℕ) (x : Node). T (moves_node m f u i x (start_of f k + q) b)) (sym same) here t)
      at_node j truth ex t = absurd t

  -- and back
  step_to : (u : Vertex) (q b : ℕ) → q < C.states → T ((eqb b 0 && ends_now m f c is u q) || some_below C.states (open_by u q b)) →
      T (layer_step m f u (suc (start_of f k + q)) b)
  step_to u q b fits t =
      some_in (length f.nodes) (λ j. moves_node m f u j (node_at f j) (start_of f k + q) b) k (apply_in f k c is e)
      (subst (λ x. T (moves_node m f u k x (start_of f k + q) b)) (sym e)
      (T_and (leb (start_of f k) (start_of f k + q) && ltb (start_of f k + q) (start_of f k + C.states))
      ((eqb b 0 && ends_now m f c is u (start_of f k + q - start_of f k)) || some_below C.states (open_by u (start_of f k + q - start_of f k) b))
      (T_and (leb (start_of f k) (start_of f k + q)) (ltb (start_of f k + q) (start_of f k + C.states)) (le→leb (start_of f k) (start_of f k + q) (omega arith))
      (lt→ltb (start_of f k + q) (start_of f k + C.states) (omega arith)))
      (subst (λ p. T ((eqb b 0 && ends_now m f c is u p) || some_below C.states (open_by u p b))) (let z : q ≡ start_of f k + q - start_of f k = omega arith in z) t)))

  -- a step to a final state
  to_final : (u v : Vertex) (q : ℕ) → q < C.states → (x : Continues m f u v k c is q) → T (bit C.finals x.to) → T (layer_step m f u (suc (start_of f k + q)) 0)
  to_final u v q fits x t =
      step_to u q 0 fits (T_or_left (eqb 0 0 && ends_now m f c is u q) (some_below C.states (open_by u q 0))
      (some_in C.states (final_by u q) x.to x.to_fits
      (T_and (bit C.finals x.to) (some_below C.letters (λ a. holds_at m f u (get_or is a 0) && C.may q a x.to)) t
      (some_in C.letters (λ a. holds_at m f u (get_or is a 0) && C.may q a x.to) x.letter x.letter_fits
      (T_and (holds_at m f u (get_or is x.letter 0)) (C.may q x.letter x.to) x.operand x.may)))))

  -- a step to a state that is not final
  to_open : (u v : Vertex) → Edge m f u v → (q : ℕ) → q < C.states → (x : Continues m f u v k c is q) → (¬ T (bit C.finals x.to)) →
      T (layer_step m f u (suc (start_of f k + q)) (suc (start_of f k + x.to)))
  to_open u v edge q fits x n =
      let r : ℕ = x.to in
      let b : ℕ = suc (start_of f k + r) in
      let marked : T (bit u.mask (start_of f k + r)) =
      subst T (sym (apply_back f k c is (apply_in f k c is e) e u.mask (m.label v.state) v.mask (mask_edge m f u v edge) r x.to_fits))
      (subst T (claim_is f k c is (apply_in f k c is e) e (m.label v.state) v.mask r) x.claimed) in
      step_to u q b fits (T_or_right (eqb b 0 && ends_now m f c is u q) (some_below C.states (open_by u q b))
      (some_in C.states (open_by u q b) r x.to_fits
      (T_and (eqb b b) (not (bit C.finals r) && leads m f k c is u q r) (eqb_refl b)
      (T_and (not (bit C.finals r)) (leads m f k c is u q r) (T_not (bit C.finals r) n)
      (some_in C.letters (lead_by u q r) x.letter x.letter_fits
      (T_and (holds_at m f u (get_or is x.letter 0)) (C.may q x.letter r && bit u.mask (start_of f k + r)) x.operand
      (T_and (C.may q x.letter r) (bit u.mask (start_of f k + r)) x.may marked)))))))

-- the product's vertices along a list of numbers
abbrev seen : Kripke → Property → List ℕ → List Vertex
seen m f l = map (λ n. vertex_of f (n % vertices m f)) l

-- the vertices but for the last
front : (g : ℕ → Vertex) (l : List ℕ) (us : List Vertex) (v : Vertex) → map g l ≡ us ++ (v ∷ []) → us ≡ map g (take (length l - 1) l)
front g [] [] v e = absurd (let z : ◌≡◌ {A = ℕ} 0 1 = cc in omega arith)
front g [] (u ∷ us) v e = absurd (let z : ◌≡◌ {A = ℕ} 0 1 = cc in omega arith)
front g (x ∷ []) [] v e = refl
front g (x ∷ []) (u ∷ []) v e = absurd (let z : ◌≡◌ {A = ℕ} 0 1 = cc in omega arith)
front g (x ∷ []) (u ∷ t ∷ us) v e = absurd (let z : ◌≡◌ {A = ℕ} 0 1 = cc in omega arith)
front g (x ∷ y ∷ l) [] v e = absurd (let z : ◌≡◌ {A = ℕ} 0 1 = cc in omega arith)
front g (x ∷ y ∷ l) (u ∷ us) v e =
    let head : u ≡ g x = cc in
    let tail : map g (y ∷ l) ≡ us ++ (v ∷ []) = cc in
    ap₂ {C = List Vertex} (λ a rest. a ∷ rest) head (front g (y ∷ l) us v tail)
    ∙ ap (λ n. map g (take n (x ∷ y ∷ l))) (let z : suc (length (y ∷ l) - 1) ≡ length (x ∷ y ∷ l) - 1 = omega arith in z)

module _ (m : Kripke) (f : Property) (G : ℕ → Bool) where
  -- the set of the vertices of G
  abbrev S : Vertex → Bool
  S = of_numbers f G

  -- how many vertices the product has
  abbrev N : ℕ
  N = vertices m f

  -- the vertex of a number of the obligation graph
  abbrev vertex_at : ℕ → Vertex
  vertex_at n = vertex_of f (n % N)

  -- what an edge of the obligation graph is made of
  record Parts (n o : ℕ) : Type 0 where
    edge : Edge m f (vertex_at n) (vertex_at o)
    here : T (S (vertex_at n))
    there : T (S (vertex_at o))
    layers : T (layer_step m f (vertex_at n) (n / N) (o / N))

  parts : (n o : ℕ) → obligation_edge m f G n o ≡ true → Parts n o
  parts n o e =
      let one = and_T (product_edge m f (n % N) (o % N) && (G (n % N) && G (o % N))) (layer_step m f (vertex_at n) (n / N) (o / N)) (subst T (sym e) tt) in
      let two = and_T (product_edge m f (n % N) (o % N)) (G (n % N) && G (o % N)) one.0 in
      let three = and_T (G (n % N)) (G (o % N)) two.1 in
      record {
        edge = edge_in m f (n % N) (o % N) two.0;
        here = number_in f G (n % N) three.0;
        there = number_in f G (o % N) three.1;
        layers = one.1;
      }

  -- a walk inside the set over the numbers of l
  abbrev Inner : ℕ → List ℕ → ℕ → Type 0
  Inner n l z = (us : List Vertex) × ProductWalk m f S (vertex_at n) us (vertex_at z) × (seen m f l ≡ us ++ (vertex_at z ∷ []))

  -- in layer 0
  trail_walk : {n z : ℕ} {l : List ℕ} → Trail (obligation_edge m f G) n l z → n / N ≡ 0 → T (G (z % N)) → Inner n l z
  trail_walk (last {x = x}) zero-layer g = ([], stop (number_in f G (x % N) g), refl)
  trail_walk (then {x = n} {y = o} {z = z} {l = l} e rest) zero-layer g =
      let p : Parts n o = parts n o e in
      let down : o / N ≡ 0 = eqb→eq (o / N) 0 (subst (λ a. T (layer_step m f (vertex_at n) a (o / N))) zero-layer p.layers) in
      let r = trail_walk rest down g in
      (vertex_at n ∷ r.0, leave p.here p.edge r.1, ap {B = List Vertex} (λ vs. vertex_at n ∷ vs) r.2)

  module _ (k c : ℕ) (is : List ℕ) (e : node_at f k ≡ apply c is) where
    -- a walk inside the set over the numbers of l that discharges the state q
    abbrev Discharging : ℕ → ℕ → List ℕ → ℕ → Type 0
    Discharging n q l z = (us : List Vertex) × Discharges m f S k c is (vertex_at n) q us (vertex_at z) × (seen m f l ≡ us ++ (vertex_at z ∷ []))

    -- from the layer of the state q
    trail_discharges : {n z : ℕ} {l : List ℕ} → Trail (obligation_edge m f G) n l z → (q : ℕ) → q < (connective_at f.connectives c).states → n / N ≡ suc (start_of f k + q) →
        z / N ≡ 0 → T (G (z % N)) → Discharging n q l z
    trail_discharges (last {x = x}) q fits layer down g = absurd (omega arith)
    trail_discharges (then {x = n} {y = o} {z = z} {l = l} t rest) q fits layer down g =
        go (step_from m f k c is e (vertex_at n) q (o / N) fits (subst (λ a. T (layer_step m f (vertex_at n) a (o / N))) layer (parts n o t).layers))
        (λ bottom. trail_walk rest bottom g) (λ r fits layer. trail_discharges rest r fits layer down g)
      where
        p : Parts n o
        p = parts n o t

        claim_to : (r : ℕ) → T (claim_of (connective_at f.connectives c) (λ a. sat f (m.label (vertex_at o).state) (vertex_at o).mask (get_or is a 0)) (vertex_at o).mask (start_of f k) r) →
            T (claimed_at m f (vertex_at o) k r)
        claim_to r s = subst T (sym (claim_is f k c is (apply_in f k c is e) e (m.label (vertex_at o).state) (vertex_at o).mask r)) s

        go : Onward m f k c is (vertex_at n) q (o / N) → (o / N ≡ 0 → Inner o l z) →
            ((r : ℕ) → r < (connective_at f.connectives c).states → o / N ≡ suc (start_of f k + r) → Discharging o r l z) → Discharging n q (n ∷ l) z
        go (ends r a r-fits a-fits final may holds bottom) walk ih =
            let w = walk bottom in (
              vertex_at n ∷ w.0,
              goes p.here p.edge (record {
                letter = a;
                to = r;
                letter_fits = a-fits;
                to_fits = r-fits;
                may = may;
                operand = holds;
                claimed = claim_to r (claim_final (connective_at f.connectives c) (λ a. sat f (m.label (vertex_at o).state) (vertex_at o).mask (get_or is a 0)) (vertex_at o).mask (start_of f k) r final);
              }) (discharged final w.1),
              ap {B = List Vertex} (λ vs. vertex_at n ∷ vs) w.2,
            )
        go (moves r a r-fits a-fits may holds marked n-final up) walk ih =
            let w = ih r r-fits up in (
              vertex_at n ∷ w.0,
              goes p.here p.edge (record {
                letter = a;
                to = r;
                letter_fits = a-fits;
                to_fits = r-fits;
                may = may;
                operand = holds;
                claimed = claim_to r (subst T (apply_back f k c is (apply_in f k c is e) e (vertex_at n).mask (m.label (vertex_at o).state) (vertex_at o).mask
                    (mask_edge m f (vertex_at n) (vertex_at o) p.edge) r r-fits) marked);
              }) w.1,
              ap {B = List Vertex} (λ vs. vertex_at n ∷ vs) w.2,
            )

  -- an edge of the obligation graph
  obligation_edge_of : (u v : Vertex) → Edge m f u v → T (S u) → T (S v) → (a b : ℕ) → T (layer_step m f u a b) →
      obligation_edge m f G (layered m f (number_of f u) a) (layered m f (number_of f v) b) ≡ true
  obligation_edge_of u v edge su sv a b t =
      (λ i. obligation_edge_at m f G (layer_mod m f (number_of f u) a low i) (layer_mod m f (number_of f v) b high i)
      (layer_div m f (number_of f u) a low i) (layer_div m f (number_of f v) b high i))
      ∙ T_true (obligation_edge_at m f G (number_of f u) (number_of f v) a b)
      (T_and (product_edge m f (number_of f u) (number_of f v) && (G (number_of f u) && G (number_of f v))) (layer_step m f (vertex_of f (number_of f u)) a b)
      (T_and (product_edge m f (number_of f u) (number_of f v)) (G (number_of f u) && G (number_of f v)) (edge_number m f u v edge)
      (T_and (G (number_of f u)) (G (number_of f v)) (number_out f G u su) (number_out f G v sv)))
      (subst (λ (x : Vertex). T (layer_step m f x a b)) (sym (vertex_number m f u edge.from)) t))
    where
      low : number_of f u < vertices m f
      low = number_below m f u edge.from

      high : number_of f v < vertices m f
      high = number_below m f v edge.to

  -- a walk inside the set is one in layer 0
  walk_trail : {u w : Vertex} {us : List Vertex} → ProductWalk m f S u us w → (l : List ℕ) × Trail (obligation_edge m f G) (layered m f (number_of f u) 0) l (layered m f (number_of f w) 0)
  walk_trail (stop {v = v} s) = (layered m f (number_of f v) 0 ∷ [], last)
  walk_trail (leave {u = u} {v = v} s edge a) =
      let r = walk_trail a in
      (layered m f (number_of f u) 0 ∷ r.0, then (obligation_edge_of u v edge s (walk_from m f S a) 0 0 tt) r.1)

  -- a walk that discharges is one from the layer of its obligation to layer 0
  discharges_trail : (k c : ℕ) (is : List ℕ) → node_at f k ≡ apply c is → {u w : Vertex} {q : ℕ} {us : List Vertex} → Discharges m f S k c is u q us w →
      q < (connective_at f.connectives c).states → (¬ T (bit (connective_at f.connectives c).finals q)) →
      (l : List ℕ) × Trail (obligation_edge m f G) (layered m f (number_of f u) (suc (start_of f k + q))) l (layered m f (number_of f w) 0)
  discharges_trail k c is e (discharged t a) fits n = absurd (n t)
  discharges_trail k c is e (goes {u = u} {v = v} {q = q} {w = w} s edge x rest) fits n =
      go (T_dec (bit (connective_at f.connectives c).finals x.to)) (λ not_final. discharges_trail k c is e rest x.to_fits not_final)
    where
      sv : T (S v)
      sv = walk_from m f S (discharges_walk m f S k c is rest)

      go : T (bit (connective_at f.connectives c).finals x.to) ⊎ (¬ T (bit (connective_at f.connectives c).finals x.to)) →
          ((¬ T (bit (connective_at f.connectives c).finals x.to)) →
          (l : List ℕ) × Trail (obligation_edge m f G) (layered m f (number_of f v) (suc (start_of f k + x.to))) l (layered m f (number_of f w) 0)) →
          (l : List ℕ) × Trail (obligation_edge m f G) (layered m f (number_of f u) (suc (start_of f k + q))) l (layered m f (number_of f w) 0)
      go (inl t) ih =
          let r = walk_trail (discharges_walk m f S k c is rest) in (
            layered m f (number_of f u) (suc (start_of f k + q)) ∷ r.0,
            then (obligation_edge_of u v edge s sv (suc (start_of f k + q)) 0 (to_final m f k c is e u v q fits x t)) r.1,
          )
      go (inr n) ih =
          let r = ih n in (
            layered m f (number_of f u) (suc (start_of f k + q)) ∷ r.0,
            then (obligation_edge_of u v edge s sv (suc (start_of f k + q)) (suc (start_of f k + x.to)) (to_open m f k c is e u v edge q fits x n)) r.1,
          )

-- a walk of the product by numbers
plain : (m : Kripke) (f : Property) {n z : ℕ} {l : List ℕ} → Trail (product_edge m f) n l z → n < vertices m f →
    (us : List Vertex) × ProductWalk m f everywhere (vertex_of f n) us (vertex_of f z) × (seen m f l ≡ us ++ (vertex_of f z ∷ []))
plain m f (last {x = x}) h = ([], stop tt, ap {B = List Vertex} (λ i. vertex_of f i ∷ []) (mod-eq_of_lt h))
plain m f (then {x = n} {y = o} e rest) h =
    let t : T (product_edge m f n o) = subst T (sym e) tt in
    let one = and_T (ltb n (vertices m f)) _ t in
    let two = and_T (ltb o (vertices m f)) _ one.1 in
    let r = plain m f rest (ltb→lt o (vertices m f) two.0) in
    (vertex_of f n ∷ r.0, leave tt (edge_in m f n o t) r.1, ap₂ {C = List Vertex} (λ i vs. vertex_of f i ∷ vs) (mod-eq_of_lt h) r.2)

-- inside the set, by the numbers of the product
module _ (m : Kripke) (f : Property) (G : ℕ → Bool) where
  -- an edge inside the set is one in layer 0
  lower_edge : (x y : ℕ) → inner_edge m f G x y ≡ true → obligation_edge m f G x y ≡ true
  lower_edge x y e =
      let t : T (product_edge m f x y) = (and_T (product_edge m f x y) (G x && G y) (subst T (sym e) tt)).0 in
      let one = and_T (ltb x (vertices m f)) _ t in
      let two = and_T (ltb y (vertices m f)) _ one.1 in
      let hx : x < vertices m f = ltb→lt x (vertices m f) one.0 in
      let hy : y < vertices m f = ltb→lt y (vertices m f) two.0 in
      (λ i. obligation_edge_at m f G (mod-eq_of_lt hx i) (mod-eq_of_lt hy i) (div-eq_of_lt hx i) (div-eq_of_lt hy i))
      ∙ T_true (obligation_edge_at m f G x y 0 0) (T_and (inner_edge m f G x y) (layer_step m f (vertex_of f x) 0 0) (subst T (sym e) tt) tt)

  -- so is a walk
  lower_trail : {x y : ℕ} {l : List ℕ} → Trail (inner_edge m f G) x l y → Trail (obligation_edge m f G) x l y
  lower_trail last = last
  lower_trail (then {x = x} {y = y} e rest) = then (lower_edge x y e) (lower_trail rest)

  -- a walk inside the set by the numbers of its vertices
  inner_trail : {u w : Vertex} {us : List Vertex} → ProductWalk m f (of_numbers f G) u us w → (l : List ℕ) × Trail (inner_edge m f G) (number_of f u) l (number_of f w)
  inner_trail (stop {v = v} s) = (number_of f v ∷ [], last)
  inner_trail (leave {u = u} {v = v} s edge a) =
      let r = inner_trail a in (
        number_of f u ∷ r.0,
        then (T_true (inner_edge m f G (number_of f u) (number_of f v))
            (T_and (product_edge m f (number_of f u) (number_of f v)) (G (number_of f u) && G (number_of f v)) (edge_number m f u v edge)
            (T_and (G (number_of f u)) (G (number_of f v)) (number_out f G u s) (number_out f G v (walk_from m f (of_numbers f G) a))))) r.1,
      )

pub obligation_graph : ObligationGraph
obligation_graph = record {
  walk = λ m f x y hx hy l r.
      let w = plain m f (to_trail (product_edge m f) l x y r) hx in
      subst (λ (us : List Vertex). ProductWalk m f everywhere (vertex_of f x) us (vertex_of f y)) (front (λ n. vertex_of f (n % vertices m f)) l w.0 (vertex_of f y) w.2) w.1;
  inner = λ m f G x y hx hy g l r.
      let w = trail_walk m f G (to_trail (obligation_edge m f G) l x y r) (div-eq_of_lt hx) (subst (λ i. T (G i)) (sym (mod-eq_of_lt hy)) g) in
      subst₂ (λ (a b : ℕ). ProductWalk m f (of_numbers f G) (vertex_of f a) (left_on m f l) (vertex_of f b)) (mod-eq_of_lt hx) (mod-eq_of_lt hy)
      (subst (λ (us : List Vertex). ProductWalk m f (of_numbers f G) (vertex_of f (x % vertices m f)) us (vertex_of f (y % vertices m f)))
      (front (λ n. vertex_of f (n % vertices m f)) l w.0 (vertex_of f (y % vertices m f)) w.2) w.1);
  discharges = λ m f G k c is e q fits x y hx hy g l r.
      let n : ℕ = layered m f x (suc (start_of f k + q)) in
      let w = trail_discharges m f G k c is e (to_trail (obligation_edge m f G) l n y r) q fits
      (layer_div m f x (suc (start_of f k + q)) hx) (div-eq_of_lt hy) (subst (λ i. T (G i)) (sym (mod-eq_of_lt hy)) g) in
      subst₂ (λ (a b : ℕ). Discharges m f (of_numbers f G) k c is (vertex_of f a) q (left_on m f l) (vertex_of f b)) (layer_mod m f x (suc (start_of f k + q)) hx) (mod-eq_of_lt hy)
      (subst (λ (us : List Vertex). Discharges m f (of_numbers f G) k c is (vertex_of f (n % vertices m f)) q us (vertex_of f (y % vertices m f)))
      (front (λ n. vertex_of f (n % vertices m f)) l w.0 (vertex_of f (y % vertices m f)) w.2) w.1);
  lower = λ m f G x y l r. from_trail (obligation_edge m f G) (lower_trail m f G (to_trail (inner_edge m f G) l x y r));
  joins = λ m f G x y us a.
      let r = inner_trail m f G a in
      (r.0, subst₂ (λ (a b : ℕ). Walk (inner_edge m f G) a b r.0) (number_vertex f x) (number_vertex f y) (from_trail (inner_edge m f G) r.1));
  reaches = λ m f G k c is e q fits n x y hx hy us a.
      let r = discharges_trail m f G k c is e a fits n in (
        r.0,
        subst₂ (λ (a b : ℕ). Walk (obligation_edge m f G) (layered m f a (suc (start_of f k + q))) b r.0) (number_vertex f x)
            ((let z : number_of f (vertex_of f y) + 0 * vertices m f ≡ number_of f (vertex_of f y) = omega (arith, zero-mul (vertices m f)) in z) ∙ number_vertex f y)
            (from_trail (obligation_edge m f G) r.1),
      );
}
