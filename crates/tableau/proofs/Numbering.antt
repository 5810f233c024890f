-- The product's vertices by their numbers.
use mathlib.Core.Path.{◌≡◌, sym, ap, ap₂, subst, subst₂, ◌∙◌}
use mathlib.Core.Bool.{Bool, ◌&&◌}
use Prim.Native.Nat.{ℕ, suc, ◌+◌, ◌*◌, ◌/◌, ◌%◌, ◌^◌, ◌<◌, ◌≤◌}
use native.Mathlib.Nat.{mod-lt, mod-eq_of_lt, div-eq_of_lt, div-lt_iff_lt-mul, add-mul-div_right, add-mul-mod_self_right, mul-le-mul_right, suc-mul, zero-add}
use native.Mathlib.Omega.{arith}
use lib.Dec.{T, eqb, eqb→eq, eqb_refl, ltb, ltb→lt, lt→ltb}
use lib.Pow.{pow_pos, split, high, low}
use Rattle.kripke.specs.Models.{Kripke}
use Rattle.kripke.specs.Lassos.{step}
use Rattle.language.specs.Properties.{Property}
use Rattle.logic.specs.Product.{mask_width, back_mask}
use Rattle.logic.proofs.Bools.{T_and, and_T}
use Rattle.tableau.specs.Walks.{Vertex, IsVertex, Edge}
use Rattle.tableau.specs.Numbers.{number_of, vertex_of, vertices, edge_test, product_edge, of_numbers, layered, Numbered}

-- a vertex
abbrev make : ℕ → ℕ → Vertex
make s K = record { state = s; mask = K }

-- from a vertex to its number and back
pub vertex_number : (m : Kripke) (f : Property) (v : Vertex) → IsVertex m f v → vertex_of f (number_of f v) ≡ v
vertex_number m f v is = ap₂ make (high v.state (mask_width f) is.mask) (low v.state (mask_width f) is.mask)

-- from a number to its vertex and back
pub number_vertex : (f : Property) (n : ℕ) → number_of f (vertex_of f n) ≡ n
number_vertex f n = split n (mask_width f)

pub number_below : (m : Kripke) (f : Property) (v : Vertex) → IsVertex m f v → number_of f v < vertices m f
number_below m f v is =
    let mul : suc v.state * 2 ^ mask_width f ≤ m.states * 2 ^ mask_width f = mul-le-mul_right (2 ^ mask_width f) is.state in
    let step : suc v.state * 2 ^ mask_width f ≡ v.state * 2 ^ mask_width f + 2 ^ mask_width f = suc-mul v.state (2 ^ mask_width f) in
    let mask : v.mask < 2 ^ mask_width f = is.mask in
    omega arith

pub vertex_is : (m : Kripke) (f : Property) (n : ℕ) → n < vertices m f → IsVertex m f (vertex_of f n)
vertex_is m f n h = record { state = (div-lt_iff_lt-mul (pow_pos (mask_width f))).1 h; mask = mod-lt n (pow_pos (mask_width f)) }

vertex_below : (m : Kripke) (f : Property) (n : ℕ) → IsVertex m f (vertex_of f n) → n < vertices m f
vertex_below m f n is = (div-lt_iff_lt-mul (pow_pos (mask_width f))).0 is.state

-- the test of an edge
test_edge : (m : Kripke) (f : Property) (u v : Vertex) → IsVertex m f u → IsVertex m f v → T (edge_test m f u v) → Edge m f u v
test_edge m f u v iu iv t =
    let both = and_T (step m u.state v.state) (eqb u.mask (back_mask f (m.label v.state) v.mask)) t in
    record { from = iu; to = iv; moves = both.0; masks = eqb→eq u.mask (back_mask f (m.label v.state) v.mask) both.1 }

edge_tested : (m : Kripke) (f : Property) (u v : Vertex) → Edge m f u v → T (edge_test m f u v)
edge_tested m f u v e =
    T_and (step m u.state v.state) (eqb u.mask (back_mask f (m.label v.state) v.mask)) e.moves
    (subst (λ K. T (eqb u.mask K)) e.masks (eqb_refl u.mask))

-- an edge by numbers
pub edge_in : (m : Kripke) (f : Property) (x y : ℕ) → T (product_edge m f x y) → Edge m f (vertex_of f x) (vertex_of f y)
edge_in m f x y t =
    let one = and_T (ltb x (vertices m f)) (ltb y (vertices m f) && edge_test m f (vertex_of f x) (vertex_of f y)) t in
    let two = and_T (ltb y (vertices m f)) (edge_test m f (vertex_of f x) (vertex_of f y)) one.1 in
    test_edge m f (vertex_of f x) (vertex_of f y) (vertex_is m f x (ltb→lt x (vertices m f) one.0)) (vertex_is m f y (ltb→lt y (vertices m f) two.0)) two.1

pub edge_out : (m : Kripke) (f : Property) (x y : ℕ) → Edge m f (vertex_of f x) (vertex_of f y) → T (product_edge m f x y)
edge_out m f x y e =
    T_and (ltb x (vertices m f)) (ltb y (vertices m f) && edge_test m f (vertex_of f x) (vertex_of f y)) (lt→ltb x (vertices m f) (vertex_below m f x e.from))
    (T_and (ltb y (vertices m f)) (edge_test m f (vertex_of f x) (vertex_of f y)) (lt→ltb y (vertices m f) (vertex_below m f y e.to))
    (edge_tested m f (vertex_of f x) (vertex_of f y) e))

pub edge_number : (m : Kripke) (f : Property) (u v : Vertex) → Edge m f u v → T (product_edge m f (number_of f u) (number_of f v))
edge_number m f u v e =
    edge_out m f (number_of f u) (number_of f v)
    (subst₂ (λ (x y : Vertex). Edge m f x y) (sym (vertex_number m f u e.from)) (sym (vertex_number m f v e.to)) e)

-- a number of a set is a vertex of the set
pub number_in : (f : Property) (G : ℕ → Bool) (n : ℕ) → T (G n) → T (of_numbers f G (vertex_of f n))
number_in f G n t =
    T_and (ltb (n % 2 ^ mask_width f) (2 ^ mask_width f)) (G (number_of f (vertex_of f n))) (lt→ltb (n % 2 ^ mask_width f) (2 ^ mask_width f) (mod-lt n (pow_pos (mask_width f))))
    (subst (λ x. T (G x)) (sym (number_vertex f n)) t)

pub number_out : (f : Property) (G : ℕ → Bool) (v : Vertex) → T (of_numbers f G v) → T (G (number_of f v))
number_out f G v t = (and_T (ltb v.mask (2 ^ mask_width f)) (G (number_of f v)) t).1

-- the vertex of a number of the obligation graph
pub layer_mod : (m : Kripke) (f : Property) (x l : ℕ) → x < vertices m f → layered m f x l % vertices m f ≡ x
layer_mod m f x l h = add-mul-mod_self_right x l (vertices m f) ∙ mod-eq_of_lt h

-- and its layer
pub layer_div : (m : Kripke) (f : Property) (x l : ℕ) → x < vertices m f → layered m f x l / vertices m f ≡ l
layer_div m f x l h =
    let some : 0 < vertices m f = omega arith in
    add-mul-div_right x l some ∙ ap (λ k. k + l) (div-eq_of_lt h) ∙ zero-add l

pub numbered : Numbered
numbered = record {
  vertex = vertex_number;
  number = number_vertex;
  below = number_below;
  is_vertex = vertex_is;
  edge = λ m f x y. (edge_in m f x y, edge_out m f x y);
  inside = λ f G n. (λ t. subst (λ x. T (G x)) (number_vertex f n) (number_out f G (vertex_of f n) t), number_in f G n);
}
