-- Lists of rows that grow by one or change in one place, and what is seen of them.
use Rattle.std.proofs.Common.{◌≡◌, ℕ, zero, suc, ◌+◌, ◌<◌, List, [], ◌∷◌, ◌++◌, map, length, take, set, refl, ap, ◌∙◌, arith}
use Rattle.std.proofs.lemmas.List.{map_push, map-set, take_more_set}
use Rattle.frames.specs.Frames.{Node}
use Rattle.language.specs.Properties.{Connective, node_width, width}
use Rattle.properties.specs.declared.rows.Connective.{Connective as ConnectiveRow}
use Rattle.properties.specs.declared.rows.Node.{Node as NodeRow}
use Rattle.properties.specs.Views.{width_of}

-- one row more in use
pub rows_push : {A B : Type 0} (f : A → B) (xs : List A) (i : ℕ) (y : A) → i < length xs → map f (take (i + 1) (set xs i y)) ≡ map f (take i xs) ++ f y ∷ []
rows_push f xs i y lt = ap (map f) (take_more_set xs i y lt) ∙ map_push f (take i xs) y

take_set_below : {A : Type 0} (n : ℕ) (xs : List A) (i : ℕ) (y : A) → i < n → take n (set xs i y) ≡ set (take n xs) i y
take_set_below zero xs i y lt = absurd (omega arith)
take_set_below (suc n) [] i y lt = refl
take_set_below (suc n) (x ∷ xs) zero y lt = refl
take_set_below (suc n) (x ∷ xs) (suc i) y lt = ap (λ r. x ∷ r) (take_set_below n xs i y (omega arith))

-- another row in one place
pub rows_set : {A B : Type 0} (f : A → B) (n : ℕ) (xs : List A) (i : ℕ) (y : A) → i < n → map f (take n (set xs i y)) ≡ set (map f (take n xs)) i (f y)
rows_set f n xs i y lt = ap (map f) (take_set_below n xs i y lt) ∙ map-set f (take n xs) i y

pub width_push : (cs : List Connective) (ns : List Node) (n : Node) → width cs (ns ++ n ∷ []) ≡ width cs ns + node_width cs n
width_push cs [] n = let e : node_width cs n + 0 ≡ 0 + node_width cs n = omega arith in e
width_push cs (m ∷ ns) n = let e = width_push cs ns n in omega arith

-- without nodes there is no width, whatever the connectives are
pub no_width : (cs ds : List ConnectiveRow) (used held : ℕ) (nodes : List NodeRow) (count w : ℕ) → count ≡ 0 → w ≡ width_of cs used nodes count → w ≡ width_of ds held nodes count
no_width cs ds used held nodes zero w e h = h
no_width cs ds used held nodes (suc count) w e h = absurd (omega arith)
