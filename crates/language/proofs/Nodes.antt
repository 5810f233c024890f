-- The lines of nodes add the nodes.
use Rattle.std.proofs.Common.{◌≡◌, ℕ, zero, suc, ◌+◌, ◌<◌, ◌≤◌, true, false, ◌&&◌, eqb, ltb, List, [], ◌∷◌, ◌++◌, map, length, Ok, sym, refl, subst, arith}
use Rattle.std.proofs.lemmas.List.{length-append, append_assoc, append-nil}
use Rattle.std.proofs.lemmas.Bool.{and_parts, and_from, ltb-true, lt-ltb, le-leb, eqb-true}
use Rattle.frames.specs.Frames.{Node, frame_of_bytes}
use Rattle.frames.specs.Frames.Node.{proposition, negation, next, both, either, apply, truth}
use Rattle.frames.specs.Frames.Frame.{node}
use Rattle.language.specs.Properties.{Connective, connective_at, connective_fits, all_fit, all_below, node_fits, nodes_fit, width}
use Rattle.language.specs.Reading.{Draft}
use Rattle.language.specs.Canonical.{node_line}
use Rattle.language.proofs.Goes.{Good, Goes, goes_append, goes_one}
use Rattle.language.proofs.Goes.Goes.{none}
use Rattle.language.proofs.Moves.{small}

-- a draft of connectives and nodes
abbrev pub noded : List Connective → List Node → Draft
noded cs ns = record { connectives = cs; nodes = ns; ended = false }

-- each connective fits
pub connective_fit : (cs : List Connective) → all_fit cs ≡ true → (c : ℕ) → c < length cs → connective_fits (connective_at cs c) ≡ true
connective_fit [] h c l = absurd (omega arith)
connective_fit (x ∷ cs) h zero l = (and_parts (connective_fits x) (all_fit cs) h).0
connective_fit (x ∷ cs) h (suc c) l = connective_fit cs (and_parts (connective_fits x) (all_fit cs) h).1 c (omega arith)

below_more : (k n : ℕ) (is : List ℕ) → k ≤ n → all_below k is ≡ true → all_below n is ≡ true
below_more k n [] l h = refl
below_more k n (i ∷ is) l h =
    let parts = and_parts (ltb i k) (all_below k is) h in
    let b = ltb-true i k parts.0 in
    and_from _ _ (lt-ltb i n (omega arith)) (below_more k n is l parts.1)

-- the operands of a connective node: as many as letters, so one to four
module _ (cs : List Connective) (k : ℕ) (low : k < 32) (few : length cs ≤ 4) (fits : all_fit cs ≡ true) where
  operands : (c : ℕ) (is : List ℕ) → node_fits cs k (apply c is) ≡ true → (c < 4) × (1 ≤ length is) × (length is ≤ 4) × (all_below 256 is ≡ true)
  operands c is h =
      let a = and_parts (ltb c (length cs)) (eqb (length is) (connective_at cs c).letters && all_below k is) h in
      let b = and_parts (eqb (length is) (connective_at cs c).letters) (all_below k is) a.1 in
      let l = ltb-true c (length cs) a.0 in
      let s = small (connective_at cs c) (connective_fit cs fits c l) in
      let e = eqb-true (length is) (connective_at cs c).letters b.0 in
      let u = s.least_letters in
      let v = s.most_letters in
      (omega arith, omega arith, omega arith, below_more k 256 is (omega arith) b.1)

  single_good : (kind i : ℕ) → kind < 256 → i < 256 → Good (kind ∷ i ∷ [])
  single_good kind i x y = record { bytes = and_from _ _ (lt-ltb kind 256 x) (and_from _ _ (lt-ltb i 256 y) refl); some = omega arith; short = omega arith }

  double_good : (kind i j : ℕ) → kind < 256 → (ltb i k && ltb j k) ≡ true → Good (kind ∷ i ∷ j ∷ [])
  double_good kind i j x h =
      let parts = and_parts (ltb i k) (ltb j k) h in
      let a = ltb-true i k parts.0 in
      let b = ltb-true j k parts.1 in
      record { bytes = and_from _ _ (lt-ltb kind 256 x) (and_from _ _ (lt-ltb i 256 (omega arith)) (and_from _ _ (lt-ltb j 256 (omega arith)) refl)); some = omega arith; short = omega arith }

  node_good : (m : Node) → node_fits cs k m ≡ true → Good (node_line m)
  node_good (proposition p) h = let l = ltb-true p 16 h in single_good 0x20 p (omega arith) (omega arith)
  node_good (negation i) h = let l = ltb-true i k h in single_good 0x21 i (omega arith) (omega arith)
  node_good (next i) h = let l = ltb-true i k h in single_good 0x22 i (omega arith) (omega arith)
  node_good (both i j) h = double_good 0x23 i j (omega arith) h
  node_good (either i j) h = double_good 0x24 i j (omega arith) h
  node_good (apply c is) h =
      let o = operands c is h in
      let l = o.0 in
      let m = o.2 in
      record { bytes = and_from _ _ (lt-ltb c 256 (omega arith)) o.3; some = omega arith; short = omega arith }
  node_good truth h = record { bytes = refl; some = omega arith; short = omega arith }

  applied : (n c : ℕ) (is : List ℕ) → 1 ≤ length is → length is ≤ 4 → frame_of_bytes n (0x25 ∷ c ∷ is) ≡ Ok (node (apply c is))
  applied n c [] a b = absurd (omega arith)
  applied n c (g ∷ []) a b = refl
  applied n c (g ∷ h ∷ []) a b = refl
  applied n c (g ∷ h ∷ i ∷ []) a b = refl
  applied n c (g ∷ h ∷ i ∷ j ∷ []) a b = refl
  applied n c (g ∷ h ∷ i ∷ j ∷ l ∷ is) a b = absurd (omega arith)

  node_frame : (m : Node) → node_fits cs k m ≡ true → (n : ℕ) → frame_of_bytes n (node_line m) ≡ Ok (node m)
  node_frame (proposition p) h n = refl
  node_frame (negation i) h n = refl
  node_frame (next i) h n = refl
  node_frame (both i j) h n = refl
  node_frame (either i j) h n = refl
  node_frame (apply c is) h n = let o = operands c is h in applied n c is o.1 o.2
  node_frame truth h n = refl

width_append : (cs : List Connective) (ns ms : List Node) → width cs (ns ++ ms) ≡ width cs ns + width cs ms
width_append cs [] ms = omega arith
width_append cs (n ∷ ns) ms = let e = width_append cs ns ms in omega arith

pub nodes_go : (cs : List Connective) (ns ms : List Node) → length cs ≤ 4 → all_fit cs ≡ true → length ns + length ms ≤ 32 → nodes_fit cs (length ns) ms ≡ true → width cs ns + width cs ms ≤ 12 → Goes (noded cs ns) (map node_line ms) (noded cs (ns ++ ms))
nodes_go cs ns [] few fits short h narrow = subst (λ (l : List Node). Goes (noded cs ns) [] (noded cs l)) (sym (append-nil ns)) none
nodes_go cs ns (m ∷ ms) few fits short h narrow =
    let parts = and_parts (node_fits cs (length ns) m) (nodes_fit cs (suc (length ns)) ms) h in
    let low : length ns < 32 = omega arith in
    let w = width_append cs ns (m ∷ []) in
    let good = node_good cs (length ns) low few fits m parts.0 in
    let limited = and_from _ _ (lt-ltb (length ns) 32 low) (le-leb (width cs (ns ++ m ∷ [])) 12 (omega arith)) in
    let first : Goes (noded cs ns) (node_line m ∷ []) (noded cs (ns ++ m ∷ [])) = goes_one (noded cs ns) (node m) (node_line m) good (node_frame cs (length ns) low few fits m parts.0) refl parts.0 limited in
    let l = length-append ns (m ∷ []) in
    let e : suc (length ns) ≡ length (ns ++ m ∷ []) = omega arith in
    let then = nodes_go cs (ns ++ m ∷ []) ms few fits (omega arith) (subst (λ j. nodes_fit cs j ms ≡ true) e parts.1) (omega arith) in
    subst (λ (l : List Node). Goes (noded cs ns) (node_line m ∷ map node_line ms) (noded cs l)) (append_assoc ns (m ∷ []) ms) (goes_append first then)
