-- What the tests of a well-formed property say of its nodes and connectives.
use Rattle.std.proofs.Common.{◌≡◌, ℕ, zero, suc, ◌+◌, ◌<◌, true, ◌&&◌, eqb, ltb, List, [], ◌∷◌, length, get_or, sym, ap, ◌∙◌, subst, le_of_suc-le-suc, not-suc-le-zero, add-zero, zero-add, arith}
use Rattle.std.proofs.lemmas.Bool.{and_parts, eqb-true, ltb-true}
use Rattle.frames.specs.Frames.{Node}
use Rattle.frames.specs.Frames.Node.{proposition, negation, next, both, either, apply, truth}
use Rattle.language.specs.Properties.{Connective, Property, WellFormed, all_below, connective_at, node_fits, nodes_fit}
use Rattle.language.proofs.Moves.{small}
use Rattle.language.proofs.Nodes.{connective_fit}
use Rattle.logic.specs.Truth.{node_at, root}

-- the operands of node k are lower, and a connective has one for each letter
abbrev pub NodeFits : Property → ℕ → Node → Type 0
NodeFits f k (proposition p) = Unit {0}
NodeFits f k (negation i) = i < k
NodeFits f k (next i) = i < k
NodeFits f k (both i j) = (i < k) × (j < k)
NodeFits f k (either i j) = (i < k) × (j < k)
NodeFits f k (apply c is) =
    (c < length f.connectives) × (length is ≡ (connective_at f.connectives c).letters) × ((a : ℕ) → a < length is → get_or is a 0 < k)
NodeFits f k truth = Unit {0}

below_at : (n : ℕ) (is : List ℕ) → all_below n is ≡ true → (a : ℕ) → a < length is → get_or is a 0 < n
below_at n [] h a lt = absurd (not-suc-le-zero lt)
below_at n (x ∷ is) h zero lt = ltb-true x n (and_parts (ltb x n) (all_below n is) h).0
below_at n (x ∷ is) h (suc a) lt = below_at n is (and_parts (ltb x n) (all_below n is) h).1 a (le_of_suc-le-suc lt)

node_fit : (f : Property) (k : ℕ) (x : Node) → node_fits f.connectives k x ≡ true → NodeFits f k x
node_fit f k (proposition p) h = tt
node_fit f k (negation i) h = ltb-true i k h
node_fit f k (next i) h = ltb-true i k h
node_fit f k (both i j) h = let p = and_parts (ltb i k) (ltb j k) h in (ltb-true i k p.0, ltb-true j k p.1)
node_fit f k (either i j) h = let p = and_parts (ltb i k) (ltb j k) h in (ltb-true i k p.0, ltb-true j k p.1)
node_fit f k (apply c is) h =
    let n : ℕ = (connective_at f.connectives c).letters in
    let p = and_parts (ltb c (length f.connectives)) (eqb (length is) n && all_below k is) h in
    let q = and_parts (eqb (length is) n) (all_below k is) p.1 in
    (ltb-true c (length f.connectives) p.0, eqb-true (length is) n q.0, below_at k is q.1)
node_fit f k truth h = tt

-- the test of all nodes, the first of which is number n, at one of them
pub nodes_at : (cs : List Connective) (n : ℕ) (ns : List Node) → nodes_fit cs n ns ≡ true → (k : ℕ) → k < length ns → node_fits cs (n + k) (get_or ns k truth) ≡ true
nodes_at cs n [] h k lt = absurd (not-suc-le-zero lt)
nodes_at cs n (x ∷ ns) h zero lt = ap (λ m. node_fits cs m x) (add-zero n) ∙ (and_parts (node_fits cs n x) (nodes_fit cs (suc n) ns) h).0
nodes_at cs n (x ∷ ns) h (suc k) lt =
    let sum : n + suc k ≡ suc n + k = omega arith in
    ap (λ m. node_fits cs m (get_or ns k truth)) sum
    ∙ nodes_at cs (suc n) ns (and_parts (node_fits cs n x) (nodes_fit cs (suc n) ns) h).1 k (le_of_suc-le-suc lt)

-- the operands of a node of a well-formed property
pub fits_at : (f : Property) → WellFormed f → (k : ℕ) → k < length f.nodes → NodeFits f k (node_at f k)
fits_at f wf k lt =
    node_fit f k (node_at f k)
    (ap (λ m. node_fits f.connectives m (node_at f k)) (sym (zero-add k)) ∙ nodes_at f.connectives 0 f.nodes wf.operands_lower k lt)

-- the operand of a letter is lower than the node
pub operand_below : (f : Property) (k c : ℕ) (is : List ℕ) → NodeFits f k (apply c is) → (a : ℕ) → a < (connective_at f.connectives c).letters → get_or is a 0 < k
operand_below f k c is fits a lt = fits.2 a (subst (λ n. a < n) (sym fits.1) lt)

-- a connective of a well-formed property starts at one of its states
pub start_fits : (f : Property) → WellFormed f → (c : ℕ) → c < length f.connectives →
    (connective_at f.connectives c).start < (connective_at f.connectives c).states
start_fits f wf c lt = (small (connective_at f.connectives c) (connective_fit f.connectives wf.connectives_fit c lt)).starts

-- the root is a node
pub root_in : (f : Property) → WellFormed f → root f < length f.nodes
root_in f wf = let some : 0 < length f.nodes = wf.rooted in omega arith
