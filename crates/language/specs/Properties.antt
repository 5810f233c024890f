-- What a property is: connectives, and nodes over them. The last node is the root.
use Rattle.std.specs.Prelude.{◌≡◌, ℕ, suc, ◌+◌, ◌^◌, ◌<◌, ◌≤◌, Bool, true, false, ◌&&◌, List, [], ◌∷◌, length, ◌==◌, nat_le, nat_lt, slice_index_or}
use Rattle.std.specs.List.{list_all}
use Rattle.frames.specs.Frames.{Node}
use Rattle.frames.specs.Frames.Node.{proposition, negation, next, both, either, apply, truth}

-- An automaton with finite acceptance, whose words are over letters that stand for operands.
pub record Connective : Type 0 where
  pub states : ℕ
  pub letters : ℕ
  pub start : ℕ
  -- the final states, as a mask: bit q for state q
  pub finals : ℕ
  -- may p a r: state p on letter a may go to state r
  pub may : ℕ → ℕ → ℕ → Bool

pub record Property : Type 0 where
  pub connectives : List Connective
  pub nodes : List Node

-- a connective without transitions
abbrev pub idle : ℕ → ℕ → ℕ → ℕ → Connective
idle m n q f = record { states = m; letters = n; start = q; finals = f; may = λ p a r. false }

-- connective number c; one that does not exist has no states
abbrev pub connective_at : List Connective → ℕ → Connective
connective_at cs c = slice_index_or cs c (idle 0 0 0 0)

-- 1 to 8 states, 1 to 4 letters, the start and the final states among the states
abbrev pub connective_fits : Connective → Bool
connective_fits c =
    nat_le 1 c.states && (nat_le c.states 8 && (nat_le 1 c.letters && (nat_le c.letters 4 && (nat_lt c.start c.states && nat_lt c.finals (2 ^ c.states)))))

abbrev pub all_fit : List Connective → Bool
all_fit [] = true
all_fit (c ∷ cs) = connective_fits c && all_fit cs

abbrev pub all_below : ℕ → List ℕ → Bool
all_below n is = list_all (λ i. nat_lt i n) is

-- a node may stand as number k: its operands are lower, and a connective has one for each letter
abbrev pub node_fits : List Connective → ℕ → Node → Bool
node_fits cs k (proposition p) = nat_lt p 16
node_fits cs k (negation i) = nat_lt i k
node_fits cs k (next i) = nat_lt i k
node_fits cs k (both i j) = nat_lt i k && nat_lt j k
node_fits cs k (either i j) = nat_lt i k && nat_lt j k
node_fits cs k (apply c is) = nat_lt c (length cs) && (length is == (connective_at cs c).letters && all_below k is)
node_fits cs k truth = true

-- the same of all nodes, the first of which is number k
abbrev pub nodes_fit : List Connective → ℕ → List Node → Bool
nodes_fit cs k [] = true
nodes_fit cs k (n ∷ ns) = node_fits cs k n && nodes_fit cs (suc k) ns

-- how much a node adds to the width: 1 for a next node, the states of its connective for a connective node
abbrev pub node_width : List Connective → Node → ℕ
node_width cs (proposition p) = 0
node_width cs (negation i) = 0
node_width cs (next i) = 1
node_width cs (both i j) = 0
node_width cs (either i j) = 0
node_width cs (apply c is) = (connective_at cs c).states
node_width cs truth = 0

abbrev pub width : List Connective → List Node → ℕ
width cs [] = 0
width cs (n ∷ ns) = node_width cs n + width cs ns

-- A property within the limits, whose every number is in its range.
pub record WellFormed (p : Property) : Type 0 where
  pub few_connectives : length p.connectives ≤ 4
  pub connectives_fit : all_fit p.connectives ≡ true
  pub moves_fit : (c q a r : ℕ) → (connective_at p.connectives c).may q a r ≡ true → (q < (connective_at p.connectives c).states) × (a < (connective_at p.connectives c).letters) × (r < (connective_at p.connectives c).states)
  pub rooted : 0 < length p.nodes
  pub few_nodes : length p.nodes ≤ 32
  pub operands_lower : nodes_fit p.connectives 0 p.nodes ≡ true
  pub narrow : width p.connectives p.nodes ≤ 12
