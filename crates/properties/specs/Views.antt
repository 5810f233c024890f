-- The property that rows stand for, part by part.
use Rattle.std.specs.Prelude.{ℕ, ◌+◌, ◌*◌, Bool, ◌&&◌, List, [], map, take, nat_le, nat_lt, slice_index}
use Rattle.std.proofs.Common.{lit≤}
use Rattle.frames.specs.Frames.{Node}
use Rattle.frames.specs.Frames.Node.{proposition, negation, next, both, either, apply, truth}
use Rattle.masks.specs.Masks.{bit}
use Rattle.language.specs.Properties.{Connective, all_fit, nodes_fit, width}
use Rattle.properties.specs.declared.rows.Connective.{Connective as ConnectiveRow}
use Rattle.properties.specs.declared.rows.Node.{Node as NodeRow}
use Rattle.properties.specs.declared.rows.Node.TheVariants.{True, Proposition, Not, Next, And, Or, Apply}

-- a row that stands for nothing
abbrev pub no_row : ConnectiveRow
no_row = record { states = 0; letters = 0; start = 0; finals = 0; moves = []; few_states = lit≤ tt; few_letters = lit≤ tt }

-- the word 4 p + a of a connective is the mask of the states that p may go to on a
abbrev pub connective_of : ConnectiveRow → Connective
connective_of c = record {
  states = c.states;
  letters = c.letters;
  start = c.start;
  finals = c.finals;
  may = λ p a r. nat_lt p c.states && (nat_lt a c.letters && (nat_lt r c.states && bit (slice_index c.moves (4 * p + a)) r));
}

-- a connective node has as many operands as `arity` says
abbrev pub node_of : NodeRow → Node
node_of True = truth
node_of (Proposition p) = proposition p
node_of (Not i) = negation i
node_of (Next i) = next i
node_of (And i j) = both i j
node_of (Or i j) = either i j
node_of (Apply c arity operands) = apply c (take arity operands)

-- the rows in use
abbrev pub connectives_of : List ConnectiveRow → ℕ → List Connective
connectives_of rows used = map connective_of (take used rows)

abbrev pub nodes_of : List NodeRow → ℕ → List Node
nodes_of rows count = map node_of (take count rows)

abbrev pub width_of : List ConnectiveRow → ℕ → List NodeRow → ℕ → ℕ
width_of connectives used nodes count = width (connectives_of connectives used) (nodes_of nodes count)

-- the connectives' numbers are in range, there is a node, and every operand is lower than its node
abbrev pub fits : List ConnectiveRow → ℕ → List NodeRow → ℕ → Bool
fits connectives used nodes count =
    all_fit (connectives_of connectives used) && (nat_le 1 count && nodes_fit (connectives_of connectives used) 0 (nodes_of nodes count))
