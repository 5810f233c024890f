-- The canonical text of a property: each connective with its transitions, rising, then the nodes, then the end.
use Rattle.std.specs.Prelude.{ℕ, zero, suc, cond, List, [], ◌∷◌, ◌++◌, map}
use Rattle.std.specs.List.{flat_map}
use Rattle.frames.specs.Digits.{hexadecimal}
use Rattle.frames.specs.Frames.{Node}
use Rattle.frames.specs.Frames.Node.{proposition, negation, next, both, either, apply, truth}
use Rattle.language.specs.Properties.{Connective, Property}

-- the digits of bytes, two each
abbrev pub spelled : List ℕ → List ℕ
spelled [] = []
spelled (b ∷ bytes) = hexadecimal 2 b ++ spelled bytes

-- lines of bytes as text: each is spelled, and closed by 0A
abbrev pub text_of : List (List ℕ) → List ℕ
text_of [] = []
text_of (bytes ∷ lines) = spelled bytes ++ 10 ∷ text_of lines

-- f 0, f 1, and so on up to f (n - 1), joined
abbrev pub each : {A : Type 0} → ℕ → (ℕ → List A) → List A
each zero f = []
each (suc n) f = each n f ++ f n

-- the line of a transition, if the connective has it
abbrev pub transition_line : Connective → ℕ → ℕ → ℕ → List (List ℕ)
transition_line c p a r = cond (c.may p a r) ((0x11 ∷ p ∷ a ∷ r ∷ []) ∷ []) []

-- the lines of all transitions of a connective, rising by state, letter and state
abbrev pub transition_lines : Connective → List (List ℕ)
transition_lines c = each c.states (λ p. each c.letters (λ a. each c.states (λ r. transition_line c p a r)))

abbrev pub connective_lines : Connective → List (List ℕ)
connective_lines c = (0x10 ∷ c.states ∷ c.letters ∷ c.start ∷ c.finals ∷ []) ∷ transition_lines c

abbrev pub node_line : Node → List ℕ
node_line (proposition p) = 0x20 ∷ p ∷ []
node_line (negation i) = 0x21 ∷ i ∷ []
node_line (next i) = 0x22 ∷ i ∷ []
node_line (both i j) = 0x23 ∷ i ∷ j ∷ []
node_line (either i j) = 0x24 ∷ i ∷ j ∷ []
node_line (apply c is) = 0x25 ∷ c ∷ is
node_line truth = 0x26 ∷ []

abbrev pub property_lines : Property → List (List ℕ)
property_lines p = flat_map connective_lines p.connectives ++ (map node_line p.nodes ++ (0x2f ∷ []) ∷ [])

abbrev pub canonical : Property → List ℕ
canonical p = text_of (property_lines p)
