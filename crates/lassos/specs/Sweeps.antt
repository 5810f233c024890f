-- The states of a connective from which it is fulfilled at the positions of a lasso, as bits of a word for each position.
use Rattle.std.specs.Prelude.{◌≡◌, ℕ, zero, suc, ◌+◌, ◌-◌, ◌*◌, ◌^◌, ◌<◌, ◌≤◌, Bool, true, false, cond, not, ◌&&◌, T, ◌↔◌, List, [], ◌∷◌, length, ◌==◌, bit_and, bit_or, slice_index}
use Rattle.masks.specs.Masks.{bit}
use Rattle.logic.specs.Product.{some_below}
use Rattle.logic.specs.Truth.{Fulfilled}
use Rattle.properties.specs.Views.{connective_of}
use Rattle.properties.specs.declared.rows.Connective.{Connective as ConnectiveRow}
use Rattle.lassos.specs.Rounds.{after}
use Rattle.lassos.specs.Truths.{round}

-- two masks have a bit in common
abbrev pub meet : ℕ → ℕ → Bool
meet x y = not (bit_and x y == 0)

-- letter a, whose operand's bit is in `here`, leads from q to a state in `there`
abbrev pub letter_leads : ConnectiveRow → List ℕ → (here there q a : ℕ) → Bool
letter_leads row operands here there q a = bit here (slice_index operands a) && meet (slice_index row.moves (4 * q + a)) there

-- some letter leads from q to a state in `there`
abbrev pub leads : ConnectiveRow → List ℕ → (here there q : ℕ) → Bool
leads row operands here there q = some_below row.letters (letter_leads row operands here there q)

-- the set `was`, with each state below n that leads on
abbrev pub joined : ConnectiveRow → List ℕ → (here there was n : ℕ) → ℕ
joined row operands here there was zero = was
joined row operands here there was (suc q) =
    cond (leads row operands here there q) (bit_or (joined row operands here there was q) (2 ^ q)) (joined row operands here there was q)

-- the set at position i, with each state that leads on to the set at its follower
abbrev pub joined_at : ConnectiveRow → List ℕ → (bits : List ℕ) (a : ℕ) (sets : List ℕ) (i : ℕ) → ℕ
joined_at row operands bits a sets i = joined row operands (slice_index bits i) (slice_index sets (after (length bits) a i)) (slice_index sets i) row.states

-- the connective is fulfilled from q at position i, where an operand is true at a position whose word has its bit
abbrev pub Runs : ConnectiveRow → List ℕ → (bits : List ℕ) (a q i : ℕ) → Type 0
Runs row operands bits a q i =
    Fulfilled (connective_of row) (λ letter j. T (bit (slice_index bits j) (slice_index operands letter))) (round (λ _. 0) (length bits) a) q i

-- each set has the final states, and only states from which the connective is fulfilled there
pub record Partial (row : ConnectiveRow) (operands bits : List ℕ) (a : ℕ) (sets : List ℕ) : Type 0 where
  pub small : (i : ℕ) → i < length bits → slice_index sets i < 256
  pub finals : (i q : ℕ) → i < length bits → T (bit row.finals q) → T (bit (slice_index sets i) q)
  pub runs : (i q : ℕ) → i < length bits → T (bit (slice_index sets i) q) → Runs row operands bits a q i

-- how far the sets are from all that they can hold
abbrev pub room : List ℕ → ℕ
room [] = 0
room (w ∷ ws) = (256 - w) + room ws

-- no state joins at position i or later
abbrev pub StillFrom : ConnectiveRow → List ℕ → (bits : List ℕ) (a : ℕ) (sets : List ℕ) (i : ℕ) → Type 0
StillFrom row operands bits a sets i = (j : ℕ) → i ≤ j → j < length bits → joined_at row operands bits a sets j ≡ slice_index sets j

-- `sets`, which were `was`, after positions down to i were swept: something joined, or nothing was to join there
pub record Swept (row : ConnectiveRow) (operands bits : List ℕ) (a : ℕ) (was sets : List ℕ) (i : ℕ) (more : Bool) : Type 0 where
  pub partial : Partial row operands bits a sets
  pub grown : more ≡ true → room sets < room was
  pub kept : more ≡ false → sets ≡ was
  pub still : more ≡ false → StillFrom row operands bits a sets i

-- bit q of each word says whether the connective is fulfilled from q there
abbrev pub Filled : ConnectiveRow → List ℕ → (bits : List ℕ) (a : ℕ) (sets : List ℕ) → Type 0
Filled row operands bits a sets = (i q : ℕ) → i < length bits → T (bit (slice_index sets i) q) ↔ Runs row operands bits a q i
