-- What a line does to a table that is being filled, and to the words of its store.
use Rattle.std.specs.Prelude.{ℕ, ◌+◌, ◌/◌, ◌^◌, Bool, cond, ◌&&◌, List, ◌++◌, length, drop, replicate, Ok, Err, Result, ◌==◌, nat_le, nat_lt, slice_set}
use Rattle.frames.specs.declared.faults.Refusal.{Refusal}
use Rattle.frames.specs.declared.faults.Refusal.TheVariants.{Value, Store}
use Rattle.models.specs.declared.entries.Opening.{Opening}
use Rattle.models.specs.declared.entries.Entry.{Entry}
use Rattle.models.specs.declared.entries.Entry.TheVariants.{State, Edge}
use Rattle.models.specs.declared.shapes.Filling.{Filling}
use Rattle.models.specs.declared.shapes.Sealed.{Sealed}
use Rattle.models.specs.declared.shapes.Sizes.{Sizes}
use Rattle.models.specs.Entries.{entry, line_says, opening}
use Rattle.models.specs.Tables.{Shape, pair_word, state_word, words_used}

-- A table's numbers and the words of its store.
pub record Filled : Type 0 where
  pub shape : Shape
  pub words : List ℕ

-- a line that is taken where its values are in range and the store has the words; the values are judged first
abbrev pub judged : (values room : Bool) → Filled → Result Filled Refusal
judged values room after = cond values (cond room (Ok after) (Err (Store 1))) (Err (Value 1))

-- a table may have 1 to 4096 states and at most 4 fair sets
abbrev pub in_range : (states sets : ℕ) → Bool
in_range states sets = nat_le 1 states && (nat_le states 4096 && nat_le sets 4)

-- a table begins: it has no pair yet, and the words of its states are zero
abbrev pub opened : (states sets : ℕ) → List ℕ → Result Filled Refusal
opened states sets store =
    judged (in_range states sets) (nat_le states (length store))
    (record { shape = record { states = states; sets = sets; pairs = 0 }; words = replicate states 0 ++ drop states store })

-- only the flags of start and of the fair sets are set
abbrev pub allowed : (sets flags : ℕ) → Bool
allowed sets flags = flags / 2 ^ (sets + 1) == 0

-- a state has a label and flags from now on, whatever it had before
abbrev pub marked : Shape → (s label flags : ℕ) → List ℕ → Result Filled Refusal
marked f s label flags store =
    judged (nat_lt s f.states && allowed f.sets flags) (nat_le (words_used f) (length store))
    (record { shape = f; words = slice_set store s (state_word label flags) })

-- one pair more: t may come after s
abbrev pub linked : Shape → (s t : ℕ) → List ℕ → Result Filled Refusal
linked f s t store =
    judged (nat_lt s f.states && nat_lt t f.states) (nat_lt (words_used f) (length store))
    (record { shape = record { states = f.states; sets = f.sets; pairs = f.pairs + 1 }; words = slice_set store (words_used f) (pair_word s t) })

-- what a table's first line does, once it is told
abbrev pub opened_by : List ℕ → Result Opening Refusal → Result Filled Refusal
opened_by store (Ok said) = opened said.states said.sets store
opened_by store (Err why) = Err why

-- what a later line does, once it is told
abbrev pub changed_by : Shape → List ℕ → Result Entry Refusal → Result Filled Refusal
changed_by f store (Ok (State s label flags)) = marked f s label flags store
changed_by f store (Ok (Edge s t)) = linked f s t store
changed_by f store (Err why) = Err why

-- the table and the store after a table's first line, or why that is refused
abbrev pub begun : (line store : List ℕ) → Result Filled Refusal
begun line store = opened_by store (line_says opening line)

-- the table and the store after a later line, or why that is refused
abbrev pub fed : Shape → (line store : List ℕ) → Result Filled Refusal
fed f line store = changed_by f store (line_says entry line)

-- what a call answers that only takes a line or says why it is refused
abbrev pub answer : Result Filled Refusal → Result (Unit {0}) Refusal
answer (Ok after) = Ok tt
answer (Err why) = Err why

-- the numbers of the table that a first line begins, or why it is refused
abbrev pub numbers : Result Filled Refusal → Result Shape Refusal
numbers (Ok after) = Ok after.shape
numbers (Err why) = Err why

-- the table's numbers after the line; a line that is refused leaves them as they were
abbrev pub shape_after : Shape → Result Filled Refusal → Shape
shape_after f (Ok after) = after.shape
shape_after f (Err why) = f

-- the words of the store after the line; a line that is refused leaves them as they were
abbrev pub words_after : List ℕ → Result Filled Refusal → List ℕ
words_after store (Ok after) = after.words
words_after store (Err why) = store

-- the numbers of a table
abbrev pub shape_in : Sizes → Shape
shape_in f = record { states = f.states; sets = f.sets; pairs = f.pairs }

-- the numbers of a table that is being filled
abbrev pub shape_of : Filling → Shape
shape_of f = shape_in f.sizes

-- the numbers of a table that is sealed
abbrev pub sealed_shape : Sealed → Shape
sealed_shape f = shape_in f.sizes

-- the numbers of the table that a call answers with, or why it is refused
abbrev pub shape_told : Result Filling Refusal → Result Shape Refusal
shape_told (Ok f) = Ok (shape_of f)
shape_told (Err why) = Err why
