-- What a table means: its three numbers, read together with the words of a store.
use Rattle.std.specs.Prelude.{ℕ, ◌+◌, ◌*◌, ◌/◌, ◌%◌, Bool, false, cond, ◌&&◌, ◌||◌, List, [], ◌∷◌, take, drop, filter, map, ◌==◌, nat_lt, slice_index}
use Rattle.kripke.specs.Models.{Kripke}
use Rattle.masks.specs.Masks.{bit}

-- How many states, fair sets and pairs a table has.
pub record Shape : Type 0 where
  pub states : ℕ
  pub sets : ℕ
  pub pairs : ℕ

-- how many words of a store are in use: one for each state, and after these one for each pair
abbrev pub words_used : Shape → ℕ
words_used f = f.states + f.pairs

-- the word that says a state's label and flags; flag 0 is start, and flag j + 1 is fair set j
abbrev pub state_word : (label flags : ℕ) → ℕ
state_word label flags = label + 65536 * flags

-- the word that says a pair: t may come after s
abbrev pub pair_word : (s t : ℕ) → ℕ
pair_word s t = s + 65536 * t

-- the word of a state, and 0 where there is no such state or the store lacks the word
abbrev pub word_of : Shape → List ℕ → ℕ → ℕ
word_of f store s = cond (nat_lt s f.states) (slice_index store s) 0

-- the words of the pairs, as far as the store has them
abbrev pub pair_words : Shape → List ℕ → List ℕ
pair_words f store = take f.pairs (drop f.states store)

-- one of the words is w
abbrev pub among : ℕ → List ℕ → Bool
among w [] = false
among w (word ∷ words) = word == w || among w words

-- what a table means
abbrev pub table : Shape → List ℕ → Kripke
table f store = record {
  states = f.states;
  sets = f.sets;
  edge = λ s t. nat_lt s f.states && (nat_lt t f.states && among (pair_word s t) (pair_words f store));
  label = λ s. word_of f store s % 65536;
  start = λ s. bit (word_of f store s) 16;
  fair = λ j s. nat_lt j f.sets && bit (word_of f store s) (17 + j);
}

-- the second states of the pairs' words whose first state is s
abbrev pub seconds : (s : ℕ) → List ℕ → List ℕ
seconds s words = map (λ word. word / 65536) (filter (λ word. word % 65536 == s) words)
