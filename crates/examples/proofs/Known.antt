-- The properties and tables themselves, as their texts and lines spell them.
use Rattle.std.proofs.Common.{◌≡◌, ℕ, List, [], ◌∷◌, Ok, Result}
use Rattle.frames.specs.declared.faults.Refusal.{Refusal}
use Rattle.frames.specs.Frames.Node.{proposition, negation, apply, truth}
use Rattle.kripke.specs.Models.{Kripke}
use Rattle.language.specs.Properties.{Connective, Property, idle}
use Rattle.language.specs.Reading.{moving, read}
use Rattle.models.specs.Fillings.{Filled}
use Rattle.models.specs.Tables.{table}
use Rattle.examples.specs.Texts.{Over}

-- a table of so many states, fair sets and pairs, with the words of its store
abbrev pub with_words : (states sets pairs : ℕ) → List ℕ → Filled
with_words states sets pairs words = record { shape = record { states = states; sets = sets; pairs = pairs }; words = words }

-- what it means
abbrev pub meant : Filled → Kripke
meant f = table f.shape f.words

-- what is so of a table and a property is so of the lines that fill the one and the text that spells the other
pub over : {lines : Result Filled Refusal} {bytes : List ℕ} (P : Kripke → Property → Type 0) (after : Filled) (f : Property) →
    lines ≡ Ok after → read bytes ≡ Ok f → P (meant after) f → Over lines bytes P
over P after f taken reads so = record { after = after; taken = taken; so = record { property = f; reads = reads; so = so } }

-- the table `alternating`, and so on
abbrev pub Alternating : Filled
Alternating = with_words 2 0 2 (65537 ∷ 0 ∷ 65536 ∷ 1 ∷ [])

abbrev pub Alternating_from_both : Filled
Alternating_from_both = with_words 2 0 2 (65537 ∷ 65536 ∷ 65536 ∷ 1 ∷ [])

abbrev pub May_go : Filled
May_go = with_words 2 0 3 (65536 ∷ 1 ∷ 0 ∷ 65536 ∷ 65537 ∷ [])

abbrev pub Must_go : Filled
Must_go = with_words 2 1 3 (65536 ∷ 131073 ∷ 0 ∷ 65536 ∷ 65537 ∷ [])

abbrev pub Stuck : Filled
Stuck = with_words 1 0 0 (65536 ∷ [])

-- from 0 to 1 and back on letter 0, and from 0 to 2, which is final, on letter 1
abbrev pub even_connective : Connective
even_connective = moving 0 1 2 (moving 1 0 0 (moving 0 0 1 (idle 3 2 0 4)))

-- the property `even_times`, and so on
abbrev pub Even_times : Property
Even_times = record { connectives = even_connective ∷ []; nodes = truth ∷ proposition 0 ∷ negation 1 ∷ apply 0 (0 ∷ 2 ∷ []) ∷ negation 3 ∷ [] }

-- from 0 to 1, to 2 and back on letter 0, and from 0 to 3, which is final, on letter 1
abbrev pub third_connective : Connective
third_connective = moving 0 1 3 (moving 2 0 0 (moving 1 0 2 (moving 0 0 1 (idle 4 2 0 8))))

abbrev pub Third_times : Property
Third_times = record { connectives = third_connective ∷ []; nodes = truth ∷ proposition 0 ∷ negation 1 ∷ apply 0 (0 ∷ 2 ∷ []) ∷ negation 3 ∷ [] }

-- from 0 to 0 on letter 0, and from 0 to 1, which is final, on letter 1
abbrev pub eventual_connective : Connective
eventual_connective = moving 0 1 1 (moving 0 0 0 (idle 2 2 0 2))

abbrev pub Eventually : Property
Eventually = record { connectives = eventual_connective ∷ []; nodes = truth ∷ proposition 0 ∷ apply 0 (0 ∷ 1 ∷ []) ∷ [] }

abbrev pub Always_true : Property
Always_true = record { connectives = []; nodes = truth ∷ [] }

abbrev pub Never_true : Property
Never_true = record { connectives = []; nodes = truth ∷ negation 0 ∷ [] }

abbrev pub Not_final_start : Property
Not_final_start = record { connectives = idle 1 1 0 1 ∷ []; nodes = truth ∷ apply 0 (0 ∷ []) ∷ negation 1 ∷ [] }
