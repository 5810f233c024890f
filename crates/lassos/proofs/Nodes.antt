-- What a node says by the bits at hand is its truth.
use Rattle.std.proofs.Common.{◌≡◌, ℕ, zero, suc, ◌+◌, ◌-◌, ◌^◌, ◌<◌, ◌≤◌, Bool, true, T, ltb, leb, ◌↔◌, List, length, get_or, take, set, Decides, sym, refl, ap, ◌∙◌, subst, ap₂, ⊎_elim, arith}
use mathlib.Core.Logic.Iff
use Rattle.std.proofs.lemmas.List.{get_or-take, get_or_default, length-take, get_or-map}
use Rattle.std.proofs.lemmas.Bool.{and_parts, cases_eq, ltb-true}
use Rattle.frames.specs.Frames.{Node}
use Rattle.frames.specs.Frames.Node.{apply, truth}
use Rattle.masks.specs.Masks.{bit}
use Rattle.language.specs.Properties.{Connective, Property, connective_at, connective_fits}
use Rattle.language.proofs.Nodes.{connective_fit}
use Rattle.logic.specs.Truth.{Fulfilled, Holds, Line, Says, later, node_at, root}
use Rattle.logic.proofs.Bools.{T_true, along_T, iff_and, iff_not, iff_or}
use Rattle.logic.proofs.Fits.{NodeFits, fits_at, root_in}
use Rattle.logic.proofs.Sat.{fulfil_map, holds_unfold}
use Rattle.properties.specs.Meaning.{meaning}
use Rattle.properties.specs.Views.{connective_of, no_row, node_of}
use Rattle.properties.specs.declared.property.Property.{Property as Stored}
use Rattle.properties.specs.declared.rows.Connective.{Connective as ConnectiveRow}
use Rattle.properties.specs.declared.rows.Node.{Node as NodeRow}
use Rattle.properties.specs.declared.rows.Node.TheVariants.{True, Proposition, Not, Next, And, Or, Apply}
use Rattle.properties.proofs.Formed.{formed}
use Rattle.properties.proofs.Verdicts.{connective_in, length_connectives, length_nodes}
use Rattle.lassos.specs.Rounds.{after}
use Rattle.lassos.specs.Sweeps.{Filled, Runs}
use Rattle.lassos.specs.Truths.{Known, Marked, Tells, round, said}
use Rattle.lassos.proofs.Sweeps.{after_in}
use Rattle.lassos.proofs.Words.{below_set, true_T}

-- a node that is no connective
abbrev pub Simple : NodeRow → Type 0
Simple True = Unit {0}
Simple (Proposition p) = Unit {0}
Simple (Not i) = Unit {0}
Simple (Next i) = Unit {0}
Simple (And i j) = Unit {0}
Simple (Or i j) = Unit {0}
Simple (Apply c arity operands) = ⊥

module _ (f : Property) (label : ℕ → ℕ) (n a k : ℕ) (bits : List ℕ) (la : a < n) (known : Known f (round label n a) n k bits) where
  -- what it says by the bits is what it says of the line
  said_says : (x : NodeRow) → Simple x → NodeFits f k (node_of x) → (i : ℕ) → i < n →
      T (said x (label i) (get_or bits i 0) (get_or bits (after n a i) 0)) ↔ Says f (round label n a) (Holds f (round label n a)) (node_of x) i
  said_says True s fits i li = (λ t. t, λ t. t)
  said_says (Proposition p) s fits i li = (λ t. t, λ t. t)
  said_says (Not j) s fits i li = iff_not (bit (get_or bits i 0) j) (known j fits i li)
  said_says (Next j) s fits i li = known j fits (after n a i) (after_in n a i la li)
  said_says (And j m) s fits i li = iff_and (bit (get_or bits i 0) j) (bit (get_or bits i 0) m) (known j fits.0 i li) (known m fits.1 i li)
  said_says (Or j m) s fits i li = iff_or (bit (get_or bits i 0) j) (bit (get_or bits i 0) m) (known j fits.0 i li) (known m fits.1 i li)
  said_says (Apply c arity operands) s fits i li = absurd s

-- what a node says is put down at one position more
pub mark_more : (label : ℕ → ℕ) (list : List ℕ) (a : ℕ) (x : NodeRow) (bits sets : List ℕ) (i v lab next : ℕ) (r : Bool) → i < length sets → Marked label list a x bits sets i →
    bit v 0 ≡ r → r ≡ said x lab (get_or bits i 0) (get_or bits next 0) → lab ≡ label (get_or list i 0) → next ≡ after (length list) a i → Marked label list a x bits (set sets i v) (i + 1)
mark_more label list a x bits sets i v lab next r room marked put says is follows =
    below_set (λ j w. bit w 0 ≡ said x (label (get_or list j 0)) (get_or bits j 0) (get_or bits (after (length list) a j) 0)) sets i v room marked
    (put ∙ says ∙ ap₂ (λ y z. said x y (get_or bits i 0) (get_or bits z 0)) is follows)

-- a node of the rows, as one of the property
pub node_is : (p : Stored) (k : ℕ) (x : NodeRow) → k < p.rows.count → x ≡ get_or p.rows.nodes k True → node_at (meaning p) k ≡ node_of x
node_is p k x lt e =
    let s = p.rows in
    let size : length (take s.count s.nodes) ≡ s.count = length_nodes_taken in
    get_or-map node_of (take s.count s.nodes) k True truth (omega arith) ∙ ap node_of (get_or-take s.count s.nodes k True lt ∙ sym e)
  where
    length_nodes_taken : length (take p.rows.count p.rows.nodes) ≡ p.rows.count
    length_nodes_taken = length-take p.rows.count p.rows.nodes ∙ omega (arith, p.rows.many, p.rows.few_nodes)

module _ (p : Stored) (label : ℕ → ℕ) (n a k : ℕ) (bits : List ℕ) (x : NodeRow) (lk : k < p.rows.count) (is : x ≡ get_or p.rows.nodes k True) where
  in_nodes : k < length (meaning p).nodes
  in_nodes = omega (arith, length_nodes p.rows)

  -- the node's operands are lower
  pub row_fits : NodeFits (meaning p) k (node_of x)
  row_fits = subst (NodeFits (meaning p) k) (node_is p k x lk is) (fits_at (meaning p) (formed p) k in_nodes)

  row_unfolds : (i : ℕ) → Holds (meaning p) (round label n a) k i ↔ Says (meaning p) (round label n a) (Holds (meaning p) (round label n a)) (node_of x) i
  row_unfolds i =
      subst (λ (y : Node). Holds (meaning p) (round label n a) k i ↔ Says (meaning p) (round label n a) (Holds (meaning p) (round label n a)) y i) (node_is p k x lk is)
      (holds_unfold (meaning p) (round label n a) (formed p) k in_nodes i)

  -- a node that is no connective is marked where it is true
  pub tells_marked : a < n → Known (meaning p) (round label n a) n k bits → Simple x → (sets : List ℕ) →
      ((i : ℕ) → i < n → bit (get_or sets i 0) 0 ≡ said x (label i) (get_or bits i 0) (get_or bits (after n a i) 0)) → Tells (meaning p) (round label n a) n k 0 sets
  tells_marked la known simple sets marked i li =
      Iff.trans (along_T (marked i li)) (Iff.trans (said_says (meaning p) label n a k bits la known x simple row_fits i li) (Iff.symm (row_unfolds i)))

-- what comes later on two lines that go on alike
later_same : (l m : Line) → ((i : ℕ) → l.after i ≡ m.after i) → (j i : ℕ) → later l j i ≡ later m j i
later_same l m e zero i = refl
later_same l m e (suc j) i = later_same l m e j (l.after i) ∙ ap (later m j) (e i)

fulfil_line : (c : Connective) (P : ℕ → ℕ → Type 0) (l m : Line) → ((i : ℕ) → l.after i ≡ m.after i) → (q i : ℕ) → Fulfilled c P l q i → Fulfilled c P m q i
fulfil_line c P l m e q i t = record { word = t.word; run = t.run; accepts = t.accepts; operands = λ j lt. subst (P (get_or t.word j 0)) (later_same l m e j i) (t.operands j lt) }

finals_fit : (c : Connective) → connective_fits c ≡ true → c.finals < 2 ^ c.states
finals_fit c h =
    let a = and_parts (leb 1 c.states) _ h in
    let b = and_parts (leb c.states 8) _ a.1 in
    let d = and_parts (leb 1 c.letters) _ b.1 in
    let e = and_parts (leb c.letters 4) _ d.1 in
    ltb-true c.finals (2 ^ c.states) (and_parts (ltb c.start c.states) (ltb c.finals (2 ^ c.states)) e.1).1

-- a connective node
module _ (p : Stored) (k c arity : ℕ) (operands : List ℕ) (lk : k < p.rows.count) (is : Apply c arity operands ≡ get_or p.rows.nodes k True) where
  applied_fits : NodeFits (meaning p) k (apply c (take arity operands))
  applied_fits = subst (NodeFits (meaning p) k) (node_is p k (Apply c arity operands) lk is) (fits_at (meaning p) (formed p) k (omega (arith, length_nodes p.rows)))

  used : c < p.rows.used
  used = omega (arith, applied_fits.0, length_connectives p.rows)

  -- its connective has a row
  pub row_in : c < 4
  row_in = omega (arith, used, p.rows.few_connectives)

  -- the row, as the code reads it
  pub read_row : (row : ConnectiveRow) → get_or p.rows.connectives c row ≡ get_or p.rows.connectives c no_row
  read_row row = get_or_default p.rows.connectives c row no_row (omega (arith, row_in, p.rows.four))

  row_is : connective_at (meaning p).connectives c ≡ connective_of (get_or p.rows.connectives c no_row)
  row_is = connective_in p.rows c used

  -- whose final states are states
  pub final_states : (get_or p.rows.connectives c no_row).finals < 2 ^ (get_or p.rows.connectives c no_row).states
  final_states = finals_fit (connective_of (get_or p.rows.connectives c no_row)) (subst (λ x. connective_fits x ≡ true) row_is (connective_fit (meaning p).connectives (formed p).connectives_fit c applied_fits.0))

  -- the operand of a letter
  letter_in : (x : ℕ) → x < (get_or p.rows.connectives c no_row).letters → x < length (take arity operands)
  letter_in x lt =
      let size : length (take arity operands) ≡ (get_or p.rows.connectives c no_row).letters = applied_fits.1 ∙ ap (λ (y : Connective). y.letters) row_is in
      omega arith

  operand_is : (x : ℕ) → x < (get_or p.rows.connectives c no_row).letters → get_or (take arity operands) x 0 ≡ get_or operands x 0
  operand_is x lt = get_or-take arity operands x 0 (omega (arith, letter_in x lt, length-take arity operands))

  module _ (label : ℕ → ℕ) (n a : ℕ) (bits : List ℕ) (size : length bits ≡ n) (la : a < n) (known : Known (meaning p) (round label n a) n k bits) where
    -- the runs by the bits are those of the line
    runs_says : (i : ℕ) → i < n → Runs (get_or p.rows.connectives c no_row) operands bits a (get_or p.rows.connectives c no_row).start i
        ↔ Says (meaning p) (round label n a) (Holds (meaning p) (round label n a)) (apply c (take arity operands)) i
    runs_says i li = (λ t. subst G (sym row_is) (forth t), λ t. over (subst G row_is t))
      where
        C : Connective
        C = connective_of (get_or p.rows.connectives c no_row)

        L : Line
        L = round label n a

        M : Line
        M = round (λ _. 0) (length bits) a

        P : ℕ → ℕ → Type 0
        P x j = T (bit (get_or bits j 0) (get_or operands x 0))

        Q : ℕ → ℕ → Type 0
        Q x j = Holds (meaning p) (round label n a) (get_or (take arity operands) x 0) j

        G : Connective → Type 0
        G y = Fulfilled y (λ x j. Holds (meaning p) (round label n a) (get_or (take arity operands) x 0) j) (round label n a) y.start i

        alike : (j : ℕ) → after (length bits) a j ≡ after n a j
        alike j = ap (λ m. after m a j) size

        stays : (j : ℕ) → j < n → after n a j < n
        stays j lt = after_in n a j la lt

        tells : (x j : ℕ) → x < C.letters → j < n → T (bit (get_or bits j 0) (get_or (take arity operands) x 0)) ↔ Q x j
        tells x j lx lj = known (get_or (take arity operands) x 0) (applied_fits.2 x (letter_in x lx)) j lj

        forth : Fulfilled C P M C.start i → Fulfilled C Q L C.start i
        forth t = fulfil_map C P Q L (λ j. j < n) stays (λ x j lx lj b. (tells x j lx lj).0 (subst (λ o. T (bit (get_or bits j 0) o)) (sym (operand_is x lx)) b)) C.start i li
            (fulfil_line C P M L alike C.start i t)

        over : Fulfilled C Q L C.start i → Fulfilled C P M C.start i
        over t = fulfil_line C P L M (λ j. sym (alike j)) C.start i
            (fulfil_map C Q P L (λ j. j < n) stays (λ x j lx lj h. subst (λ o. T (bit (get_or bits j 0) o)) (operand_is x lx) ((tells x j lx lj).1 h)) C.start i li t)

    -- it is true where its connective is fulfilled from the start state
    pub tells_filled : (sets : List ℕ) → Filled (get_or p.rows.connectives c no_row) operands bits a sets →
        Tells (meaning p) (round label n a) n k (get_or p.rows.connectives c no_row).start sets
    tells_filled sets filled i li =
        Iff.trans (filled i (get_or p.rows.connectives c no_row).start (omega arith))
        (Iff.trans (runs_says i li) (Iff.symm (row_unfolds p label n a k bits (Apply c arity operands) lk is i)))

-- one node more is known
pub known_more : (f : Property) (l : Line) (n k q : ℕ) (was bits sets : List ℕ) → Known f l n k was → Tells f l n k q sets →
    ((i j : ℕ) → i < n → j < k → bit (get_or bits i 0) j ≡ bit (get_or was i 0) j) → ((i : ℕ) → i < n → bit (get_or bits i 0) k ≡ bit (get_or sets i 0) q) → Known f l n (k + 1) bits
known_more f l n k q was bits sets known tells kept new j lj i li = ⊎_elim
    (λ e. subst (λ m. T (bit (get_or bits i 0) m) ↔ Holds f l m i) (sym e) (Iff.trans (along_T (new i li)) (tells i li)))
    (λ ne. let lower : j < k = omega arith in Iff.trans (along_T (kept i j li lower)) (known j lower i li))
    (cases_eq j k)

-- the root is known at the first position
pub root_decided : (p : Stored) (l : Line) (n k : ℕ) (bits : List ℕ) (r : Bool) → 0 < n → p.rows.count ≤ k → Known (meaning p) l n k bits →
    r ≡ bit (get_or bits 0 0) (p.rows.count - 1) → Decides r (Holds (meaning p) l (root (meaning p)) 0)
root_decided p l n k bits r some all known is =
    let e : p.rows.count - 1 ≡ root (meaning p) = ap (λ m. m - 1) (sym (length_nodes p.rows)) in
    let lower : root (meaning p) < k = omega (arith, root_in (meaning p) (formed p), length_nodes p.rows) in
    let tells = known (root (meaning p)) lower 0 some in
    let same : r ≡ bit (get_or bits 0 0) (root (meaning p)) = is ∙ ap (bit (get_or bits 0 0)) e in
    (λ t. tells.0 (true_T (sym same ∙ t)), λ h. same ∙ T_true _ (tells.1 h))

-- a node that is not a connective's
pub simple_from : (x : NodeRow) → ((c arity : ℕ) (operands : List ℕ) → x ≡ Apply c arity operands → ⊥) → Simple x
simple_from True other = tt
simple_from (Proposition p) other = tt
simple_from (Not i) other = tt
simple_from (Next i) other = tt
simple_from (And i j) other = tt
simple_from (Or i j) other = tt
simple_from (Apply c arity operands) other = other c arity operands refl
