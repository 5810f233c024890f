-- What every draft keeps to, from the blank one on.
use Rattle.std.proofs.Common.{◌≡◌, ℕ, zero, suc, ◌+◌, ◌-◌, ◌<◌, ◌≤◌, true, false, not, ◌&&◌, eqb, ltb, leb, List, [], ◌∷◌, ◌++◌, length, set, Ok, sym, refl, ap, ◌∙◌, subst, ⊎_elim, arith}
use Rattle.std.proofs.lemmas.List.{length_push, length-set}
use Rattle.std.proofs.lemmas.Bool.{and_from, and_parts, both_ways, eqb-true, leb-true, ltb-true, not-true, or_cases}
use Rattle.frames.specs.Frames.{Frame, Node}
use Rattle.frames.specs.Frames.Frame.{connective, transition, node, end}
use Rattle.language.specs.Properties.{Connective, all_fit, connective_at, connective_fits, idle, node_fits, nodes_fit, width}
use Rattle.language.specs.Reading.{Draft, blank, extended, in_order, in_range, is_empty, judged, latest, moving, within_limits}
use Rattle.language.specs.Laws.{Taken}
use Rattle.language.specs.Laws.Taken.{none, more}
use Rattle.language.proofs.Lines.{took}

-- every transition of a connective is between its states, on one of its letters
abbrev pub Moves : Connective → Type 0
Moves c = (q a r : ℕ) → c.may q a r ≡ true → (q < c.states) × (a < c.letters) × (r < c.states)

-- the limits and ranges of a property, of the lines so far
pub record Kept (d : Draft) : Type 0 where
  pub few_connectives : length d.connectives ≤ 4
  pub connectives_fit : all_fit d.connectives ≡ true
  pub moves_fit : (c : ℕ) → Moves (connective_at d.connectives c)
  pub few_nodes : length d.nodes ≤ 32
  pub operands_lower : nodes_fit d.connectives 0 d.nodes ≡ true
  pub narrow : width d.connectives d.nodes ≤ 12
  pub rooted : d.ended ≡ true → 0 < length d.nodes

idle_moves : (m n q f : ℕ) → Moves (idle m n q f)
idle_moves m n q f x y z h = cc

-- the connectives of a list with one more, and with one put in another's place
push_moves : (cs : List Connective) (x : Connective) → ((c : ℕ) → Moves (connective_at cs c)) → Moves x → (c : ℕ) → Moves (connective_at (cs ++ x ∷ []) c)
push_moves [] x h m zero = m
push_moves [] x h m (suc c) = idle_moves 0 0 0 0
push_moves (y ∷ cs) x h m zero = h 0
push_moves (y ∷ cs) x h m (suc c) = push_moves cs x (λ k. h (suc k)) m c

set_moves : (cs : List Connective) (i : ℕ) (x : Connective) → ((c : ℕ) → Moves (connective_at cs c)) → Moves x → (c : ℕ) → Moves (connective_at (set cs i x) c)
set_moves [] i x h m c = h c
set_moves (y ∷ cs) zero x h m zero = m
set_moves (y ∷ cs) zero x h m (suc c) = h (suc c)
set_moves (y ∷ cs) (suc i) x h m zero = h 0
set_moves (y ∷ cs) (suc i) x h m (suc c) = set_moves cs i x (λ k. h (suc k)) m c

push_fits : (cs : List Connective) (x : Connective) → all_fit cs ≡ true → connective_fits x ≡ true → all_fit (cs ++ x ∷ []) ≡ true
push_fits [] x h f = and_from _ _ f refl
push_fits (y ∷ cs) x h f = let p = and_parts (connective_fits y) (all_fit cs) h in and_from _ _ p.0 (push_fits cs x p.1 f)

-- a transition leaves a connective's numbers as they are
moving_fits : (cs : List Connective) (i p a r : ℕ) → all_fit (set cs i (moving p a r (connective_at cs i))) ≡ all_fit cs
moving_fits [] i p a r = refl
moving_fits (y ∷ cs) zero p a r = refl
moving_fits (y ∷ cs) (suc i) p a r = ap (λ b. connective_fits y && b) (moving_fits cs i p a r)

moving_moves : (p a r : ℕ) (c : Connective) → p < c.states → a < c.letters → r < c.states → Moves c → Moves (moving p a r c)
moving_moves p a r c hp ha hr m x y z h = ⊎_elim
    (λ new.
    let u = and_parts (eqb x p) (eqb y a && eqb z r) new in
    let v = and_parts (eqb y a) (eqb z r) u.1 in
    let ex = eqb-true x p u.0 in
    let ey = eqb-true y a v.0 in
    let ez = eqb-true z r v.1 in
    (omega arith, omega arith, omega arith))
    (λ old. m x y z old)
    (or_cases (eqb x p && (eqb y a && eqb z r)) (c.may x y z) h)

push_lower : (cs : List Connective) (k : ℕ) (ns : List Node) (n : Node) → nodes_fit cs k ns ≡ true → node_fits cs (k + length ns) n ≡ true → nodes_fit cs k (ns ++ n ∷ []) ≡ true
push_lower cs k [] n h f = let e : k + 0 ≡ k = omega arith in and_from _ _ (subst (λ i. node_fits cs i n ≡ true) e f) refl
push_lower cs k (x ∷ ns) n h f =
    let e : k + length (x ∷ ns) ≡ suc k + length ns = omega arith in
    let p = and_parts (node_fits cs k x) (nodes_fit cs (suc k) ns) h in
    and_from _ _ p.0 (push_lower cs (suc k) ns n p.1 (subst (λ i. node_fits cs i n ≡ true) e f))

empty : {A : Type 0} (xs : List A) → is_empty xs ≡ true → xs ≡ []
empty [] h = refl
empty (x ∷ xs) h = cc

filled : {A : Type 0} (xs : List A) → is_empty xs ≡ false → 0 < length xs
filled [] h = absurd (both_ways true h refl)
filled (x ∷ xs) h = omega arith

-- without nodes, other connectives may stand before them
no_nodes_fit : (cs : List Connective) (ns : List Node) → ns ≡ [] → nodes_fit cs 0 ns ≡ true
no_nodes_fit cs ns e = ap (nodes_fit cs 0) e

no_nodes_narrow : (cs : List Connective) (ns : List Node) → ns ≡ [] → width cs ns ≤ 12
no_nodes_narrow cs ns e = let w : width cs ns ≡ 0 = ap (width cs) e in omega arith

keeps : (d : Draft) (f : Frame) → in_order d f ≡ true → in_range d f ≡ true → within_limits d f ≡ true → Kept d → Kept (extended d f)
keeps d (connective m n q f) o r l k =
    let p = and_parts (not d.ended) (is_empty d.nodes) o in
    let none_yet = empty d.nodes p.1 in
    let cs = d.connectives ++ idle m n q f ∷ [] in
    let room = ltb-true (length d.connectives) 4 l in
    let long = length_push d.connectives (idle m n q f) in
    record {
      few_connectives = omega arith;
      connectives_fit = push_fits d.connectives (idle m n q f) k.connectives_fit r;
      moves_fit = push_moves d.connectives (idle m n q f) k.moves_fit (idle_moves m n q f);
      few_nodes = k.few_nodes;
      operands_lower = no_nodes_fit cs d.nodes none_yet;
      narrow = no_nodes_narrow cs d.nodes none_yet;
      rooted = k.rooted;
    }
keeps d (transition p a r) o g l k =
    let q = and_parts (not d.ended) (is_empty d.nodes && not (is_empty d.connectives)) o in
    let none_yet = empty d.nodes (and_parts (is_empty d.nodes) (not (is_empty d.connectives)) q.1).0 in
    let i = length d.connectives - 1 in
    let c = latest d.connectives in
    let cs = set d.connectives i (moving p a r c) in
    let u = and_parts (ltb p c.states) (ltb a c.letters && ltb r c.states) g in
    let v = and_parts (ltb a c.letters) (ltb r c.states) u.1 in
    let moves = moving_moves p a r c (ltb-true p c.states u.0) (ltb-true a c.letters v.0) (ltb-true r c.states v.1) (k.moves_fit i) in
    record {
      few_connectives = subst (λ m. m ≤ 4) (sym (length-set d.connectives i (moving p a r c))) k.few_connectives;
      connectives_fit = moving_fits d.connectives i p a r ∙ k.connectives_fit;
      moves_fit = set_moves d.connectives i (moving p a r c) k.moves_fit moves;
      few_nodes = k.few_nodes;
      operands_lower = no_nodes_fit cs d.nodes none_yet;
      narrow = no_nodes_narrow cs d.nodes none_yet;
      rooted = k.rooted;
    }
keeps d (node n) o r l k =
    let p = and_parts (ltb (length d.nodes) 32) (leb (width d.connectives (d.nodes ++ n ∷ [])) 12) l in
    let room = ltb-true (length d.nodes) 32 p.0 in
    let long = length_push d.nodes n in
    let e : length d.nodes ≡ 0 + length d.nodes = omega arith in
    record {
      few_connectives = k.few_connectives;
      connectives_fit = k.connectives_fit;
      moves_fit = k.moves_fit;
      few_nodes = omega arith;
      operands_lower = push_lower d.connectives 0 d.nodes n k.operands_lower (subst (λ i. node_fits d.connectives i n ≡ true) e r);
      narrow = leb-true _ _ p.1;
      rooted = λ h. omega arith;
    }
keeps d end o r l k =
    let p = and_parts (not d.ended) (not (is_empty d.nodes)) o in
    record {
      few_connectives = k.few_connectives;
      connectives_fit = k.connectives_fit;
      moves_fit = k.moves_fit;
      few_nodes = k.few_nodes;
      operands_lower = k.operands_lower;
      narrow = k.narrow;
      rooted = λ h. filled d.nodes (not-true _ p.1);
    }

pub kept_blank : Kept blank
kept_blank = record {
  few_connectives = omega arith;
  connectives_fit = refl;
  moves_fit = λ c. idle_moves 0 0 0 0;
  few_nodes = omega arith;
  operands_lower = refl;
  narrow = omega arith;
  rooted = λ h. cc;
}

pub kept_line : (n : ℕ) (d e : Draft) (line : List ℕ) → judged n d line ≡ Ok e → Kept d → Kept e
kept_line n d e line j k =
    let t = took n d e line j in
    subst (λ x. Kept x) (sym t.to) (keeps d t.frame t.order t.range t.limits k)

pub kept : {n : ℕ} {d e : Draft} {lines : List (List ℕ)} → Taken n d lines e → Kept d → Kept e
kept (none n d) k = k
kept (more n d e f line lines j t) k = kept t (kept_line n d e line j k)
