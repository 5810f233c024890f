-- The lines of all connectives lead to all connectives, and they are not many.
use Rattle.std.proofs.Common.{◌≡◌, ℕ, zero, suc, ◌+◌, ◌*◌, ◌<◌, ◌≤◌, Bool, true, false, cond, ◌&&◌, eqb, List, [], ◌∷◌, ◌++◌, length, sym, refl, subst, ⊎_elim, arith}
use mathlib.Core.Path.{fun_ext}
use Rattle.std.specs.List.{flat_map}
use Rattle.std.proofs.lemmas.List.{length-append, append_assoc, append-nil}
use Rattle.std.proofs.lemmas.Bool.{and_parts, and_from, lt-ltb, eqb-true, eq-eqb, or_cases, or_left, or_right, false≢true, cases_lt}
use Rattle.frames.specs.Frames.Frame.{connective}
use Rattle.language.specs.Properties.{Connective, connective_at, connective_fits, all_fit}
use Rattle.language.specs.Canonical.{each, transition_line, transition_lines, connective_lines}
use Rattle.language.proofs.Drafts.{Moves}
use Rattle.language.proofs.Goes.{Good, Goes, goes_append, goes_one}
use Rattle.language.proofs.Goes.Goes.{none}
use Rattle.language.proofs.Moves.{May, with, heads, nothing, plus, any, single, Small, small, every, transitions_go}

any_find : (n : ℕ) (b : ℕ → May) (x y z : ℕ) → any n b x y z ≡ true → (i : ℕ) × (i < n) × (b i x y z ≡ true)
any_find zero b x y z h = absurd (false≢true h)
any_find (suc n) b x y z h = ⊎_elim
    (λ e. (n, omega arith, e))
    (λ e. let w = any_find n b x y z e in let l = w.1 in (w.0, omega arith, w.2))
    (or_cases (b n x y z) (any n b x y z) h)

any_has : (n : ℕ) (b : ℕ → May) (x y z i : ℕ) → i < n → b i x y z ≡ true → any n b x y z ≡ true
any_has zero b x y z i l h = absurd (omega arith)
any_has (suc n) b x y z i l h = ⊎_elim
    (λ lt. or_right (b n x y z) (any n b x y z) (any_has n b x y z i lt h))
    (λ ge. let e : i ≡ n = omega arith in or_left (b n x y z) (any n b x y z) (subst (λ j. b j x y z ≡ true) e h))
    (cases_lt i n)

same : (a b : Bool) → (a ≡ true → b ≡ true) → (b ≡ true → a ≡ true) → a ≡ b
same true true f g = refl
same true false f g = sym (f refl)
same false true f g = g refl
same false false f g = refl

module _ (c : Connective) (fit : Moves c) where
  only : (x y z : ℕ) → every c x y z ≡ true → c.may x y z ≡ true
  only x y z h =
      let u = any_find c.states (λ p. any c.letters (λ a. any c.states (λ r. single c p a r))) x y z h in
      let v = any_find c.letters (λ a. any c.states (λ r. single c u.0 a r)) x y z u.2 in
      let w = any_find c.states (λ r. single c u.0 v.0 r) x y z v.2 in
      let k = and_parts (c.may u.0 v.0 w.0) (eqb x u.0 && (eqb y v.0 && eqb z w.0)) w.2 in
      let l = and_parts (eqb x u.0) (eqb y v.0 && eqb z w.0) k.1 in
      let m = and_parts (eqb y v.0) (eqb z w.0) l.1 in
      let ex = eqb-true x u.0 l.0 in
      let ey = eqb-true y v.0 m.0 in
      let ez = eqb-true z w.0 m.1 in
      cc k.0

  all : (x y z : ℕ) → c.may x y z ≡ true → every c x y z ≡ true
  all x y z h =
      let f = fit x y z h in
      any_has c.states (λ p. any c.letters (λ a. any c.states (λ r. single c p a r))) x y z x f.0
      (any_has c.letters (λ a. any c.states (λ r. single c x a r)) x y z y f.1
      (any_has c.states (λ r. single c x y r) x y z z f.2
      (and_from _ _ h (and_from _ _ (eq-eqb x x refl) (and_from _ _ (eq-eqb y y refl) (eq-eqb z z refl))))))

  each_is : (x y z : ℕ) → plus (every c) nothing x y z ≡ c.may x y z
  each_is x y z = same (plus (every c) nothing x y z) (c.may x y z)
      (λ h. ⊎_elim (only x y z) (λ e. absurd (false≢true e)) (or_cases (every c x y z) false h))
      (λ h. or_left (every c x y z) false (all x y z h))

  whole : plus (every c) nothing ≡ c.may
  whole = fun_ext (λ x. fun_ext (λ y. fun_ext (λ z. each_is x y z)))

-- a connective's lines add it
connective_goes : (cs : List Connective) (c : Connective) → length cs < 4 → connective_fits c ≡ true → Moves c → Goes (heads cs) (connective_lines c) (heads (cs ++ c ∷ []))
connective_goes cs c few fits fit =
    let s = small c fits in
    let a = s.most_states in
    let b = s.most_letters in
    let d = s.starts in
    let e = s.finishes in
    let good : Good (0x10 ∷ c.states ∷ c.letters ∷ c.start ∷ c.finals ∷ []) = record {
      bytes = and_from _ _ (lt-ltb c.states 256 (omega arith)) (and_from _ _ (lt-ltb c.letters 256 (omega arith)) (and_from _ _ (lt-ltb c.start 256 (omega arith)) (and_from _ _ (lt-ltb c.finals 256 e) refl)));
      some = omega arith;
      short = omega arith;
    } in
    let first = goes_one (heads cs) (connective c.states c.letters c.start c.finals) (0x10 ∷ c.states ∷ c.letters ∷ c.start ∷ c.finals ∷ []) good (λ n. refl) refl fits (lt-ltb (length cs) 4 few) in
    let then : Goes (heads (cs ++ with c nothing ∷ [])) (transition_lines c) (heads (cs ++ c ∷ [])) =
    subst (λ (m : May). Goes (heads (cs ++ with c nothing ∷ [])) (transition_lines c) (heads (cs ++ with c m ∷ []))) (whole c fit) (transitions_go cs c s) in
    goes_append first then

pub connectives_go : (cs rest : List Connective) → length cs + length rest ≤ 4 → all_fit rest ≡ true → ((k : ℕ) → Moves (connective_at rest k)) → Goes (heads cs) (flat_map connective_lines rest) (heads (cs ++ rest))
connectives_go cs [] few fits fit = subst (λ (l : List Connective). Goes (heads cs) [] (heads l)) (sym (append-nil cs)) none
connectives_go cs (c ∷ rest) few fits fit =
    let parts = and_parts (connective_fits c) (all_fit rest) fits in
    let first = connective_goes cs c (omega arith) parts.0 (fit 0) in
    let l = length-append cs (c ∷ []) in
    let then = connectives_go (cs ++ c ∷ []) rest (omega arith) parts.1 (λ k. fit (suc k)) in
    subst (λ (l : List Connective). Goes (heads cs) (connective_lines c ++ flat_map connective_lines rest) (heads l)) (append_assoc cs (c ∷ []) rest) (goes_append first then)

-- how many lines there are
length_each : (n k : ℕ) (f : ℕ → List (List ℕ)) → ((i : ℕ) → length (f i) ≤ k) → length (each n f) ≤ n * k
length_each zero k f h = omega arith
length_each (suc n) k f h =
    let r = length_each n k f h in
    let l = length-append (each n f) (f n) in
    let m = h n in
    omega arith

length_line : (c : Connective) (p a r : ℕ) → length (transition_line c p a r) ≤ 1
length_line c p a r = elim (c.may p a r) as (λ (t : Bool). length (cond t ((0x11 ∷ p ∷ a ∷ r ∷ []) ∷ []) []) ≤ 1) [ true ↦ omega arith | false ↦ omega arith ]

length_transitions : (c : Connective) → Small c → length (transition_lines c) ≤ 256
length_transitions c s =
    let u = s.most_states in
    let v = s.most_letters in
    let inner : (p a : ℕ) → length (each c.states (λ r. transition_line c p a r)) ≤ 8 = λ p a. let h = length_each c.states 1 (λ r. transition_line c p a r) (length_line c p a) in omega arith in
    let middle : (p : ℕ) → length (each c.letters (λ a. each c.states (λ r. transition_line c p a r))) ≤ 32 = λ p. let h = length_each c.letters 8 (λ a. each c.states (λ r. transition_line c p a r)) (inner p) in omega arith in
    let outer = length_each c.states 32 (λ p. each c.letters (λ a. each c.states (λ r. transition_line c p a r))) middle in
    omega arith

pub length_connectives : (cs : List Connective) → all_fit cs ≡ true → length (flat_map connective_lines cs) ≤ 257 * length cs
length_connectives [] h = omega arith
length_connectives (c ∷ cs) h =
    let parts = and_parts (connective_fits c) (all_fit cs) h in
    let r = length_connectives cs parts.1 in
    let t = length_transitions c (small c parts.0) in
    let l = length-append (transition_lines c) (flat_map connective_lines cs) in
    omega arith
