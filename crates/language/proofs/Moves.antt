-- The lines of a connective: from the idle one, its transition lines lead to itself.
use Rattle.std.proofs.Common.{◌≡◌, ℕ, zero, suc, ◌-◌, ◌^◌, ◌<◌, ◌≤◌, Bool, true, false, cond, not, ◌&&◌, ◌||◌, eqb, ltb, List, [], ◌∷◌, ◌++◌, length, set, sym, refl, ap, ◌∙◌, subst, arith, pow_mono}
use mathlib.Core.Path.{fun_ext}
use mathlib.Core.Bool.{or_assoc}
use Rattle.std.proofs.lemmas.List.{length_push, get_or_push, set_at}
use Rattle.std.proofs.lemmas.Bool.{and_parts, and_from, ltb-true, leb-true, lt-ltb}
use Rattle.frames.specs.Frames.Frame.{transition}
use Rattle.language.specs.Properties.{Connective, idle, connective_fits}
use Rattle.language.specs.Reading.{Draft, is_empty, latest, moving, extended, in_range}
use Rattle.language.specs.Canonical.{each, transition_line, transition_lines}
use Rattle.language.proofs.Goes.{Good, Goes, goes_append, goes_one}
use Rattle.language.proofs.Goes.Goes.{none}

-- transitions: may a state on a letter go to a state
abbrev pub May : Type 0
May = ℕ → ℕ → ℕ → Bool

-- a connective with other transitions
abbrev pub with : Connective → May → Connective
with c m = record { states = c.states; letters = c.letters; start = c.start; finals = c.finals; may = m }

-- a draft of connectives alone
abbrev pub heads : List Connective → Draft
heads cs = record { connectives = cs; nodes = []; ended = false }

abbrev pub nothing : May
nothing = λ x y z. false

abbrev pub plus : May → May → May
plus b m = λ x y z. b x y z || m x y z

-- b 0, b 1, and so on up to b (n - 1), together
abbrev pub any : ℕ → (ℕ → May) → May
any zero b = nothing
any (suc n) b = plus (b n) (any n b)

-- the one transition, if the connective has it
abbrev pub single : Connective → ℕ → ℕ → ℕ → May
single c p a r = λ x y z. c.may p a r && (eqb x p && (eqb y a && eqb z r))

-- the numbers of a connective are small
pub record Small (c : Connective) : Type 0 where
  pub least_states : 1 ≤ c.states
  pub most_states : c.states ≤ 8
  pub least_letters : 1 ≤ c.letters
  pub most_letters : c.letters ≤ 4
  pub starts : c.start < c.states
  pub finishes : c.finals < 256

pub small : (c : Connective) → connective_fits c ≡ true → Small c
small c h =
    let a = and_parts _ _ h in
    let b = and_parts _ _ a.1 in
    let d = and_parts _ _ b.1 in
    let e = and_parts _ _ d.1 in
    let f = and_parts _ _ e.1 in
    let most : c.states ≤ 8 = leb-true c.states 8 b.0 in
    let p : 2 ^ c.states ≤ 2 ^ 8 = pow_mono most in
    let q = ltb-true c.finals (2 ^ c.states) f.1 in
    record {
      least_states = leb-true 1 c.states a.0;
      most_states = most;
      least_letters = leb-true 1 c.letters d.0;
      most_letters = leb-true c.letters 4 e.0;
      starts = ltb-true c.start c.states f.0;
      finishes = omega arith;
    }

pub latest_is : (cs : List Connective) (c : Connective) → latest (cs ++ c ∷ []) ≡ c
latest_is cs c =
    let l = length_push cs c in
    get_or_push cs c (idle 0 0 0 0) (length (cs ++ c ∷ []) - 1) (omega arith)

latest_set : (cs : List Connective) (c d : Connective) → set (cs ++ c ∷ []) (length (cs ++ c ∷ []) - 1) d ≡ cs ++ d ∷ []
latest_set cs c d =
    let l = length_push cs c in
    set_at cs c [] d (length (cs ++ c ∷ []) - 1) (omega arith)

not_empty : {A : Type 0} (xs : List A) (x : A) → not (is_empty (xs ++ x ∷ [])) ≡ true
not_empty [] x = refl
not_empty (y ∷ xs) x = refl

module _ (cs : List Connective) (c : Connective) (s : Small c) where
  -- one transition line
  moved : (p a r : ℕ) → p < c.states → a < c.letters → r < c.states → (m : May) → Goes (heads (cs ++ with c m ∷ [])) ((0x11 ∷ p ∷ a ∷ r ∷ []) ∷ []) (heads (cs ++ moving p a r (with c m) ∷ []))
  moved p a r lp la lr m =
      let x : Connective = with c m in
      let d : Draft = heads (cs ++ x ∷ []) in
      let u = s.most_states in
      let v = s.most_letters in
      let good : Good (0x11 ∷ p ∷ a ∷ r ∷ []) = record {
        bytes = and_from _ _ (lt-ltb p 256 (omega arith)) (and_from _ _ (lt-ltb a 256 (omega arith)) (and_from _ _ (lt-ltb r 256 (omega arith)) refl));
        some = omega arith;
        short = omega arith;
      } in
      let ranged : in_range d (transition p a r) ≡ true =
      ap (λ (y : Connective). ltb p y.states && (ltb a y.letters && ltb r y.states)) (latest_is cs x) ∙ and_from _ _ (lt-ltb p c.states lp) (and_from _ _ (lt-ltb a c.letters la) (lt-ltb r c.states lr)) in
      let after : extended d (transition p a r) ≡ heads (cs ++ moving p a r x ∷ []) =
      ap (λ (y : Connective). heads (set (cs ++ x ∷ []) (length (cs ++ x ∷ []) - 1) (moving p a r y))) (latest_is cs x) ∙ ap heads (latest_set cs x (moving p a r x)) in
      subst (λ (e : Draft). Goes d ((0x11 ∷ p ∷ a ∷ r ∷ []) ∷ []) e) after
      (goes_one d (transition p a r) (0x11 ∷ p ∷ a ∷ r ∷ []) good (λ n. refl) (not_empty cs x) ranged refl)

  one_move : (p a r : ℕ) → p < c.states → a < c.letters → r < c.states → (m : May) → Goes (heads (cs ++ with c m ∷ [])) (transition_line c p a r) (heads (cs ++ with c (plus (single c p a r) m) ∷ []))
  one_move p a r lp la lr m =
      elim (c.may p a r) as (λ (t : Bool). Goes (heads (cs ++ with c m ∷ [])) (cond t ((0x11 ∷ p ∷ a ∷ r ∷ []) ∷ []) []) (heads (cs ++ with c (plus (λ x y z. t && (eqb x p && (eqb y a && eqb z r))) m) ∷ [])))
      [ true ↦ moved p a r lp la lr m | false ↦ none ]

  plus_plus : (a b m : May) → plus a (plus b m) ≡ plus (plus a b) m
  plus_plus a b m = fun_ext (λ x. fun_ext (λ y. fun_ext (λ z. sym (or_assoc (a x y z) (b x y z) (m x y z)))))

  each_goes : (n : ℕ) (f : ℕ → List (List ℕ)) (b : ℕ → May) → ((i : ℕ) → i < n → (m : May) → Goes (heads (cs ++ with c m ∷ [])) (f i) (heads (cs ++ with c (plus (b i) m) ∷ []))) → (m : May) → Goes (heads (cs ++ with c m ∷ [])) (each n f) (heads (cs ++ with c (plus (any n b) m) ∷ []))
  each_goes zero f b h m = none
  each_goes (suc n) f b h m =
      let before = each_goes n f b (λ i l. h i (omega arith)) m in
      let last = h n (omega arith) (plus (any n b) m) in
      subst (λ (t : May). Goes (heads (cs ++ with c m ∷ [])) (each n f ++ f n) (heads (cs ++ with c t ∷ []))) (plus_plus (b n) (any n b) m) (goes_append before last)

-- all transitions of a connective among its states and letters
abbrev pub every : Connective → May
every c = any c.states (λ p. any c.letters (λ a. any c.states (λ r. single c p a r)))

pub transitions_go : (cs : List Connective) (c : Connective) → Small c → Goes (heads (cs ++ with c nothing ∷ [])) (transition_lines c) (heads (cs ++ with c (plus (every c) nothing) ∷ []))
transitions_go cs c s =
    each_goes cs c s c.states _ (λ p. any c.letters (λ a. any c.states (λ r. single c p a r)))
    (λ p lp. each_goes cs c s c.letters _ (λ a. any c.states (λ r. single c p a r))
    (λ a la. each_goes cs c s c.states _ (λ r. single c p a r)
    (λ r lr. one_move cs c s p a r lp la lr)))
    nothing
