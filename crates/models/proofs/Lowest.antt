-- The lowest successor among the words of pairs.
use Rattle.std.proofs.Common.{◌≡◌, ℕ, ◌/◌, ◌%◌, ◌<◌, ◌≤◌, min, Bool, true, false, cond, ◌&&◌, ◌||◌, eqb, ltb, leb, List, [], ◌∷◌, filter, map, Option, sym, refl, ap, ap₂, ◌∙◌, subst, ⊎_elim, arith}
use Rattle.std.specs.List.{fold, reduce}
use Rattle.std.proofs.lemmas.Bool.{and_from, and_left, and_parts, and_right, cases_eq, cases_lt, eq-eqb, eqb-false, eqb-true, le-leb, le-ltb, leb-true, lt-ltb, ltb-true, ne_eqb, or_cases, or_from, or_left, or_parts, or_right}
use Rattle.graphs.specs.Successors.{Lowest}
use Rattle.models.specs.Tables.{among, pair_word, seconds}

-- a number is among those of a list that pass a test where it passes the test and is among all
among-filter : (v : ℕ) (p : ℕ → Bool) (xs : List ℕ) → among v (filter p xs) ≡ (p v && among v xs)
among-filter v p [] = sym (and_right (p v) false refl)
among-filter v p (x ∷ xs) = go (p x) refl (eqb x v) refl (among-filter v p xs)
  where
    go : (b : Bool) → p x ≡ b → (e : Bool) → eqb x v ≡ e → among v (filter p xs) ≡ (p v && among v xs) → among v (cond b (x ∷ filter p xs) (filter p xs)) ≡ (p v && (e || among v xs))
    go true is true same rest = or_left (eqb x v) _ same ∙ sym (and_from (p v) true (ap p (sym (eqb-true x v same)) ∙ is) refl)
    go true is false same rest = ap (λ b. b || among v (filter p xs)) same ∙ rest
    go false is true same rest = let off : p v ≡ false = ap p (sym (eqb-true x v same)) ∙ is in rest ∙ and_left (p v) _ off ∙ sym (and_left (p v) true off)
    go false is false same rest = rest

-- two tests for equality that say the same
same_test : (a b c d : ℕ) → (a ≡ b → c ≡ d) → (c ≡ d → a ≡ b) → eqb a b ≡ eqb c d
same_test a b c d forth back = ⊎_elim
    (λ e. eq-eqb a b e ∙ sym (eq-eqb c d (forth e)))
    (λ ne. ne_eqb a b ne ∙ sym (ne_eqb c d (λ e. ne (back e))))
    (cases_eq a b)

-- a second state of a pair whose first is s is told by its word
among-seconds : (s v : ℕ) (words : List ℕ) → s < 65536 → among v (seconds s words) ≡ among (pair_word s v) words
among-seconds s v [] small = refl
among-seconds s v (word ∷ words) small = go (eqb (word % 65536) s) refl (among-seconds s v words small)
  where
    go : (b : Bool) → eqb (word % 65536) s ≡ b → among v (seconds s words) ≡ among (pair_word s v) words → among v (map (λ w. w / 65536) (cond b (word ∷ filter (λ w. eqb (w % 65536) s) words) (filter (λ w. eqb (w % 65536) s) words))) ≡ (eqb word (pair_word s v) || among (pair_word s v) words)
    go true is rest =
        let first = eqb-true (word % 65536) s is in
        ap₂ (λ x y. x || y) (same_test (word / 65536) v word (pair_word s v) (λ e. omega arith) (λ e. omega arith)) rest
    go false is rest =
        let first = eqb-false (word % 65536) s is in
        rest ∙ ap (λ b. b || among (pair_word s v) words) (sym (ne_eqb word (pair_word s v) (λ e. first (omega arith))))

-- the least of some numbers
pub record IsLeast (xs : List ℕ) (m : ℕ) : Type 0 where
  pub is_in : among m xs ≡ true
  pub least : (v : ℕ) → v < m → among v xs ≡ false

-- it is no more than the first
at_most : (x m : ℕ) (xs : List ℕ) → IsLeast (x ∷ xs) m → m ≤ x
at_most x m xs h = ⊎_elim
    (λ lt. absurd (eqb-false x x (or_parts (eqb x x) _ (h.least x lt)).0 refl))
    (λ le. le)
    (cases_lt x m)

fold-min : (x : ℕ) (xs : List ℕ) → IsLeast (x ∷ xs) (fold min x xs)
fold-min x [] = record { is_in = or_left _ _ (eq-eqb x x refl); least = λ v lt. or_from _ _ (ne_eqb x v (λ e. omega arith)) refl }
fold-min x (y ∷ ys) = ⊎_elim
    (λ lt. let e : min x y ≡ x = omega arith in first _ lt (subst (λ z. IsLeast (z ∷ ys) (fold min (min x y) ys)) e (fold-min (min x y) ys)))
    (λ le. let e : min x y ≡ y = omega arith in second _ le (subst (λ z. IsLeast (z ∷ ys) (fold min (min x y) ys)) e (fold-min (min x y) ys)))
    (cases_lt x y)
  where
    first : (m : ℕ) → x < y → IsLeast (x ∷ ys) m → IsLeast (x ∷ y ∷ ys) m
    first m lt h =
        let most = at_most x m ys h in
        record {
          is_in = ⊎_elim (λ e. or_left (eqb x m) _ e) (λ e. or_right (eqb x m) _ (or_right (eqb y m) _ e)) (or_cases (eqb x m) (among m ys) h.is_in);
          least = λ v below. let none = or_parts (eqb x v) (among v ys) (h.least v below) in or_from (eqb x v) _ none.0 (or_from (eqb y v) _ (ne_eqb y v (λ e. omega arith)) none.1);
        }

    second : (m : ℕ) → y ≤ x → IsLeast (y ∷ ys) m → IsLeast (x ∷ y ∷ ys) m
    second m le h =
        let most = at_most y m ys h in
        record {
          is_in = or_right (eqb x m) _ h.is_in;
          least = λ v below. or_from (eqb x v) _ (ne_eqb x v (λ e. omega arith)) (h.least v below);
        }

-- the row of a table's state s
abbrev pub row : (n s : ℕ) (words : List ℕ) (v : ℕ) → Bool
row n s words v = ltb s n && (ltb v n && among (pair_word s v) words)

module _ (n s t : ℕ) (words : List ℕ) (small : n ≤ 65536) (is : s < n) where
  abbrev within : ℕ → Bool
  within u = leb t u && ltb u n

  -- what is among the candidates
  among-candidates : (v : ℕ) → among v (filter within (seconds s words)) ≡ (within v && among (pair_word s v) words)
  among-candidates v = among-filter v within (seconds s words) ∙ ap (λ b. within v && b) (among-seconds s v words (omega arith))

  off : (v : ℕ) → t ≤ v → among v (filter within (seconds s words)) ≡ false → row n s words v ≡ false
  off v from e = and_right (ltb s n) _ (⊎_elim
      (λ lt. and_right (ltb v n) _ (sym (ap (λ b. b && among (pair_word s v) words) (and_from _ _ (le-leb t v from) (lt-ltb v n lt))) ∙ sym (among-candidates v) ∙ e))
      (λ ge. and_left (ltb v n) _ (le-ltb v n ge))
      (cases_lt v n))

  lowest_in : (cs : List ℕ) → cs ≡ filter within (seconds s words) → Lowest n (row n s words) t (reduce min cs)
  lowest_in [] e = λ v from. off v from (ap (among v) (sym e))
  lowest_in (c ∷ cs) e =
      let m = fold min c cs in
      let h = fold-min c cs in
      let both = and_parts (within m) _ (sym (ap (among m) e ∙ among-candidates m) ∙ h.is_in) in
      let low = and_parts (leb t m) (ltb m n) both.0 in (
        leb-true t m low.0,
        ltb-true m n low.1,
        and_from _ _ (lt-ltb s n is) (and_from _ _ low.1 both.1),
        λ v from before. off v from (ap (among v) (sym e) ∙ h.least v before),
      )

  pub lowest_of : (r : Option ℕ) → r ≡ reduce min (filter (λ u. leb t u && ltb u n) (seconds s words)) → Lowest n (row n s words) t r
  lowest_of r e = subst (Lowest n (row n s words) t) (sym e) (lowest_in _ refl)
