-- Sweeps let only states join from which the connective is fulfilled, and where nothing joins there is no other.
use Rattle.std.proofs.Common.{◌≡◌, ℕ, suc, ◌+◌, ◌-◌, ◌*◌, ◌^◌, ◌<◌, ◌≤◌, Bool, true, false, cond, not, T, eqb, ltb, ◌⊎◌, List, [], ◌∷◌, length, get_or, set, sym, refl, ap, ◌∙◌, subst, inl, inr, ⊎_elim, suc-le-suc, zero-le, arith, ltb→lt, lt→ltb}
use lib.Pow.{pow-lt}
use Rattle.std.proofs.lemmas.List.{get_or-set_other, get_or-set_same, set-get_or}
use Rattle.std.proofs.lemmas.Bool.{both_ways, cases_Bool, cases_eq, cases_lt, eqb-false, eqb-true, not-false, not-true}
use Rattle.masks.specs.Masks.{bit}
use Rattle.language.specs.Properties.{Connective}
use Rattle.logic.specs.Truth.{Accepts, Line, later}
use Rattle.logic.proofs.Bools.{T_and, and_T, some_in, some_out}
use Rattle.logic.proofs.Unfold.{fold_final, fold_step, from_fits, rest_accepts}
use Rattle.properties.specs.Views.{connective_of}
use Rattle.properties.specs.declared.rows.Connective.{Connective as ConnectiveRow}
use Rattle.lassos.specs.Rounds.{after}
use Rattle.lassos.specs.Truths.{round}
use Rattle.lassos.specs.Sweeps.{Filled, Partial, Runs, StillFrom, Swept, joined_at, leads, letter_leads, meet, room}
use Rattle.lassos.proofs.Joins.{join_in, join_keeps, join_out, join_rises, join_small, room_set}
use Rattle.lassos.proofs.Words.{bit_below, meet_in, meet_out}

-- a follower is a position
pub after_in : (n a i : ℕ) → a < n → i < n → after n a i < n
after_in n a i la li = go (eqb (i + 1) n) refl
  where
    go : (b : Bool) → eqb (i + 1) n ≡ b → cond b a (i + 1) < n
    go true e = la
    go false e = let other : ¬ (i + 1 ≡ n) = eqb-false (i + 1) n e in omega arith

-- what holds of each word, and of one that is put at position i
at_set : (P : ℕ → ℕ → Type 0) (sets : List ℕ) (n i v : ℕ) → length sets ≡ n → i < n → ((j : ℕ) → j < n → P j (get_or sets j 0)) → P i v → (j : ℕ) → j < n → P j (get_or (set sets i v) j 0)
at_set P sets n i v size li each here j lj = go (cases_eq j i)
  where
    go : (j ≡ i) ⊎ (j ≡ i → ⊥) → P j (get_or (set sets i v) j 0)
    go (inl e) =
        let same : get_or (set sets i v) i 0 ≡ v = get_or-set_same sets i v 0 (omega arith) in
        subst (λ k. P k (get_or (set sets i v) k 0)) (sym e) (subst (P i) (sym same) here)
    go (inr ne) = subst (P j) (sym (get_or-set_other sets i j v 0 ne)) (each j lj)

module _ (row : ConnectiveRow) (operands bits : List ℕ) (a : ℕ) where
  -- a state that leads on to states from which the connective is fulfilled
  lead_runs : (i q there : ℕ) → q < row.states → ((r : ℕ) → T (bit there r) → Runs row operands bits a r (after (length bits) a i)) →
      T (leads row operands (get_or bits i 0) there q) → Runs row operands bits a q i
  lead_runs i q there lt rests t =
      let C : Connective = connective_of row in
      let O : ℕ → ℕ → Type 0 = λ letter j. T (bit (get_or bits j 0) (get_or operands letter 0)) in
      let L : Line = round (λ _. 0) (length bits) a in
      let found = some_out row.letters (letter_leads row operands (get_or bits i 0) there q) t in
      let x : ℕ = found.0 in
      let word : ℕ = get_or row.moves (4 * q + x) 0 in
      let both = and_T (bit (get_or bits i 0) (get_or operands x 0)) (meet word there) found.2 in
      let to = meet_out word there both.1 in
      let rest = rests to.0 to.2 in
      let state = from_fits C O L to.0 (after (length bits) a i) rest in
      fold_step C O L q i (record {
        letter = x;
        to = to.0;
        letter_fits = found.1;
        from_fits = lt;
        may = T_and (ltb q row.states) _ (lt→ltb q row.states lt)
            (T_and (ltb x row.letters) _ (lt→ltb x row.letters found.1) (T_and (ltb to.0 row.states) _ (lt→ltb to.0 row.states state) to.1));
        holds = both.0;
        rest = rest;
      })

  -- one position
  partial_join : (sets : List ℕ) (i : ℕ) → a < length bits → length sets ≡ length bits → i < length bits →
      Partial row operands bits a sets → Partial row operands bits a (set sets i (joined_at row operands bits a sets i))
  partial_join sets i la size li p = record {
    small = at_set (λ j w. w < 256) sets (length bits) i new size li p.small (join_small row operands here there was row.states row.few_states (p.small i li));
    finals = λ j q lt t. at_set (λ j w. T (bit w q)) sets (length bits) i new size li (λ j lj. p.finals j q lj t) (join_keeps row operands here there was row.states q (p.finals i q li t)) j lt;
    runs = λ j q lt. at_set (λ j w. T (bit w q) → Runs row operands bits a q j) sets (length bits) i new size li (λ j lj. p.runs j q lj) (joins q) j lt;
  }
    where
      here : ℕ
      here = get_or bits i 0

      there : ℕ
      there = get_or sets (after (length bits) a i) 0

      was : ℕ
      was = get_or sets i 0

      new : ℕ
      new = joined_at row operands bits a sets i

      joins : (q : ℕ) → T (bit new q) → Runs row operands bits a q i
      joins q t = ⊎_elim
          (λ w. p.runs i q li w)
          (λ s. lead_runs i q there s.0 (λ r u. p.runs (after (length bits) a i) r (after_in (length bits) a i la li) u) s.1)
          (join_out row operands here there was row.states q t)

  -- the final states alone
  pub partial_start : (sets : List ℕ) → row.finals < 2 ^ row.states → ((i : ℕ) → i < length bits → get_or sets i 0 ≡ row.finals) → Partial row operands bits a sets
  partial_start sets are_states at = record {
    small = λ i lt. omega (arith, at i lt, low);
    finals = λ i q lt t. subst (λ w. T (bit w q)) (sym (at i lt)) t;
    runs = λ i q lt t. let f : T (bit row.finals q) = subst (λ w. T (bit w q)) (at i lt) t in fold_final C O L q i (bit_below row.finals row.states q are_states f) f;
  }
    where
      C : Connective
      C = connective_of row

      O : ℕ → ℕ → Type 0
      O letter j = T (bit (get_or bits j 0) (get_or operands letter 0))

      L : Line
      L = round (λ _. 0) (length bits) a

      low : row.finals < 256
      low = ⊎_elim
          (λ l. let p = pow-lt l in omega (arith, are_states))
          (λ g. let s : row.states ≡ 8 = omega (arith, row.few_states) in let p = ap (λ x. 2 ^ x) s in omega (arith, are_states))
          (cases_lt row.states 8)

  module _ (was sets sets' : List ℕ) (i : ℕ) (more r : Bool) (la : a < length bits) (size : length sets ≡ length bits) (some : 0 < i) (li : i ≤ length bits)
      (s : Swept row operands bits a was sets i more)
      (becomes : sets' ≡ set sets (i - 1) (joined_at row operands bits a sets (i - 1)))
      (is : r ≡ not (eqb (joined_at row operands bits a sets (i - 1)) (get_or sets (i - 1) 0))) where
    -- something joined
    pub swept_more : r ≡ true → Swept row operands bits a was sets' (i - 1) true
    swept_more e = record {
      partial = subst (Partial row operands bits a) (sym becomes) (partial_join sets (i - 1) la size (omega arith) s.partial);
      grown = λ _. ⊎_elim (λ t. omega (arith, less, s.grown t)) (λ f. omega (arith, less, ap room (s.kept f))) (cases_Bool more);
      kept = λ f. absurd (both_ways _ f refl);
      still = λ f. absurd (both_ways _ f refl);
    }
      where
        old : ℕ
        old = get_or sets (i - 1) 0

        new : ℕ
        new = joined_at row operands bits a sets (i - 1)

        other : new ≡ old → ⊥
        other = eqb-false new old (not-true (eqb new old) (sym is ∙ e))

        up : old < new
        up = let le : old ≤ new = join_rises row operands (get_or bits (i - 1) 0) (get_or sets (after (length bits) a (i - 1)) 0) old row.states in
            ⊎_elim (λ l. l) (λ g. absurd (other (omega arith))) (cases_lt old new)

        less : room sets' < room sets
        less = subst (λ xs. room xs < room sets) (sym becomes) (room_set sets (i - 1) new (omega arith) up (s.partial.small (i - 1) (omega arith)))

    -- nothing joined
    pub swept_same : r ≡ false → Swept row operands bits a was sets' (i - 1) more
    swept_same e = subst (λ xs. Swept row operands bits a was xs (i - 1) more) (sym unchanged) (record {
      partial = s.partial;
      grown = s.grown;
      kept = s.kept;
      still = λ f j le lt. ⊎_elim
          (λ q. subst (λ k. joined_at row operands bits a sets k ≡ get_or sets k 0) (sym q) here)
          (λ ne. s.still f j (omega arith) lt)
          (cases_eq j (i - 1));
    })
      where
        here : joined_at row operands bits a sets (i - 1) ≡ get_or sets (i - 1) 0
        here = eqb-true _ _ (not-false (eqb (joined_at row operands bits a sets (i - 1)) (get_or sets (i - 1) 0)) (sym is ∙ e))

        unchanged : sets' ≡ sets
        unchanged = becomes ∙ ap (set sets (i - 1)) here ∙ set-get_or sets (i - 1) 0

  -- sets that a sweep leaves as they are have every state from which the connective is fulfilled
  pub filled : (sets : List ℕ) → a < length bits → Partial row operands bits a sets → StillFrom row operands bits a sets 0 → Filled row operands bits a sets
  filled sets la p still i q lt = (p.runs i q lt, λ f. go f.word f.run q i lt f.accepts f.operands)
    where
      go : (word : List ℕ) (run : ℕ → ℕ) (q i : ℕ) → i < length bits → Accepts (connective_of row) q word run →
          ((j : ℕ) → j < length word → T (bit (get_or bits (later (round (λ _. 0) (length bits) a) j i) 0) (get_or operands (get_or word j 0) 0))) → T (bit (get_or sets i 0) q)
      go [] run q i lt acc ops = p.finals i q lt (subst (λ z. T (bit row.finals z)) acc.starts acc.ends)
      go (x ∷ word) run q i lt acc ops =
          let there : ℕ = get_or sets (after (length bits) a i) 0 in
          let mask : ℕ = get_or row.moves (4 * q + x) 0 in
          let rest : T (bit there (run 1)) = go word (λ j. run (suc j)) (run 1) (after (length bits) a i) (after_in (length bits) a i la lt) (rest_accepts (connective_of row) q x word run acc) (λ j h. ops (suc j) (suc-le-suc h)) in
          let may : T ((connective_of row).may q x (run 1)) = subst (λ z. T ((connective_of row).may z x (run 1))) acc.starts (acc.moves 0 (suc-le-suc zero-le)) in
          let m = and_T (ltb q row.states) _ may in
          let n = and_T (ltb x row.letters) _ m.1 in
          let k = and_T (ltb (run 1) row.states) _ n.1 in
          let lead : T (leads row operands (get_or bits i 0) there q) = some_in row.letters (letter_leads row operands (get_or bits i 0) there q) x (acc.letters 0 (suc-le-suc zero-le)) (T_and (bit (get_or bits i 0) (get_or operands x 0)) (meet mask there) (ops 0 (suc-le-suc zero-le)) (meet_in mask there (run 1) k.1 rest)) in
          subst (λ w. T (bit w q)) (still i zero-le lt) (join_in row operands (get_or bits i 0) there (get_or sets i 0) row.states q (ltb→lt q row.states m.0) lead)
