-- The image of a mask, as a loop makes it.
use mathlib.Core.Path.{◌≡◌, refl, sym, ap, subst, ◌∙◌}
use mathlib.Core.Bool.{Bool, true, false, cond, not, ◌&&◌, ◌||◌}
use mathlib.Core.List.{List}
use mathlib.Core.Logic.{◌⊎◌, inl, inr}
use Prim.Native.Nat.{ℕ, zero, suc, ◌+◌, ◌^◌, ◌<◌, ◌≤◌}
use native.Mathlib.Nat.{zero-mul}
use native.Mathlib.Numerals.{add-one}
use native.Mathlib.Omega.{arith}
use lib.Dec.{T, eqb, eqb→eq, eqb_refl}
use lib.ListN.{length, get_or}
use Rattle.masks.specs.Masks.{bit}
use Rattle.language.specs.Properties.{connective_at}
use Rattle.logic.specs.Product.{mask_of, some_below}
use Rattle.logic.proofs.Bools.{T_same, T_and, and_T, T_or_left, T_or_right, or_T, some_in, some_out}
use Rattle.logic.proofs.Masks.{mask_bit, mask_same}
use Rattle.tableau.specs.Rounds.{without, carry}
use Rattle.tableau.specs.Images.{hits, CarriedByTable}
use Rattle.tableau.proofs.Tests.{T_not, not_T}
use Rattle.tableau.proofs.Masking.{mask_without}

-- one bit more
pub mask_put : (n : ℕ) (g : ℕ → Bool) (r : ℕ) → r < n →
    cond (bit (mask_of n g) r) (mask_of n g) (mask_of n g + 2 ^ r) ≡ mask_of n (λ i. eqb r i || g i)
mask_put n g r h = ap (λ (b : Bool). cond b (mask_of n g) (mask_of n g + 2 ^ r)) (mask_bit n g r h) ∙ go (g r) refl
  where
    put : ℕ → Bool
    put i = eqb r i || g i

    go : (b : Bool) → g r ≡ b → cond b (mask_of n g) (mask_of n g + 2 ^ r) ≡ mask_of n put
    go true e =
        mask_same n g put (λ i lt. T_same (g i) (put i) (λ t. T_or_right (eqb r i) (g i) t) (λ t. back i (or_T (eqb r i) (g i) t)))
      where
        back : (i : ℕ) → T (eqb r i) ⊎ T (g i) → T (g i)
        back i (inl s) = subst (λ j. T (g j)) (eqb→eq r i s) (subst T (sym e) tt)
        back i (inr s) = s
    go false e =
        ap (λ x. x + 2 ^ r) (mask_same n g (without r put) (λ i lt. T_same (g i) (without r put i) (forth i) (λ t. back i (and_T (put i) (not (eqb i r)) t))))
        ∙ sym (mask_without n put r h (T_or_left (eqb r r) (g r) (eqb_refl r)))
      where
        forth : (i : ℕ) → T (g i) → T (without r put i)
        forth i t = T_and (put i) (not (eqb i r)) (T_or_right (eqb r i) (g i) t) (T_not (eqb i r) (λ s. subst T e (subst (λ j. T (g j)) (eqb→eq i r s) t)))

        back : (i : ℕ) → T (put i) × T (not (eqb i r)) → T (g i)
        back i (s, ne) = pick (or_T (eqb r i) (g i) s)
          where
            pick : T (eqb r i) ⊎ T (g i) → T (g i)
            pick (inl same) = absurd (not_T (eqb i r) ne (subst (λ j. T (eqb i j)) (sym (eqb→eq r i same)) (eqb_refl i)))
            pick (inr t) = t

-- a member that the table leads to a number below its end
pub hit_one : (mask : ℕ) (to : List ℕ) (q out : ℕ) → get_or to q 0 < length to → bit mask q ≡ true → out ≡ mask_of (length to) (hits mask to q) →
    cond (bit out (get_or to q 0)) out (out + 2 ^ get_or to q 0) ≡ mask_of (length to) (hits mask to (q + 1))
hit_one mask to q out h set is =
    ap (λ x. cond (bit x (get_or to q 0)) x (x + 2 ^ get_or to q 0)) is ∙ mask_put (length to) (hits mask to q) (get_or to q 0) h
    ∙ ap (λ (b : Bool). mask_of (length to) (λ r. (b && eqb (get_or to q 0) r) || hits mask to q r)) (sym set)
    ∙ ap (λ k. mask_of (length to) (hits mask to k)) (sym (add-one q))

-- no member, or one that the table leads past its end
pub hit_none : (mask : ℕ) (to : List ℕ) (q out : ℕ) → (bit mask q ≡ false) ⊎ (length to ≤ get_or to q 0) → out ≡ mask_of (length to) (hits mask to q) →
    out ≡ mask_of (length to) (hits mask to (q + 1))
hit_none mask to q out why is =
    is ∙ mask_same (length to) (hits mask to q) (hits mask to (suc q)) (λ r lt. T_same (hits mask to q r) (hits mask to (suc q) r)
    (λ t. T_or_right (bit mask q && eqb (get_or to q 0) r) (hits mask to q r) t) (λ t. pick r lt why (or_T (bit mask q && eqb (get_or to q 0) r) (hits mask to q r) t)))
    ∙ ap (λ k. mask_of (length to) (hits mask to k)) (sym (add-one q))
  where
    pick : (r : ℕ) → r < length to → (bit mask q ≡ false) ⊎ (length to ≤ get_or to q 0) → T (bit mask q && eqb (get_or to q 0) r) ⊎ T (hits mask to q r) → T (hits mask to q r)
    pick r lt why (inr t) = t
    pick r lt (inl clear) (inl t) = absurd (subst T clear (and_T (bit mask q) (eqb (get_or to q 0) r) t).0)
    pick r lt (inr far) (inl t) = let z : get_or to q 0 ≡ r = eqb→eq (get_or to q 0) r (and_T (bit mask q) (eqb (get_or to q 0) r) t).1 in absurd (omega arith)

pub carried_by : CarriedByTable
carried_by m f k c is u M to size table =
    subst (λ n. mask_of (length to) (hits M to (length to)) ≡ mask_of n (λ r. not (F r) && some_below n (λ q. bit M q && eqb (carry m f k c is u q) r))) size
    (mask_same (length to) (hits M to (length to)) (λ r. not (F r) && some_below (length to) (go_to r)) (λ r lt. T_same (hits M to (length to) r) (not (F r) && some_below (length to) (go_to r)) (forth r lt) (back r lt)))
  where
    F : ℕ → Bool
    F r = bit (connective_at f.connectives c).finals r

    go_to : ℕ → ℕ → Bool
    go_to r q = bit M q && eqb (carry m f k c is u q) r

    in_table : ℕ → ℕ → Bool
    in_table r q = bit M q && eqb (get_or to q 0) r

    -- what the table says of a state
    entry : (b : Bool) (x y r : ℕ) → r < length to → y ≡ cond b (length to) x → y ≡ r → (b ≡ false) × (x ≡ r)
    entry true x y r lt e s = let z : y ≡ length to = e in absurd (omega arith)
    entry false x y r lt e s = (refl, sym e ∙ s)

    forth : (r : ℕ) → r < length to → T (some_below (length to) (in_table r)) → T (not (F r) && some_below (length to) (go_to r))
    forth r lt t =
        let q = some_out (length to) (in_table r) t in
        let both = and_T (bit M q.0) (eqb (get_or to q.0 0) r) q.2 in
        let says = entry (F (carry m f k c is u q.0)) (carry m f k c is u q.0) (get_or to q.0 0) r lt (table q.0 q.1) (eqb→eq (get_or to q.0 0) r both.1) in
        T_and (not (F r)) (some_below (length to) (go_to r)) (T_not (F r) (λ s. subst T says.0 (subst (λ x. T (F x)) (sym says.1) s)))
        (some_in (length to) (go_to r) q.0 q.1 (T_and (bit M q.0) (eqb (carry m f k c is u q.0) r) both.0 (subst (λ x. T (eqb (carry m f k c is u q.0) x)) says.1 (eqb_refl (carry m f k c is u q.0)))))

    back : (r : ℕ) → r < length to → T (not (F r) && some_below (length to) (go_to r)) → T (some_below (length to) (in_table r))
    back r lt t =
        let parts = and_T (not (F r)) (some_below (length to) (go_to r)) t in
        let q = some_out (length to) (go_to r) parts.1 in
        let both = and_T (bit M q.0) (eqb (carry m f k c is u q.0) r) q.2 in
        let same : carry m f k c is u q.0 ≡ r = eqb→eq (carry m f k c is u q.0) r both.1 in
        let at-r : get_or to q.0 0 ≡ r = table q.0 q.1 ∙ ap (λ x. cond (F x) (length to) x) same ∙ keeps (F r) r (not_T (F r) parts.0) in
        some_in (length to) (in_table r) q.0 q.1 (T_and (bit M q.0) (eqb (get_or to q.0 0) r) both.0 (subst (λ x. T (eqb x r)) (sym at-r) (eqb_refl r)))
      where
        keeps : (b : Bool) (r : ℕ) → (¬ T b) → cond b (length to) r ≡ r
        keeps true r n = absurd (n tt)
        keeps false r n = refl

-- at first nothing is hit
pub hit_start : (mask n : ℕ) (to : List ℕ) → 0 ≡ mask_of n (hits mask to 0)
hit_start mask zero to = refl
hit_start mask (suc n) to = let rest : 0 ≡ mask_of n (hits mask to 0) = hit_start mask n to in omega (arith, zero-mul (2 ^ n))
