-- The lemmas for the positions of a lasso.
use Rattle.std.proofs.Common.{◌≡◌, ℕ, zero, suc, ◌+◌, ◌-◌, ◌<◌, ◌≤◌, T, ap, ◌∙◌, arith, ltb→lt, lt→ltb}
use Rattle.kripke.specs.Models.{Kripke}
use Rattle.kripke.specs.Lassos.{Lasso, follower}
use Rattle.language.specs.Properties.{Property}
use Rattle.logic.specs.Truth.{later, root}
use Rattle.logic.specs.OnLassos.{lasso_line}
use Rattle.logic.specs.Paths.{Closed, Fulfils, FulfilsAt, ProductPath, in_lasso}
use Rattle.logic.specs.Laws.{MayDecide, NoneInProduct, ProductFalsifies}
use Rattle.logic.proofs.Fits.{root_in}
use Rattle.logic.proofs.Followers.{follower_in, last_follower, next_follower}
use Rattle.logic.proofs.TruthLemma.{truth_lemma}
use Rattle.logic.proofs.Shadows.{shadow}
use Rattle.logic.proofs.NotNot.{bits_decided}
use Rattle.logic.proofs.Carries.{one_time}

-- the follower of a position is one
pub lasso_closed : (m : Kripke) (p : Lasso) → 1 ≤ p.loop → Closed (lasso_line m p) (in_lasso p)
lasso_closed m p loops i d =
    lt→ltb (follower p i) (p.stem + p.loop) (follower_in p loops i (ltb→lt i (p.stem + p.loop) d))

-- position 0 is one
first_in : (p : Lasso) → 1 ≤ p.loop → T (in_lasso p 0)
first_in p loops = lt→ltb 0 (p.stem + p.loop) (omega arith)

pub may_decide : MayDecide
may_decide m f p = bits_decided f (lasso_line m p) (p.stem + p.loop)

pub product_falsifies : ProductFalsifies
product_falsifies m f p mask wf loops path fulfils no-root holds =
    no-root
    ((truth_lemma f wf (lasso_line m p) (in_lasso p) (lasso_closed m p loops) mask path fulfils (root f) (root_in f wf) 0 (first_in p loops)).1 holds)

pub none_in_product : NoneInProduct
none_in_product m f p wf loops none falsifies =
    may_decide m f p (λ dec.
    let s = shadow f wf (lasso_line m p) (in_lasso p) (lasso_closed m p loops) dec in
    none s.0 s.1 (λ t. falsifies ((s.1.sat_is_truth (root f) (root_in f wf) 0 (first_in p loops)).0 t)))

-- each position comes to the first loop position
pub comes_to_stem : (m : Kripke) (p : Lasso) (j i : ℕ) → suc (j + i) ≡ p.stem + p.loop → later (lasso_line m p) (suc j) i ≡ p.stem
comes_to_stem m p zero i e = last_follower p i (omega arith)
comes_to_stem m p (suc j) i e =
    ap (later (lasso_line m p) (suc j)) (next_follower p i (omega arith)) ∙ comes_to_stem m p j (suc i) (omega arith)

-- so fulfilment there is enough
pub one_time_lasso : (m : Kripke) (f : Property) (p : Lasso) → 1 ≤ p.loop → (mask : ℕ → ℕ) →
    ProductPath f (lasso_line m p) (in_lasso p) mask → FulfilsAt f (lasso_line m p) mask p.stem →
    Fulfils f (lasso_line m p) (in_lasso p) mask
one_time_lasso m f p loops mask path there =
    one_time f (lasso_line m p) (in_lasso p) (lasso_closed m p loops) mask path p.stem
    (λ i d. let h : i < p.stem + p.loop = ltb→lt i (p.stem + p.loop) d in
    (suc (p.stem + p.loop - suc i), comes_to_stem m p (p.stem + p.loop - suc i) i (omega arith)))
    there
