-- A path of masks of `mask_width` bits is one where each mask is the back mask of the vertex after it.
use Rattle.std.proofs.Common.{◌≡◌, ℕ, ◌^◌, ◌<◌, Bool, T, ◌↔◌, sym, ap, ◌∙◌}
use Rattle.masks.specs.Masks.{bit}
use Rattle.language.specs.Properties.{Property}
use Rattle.logic.specs.Truth.{Line}
use Rattle.logic.specs.Product.{back, back_mask, mask_width}
use Rattle.logic.specs.Paths.{ProductPath}
use Rattle.logic.proofs.Masks.{mask_bit, mask_same, mask_whole}

pub back_steps : (f : Property) (l : Line) (D : ℕ → Bool) (mask : ℕ → ℕ) → ((i : ℕ) → mask i < 2 ^ mask_width f) →
    ProductPath f l D mask ↔ ((i : ℕ) → T (D i) → mask i ≡ back_mask f (l.label (l.after i)) (mask (l.after i)))
back_steps f l D mask fits = (
  λ path i d. sym (mask_whole (mask_width f) (mask i) (fits i))
      ∙ mask_same (mask_width f) (bit (mask i)) (back f (l.label (l.after i)) (mask (l.after i))) (path i d),
  λ same i d b w. ap (λ K. bit K b) (same i d) ∙ mask_bit (mask_width f) (back f (l.label (l.after i)) (mask (l.after i))) b w,
)
