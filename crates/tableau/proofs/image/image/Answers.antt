use mathlib.Core.Path.{sym, ◌∙◌}
use mathlib.Core.List.{List}
use mathlib.Core.Logic.{inl, inr}
use Prim.Native.Nat.{ℕ}
use lib.ListN.{length}
use Rattle.masks.proofs.Bits.{put_one}
use Rattle.tableau.proofs.Images.{hit_start, hit_one, hit_none}
use Rattle.tableau.proofs.image.image.Goals as goal
use Rattle.tableau.proofs.image.image.Goals.{then-has+then-r-to, else-has, else-has-via-then-has+else-r-to, else-has-via-else-has}

pub loop-q-init : goal.loop-q-init
loop-q-init c = hit_start c.args.mask (length c.args.to.now) c.args.to.now

pub loop-q-preserved : goal.loop-q-preserved
loop-q-preserved c =
    let mask : ℕ = c.args.mask in
    let to : List ℕ = c.args.to.now in
    let q : ℕ = c.loop-q.q in
    elim c.if-has.branch [
      | then-has+then-r-to w ↦ w.out-is ∙ put_one _ _ _ w.put-out.ensures.number ∙ hit_one mask to q c.loop-q.out w.if-r-to.true (sym w.if-has.ensures) c.loop-q.invariant
      | else-has w ↦
          w.out-is ∙ hit_none mask to q c.loop-q.out (elim w.else-has.branch [
            | else-has-via-then-has+else-r-to w' ↦ inr w'.if-r-to.false
            | else-has-via-else-has w' ↦ inl (sym w'.if-has.ensures)
          ]) c.loop-q.invariant
    ]
