use Rattle.std.proofs.Common.{refl, ◌∙◌, Ok}
use Rattle.std.proofs.lemmas.Result.{err_from_is_err_and}
use Rattle.models.proofs.Lines.{fault_told, said_told}
use Rattle.models.proofs.entries.said_in.Goals as goal

pub returns-in_err-said : goal.returns-in_err-said
returns-in_err-said g c = λ frame reads.
    let p = err_from_is_err_and c.from_residual-in_err-said.result c.from_residual-in_err-said.ensures.1 in
    rw (p.1, p.2) (fault_told frame reads.enough c.args.line.now c.in_ok-digits.digits.now _ c.in_ok-digits.ensures (c.as_slice.ensures ∙ c.of-bytes.ensures) _ (reads.is _ _ (c.as_slice.result, c.in_err-said.ensures, refl)))

pub returns : goal.returns
returns g c = λ frame reads.
    said_told frame reads.enough c.args.line.now c.in_ok-digits.digits.now _ c.in_ok-digits.ensures (c.as_slice.ensures ∙ c.of-bytes.ensures) _ (reads.is _ (Ok c.in_ok-said.said) (c.as_slice.result, c.in_ok-said.ensures, refl))
