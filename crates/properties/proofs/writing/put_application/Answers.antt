use Rattle.std.proofs.Common.{◌≡◌, ℕ, List, [], ◌∷◌, length, ap, rules}
use Rattle.language.specs.Canonical.{text_of}
use Rattle.frames.proofs.Written.{writes_as}
use Rattle.properties.proofs.Shown.{applied}
use Rattle.properties.proofs.writing.put_application.Goals as goal

pub returns-clause-line : goal.returns-clause-line
returns-clause-line c =
    let long : length c.args.operands ≡ 4 = search rules in
    writes_as (ap (λ (line : List ℕ). text_of (line ∷ [])) (applied 0x25 c.args.connective c.min.result c.args.arity c.args.operands long c.min.ensures)) c.put_line.ensures.line
