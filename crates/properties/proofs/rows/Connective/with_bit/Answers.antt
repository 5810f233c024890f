use Rattle.std.proofs.Common.{◌≡◌, ◌+◌, ◌*◌, length, get_or, refl, ap, ◌∙◌, arith, rules}
use lib.Bits.{bit_or}
use Rattle.std.proofs.lemmas.Nat.{one_shl}
use Rattle.properties.specs.Views.{connective_of}
use Rattle.properties.proofs.Moves.{changed, row_with}
use Rattle.properties.proofs.rows.Connective.with_bit.Goals as goal

pub returns : goal.returns
returns c =
    let row = c.args.self in
    let p = c.args.p in
    let a = c.args.a in
    let r = c.args.r in
    let h = c.requires.range in
    let word : length c.args.self.moves ≡ 32 = search rules in
    let bit = one_shl r 8 (omega arith) in
    record {
      moves =
          ap (λ v. connective_of (changed row (4 * p + a) (bit_or (get_or row.moves (4 * p + a) 0) v))) bit
          ∙ row_with row p a r (omega arith) h.0 h.1.0 h.1.1;
      size = (refl, refl);
    }
