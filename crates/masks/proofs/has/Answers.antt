use Rattle.std.proofs.Common.{sym, ◌∙◌, arith}
use Rattle.std.proofs.lemmas.Bool.{le-ltb}
use Rattle.masks.proofs.Bits.{bit_above}
use Rattle.masks.proofs.has.Goals as goal

pub returns-else-k-lt32 : goal.returns-else-k-lt32
returns-else-k-lt32 c = le-ltb c.args.k 32 c.if-k-lt32.false ∙ sym (bit_above c.args.word 32 c.args.k (omega arith) c.if-k-lt32.false)
