use Rattle.std.proofs.Common.{◌≡◌, ◌+◌, ◌*◌, ◌<◌, length, take, sym, ◌∙◌, arith}
use Rattle.std.proofs.lemmas.List.{length-set}
use Rattle.frames.specs.Lines.{spelt}
use Rattle.frames.proofs.Spelling.{head_more, head_whole, length_spelt}
use Rattle.frames.proofs.lines.Bytes.of.Goals as goal

pub loop-k-preserved : goal.loop-k-preserved
loop-k-preserved c =
    let lt : c.loop-k.k < 7 = omega arith in
    let within : 2 * c.loop-k.k + 1 < length c.args.digits.now = omega arith in (
      head_more c.loop-k.head c.args.digits.now c.loop-k.k c.byte_of.result c.loop-k.invariant.1 lt within c.byte_of.ensures c.loop-k.invariant.0,
      length-set c.loop-k.head c.loop-k.k _ ∙ c.loop-k.invariant.1,
    )

pub returns : goal.returns
returns c =
    let e : c.loop-k.k ≡ c.min-len.result = omega arith in
    let same : take c.min-len.result c.loop-k.head ≡ take c.min-len.result (spelt c.args.digits.now) = rw (sym e) c.loop-k.invariant.0 in
    head_whole c.loop-k.head (spelt c.args.digits.now) c.min-len.result 7 _ (length_spelt c.args.digits.now) c.min-len.ensures same
