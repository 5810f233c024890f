use Rattle.std.proofs.Common.{arith}
use Rattle.frames.proofs.Written.{writes_as, writes_both}
use Rattle.report.proofs.Words.{words_more}
use Rattle.report.proofs.lines.put_words.Goals as goal

pub loop-w-preserved : goal.loop-w-preserved
loop-w-preserved c = record {
  wrote = writes_as (words_more c.args.words.now c.loop-w.w-index c.loop-w-test.true) (writes_both c.loop-w.invariant.wrote c.put_word.ensures);
  near = omega (arith, c.loop-w.invariant.near, c.put_word.ensures.place);
}
