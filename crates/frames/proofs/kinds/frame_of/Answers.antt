use Rattle.std.proofs.Common.{ap, ◌∙◌}
use Rattle.frames.specs.Frames.{frame_of_bytes}
use Rattle.frames.specs.Lines.{spelt}
use Rattle.frames.proofs.Framing.{head_enough}
use Rattle.frames.proofs.kinds.frame_of.Goals as goal

pub returns : goal.returns
returns c = c.frame_by_kind.ensures ∙ ap (frame_of_bytes c.args.number) (c.as_slice.ensures ∙ c.of-bytes.ensures) ∙ head_enough c.args.number (spelt c.args.digits.now)
