use Rattle.std.proofs.Common.{refl, ◌∙◌, arith, rules}
use Rattle.language.specs.Canonical.{canonical}
use Rattle.language.proofs.ReadsBack.{reads_back}
use Rattle.properties.specs.Meaning.{meaning}
use Rattle.properties.proofs.Formed.{formed}
use Rattle.frames.proofs.Written.{writes_text}
use Rattle.properties.proofs.property.Property.show.Goals as goal

pub returns-then-area-shown_length-clause-back : goal.returns-then-area-shown_length-clause-back
returns-then-area-shown_length-clause-back c = reads_back (meaning c.args.self.now) (formed c.args.self.now)

pub returns-clause-area : goal.returns-clause-area
returns-clause-area c = search rules ∙ (writes_text (canonical (meaning c.args.self.now)) c.put_property.ensures refl (omega (arith, c.shown_length.ensures, c.if-area-shown_length.false))).1

pub returns-clause-back : goal.returns-clause-back
returns-clause-back c = reads_back (meaning c.args.self.now) (formed c.args.self.now)
