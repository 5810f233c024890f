use Rattle.docket.specs.Views.{view}
use Rattle.docket.proofs.Twice.{agreed}
use Rattle.docket.proofs.agreeing.check_twice.Goals as goal

pub returns : goal.returns
returns g c =
    agreed
    (view c.new-docket.result) (view c.respond.new.self) (view c.respond-first.new.self) (view c.respond-second.new.self)
    _ _ c.requires c.new-docket.ensures _ c.respond.ensures.law _ _ _ _ c.respond-first.result c.respond-second.result _ _
    c.respond-first.ensures.law c.respond-second.ensures.law
