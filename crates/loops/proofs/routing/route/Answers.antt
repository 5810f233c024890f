use Rattle.std.proofs.Common.{◌≡◌, ◌+◌, ◌-◌, ◌≤◌, length, ◌∙◌, arith, length-drop, length-take}
use Rattle.graphs.specs.Paths.{Found}
use Rattle.loops.proofs.Found.{some_from}
use Rattle.loops.proofs.Routes.{routed}
use Rattle.loops.proofs.routing.route.Goals as goal

pub unwrap-requires : goal.unwrap-requires
unwrap-requires g c = some_from (Found (g.G.Graph.edge c.args.g.now) c.args.from c.args.to _ c.find.new.list) c.find.result c.find.ensures.found (λ h. h.0 c.requires.reached.0 c.requires.reached.1)

pub returns-clause-routed : goal.returns-clause-routed
returns-clause-routed g c =
    let fits : c.args.at + c.args.room ≤ length c.args.words.now = c.requires.room.1 in
    let room : c.args.at + c.args.room - c.args.at ≡ c.args.room = omega arith in
    let long : length c.find.new.list ≡ c.args.at + c.args.room - c.args.at = c.find.auto.list ∙ simp (length-take, length-drop) (omega arith) in
    routed (g.G.Graph.edge c.args.g.now) c.args.from c.args.to c.args.at c.args.room (c.args.at + c.args.room - c.args.at) c.unwrap.result c.args.words.now c.find.new.list room fits long
    (rw c.unwrap.ensures at c.find.ensures.found)
