use Rattle.std.proofs.Common.{ℕ, ◌<◌, ◌≤◌, length, sym, ◌∙◌, subst}
use Rattle.graphs.proofs.Finders.{same_since, still_room}
use Rattle.kripke.specs.Models.{Kripke}
use Rattle.obligations.specs.Shapes.{layered_vertices, model_in, property_in}
use Rattle.tableau.specs.Numbers.{vertices}
use Rattle.loops.proofs.Places.{later}
use Rattle.loops.proofs.Rooms.{visit_long, visit_room}
use Rattle.loops.proofs.accepted.Accepted.visit_all.Goals as goal

pub visit-stands-requires : goal.visit-stands-requires
visit-stands-requires g c =
    let m : Kripke = model_in (record { states = g.M.Graph.states; edge = g.M.Graph.edge; marking = g.M.Model.marking }) c.args.self.now.obligations.inside in
    let f = property_in c.args.self.now.obligations.inside in
    let inv = c.loop-j.invariant in
    let more : c.loop-j.j < m.sets = subst (λ n. c.loop-j.j < n) c.fair_sets-j-end.ensures.is c.loop-j-test.true in
    record {
      setting = c.requires.setting;
      finder = still_room _ _ (layered_vertices m f) inv.4 c.requires.finder;
      list = subst (λ n. vertices m f ≤ n) (sym inv.5) c.requires.list;
      room = visit_room (vertices m f) m.sets c.args.at c.loop-j.stands.at c.loop-j.j (length c.loop-j.words) (length c.args.words.now) c.requires.room c.loop-j.auto.words more inv.2;
      set = more;
      visited = inv.0;
    }

pub loop-j-preserved : goal.loop-j-preserved
loop-j-preserved g c =
    let m : Kripke = model_in (record { states = g.M.Graph.states; edge = g.M.Graph.edge; marking = g.M.Model.marking }) c.args.self.now.obligations.inside in
    let n : ℕ = vertices m (property_in c.args.self.now.obligations.inside) in
    let inv = c.loop-j.invariant in
    let made = c.visit-stands.ensures in
    let here : ℕ = c.loop-j.stands.at in
    let next : ℕ = c.visit-stands.result.at in
    let long = visit_long n c.args.at here next c.loop-j.j inv.1 inv.2 made.further.0 made.further.1 in (
      made.visited,
      long.0,
      long.1,
      made.rest ∙ later here next c.loop-j.words c.args.words.now made.further.0 inv.3,
      same_since _ _ _ inv.4 made.finder,
      c.visit-stands.auto.list ∙ inv.5,
    )
