use Rattle.std.proofs.Common.{◌*◌, ◌≤◌, length, arith}
use Rattle.graphs.proofs.Finders.{same_since, same_words, still_room}
use Rattle.kripke.specs.Models.{Kripke}
use Rattle.logic.specs.Product.{mask_width}
use Rattle.obligations.specs.Shapes.{index_in, layered_vertices, model_in, property_in, set_in}
use Rattle.tableau.specs.Numbers.{vertices}
use Rattle.loops.proofs.Budgets.{pending_is, round_ready, way_begins, way_ends, way_on}
use Rattle.loops.proofs.Rounded.{counted}
use Rattle.loops.proofs.accepted.Accepted.node_rounds.Goals as goal

pub pending-requires : goal.pending-requires
pending-requires g c = counted c.args.self.now.obligations.inside.product.now.plan.now.property c.args.k c.requires.node

pub loop-done-init : goal.loop-done-init
loop-done-init g c =
    let inside = c.args.self.now.obligations.inside in
    let m : Kripke = model_in (record { states = g.M.Graph.states; edge = g.M.Graph.edge; marking = g.M.Model.marking }) inside in
    let f = property_in inside in (
      way_begins m f (set_in inside) c.args.self.now.x c.args.k c.args.at c.pending.result (index_in inside) c.args.words.now c.requires.setting c.requires.done
          (pending_is m f c.size-masks.result c.label-label.result c.args.self.now.x c.args.k c.pending.result c.size-masks.ensures.is c.label-label.ensures.is c.pending.ensures),
      same_words _,
    )

pub round-done-requires : goal.round-done-requires
round-done-requires g c =
    let inside = c.args.self.now.obligations.inside in
    let m : Kripke = model_in (record { states = g.M.Graph.states; edge = g.M.Graph.edge; marking = g.M.Model.marking }) inside in
    let f = property_in inside in
    let taken = c.loop-done-test.true in
    let kept = c.loop-done.auto.words in
    let room : mask_width f * mask_width f * vertices m f ≤ length c.args.words.now = c.requires.room in
    record {
      setting = c.requires.setting;
      finder = still_room _ _ (layered_vertices m f) c.loop-done.invariant.1 c.requires.finder;
      ready = round_ready m f (set_in inside) c.args.self.now.x c.args.k c.args.at c.args.words.now c.loop-done.done c.loop-done.words c.requires.node c.loop-done.invariant.0
          (omega arith) (omega arith);
    }

pub loop-done-preserved : goal.loop-done-preserved
loop-done-preserved g c =
    let inside = c.args.self.now.obligations.inside in
    let m : Kripke = model_in (record { states = g.M.Graph.states; edge = g.M.Graph.edge; marking = g.M.Model.marking }) inside in
    let taken = c.loop-done-test.true in (
      way_on m (property_in inside) (set_in inside) c.args.self.now.x c.args.k c.args.at c.args.words.now c.loop-done.done c.loop-done.words c.requires.node c.loop-done.invariant.0 (omega arith)
          c.round-done.new.words c.round-done.result c.round-done.ensures.made,
      same_since _ _ _ c.loop-done.invariant.1 c.round-done.ensures.finder,
    )

pub returns : goal.returns
returns g c =
    let inside = c.args.self.now.obligations.inside in
    let m : Kripke = model_in (record { states = g.M.Graph.states; edge = g.M.Graph.edge; marking = g.M.Model.marking }) inside in
    record {
      done = way_ends m (property_in inside) (set_in inside) c.args.self.now.x c.args.k c.args.at c.args.words.now c.loop-done.done c.loop-done.words c.requires.node c.loop-done.invariant.0
          c.loop-done-test.false;
      further = c.loop-done.invariant.0.further;
      rest = c.loop-done.invariant.0.rest;
      finder = c.loop-done.invariant.1;
    }

pub loop-done-smaller : goal.loop-done-smaller
loop-done-smaller g c = c.round-done.ensures.made.fewer
