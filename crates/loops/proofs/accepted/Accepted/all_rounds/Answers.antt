use Rattle.std.proofs.Common.{◌≡◌, ◌+◌, ◌*◌, ◌<◌, ◌≤◌, length, drop, sym, refl, ◌∙◌, subst, add-one, arith}
use Rattle.graphs.proofs.Finders.{same_since, same_words, still_room}
use Rattle.kripke.specs.Models.{Kripke}
use Rattle.logic.specs.Product.{mask_width}
use Rattle.obligations.specs.Shapes.{index_in, layered_vertices, model_in, property_in, set_in}
use Rattle.properties.proofs.Verdicts.{length_nodes}
use Rattle.tableau.specs.Numbers.{vertices}
use Rattle.loops.specs.Rounding.{NodesDone}
use Rattle.loops.proofs.Budgets.{nodes_begin, nodes_end, nodes_few}
use Rattle.loops.proofs.Places.{later}
use Rattle.loops.proofs.accepted.Accepted.all_rounds.Goals as goal

pub loop-k-init : goal.loop-k-init
loop-k-init g c =
    let inside = c.args.self.now.obligations.inside in
    let m : Kripke = model_in (record { states = g.M.Graph.states; edge = g.M.Graph.edge; marking = g.M.Model.marking }) inside in
    (nodes_begin m (property_in inside) (set_in inside) c.args.self.now.x (index_in inside) c.args.words.now c.requires.setting, refl {a = drop 1 c.args.words.now}, same_words _)

pub node_rounds-at-requires : goal.node_rounds-at-requires
node_rounds-at-requires g c =
    let inside = c.args.self.now.obligations.inside in
    let m : Kripke = model_in (record { states = g.M.Graph.states; edge = g.M.Graph.edge; marking = g.M.Model.marking }) inside in
    let f = property_in inside in
    let kept = c.loop-k.auto.words in
    let room : mask_width f * mask_width f * vertices m f ≤ length c.args.words.now = c.requires.room in
    record {
      setting = c.requires.setting;
      finder = still_room _ _ (layered_vertices m f) c.loop-k.invariant.2 c.requires.finder;
      node = subst (λ n. c.loop-k.k < n) (sym (length_nodes inside.product.now.plan.now.property.rows)) c.loop-k-test.true;
      done = c.loop-k.invariant.0;
      room = omega arith;
    }

pub loop-k-preserved : goal.loop-k-preserved
loop-k-preserved g c =
    let inside = c.args.self.now.obligations.inside in
    let m : Kripke = model_in (record { states = g.M.Graph.states; edge = g.M.Graph.edge; marking = g.M.Model.marking }) inside in
    let further : c.loop-k.at ≤ c.node_rounds-at.result = c.node_rounds-at.ensures.further in (
      subst (λ k. NodesDone m (property_in inside) (set_in inside) c.args.self.now.x k c.node_rounds-at.result c.node_rounds-at.new.words) (sym (add-one c.loop-k.k)) c.node_rounds-at.ensures.done,
      c.node_rounds-at.ensures.rest ∙ later (c.loop-k.at + 1) (c.node_rounds-at.result + 1) c.loop-k.words c.args.words.now (omega arith) c.loop-k.invariant.1,
      same_since _ _ _ c.loop-k.invariant.2 c.node_rounds-at.ensures.finder,
    )

pub returns : goal.returns
returns g c =
    let inside = c.args.self.now.obligations.inside in
    let m : Kripke = model_in (record { states = g.M.Graph.states; edge = g.M.Graph.edge; marking = g.M.Model.marking }) inside in
    let f = property_in inside in
    let left = c.loop-k-test.false in
    let counted : c.loop-k.k ≡ inside.product.now.plan.now.property.rows.count = omega arith in
    let all : c.loop-k.k ≡ length f.nodes = counted ∙ sym (length_nodes inside.product.now.plan.now.property.rows) in
    record {
      «open» = nodes_end m f (set_in inside) c.args.self.now.x c.loop-k.k c.loop-k.at c.loop-k.words all c.loop-k.invariant.0;
      longer = nodes_few m f (set_in inside) c.args.self.now.x c.loop-k.k c.loop-k.at c.loop-k.words all c.loop-k.invariant.0;
      rest = c.loop-k.invariant.1;
      finder = c.loop-k.invariant.2;
    }
