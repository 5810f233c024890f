use Rattle.std.proofs.Common.{◌+◌, ◌*◌, ◌<◌, ◌≤◌, length, get_or, sym, subst, arith}
use Rattle.std.proofs.lemmas.Option.{MatchOption-at_some}
use mir.Facts.{Fits-below}
use Rattle.kripke.specs.Models.{Kripke}
use Rattle.language.specs.Properties.{node_width}
use Rattle.logic.specs.Product.{mask_width}
use Rattle.logic.specs.Truth.{node_at}
use Rattle.logic.proofs.Bools.{true_T}
use Rattle.masks.specs.Masks.{bit}
use Rattle.obligations.specs.Shapes.{index_in, model_in, property_in, set_in}
use Rattle.obligations.proofs.Coming.{at_ground}
use Rattle.tableau.specs.Numbers.{vertices}
use Rattle.loops.specs.Rounding.{round_words}
use Rattle.loops.proofs.Bits.{bit_within, shifted}
use Rattle.loops.proofs.Rounded.{counted, out_few, out_low, round_made, some_due, walk_there}
use Rattle.loops.proofs.accepted.Accepted.round.Goals as goal

pub node_width-requires : goal.node_width-requires
node_width-requires g c = counted c.args.self.now.obligations.inside.product.now.plan.now.property c.args.k c.requires.ready.node

pub unwrap-q-requires : goal.unwrap-q-requires
unwrap-q-requires g c =
    some_due c.args.done.due c.node_width.result
    (node_width (property_in c.args.self.now.obligations.inside).connectives (node_at (property_in c.args.self.now.obligations.inside) c.args.k)) c.lowest.result _
    c.node_width.ensures.is c.requires.ready.fits c.requires.ready.some c.lowest.ensures

pub overflow_mul-from : goal.overflow_mul-from
overflow_mul-from g c =
    let inside = c.args.self.now.obligations.inside in
    let plan = inside.product.now.plan.now in
    let m : Kripke = model_in (record { states = g.M.Graph.states; edge = g.M.Graph.edge; marking = g.M.Model.marking }) inside in
    let few : c.args.self.now.x + (get_or plan.starts c.args.k 0 + c.unwrap-q.result + 1) * c.states-size.result ≤ 16777216 =
    out_few m (property_in inside) (set_in inside) c.args.self.now.x c.args.k (index_in inside) c.args.done c.args.words.now c.requires.setting c.requires.ready c.unwrap-q.result
    c.node_width.result c.node_width.ensures.is (MatchOption-at_some _ _ c.unwrap-q.result c.unwrap-q.ensures c.lowest.ensures).1 (get_or plan.starts c.args.k 0) c.states-size.result
    (plan.begins c.args.k (counted plan.property c.args.k c.requires.ready.node)) c.states-size.ensures.is in
    Fits-below {m = (get_or plan.starts c.args.k 0 + c.unwrap-q.result + 1) * c.states-size.result} {n = 16777216} tt (omega arith)

pub overflow_add-from-3 : goal.overflow_add-from-3
overflow_add-from-3 g c =
    let inside = c.args.self.now.obligations.inside in
    let plan = inside.product.now.plan.now in
    let m : Kripke = model_in (record { states = g.M.Graph.states; edge = g.M.Graph.edge; marking = g.M.Model.marking }) inside in
    Fits-below {n = 16777216} tt
    (out_few m (property_in inside) (set_in inside) c.args.self.now.x c.args.k (index_in inside) c.args.done c.args.words.now c.requires.setting c.requires.ready c.unwrap-q.result
    c.node_width.result c.node_width.ensures.is (MatchOption-at_some _ _ c.unwrap-q.result c.unwrap-q.ensures c.lowest.ensures).1 (get_or plan.starts c.args.k 0) c.states-size.result
    (plan.begins c.args.k (counted plan.property c.args.k c.requires.ready.node)) c.states-size.ensures.is)

pub route-count-requires : goal.route-count-requires
route-count-requires g c =
    let first = MatchOption-at_some _ _ c.unwrap-q.result c.unwrap-q.ensures c.lowest.ensures in
    let inside = c.args.self.now.obligations.inside in
    let plan = inside.product.now.plan.now in
    let m : Kripke = model_in (record { states = g.M.Graph.states; edge = g.M.Graph.edge; marking = g.M.Model.marking }) inside in
    let f = property_in inside in
    let begins = plan.begins c.args.k (counted plan.property c.args.k c.requires.ready.node) in
    let room = c.states-room.ensures.is in
    let spare : c.args.done.at + round_words m f ≤ length c.args.words.now = c.requires.ready.room in
    record {
      ends = (
        out_low m f (set_in inside) c.args.self.now.x c.args.k (index_in inside) c.args.done c.args.words.now c.requires.setting c.requires.ready c.unwrap-q.result c.node_width.result
            c.node_width.ensures.is first.1 (get_or plan.starts c.args.k 0) c.states-size.result begins c.states-size.ensures.is,
        at_ground c.args.self.now.x (mask_width f) (vertices m f) c.requires.setting.vertex,
      );
      finder = c.requires.finder;
      room = (omega arith, omega arith);
      reached =
          walk_there m f (set_in inside) c.args.self.now.x c.args.k (index_in inside) c.args.done c.args.words.now c.requires.setting c.requires.ready c.unwrap-q.result c.node_width.result
          c.node_width.ensures.is first.1 (get_or plan.starts c.args.k 0) c.states-size.result begins c.states-size.ensures.is;
    }

pub overflow_sub-left : goal.overflow_sub-left
overflow_sub-left g c =
    let first = MatchOption-at_some _ _ c.unwrap-q.result c.unwrap-q.ensures c.lowest.ensures in
    let small : c.node_width.result ≤ 8 = c.node_width.ensures.small in
    let low : c.unwrap-q.result < c.node_width.result = first.0 in
    subst (λ n. n ≤ c.args.done.due) (sym (shifted c.unwrap-q.result (omega arith))) (bit_within c.args.done.due c.unwrap-q.result (true_T (bit c.args.done.due c.unwrap-q.result) first.2))

pub carry_along-due-requires : goal.carry_along-due-requires
carry_along-due-requires g c =
    let size = c.states-size.ensures.is in
    let vertex = c.requires.setting.vertex in
    record {
      node = counted c.args.self.now.obligations.inside.product.now.plan.now.property c.args.k c.requires.ready.node;
      sizes = (c.states-size.ensures.is, omega arith);
    }

pub to_states-requires : goal.to_states-requires
to_states-requires g c =
    let size = c.states-size.ensures.is in
    let vertex = c.requires.setting.vertex in
    let inside = c.args.self.now.obligations.inside in
    let m : Kripke = model_in (record { states = g.M.Graph.states; edge = g.M.Graph.edge; marking = g.M.Model.marking }) inside in
    let some : 0 < c.route-count.result = c.route-count.ensures.routed.some in
    let within : c.route-count.result ≤ c.states-room.result = c.route-count.ensures.routed.within in
    let room = c.states-room.ensures.is in
    let spare : c.args.done.at + round_words m (property_in inside) ≤ length c.args.words.now = c.requires.ready.room in
    let kept = c.route-count.auto.words in
    record {
      sizes = (omega arith, c.size.ensures.some);
      room = (omega arith, omega arith);
    }

pub returns : goal.returns
returns g c =
    let first = MatchOption-at_some _ _ c.unwrap-q.result c.unwrap-q.ensures c.lowest.ensures in
    let inside = c.args.self.now.obligations.inside in
    let plan = inside.product.now.plan.now in
    let m : Kripke = model_in (record { states = g.M.Graph.states; edge = g.M.Graph.edge; marking = g.M.Model.marking }) inside in
    let small : c.node_width.result ≤ 8 = c.node_width.ensures.small in
    let low : c.unwrap-q.result < c.node_width.result = first.0 in
    record {
      made = round_made m (property_in inside) (set_in inside) c.args.self.now.x c.args.k (index_in inside) c.args.done c.args.words.now c.requires.setting c.requires.ready c.unwrap-q.result
          c.node_width.result c.node_width.ensures.is first.1 (get_or plan.starts c.args.k 0) c.states-size.result c.size.result c.states-room.result
          c.route-count.result c.route-count.new.words c.to_states.new.words (plan.begins c.args.k (counted plan.property c.args.k c.requires.ready.node))
          c.states-size.ensures.is c.size.ensures.is c.states-room.ensures.is c.route-count.auto.words c.route-count.ensures.routed c.carry_along-due.result _
          (shifted c.unwrap-q.result (omega arith)) c.carry_along-due.ensures c.to_states.ensures;
      finder = c.route-count.ensures.finder;
    }
