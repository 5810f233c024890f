use Rattle.std.proofs.Common.{ℕ, ◌+◌, ◌-◌, ◌/◌, ◌≤◌, Bool, List, length, take, set, sym, subst, zero-le, length-set}
use Rattle.graphs.specs.Successors.{Lowest}
use Rattle.graphs.specs.Finders.{room}
use Rattle.kripke.specs.Models.{Kripke}
use Rattle.logic.specs.Product.{mask_width}
use Rattle.obligations.specs.Shapes.{model_in, property_in, set_in}
use Rattle.obligations.proofs.Joined.{no_edge}
use Rattle.tableau.specs.Numbers.{inner_edge, vertices}
use Rattle.loops.proofs.Closes.{closes}
use Rattle.loops.proofs.Found.{some_from}
use Rattle.loops.proofs.Inner.{inner_parts, inner_reaches}
use Rattle.loops.proofs.Places.{copied}
use Rattle.loops.proofs.Rooms.{close_end, close_fits, low_part, one_layer, one_less, some_size, walk_fits, walk_room}
use Rattle.loops.proofs.accepted.Accepted.close.Goals as goal

pub unwrap-next-requires : goal.unwrap-next-requires
unwrap-next-requires g c =
    let m : Kripke = model_in (record { states = g.M.Graph.states; edge = g.M.Graph.edge; marking = g.M.Model.marking }) c.args.self.now.obligations.inside in
    let f = property_in c.args.self.now.obligations.inside in
    let G : ℕ → Bool = set_in c.args.self.now.obligations.inside in
    let edge = c.requires.setting.tested.edge in
    some_from (Lowest (vertices m f) (inner_edge m f G c.args.stands.vertex) 0) c.next.result c.next.ensures.lowest
    (λ none. no_edge m f G c.requires.setting.joined c.args.stands.vertex c.requires.visited.inside (λ z. none z zero-le) edge.0 edge.1 edge.2 edge.3 edge.4)

pub route-count-requires : goal.route-count-requires
route-count-requires g c =
    let m : Kripke = model_in (record { states = g.M.Graph.states; edge = g.M.Graph.edge; marking = g.M.Model.marking }) c.args.self.now.obligations.inside in
    let f = property_in c.args.self.now.obligations.inside in
    let G : ℕ → Bool = set_in c.args.self.now.obligations.inside in
    let lowest = rw c.unwrap-next.ensures at c.next.ensures.lowest in
    record {
      ends = (lowest.1, c.requires.setting.vertex);
      finder = one_layer (mask_width f) (vertices m f) (room c.args.finder.now) c.requires.finder;
      room = walk_room (vertices m f) c.states-size.result (length c.args.list.now) c.states-size.ensures.is c.requires.list;
      reached = inner_reaches m f G c.requires.setting.joined c.unwrap-next.result c.args.self.now.x (inner_parts m f G c.args.stands.vertex c.unwrap-next.result lowest.2).1 c.requires.setting.tested.inside;
    }

pub copy_states-requires : goal.copy_states-requires
copy_states-requires g c =
    let m : Kripke = model_in (record { states = g.M.Graph.states; edge = g.M.Graph.edge; marking = g.M.Model.marking }) c.args.self.now.obligations.inside in
    let n : ℕ = vertices m (property_in c.args.self.now.obligations.inside) in
    let size : ℕ = c.states-size.result in
    let count : ℕ = c.route-count.result in
    let at : ℕ = c.args.stands.at in
    let routed = c.route-count.ensures.routed in
    let words : List ℕ = c.args.words.now in
    let fits = walk_fits n size count (length c.route-count.new.words) (length c.args.list.now) c.states-size.ensures.is routed.within c.requires.list c.route-count.auto.words in
    let room = close_fits n size count at (length words) c.states-size.ensures.is routed.some routed.within c.requires.room in
    record {
      sizes = (some_size c.args.self.now.x n size c.requires.setting.vertex c.states-size.ensures.is, c.size-masks.ensures.some);
      room = (
        one_less count (length c.route-count.new.words) fits,
        subst (λ k. at + 1 + (count - 1) ≤ k) (sym (length-set words at (c.args.stands.vertex / c.size-masks.result))) room.1,
      );
    }

pub returns : goal.returns
returns g c =
    let m : Kripke = model_in (record { states = g.M.Graph.states; edge = g.M.Graph.edge; marking = g.M.Model.marking }) c.args.self.now.obligations.inside in
    let f = property_in c.args.self.now.obligations.inside in
    let G : ℕ → Bool = set_in c.args.self.now.obligations.inside in
    let n : ℕ = vertices m f in
    let size : ℕ = c.states-size.result in
    let masks : ℕ = c.size-masks.result in
    let count : ℕ = c.route-count.result in
    let at : ℕ = c.args.stands.at in
    let routed = c.route-count.ensures.routed in
    let list : List ℕ = c.route-count.new.words in
    let was : List ℕ = c.args.words.now in
    let words : List ℕ = c.copy_states.new.words in
    let lowest = rw c.unwrap-next.ensures at c.next.ensures.lowest in
    let fits = walk_fits n size count (length list) (length c.args.list.now) c.states-size.ensures.is routed.within c.requires.list c.route-count.auto.words in
    let room = close_fits n size count at (length was) c.states-size.ensures.is routed.some routed.within c.requires.room in
    let end = close_end n size count at c.states-size.ensures.is routed.some routed.within in
    let long : at + 1 ≤ length (set was at (c.args.stands.vertex / masks)) = low_part (at + 1) (count - 1) _ (subst (λ k. at + 1 + (count - 1) ≤ k) (sym (length-set was at (c.args.stands.vertex / masks))) room.1) in
    let put = copied m f size masks (at + 1) (at + count) count list (set was at (c.args.stands.vertex / masks)) words c.states-size.ensures.is c.size-masks.ensures.is fits end.0 long c.copy_states.ensures in
    record {
      closed = closes m f G c.args.self.now.x c.args.stands masks c.unwrap-next.result (at + count) (take count list) was words c.size-masks.ensures.is room.0 lowest.1 lowest.2 routed.walk put end.1 end.2;
      finder = c.route-count.ensures.finder;
    }
