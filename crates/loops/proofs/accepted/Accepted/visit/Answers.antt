use Rattle.std.proofs.Common.{ℕ, ◌+◌, ◌-◌, ◌≤◌, Bool, List, length, take}
use Rattle.graphs.specs.Finders.{room}
use Rattle.kripke.specs.Models.{Kripke}
use Rattle.logic.specs.Product.{mask_width}
use Rattle.obligations.specs.Shapes.{model_in, property_in, set_in}
use Rattle.obligations.specs.Testing.{Met}
use Rattle.tableau.specs.Numbers.{vertex_of, vertices}
use Rattle.loops.proofs.Fairness.{some_fair, visits}
use Rattle.logic.proofs.Bools.{true_T}
use Rattle.loops.proofs.Found.{some_from}
use Rattle.loops.proofs.Inner.{inner_reaches, member_low}
use Rattle.loops.proofs.Places.{copied}
use Rattle.loops.proofs.Rooms.{copy_fits, low_part, one_layer, one_less, some_size, walk_end, walk_fits, walk_room}
use Rattle.loops.proofs.accepted.Accepted.visit.Goals as goal

pub unwrap-vertex-requires : goal.unwrap-vertex-requires
unwrap-vertex-requires g c =
    let m : Kripke = model_in (record { states = g.M.Graph.states; edge = g.M.Graph.edge; marking = g.M.Model.marking }) c.args.self.now.obligations.inside in
    let f = property_in c.args.self.now.obligations.inside in
    let G : ℕ → Bool = set_in c.args.self.now.obligations.inside in
    some_from (Met G (λ y. m.fair c.args.j (vertex_of f y).state)) c.fair_vertex.result c.fair_vertex.ensures (some_fair m f G c.args.self.now.x c.args.j c.requires.setting.tested c.requires.set)

pub route-count-requires : goal.route-count-requires
route-count-requires g c =
    let m : Kripke = model_in (record { states = g.M.Graph.states; edge = g.M.Graph.edge; marking = g.M.Model.marking }) c.args.self.now.obligations.inside in
    let f = property_in c.args.self.now.obligations.inside in
    let G : ℕ → Bool = set_in c.args.self.now.obligations.inside in
    let met = rw c.unwrap-vertex.ensures at c.fair_vertex.ensures in
    record {
      ends = (c.requires.visited.vertex, member_low m f G c.args.self.now.x c.requires.setting.joined c.requires.setting.tested c.unwrap-vertex.result met.0);
      finder = one_layer (mask_width f) (vertices m f) (room c.args.finder.now) c.requires.finder;
      room = walk_room (vertices m f) c.states-size.result (length c.args.list.now) c.states-size.ensures.is c.requires.list;
      reached = inner_reaches m f G c.requires.setting.joined c.args.stands.vertex c.unwrap-vertex.result c.requires.visited.inside (true_T (G c.unwrap-vertex.result) met.0);
    }

pub copy_states-requires : goal.copy_states-requires
copy_states-requires g c =
    let m : Kripke = model_in (record { states = g.M.Graph.states; edge = g.M.Graph.edge; marking = g.M.Model.marking }) c.args.self.now.obligations.inside in
    let n : ℕ = vertices m (property_in c.args.self.now.obligations.inside) in
    let size : ℕ = c.states-size.result in
    let count : ℕ = c.route-count.result in
    let few : count ≤ size = c.route-count.ensures.routed.within in
    let fits = walk_fits n size count (length c.route-count.new.words) (length c.args.list.now) c.states-size.ensures.is few c.requires.list c.route-count.auto.words in
    record {
      sizes = (some_size c.args.self.now.x n size c.requires.setting.vertex c.states-size.ensures.is, c.size.ensures.some);
      room = (one_less count (length c.route-count.new.words) fits, copy_fits n size count c.args.stands.at (length c.args.words.now) c.states-size.ensures.is few c.requires.room);
    }

pub returns : goal.returns
returns g c =
    let m : Kripke = model_in (record { states = g.M.Graph.states; edge = g.M.Graph.edge; marking = g.M.Model.marking }) c.args.self.now.obligations.inside in
    let f = property_in c.args.self.now.obligations.inside in
    let G : ℕ → Bool = set_in c.args.self.now.obligations.inside in
    let n : ℕ = vertices m f in
    let size : ℕ = c.states-size.result in
    let count : ℕ = c.route-count.result in
    let at : ℕ = c.args.stands.at in
    let routed = c.route-count.ensures.routed in
    let list : List ℕ = c.route-count.new.words in
    let words : List ℕ = c.copy_states.new.words in
    let fits = walk_fits n size count (length list) (length c.args.list.now) c.states-size.ensures.is routed.within c.requires.list c.route-count.auto.words in
    let met = rw c.unwrap-vertex.ensures at c.fair_vertex.ensures in
    let low = member_low m f G c.args.self.now.x c.requires.setting.joined c.requires.setting.tested c.unwrap-vertex.result met.0 in
    let end = walk_end n size count at c.states-size.ensures.is routed.some routed.within in
    let put = copied m f size c.size.result at (at + count - 1) count list c.args.words.now words c.states-size.ensures.is c.size.ensures.is fits end.0 (low_part at n (length c.args.words.now) c.requires.room) c.copy_states.ensures in
    record {
      visited = visits m f G c.args.self.now.x c.args.j c.args.stands c.unwrap-vertex.result (at + count - 1) (take count list) c.args.words.now words c.requires.visited low met.0 met.1 routed.walk put;
      further = (end.1, end.2);
      rest = put.rest;
      finder = c.route-count.ensures.finder;
    }
