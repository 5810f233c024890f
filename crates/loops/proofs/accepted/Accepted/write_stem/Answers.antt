use Rattle.std.proofs.Common.{ℕ, ◌-◌, List, length, take, zero-le}
use Rattle.graphs.specs.Finders.{room}
use Rattle.kripke.specs.Models.{Kripke}
use Rattle.logic.specs.Product.{mask_width}
use Rattle.obligations.specs.Shapes.{model_in, property_in}
use Rattle.tableau.specs.Numbers.{vertices}
use Rattle.loops.proofs.Places.{copied}
use Rattle.loops.proofs.Rooms.{one_layer, one_less, some_size, stem_fits, walk_fits, walk_room}
use Rattle.loops.proofs.Stems.{stem_of}
use Rattle.loops.proofs.accepted.Accepted.write_stem.Goals as goal

pub route-count-requires : goal.route-count-requires
route-count-requires g c =
    let m : Kripke = model_in (record { states = g.M.Graph.states; edge = g.M.Graph.edge; marking = g.M.Model.marking }) c.args.self.now.obligations.inside in
    let f = property_in c.args.self.now.obligations.inside in
    record {
      ends = (c.requires.first.vertex, c.requires.setting.vertex);
      finder = one_layer (mask_width f) (vertices m f) (room c.args.finder.now) c.requires.finder;
      room = walk_room (vertices m f) c.states-size.result (length c.args.list.now) c.states-size.ensures.is c.requires.list;
      reached = c.requires.first.leads;
    }

pub copy_states-requires : goal.copy_states-requires
copy_states-requires g c =
    let m : Kripke = model_in (record { states = g.M.Graph.states; edge = g.M.Graph.edge; marking = g.M.Model.marking }) c.args.self.now.obligations.inside in
    let n : ℕ = vertices m (property_in c.args.self.now.obligations.inside) in
    let size : ℕ = c.states-size.result in
    let count : ℕ = c.route-count.result in
    let routed = c.route-count.ensures.routed in
    let fits = walk_fits n size count (length c.route-count.new.words) (length c.args.list.now) c.states-size.ensures.is routed.within c.requires.list c.route-count.auto.words in
    record {
      sizes = (some_size c.args.self.now.x n size c.requires.setting.vertex c.states-size.ensures.is, c.size.ensures.some);
      room = (one_less count (length c.route-count.new.words) fits, (stem_fits n size count (length c.args.trace.now) c.states-size.ensures.is routed.some routed.within c.requires.room).0);
    }

pub returns : goal.returns
returns g c =
    let m : Kripke = model_in (record { states = g.M.Graph.states; edge = g.M.Graph.edge; marking = g.M.Model.marking }) c.args.self.now.obligations.inside in
    let f = property_in c.args.self.now.obligations.inside in
    let n : ℕ = vertices m f in
    let size : ℕ = c.states-size.result in
    let count : ℕ = c.route-count.result in
    let routed = c.route-count.ensures.routed in
    let list : List ℕ = c.route-count.new.words in
    let was : List ℕ = c.args.trace.now in
    let words : List ℕ = c.copy_states.new.words in
    let fits = walk_fits n size count (length list) (length c.args.list.now) c.states-size.ensures.is routed.within c.requires.list c.route-count.auto.words in
    let room = stem_fits n size count (length was) c.states-size.ensures.is routed.some routed.within c.requires.room in
    let put = copied m f size c.size.result 0 (count - 1) count list was words c.states-size.ensures.is c.size.ensures.is fits room.1 zero-le c.copy_states.ensures in
    record {
      stem = stem_of m f c.args.u c.args.self.now.x (count - 1) (take count list) was words routed.walk put room.2;
      finder = c.route-count.ensures.finder;
    }
