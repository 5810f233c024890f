use Rattle.std.proofs.Common.{ℕ, ◌+◌, ◌*◌, Bool, length}
use Rattle.graphs.proofs.Finders.{same_since}
use Rattle.kripke.specs.Models.{Kripke}
use Rattle.logic.specs.Product.{mask_width}
use Rattle.obligations.specs.Shapes.{model_in, property_in, set_in}
use Rattle.tableau.specs.Numbers.{vertices}
use Rattle.loops.proofs.Joins.{joins}
use Rattle.loops.proofs.Rooms.{low_part}
use Rattle.loops.proofs.accepted.Accepted.build_loop.Goals as goal

pub all_rounds-at-requires : goal.all_rounds-at-requires
all_rounds-at-requires g c =
    let m : Kripke = model_in (record { states = g.M.Graph.states; edge = g.M.Graph.edge; marking = g.M.Model.marking }) c.args.self.now.obligations.inside in
    let f = property_in c.args.self.now.obligations.inside in
    let n : ℕ = vertices m f in
    let rounds : ℕ = mask_width f * mask_width f * n in
    record {
      setting = c.requires.setting;
      finder = c.requires.finder;
      room = low_part rounds (m.sets * n) (length c.args.words.now) (low_part (rounds + m.sets * n) n (length c.args.words.now) c.requires.room);
    }

pub returns : goal.returns
returns g c =
    let m : Kripke = model_in (record { states = g.M.Graph.states; edge = g.M.Graph.edge; marking = g.M.Model.marking }) c.args.self.now.obligations.inside in
    let f = property_in c.args.self.now.obligations.inside in
    let G : ℕ → Bool = set_in c.args.self.now.obligations.inside in
    let rounds = c.all_rounds-at.ensures in
    let visits = c.visit_all-stands.ensures in
    record {
      built = joins m f c.requires.setting.formed G c.args.self.now.x c.requires.setting.vertex c.requires.setting.tested.inside c.all_rounds-at.result c.close.result c.visit_all-stands.result c.args.words.now c.all_rounds-at.new.words c.visit_all-stands.new.words c.close.new.words rounds.longer rounds.rest visits.visited visits.further.0 visits.further.1 visits.rest c.close.ensures.closed;
      finder = same_since _ _ _ rounds.finder (same_since _ _ _ visits.finder c.close.ensures.finder);
    }
