use Rattle.std.proofs.Common.{◌≡◌, ◌+◌, ◌*◌, ◌≤◌, length, drop}
use Rattle.graphs.specs.Finders.{SameWords}
use Rattle.kripke.specs.Models.{Kripke}
use Rattle.language.specs.Properties.{Property}
use Rattle.obligations.specs.Shapes.{model_in, property_in, set_in}
use Rattle.tableau.specs.Numbers.{vertices}
use Rattle.loops.specs.Visiting.{Visited}
use Rattle.loops.proofs.accepted.Accepted.visit_all.Given as goal

-- the first j fair sets are visited, with at most one walk's words for each
abbrev pub invariant-loop-j : goal.invariant-loop-j
invariant-loop-j g l =
    let m : Kripke = model_in (record { states = g.M.Graph.states; edge = g.M.Graph.edge; marking = g.M.Model.marking }) l.self.obligations.inside in
    let f : Property = property_in l.self.obligations.inside in
    Visited m f (set_in l.self.obligations.inside) l.self.x l.j l.stands l.words
    × (l.at ≤ l.stands.at)
    × (l.stands.at ≤ l.at + l.j * vertices m f)
    × (drop l.stands.at l.words ≡ drop l.stands.at l.initial.words)
    × SameWords l.initial.finder l.finder
    × (length l.list ≡ length l.initial.list)
