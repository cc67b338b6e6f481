use Rattle.std.proofs.Common.{◌≡◌, ◌-◌}
use Rattle.listing.specs.ToCome.{models, width}
use Rattle.listing.specs.Walked.{coming}
use Rattle.listing.proofs.Walking.{Walking}
use Rattle.listing.proofs.walk.Walk.visit_nodes.Given as goal

abbrev pub invariant-loop-child : goal.invariant-loop-child
invariant-loop-child g l =
    let f = g.F.Filter.filtered l.initial.filter (g.B.Bank.meaning l.bank) in
    (g.F.Filter.filtered l.filter ≡ g.F.Filter.filtered l.initial.filter)
    × Walking f (width (models l.initial.self.rows)) (coming f l.initial.self) l.budget l.self l.visits

abbrev pub decreases-loop-child : goal.decreases-loop-child
decreases-loop-child g l = l.budget - l.visits
