use Rattle.std.proofs.Common.{◌≡◌}
use Rattle.listing.specs.ToCome.{models, row_at}
use Rattle.listing.proofs.Rebuilding.{Rebuilding}
use Rattle.listing.proofs.walk.Walk.go_past.Given as goal

abbrev pub invariant-loop-slot : goal.invariant-loop-slot
invariant-loop-slot g l =
    (g.F.Filter.filtered l.filter ≡ g.F.Filter.filtered l.initial.filter)
    × (l.self.depth ≡ l.slot-index)
    × (l.self.from ≡ 0)
    × Rebuilding (g.F.Filter.filtered l.initial.filter (g.B.Bank.meaning l.bank)) (row_at (models l.initial.self.rows) 0) l.last l.self
