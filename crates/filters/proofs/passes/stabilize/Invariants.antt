use Rattle.std.proofs.Common.{◌≡◌}
use Rattle.network.specs.Filters.{stabilized, total_slots}
use Rattle.network.specs.RowModel.{model}
use Rattle.filters.specs.Sets.{picks_of}
use Rattle.filters.proofs.passes.stabilize.Given as goal

abbrev pub invariant-loop : goal.invariant-loop
invariant-loop g l = stabilized (picks_of l.set) (g.B.Bank.meaning l.bank) (model l.row) ≡ stabilized (picks_of l.set) (g.B.Bank.meaning l.bank) (model l.initial.row)

abbrev pub decreases-loop : goal.decreases-loop
decreases-loop g l = total_slots (model l.row)
