use Rattle.std.proofs.Common.{take}
use Rattle.network.specs.RowModel.{model}
use Rattle.network.specs.Sheets.{sheet_at}
use Rattle.filters.proofs.Naming.{Named}
use Rattle.filters.proofs.sheet_set.SheetSet.picks.Given as goal

abbrev pub invariant-loop-p : goal.invariant-loop-p
invariant-loop-p g l = Named (model l.row) (take l.p (sheet_at (g.B.Bank.meaning l.bank) l.c).scope) l.current l.past l.future
