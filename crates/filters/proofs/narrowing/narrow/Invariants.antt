use Rattle.network.specs.RowModel.{model}
use Rattle.network.specs.Sheets.{sheet_at}
use Rattle.filters.proofs.Walked.{Walked}
use Rattle.filters.proofs.narrowing.narrow.Given as goal

abbrev pub invariant-loop-p : goal.invariant-loop-p
invariant-loop-p g l = Walked l.masks (model l.initial.row) (sheet_at (g.B.Bank.meaning l.bank) l.c) (model l.row) l.p l.effect
