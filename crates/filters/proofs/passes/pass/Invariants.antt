use Rattle.network.specs.RowModel.{model}
use Rattle.filters.proofs.Passing.{Passed}
use Rattle.filters.proofs.passes.pass.Given as goal

abbrev pub invariant-loop-c : goal.invariant-loop-c
invariant-loop-c g l = Passed l.reading l.set (g.B.Bank.meaning l.bank) (model l.initial.row) (model l.row) l.c l.effect
