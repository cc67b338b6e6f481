use Rattle.std.proofs.Common.{◌≡◌, drop}
use Rattle.banks.specs.Verdicts.{on_first}
use Rattle.banks.proofs.record.check_records.Given as goal

abbrev pub invariant-loop-line : goal.invariant-loop-line
invariant-loop-line g l = on_first (g.R.Record.verdict l.cells) (drop l.line-index l.records) ≡ on_first (g.R.Record.verdict l.cells) l.records
