use Rattle.std.proofs.Common.{◌≡◌, eqb, drop}
use Rattle.network.specs.Sheets.{some_pass}
use Rattle.banks.proofs.scope.holds.Given as goal

abbrev pub invariant-loop-y : goal.invariant-loop-y
invariant-loop-y l = some_pass (eqb l.x) (drop l.y-index l.numbers) ≡ some_pass (eqb l.x) l.numbers
