use Rattle.std.proofs.Common.{◌≡◌, eqb, drop}
use Rattle.network.specs.Sheets.{is_distinct}
use Rattle.banks.proofs.scope.all_distinct.Given as goal

abbrev pub invariant-loop-i : goal.invariant-loop-i
invariant-loop-i l = is_distinct eqb (drop l.i l.numbers) ≡ is_distinct eqb l.numbers
