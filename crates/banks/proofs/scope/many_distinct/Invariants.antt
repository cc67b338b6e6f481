use Rattle.std.proofs.Common.{◌≡◌, eqb, length}
use Rattle.network.specs.Sheets.{is_distinct}
use Rattle.banks.proofs.scope.many_distinct.Given as goal

abbrev pub invariant-loop-rest : goal.invariant-loop-rest
invariant-loop-rest l = is_distinct eqb l.rest ≡ is_distinct eqb l.numbers

abbrev pub decreases-loop-rest : goal.decreases-loop-rest
decreases-loop-rest l = length l.rest
