use Rattle.std.proofs.Common.{length}
use Rattle.card.specs.Verdict.{Reading}
use Rattle.card.proofs.Turns.{Counted}
use Rattle.card.proofs.read.judge.Given as goal

abbrev pub invariant-loop-entry : goal.invariant-loop-entry
invariant-loop-entry l = (q : Reading) × Counted l.card l.reader q l.sizes

abbrev pub decreases-loop-entry : goal.decreases-loop-entry
decreases-loop-entry l = length l.reader.rest.now
