use Rattle.std.proofs.Common.{◌+◌, ◌≤◌, length}
use Rattle.card.proofs.Packing.{Seen}
use Rattle.card.proofs.list.NumberList.read.Given as goal

abbrev pub invariant-loop-comma : goal.invariant-loop-comma
invariant-loop-comma l = (l.list.count + length l.rest ≤ length l.value) × Seen l.value l.rest l.list

abbrev pub decreases-loop-comma : goal.decreases-loop-comma
decreases-loop-comma l = length l.rest
