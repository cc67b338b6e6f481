use Rattle.std.proofs.Common.{◌≡◌, ◌≤◌, length, drop}
use Rattle.network.specs.Tree.{precedes}
use Rattle.banks.proofs.tuples.comes_before.Given as goal

abbrev pub invariant-loop-q : goal.invariant-loop-q
invariant-loop-q l = (l.q ≤ length l.a) × (l.q ≤ length l.b) × (precedes (drop l.q l.a) (drop l.q l.b) ≡ precedes l.a l.b)
