use Rattle.std.proofs.Common.{arith}
use Rattle.network.proofs.SlotsFrom.{first_and_rest}
use Rattle.network.proofs.mask.SlotsIterator.next.Goals as goal

pub overflow_add-self : goal.overflow_add-self
overflow_add-self c = omega (arith, (first_and_rest c.self.inside.mask c.self.inside.from c.in_ok-slot.slot c.self.invariant c.in_ok-slot.ensures).0)

pub invariant_of-self : goal.invariant_of-self
invariant_of-self c = omega (arith, (first_and_rest c.self.inside.mask c.self.inside.from c.in_ok-slot.slot c.self.invariant c.in_ok-slot.ensures).0)
