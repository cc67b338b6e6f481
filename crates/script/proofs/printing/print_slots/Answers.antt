use Rattle.std.proofs.Common.{string_bytes, arith}
use Rattle.script.proofs.Commas.{all_slots}
use Rattle.script.proofs.printing.print_slots.Goals as goal

pub returns : goal.returns
returns c =
    all_slots c.args.slots.now (string_bytes c.args.out.now) (string_bytes c.write.new.self) (string_bytes c.loop-slot.out) c.loop-slot.slot-index
    (omega (arith, c.in-len1-up.len_at_least)) c.in_ok-write.ensures.bytes c.loop-slot.invariant c.loop-slot-test.false
