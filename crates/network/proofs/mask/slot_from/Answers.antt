use Rattle.std.proofs.Common.{sym, ap, arith}
use Rattle.network.specs.Offers.{first_of}
use Rattle.network.proofs.SlotsFrom.{from_end, trailing_slot}
use Rattle.network.proofs.mask.slot_from.Goals as goal

pub returns-then-from-ge-SLOTS : goal.returns-then-from-ge-SLOTS
returns-then-from-ge-SLOTS c = sym (ap first_of (from_end c.args.mask c.args.from (omega arith)))

pub returns : goal.returns
returns c = sym (trailing_slot c.args.mask c.args.from (omega arith) (λ zero_rest. omega arith))
