use Rattle.std.proofs.Common.{◌∙◌}
use Rattle.network.specs.Sheets.{sheet_at, supported}
use Rattle.filters.proofs.Supported.{so_end, so_less, so_more, so_start}
use Rattle.filters.proofs.narrowing.supported_slots.Goals as goal

pub loop-slot-init : goal.loop-slot-init
loop-slot-init g c = so_start (supported (sheet_at (g.B.Bank.meaning c.args.bank.now) c.args.c) c.args.masks.now c.args.p) (c.into_iter-slot-iterator.ensures.into_iter_gives ∙ c.slots_of-slot-items.ensures)

pub loop-slot-preserved-then-supports : goal.loop-slot-preserved-then-supports
loop-slot-preserved-then-supports g c = so_more c.loop-slot.invariant c.in-Some.ensures.steps c.if-supports.ensures.test c.single-left.result c.single-left.ensures

pub loop-slot-preserved : goal.loop-slot-preserved
loop-slot-preserved g c = so_less c.loop-slot.invariant c.in-Some.ensures.steps c.if-supports.ensures.test

pub returns : goal.returns
returns g c = so_end c.loop-slot.invariant c.in-None.ensures.steps.0
