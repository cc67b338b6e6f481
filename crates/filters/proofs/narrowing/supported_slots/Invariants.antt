use Rattle.network.specs.Sheets.{sheet_at, supported}
use Rattle.filters.proofs.Supported.{KeptSo}
use Rattle.filters.proofs.narrowing.supported_slots.Given as goal

abbrev pub invariant-loop-slot : goal.invariant-loop-slot
invariant-loop-slot g l = KeptSo (supported (sheet_at (g.B.Bank.meaning l.bank) l.c) l.masks l.p) l.mask l.left l.slot-iterator
