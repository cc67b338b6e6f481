use Rattle.std.proofs.Common.{◌≡◌, map, length, take}
use Rattle.network.specs.RowModel.{model}
use Rattle.network.specs.Sheets.{sheet_at}
use Rattle.filters.specs.Readings.{mask_by}
use Rattle.filters.proofs.reading.Reading.masks.Given as goal

abbrev pub invariant-loop-p : goal.invariant-loop-p
invariant-loop-p g l = (length l.masks ≡ 6) × (take l.p l.masks ≡ map (mask_by l.self (model l.row)) (take l.p (sheet_at (g.B.Bank.meaning l.bank) l.c).scope))
