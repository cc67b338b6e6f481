use Rattle.std.proofs.Common.{◌≡◌, true, false, length, take}
use Rattle.std.specs.List.{list_all, zip}
use Rattle.network.specs.Sheets.{some_pass}
use Rattle.banks.specs.Tables.{cut, in_mask, inside}
use Rattle.banks.proofs.table_search.Search.first_inside.Given as goal

abbrev pub invariant-tuples : goal.invariant-tuples
invariant-tuples l = some_pass (inside l.self.masks.now) (take (length l.yielded) (cut (length l.self.masks.now) l.self.cells.now)) ≡ false

abbrev pub invariant-loop-q : goal.invariant-loop-q
invariant-loop-q l = list_all in_mask (take l.q (zip l.self.masks.now l.tuple)) ≡ true
