use Rattle.std.proofs.Common.{◌≡◌, true, take}
use Rattle.std.specs.List.{list_all, zip}
use Rattle.banks.specs.Tables.{in_mask}
use Rattle.banks.proofs.table_search.is_inside.Given as goal

abbrev pub invariant-loop-q : goal.invariant-loop-q
invariant-loop-q l = list_all in_mask (take l.q (zip l.masks l.tuple)) ≡ true
