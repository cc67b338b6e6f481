-- The slots of a mask from a slot on, and the first of them.
use Rattle.std.specs.Prelude.{ℕ, ◌-◌, List, [], ◌∷◌, Some, None, filter, Option}
use Rattle.std.specs.List.{range_with_len}
use Rattle.network.specs.Sheets.{has}

-- the slots of a mask that are not below a, ascending
unfoldable pub slots_from : ℕ → ℕ → List ℕ
slots_from m a = filter (has m) (range_with_len a (32 - a))

abbrev pub first_of : List ℕ → Option ℕ
first_of [] = None
first_of (x ∷ xs) = Some x
