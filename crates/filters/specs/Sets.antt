-- Which sheets each set has, at a row.
use Rattle.std.specs.Prelude.{Bool}
use Rattle.network.specs.Sheets.{Sheet}
use Rattle.network.specs.Rows.{Row, current_future, current_one, past_future}
use Rattle.filters.specs.declared.sheet_set.SheetSet.{SheetSet}
use Rattle.filters.specs.declared.sheet_set.SheetSet.TheVariants.{CurrentFuture, CurrentOne, PastFuture}

abbrev pub picks_of : SheetSet → Row → Sheet → Bool
picks_of CurrentOne = current_one
picks_of CurrentFuture = current_future
picks_of PastFuture = past_future
