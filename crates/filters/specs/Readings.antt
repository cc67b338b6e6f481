-- The mask of a block with which a sheet is asked, and what a step on a sheet leaves.
use Rattle.std.specs.Prelude.{ℕ, cond, nat_lt, slice_index}
use Rattle.network.specs.Sheets.{Sheet}
use Rattle.network.specs.Rows.{Row}
use Rattle.network.specs.Filters.{narrowed, projected}
use Rattle.filters.specs.declared.reading.Reading.{Reading}
use Rattle.filters.specs.declared.reading.Reading.TheVariants.{Open, Present}

abbrev pub mask_by : Reading → Row → ℕ → ℕ
mask_by Present r b = slice_index r.present b
mask_by Open r b = cond (nat_lt b r.decided) (slice_index r.present b) (slice_index r.opened b)

abbrev pub step_by : Reading → Row → Sheet → Row
step_by Present = narrowed
step_by Open = projected
