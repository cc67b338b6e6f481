-- What an effect tells of a row before and after.
use Rattle.std.specs.Prelude.{◌≡◌, ◌<◌, true}
use Rattle.network.specs.Rows.{Row, dead}
use Rattle.network.specs.Filters.{total_slots}
use Rattle.filters.specs.declared.effect.Effect.{Effect}
use Rattle.filters.specs.declared.effect.Effect.TheVariants.{Died, Narrowed, Unchanged}

abbrev pub Told : Effect → Row → Row → Type 0
Told Unchanged before after = after ≡ before
Told Narrowed before after = total_slots after < total_slots before
Told Died before after = dead after ≡ true
