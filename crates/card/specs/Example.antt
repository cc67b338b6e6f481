-- A card and the network that it spells.
use Rattle.std.specs.Prelude.{◌≡◌, [], ◌∷◌, codes, refl}
use Rattle.banks.specs.declared.table.Kind.TheVariants.{Deny}
use Rattle.card.specs.Spelling.{Network}
use Rattle.card.specs.Verdict.{verdict, spelled}

abbrev worked : Network
worked = record { masks = 3 ∷ 3 ∷ []; tables = record { kind = Deny; scope = 0 ∷ 1 ∷ []; tuples = (0 ∷ 0 ∷ []) ∷ [] } ∷ []; rules = [] }

abbrev pub WorkedCard : Type 0
WorkedCard = verdict (codes "blocks=2\nopen=3\nopen=3\nsheets=1\nkind=deny\nscope=0,1\nrows=1\nrow=0,0\nrules=0\nend=net\n") ≡ spelled worked

pub worked_card : WorkedCard
worked_card = refl
