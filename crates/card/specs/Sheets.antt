-- The sheets of a spelled network: its tables, then its rules.
use Rattle.std.specs.Prelude.{List, ◌++◌, map, length}
use Rattle.network.specs.Sheets.{Sheet}
use Rattle.banks.specs.Tables.{allowed_in}
use Rattle.banks.specs.Rules.{allowed_by}
use Rattle.card.specs.Spelling.{Table, RuleSheet, Network}

abbrev pub sheet_of_table : Table → Sheet
sheet_of_table t = record { scope = t.scope; allows = allowed_in t.kind (length t.scope) t.tuples }

abbrev pub sheet_of_rule : RuleSheet → Sheet
sheet_of_rule r = record { scope = r.scope; allows = allowed_by r.rule }

abbrev pub sheets_of : Network → List Sheet
sheets_of x = map sheet_of_table x.tables ++ map sheet_of_rule x.rules
