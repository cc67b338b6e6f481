-- How far the code has read, as a function of what the verdict has read.
use Rattle.std.specs.Prelude.{◌≡◌, ◌≤◌, true, length, nat_lt}
use Rattle.std.specs.List.{list_all}
use Rattle.card.specs.declared.stage.Expected.{Expected}
use Rattle.card.specs.declared.stage.Expected.TheVariants.{Blocks, Open, Sheets, Kind, Scope, Tuples, Tuple, Rules, Rule, RuleScope, End, Nothing}
use Rattle.card.specs.declared.stage.Stage.{Stage}
use Rattle.card.specs.Lists.{list_of}
use Rattle.card.specs.Verdict.{blocks_due, Due, end_due, kind_due, last_tuple, nothing_due, open_due, Reading, row_due, rows_due, rule_due, rule_scope_due, rules_due, scope_due, sheets_due}

-- of a table's tuples only the last is kept
abbrev pub expected_of : Due → Expected
expected_of blocks_due = Blocks
expected_of (open_due k) = Open k
expected_of sheets_due = Sheets
expected_of (kind_due k) = Kind k
expected_of (scope_due k kind) = Scope k kind
expected_of (rows_due k kind scope) = Tuples k kind (list_of scope)
expected_of (row_due k kind scope j ts) = Tuple k (length scope) j (list_of (last_tuple ts))
expected_of rules_due = Rules
expected_of (rule_due k) = Rule k
expected_of (rule_scope_due k rule) = RuleScope k rule
expected_of end_due = End
expected_of nothing_due = Nothing

abbrev pub stage_of : Reading → Stage
stage_of r = record { next = expected_of r.due; blocks = r.blocks; tuples = r.tuples }

-- what the checks rely on: of a scope and of the last tuple, at most six numbers
abbrev pub FitNext : Expected → Type 0
FitNext Blocks = Unit {0}
FitNext (Open k) = Unit {0}
FitNext Sheets = Unit {0}
FitNext (Kind k) = Unit {0}
FitNext (Scope k kind) = Unit {0}
FitNext (Tuples k kind scope) = scope.count ≤ 6
FitNext (Tuple k arity j last) = (arity ≤ 6) × (last.count ≤ 6)
FitNext Rules = Unit {0}
FitNext (Rule k) = Unit {0}
FitNext (RuleScope k rule) = Unit {0}
FitNext End = Unit {0}
FitNext Nothing = Unit {0}

pub record Fit (s : Stage) : Type 0 where
  pub blocks : s.blocks ≤ 32
  pub tuples : s.tuples ≤ 4096
  pub next : FitNext s.next

-- the last tuple has slots alone
abbrev pub SlotsOnly : Due → Type 0
SlotsOnly blocks_due = Unit {0}
SlotsOnly (open_due k) = Unit {0}
SlotsOnly sheets_due = Unit {0}
SlotsOnly (kind_due k) = Unit {0}
SlotsOnly (scope_due k kind) = Unit {0}
SlotsOnly (rows_due k kind scope) = Unit {0}
SlotsOnly (row_due k kind scope j ts) = list_all (λ x. nat_lt x 32) (last_tuple ts) ≡ true
SlotsOnly rules_due = Unit {0}
SlotsOnly (rule_due k) = Unit {0}
SlotsOnly (rule_scope_due k rule) = Unit {0}
SlotsOnly end_due = Unit {0}
SlotsOnly nothing_due = Unit {0}

-- what has been read is within the limits that the checks rely on
pub record Solid (r : Reading) : Type 0 where
  pub fit : Fit (stage_of r)
  pub slots : SlotsOnly r.due
