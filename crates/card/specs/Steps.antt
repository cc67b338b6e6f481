-- What the code answers for a line: the stage after it and what it adds, or why it is refused.
use Rattle.std.specs.Prelude.{ℕ, List, map, Ok, Err, Result}
use Rattle.network.specs.declared.refusal.Refusal.{Refusal}
use Rattle.card.specs.declared.refusal.CardRefusal.{CardRefusal}
use Rattle.card.specs.declared.stage.Expected.{Expected}
use Rattle.card.specs.declared.stage.Stage.{Stage}
use Rattle.card.specs.declared.entry.Entry.{Entry}
use Rattle.card.specs.declared.entry.Entry.TheVariants.{Mask, Nothing, Rule, Table, Tuple}
use Rattle.card.specs.declared.entry.Step.{Step}
use Rattle.card.specs.Lists.{list_of}
use Rattle.card.specs.Stages.{stage_of}
use Rattle.card.specs.Verdict.{blocks_due, cut, Due, end_due, faulty, good, judge, judge_line, Judged, kind_due, nothing_due, open_due, pieces, Reading, row_due, rows_due, rule_due, rule_scope_due, rules_due, scope_due, sheets_due, value_of}

-- what a good line with that value adds where it is due
abbrev pub entry_of : Due → List ℕ → Entry
entry_of blocks_due bs = Nothing
entry_of (open_due k) bs = Mask (value_of bs)
entry_of sheets_due bs = Nothing
entry_of (kind_due k) bs = Nothing
entry_of (scope_due k kind) bs = Nothing
entry_of (rows_due k kind scope) bs = Table kind (list_of scope) (value_of bs)
entry_of (row_due k kind scope j ts) bs = Tuple (list_of (map value_of (pieces bs)))
entry_of rules_due bs = Nothing
entry_of (rule_due k) bs = Nothing
entry_of (rule_scope_due k rule) bs = Rule rule (list_of (map value_of (pieces bs)))
entry_of end_due bs = Nothing
entry_of nothing_due bs = Nothing

abbrev pub step_of : Reading → Entry → Step
step_of r x = record { stage = stage_of r; entry = x }

abbrev pub step_of_stage : Stage → Expected → Entry → Step
step_of_stage s next x = record { stage = record { next = next; blocks = s.blocks; tuples = s.tuples }; entry = x }

abbrev pub answer : Judged → Entry → Result Step Refusal
answer (faulty e) x = Err e
answer (good r) x = Ok (step_of r x)

abbrev pub answered : Reading → Due → List ℕ → List ℕ → Result Step Refusal
answered r d key bs = answer (judge r d key bs) (entry_of d bs)

-- the same of a line's bytes, its equals sign included
abbrev pub line_answered : Reading → List ℕ → Result Step Refusal
line_answered r bs = answer (judge_line r bs) (entry_of r.due (cut 61 bs).back)

-- the refusal of a line, with its number
abbrev pub at_line : ℕ → Result Step Refusal → Result Step CardRefusal
at_line k (Ok s) = Ok s
at_line k (Err e) = Err (record { refusal = e; line = k })
