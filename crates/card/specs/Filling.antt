-- What has been spelled so far, as it lies in memory, and what a line adds to it.
use Rattle.std.specs.Prelude.{◌≡◌, ℕ, suc, ◌+◌, ◌*◌, ◌<◌, ◌≤◌, cond, ◌&&◌, ◌==◌, List, [], ◌∷◌, ◌++◌, map, length, take, drop, Some, None, Ok, Err, Option, Result}
use Rattle.std.specs.List.{flat_map}
use Rattle.banks.specs.declared.table.TableRecord.{TableRecord}
use Rattle.card.specs.declared.entry.Entry.{Entry}
use Rattle.card.specs.declared.entry.Entry.TheVariants.{Mask, Nothing, Rule, Table, Tuple}
use Rattle.card.specs.declared.reader.Reader.{Reader}
use Rattle.card.specs.declared.refusal.CardRefusal.{CardRefusal}
use Rattle.card.specs.declared.sizes.Sizes.{Sizes}
use Rattle.network.specs.declared.refusal.Refusal.TheVariants.{Malformed}
use Rattle.card.specs.Judgement.{ends}
use Rattle.card.specs.Layout.{cells_of, layout, Memory, records_from, rule_record, table_record}
use Rattle.card.specs.Spelling.{Network}
use Rattle.card.specs.Stages.{Fit, Solid, stage_of}
use Rattle.card.specs.Verdict.{blocks_due, Due, end_due, fault, judge_lines, kind_due, lines, nothing_due, open_due, Reading, row_due, rows_due, rule_due, rule_scope_due, rules_due, scope_due, sheets_due, spelled, verdict}

-- the tuples of a table that has more to come
abbrev pub begun_tuples : Due → List (List ℕ)
begun_tuples blocks_due = []
begun_tuples (open_due k) = []
begun_tuples sheets_due = []
begun_tuples (kind_due k) = []
begun_tuples (scope_due k kind) = []
begun_tuples (rows_due k kind scope) = []
begun_tuples (row_due k kind scope j ts) = ts
begun_tuples rules_due = []
begun_tuples (rule_due k) = []
begun_tuples (rule_scope_due k rule) = []
begun_tuples end_due = []
begun_tuples nothing_due = []

-- its record
abbrev pub begun_table : ℕ → Due → List TableRecord
begun_table first blocks_due = []
begun_table first (open_due k) = []
begun_table first sheets_due = []
begun_table first (kind_due k) = []
begun_table first (scope_due k kind) = []
begun_table first (rows_due k kind scope) = []
begun_table first (row_due k kind scope j ts) = table_record first kind scope (length ts + suc j) ∷ []
begun_table first rules_due = []
begun_table first (rule_due k) = []
begun_table first (rule_scope_due k rule) = []
begun_table first end_due = []
begun_table first nothing_due = []

abbrev pub memory_at : Due → Network → Memory
memory_at d x = record {
  masks = x.masks;
  tables = records_from 0 x.tables ++ begun_table (length (flat_map cells_of x.tables)) d;
  cells = flat_map cells_of x.tables ++ flat_map (λ u. u) (begun_tuples d);
  rules = map rule_record x.rules;
}

abbrev pub memory_of : Reading → Memory
memory_of r = memory_at r.due r.net

abbrev pub added : Entry → Memory → Memory
added Nothing m = m
added (Mask v) m = record { masks = m.masks ++ (v ∷ []); tables = m.tables; cells = m.cells; rules = m.rules }
added (Table kind scope n) m = record {
  masks = m.masks;
  tables = m.tables ++ (record { kind = kind; arity = scope.count; blocks = scope.numbers; first = length m.cells; tuples = n } ∷ []);
  cells = m.cells;
  rules = m.rules;
}
added (Tuple u) m = record { masks = m.masks; tables = m.tables; cells = m.cells ++ take u.count u.numbers; rules = m.rules }
added (Rule rule scope) m = record {
  masks = m.masks;
  tables = m.tables;
  cells = m.cells;
  rules = m.rules ++ (record { rule = rule; arity = scope.count; blocks = scope.numbers } ∷ []);
}

-- at most six numbers
abbrev pub FitEntry : Entry → Type 0
FitEntry Nothing = Unit {0}
FitEntry (Mask v) = Unit {0}
FitEntry (Table kind scope n) = scope.count ≤ 6
FitEntry (Tuple u) = (u.count ≤ 6) × (length u.numbers ≡ 6)
FitEntry (Rule rule scope) = scope.count ≤ 6

-- there is room for one entry more
abbrev pub HasRoom : Entry → Sizes → Sizes → Type 0
HasRoom Nothing filled room = Unit {0}
HasRoom (Mask v) filled room = filled.masks < room.masks
HasRoom (Table kind scope n) filled room = filled.tables < room.tables
HasRoom (Tuple u) filled room = filled.cells + u.count ≤ room.cells
HasRoom (Rule rule scope) filled room = filled.rules < room.rules

-- at most six items a line
pub record Few (lines : ℕ) (s : Sizes) : Type 0 where
  pub masks : s.masks ≤ 6 * lines
  pub tables : s.tables ≤ 6 * lines
  pub cells : s.cells ≤ 6 * lines
  pub rules : s.rules ≤ 6 * lines

-- so few lines are left that their numbers stay small
pub record Ready (r : Reader) : Type 0 where
  pub fit : Fit r.stage
  pub short : r.line + length r.rest.now ≤ 32769
  pub near : r.start + length r.rest.now ≤ 32768

-- the reader has come to a reading of the card, and the rest decides
pub record At (card : List ℕ) (r : Reader) (q : Reading) : Type 0 where
  pub solid : Solid q
  pub stage : r.stage ≡ stage_of q
  pub place : r.rest.now ≡ drop r.start card
  pub rest : verdict card ≡ judge_lines q r.line (lines r.rest.now).full (lines r.rest.now).rest

-- one line later
pub record Follows (r s : Reader) : Type 0 where
  pub ready : Ready s
  pub line : s.line ≡ r.line + 1
  pub less : length s.rest.now < length r.rest.now

-- at the end of the bytes nothing may be due and nothing left
abbrev pub ended : Reader → Result (Option Entry) CardRefusal
ended r = cond (ends r.stage.next && length r.rest.now == 0) (Ok None) (Err (record { refusal = Malformed; line = r.line }))

-- one line more, the end of a good card, or the refusal
abbrev pub ReadsOn : List ℕ → Reader → Reading → Reader → Result (Option Entry) CardRefusal → Type 0
ReadsOn card r q s (Ok (Some x)) = FitEntry x × Follows r s × ((p : Reading) × At card s p × (memory_of p ≡ added x (memory_of q)))
ReadsOn card r q s (Ok None) = (verdict card ≡ spelled q.net) × (memory_of q ≡ layout q.net)
ReadsOn card r q s (Err e) = verdict card ≡ fault e.refusal e.line
