-- How a network lies in memory: a mask for each block, a record for each table, the cells of all tuples, a record for each rule.
use Rattle.std.specs.Prelude.{◌≡◌, ℕ, ◌+◌, List, [], ◌∷◌, ◌++◌, map, length, drop}
use Rattle.std.specs.List.{flat_map}
use Rattle.banks.specs.declared.table.Kind.{Kind}
use Rattle.banks.specs.declared.table.TableRecord.{TableRecord}
use Rattle.banks.specs.declared.rule.RuleRecord.{RuleRecord}
use Rattle.card.specs.declared.places.Places.{Places}
use Rattle.card.specs.declared.sizes.Sizes.{Sizes}
use Rattle.card.specs.Lists.{packed}
use Rattle.card.specs.Spelling.{Network, RuleSheet, Table}

pub record Memory : Type 0 where
  pub masks : List ℕ
  pub tables : List TableRecord
  pub cells : List ℕ
  pub rules : List RuleRecord

abbrev pub memory : List ℕ → List TableRecord → List ℕ → List RuleRecord → Memory
memory masks tables cells rules = record { masks = masks; tables = tables; cells = cells; rules = rules }

abbrev pub memory_in : Places → Memory
memory_in p = memory p.masks.now p.tables.now p.cells.now p.rules.now

abbrev pub sizes_of : Memory → Sizes
sizes_of m = record { masks = length m.masks; tables = length m.tables; cells = length m.cells; rules = length m.rules }

-- the same loans, so that what is written goes where it came from
pub record SameLoans (p q : Places) : Type 0 where
  pub masks : q.masks.ghost_name ≡ p.masks.ghost_name
  pub tables : q.tables.ghost_name ≡ p.tables.ghost_name
  pub cells : q.cells.ghost_name ≡ p.cells.ghost_name
  pub rules : q.rules.ghost_name ≡ p.rules.ghost_name

-- a table whose tuples begin at a cell
abbrev pub table_record : ℕ → Kind → List ℕ → ℕ → TableRecord
table_record first kind scope tuples = record { kind = kind; arity = length scope; blocks = packed scope; first = first; tuples = tuples }

abbrev pub rule_record : RuleSheet → RuleRecord
rule_record r = record { rule = r.rule; arity = length r.scope; blocks = packed r.scope }

-- the tuples of a table, one after the other
abbrev pub cells_of : Table → List ℕ
cells_of t = flat_map (λ u. u) t.tuples

abbrev pub records_from : ℕ → List Table → List TableRecord
records_from first [] = []
records_from first (t ∷ ts) = table_record first t.kind t.scope (length t.tuples) ∷ records_from (first + length (cells_of t)) ts

abbrev pub layout : Network → Memory
layout x = record { masks = x.masks; tables = records_from 0 x.tables; cells = flat_map cells_of x.tables; rules = map rule_record x.rules }

-- the new items in front, and the old ones past them
abbrev pub written : {A : Type 0} → List A → List A → List A
written new old = new ++ drop (length new) old

abbrev pub over : Memory → Memory → Memory
over new old = record {
  masks = written new.masks old.masks;
  tables = written new.tables old.tables;
  cells = written new.cells old.cells;
  rules = written new.rules old.rules;
}
