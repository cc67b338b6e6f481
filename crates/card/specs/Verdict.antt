-- The verdict on a card: the network it spells, or the first faulty line and why.
use Rattle.std.specs.Prelude.{ℕ, zero, suc, ◌+◌, ◌-◌, ◌*◌, ◌^◌, Bool, true, false, cond, ◌&&◌, ltb, List, [], ◌∷◌, ◌++◌, map, length, codes, fold, ◌==◌, nat_eq, nat_le, nat_lt}
use Rattle.std.specs.List.{list_all}
use Rattle.network.specs.Sheets.{is_distinct}
use Rattle.network.specs.Tree.{precedes}
use Rattle.network.specs.declared.refusal.Refusal.{Refusal}
use Rattle.network.specs.declared.refusal.Refusal.TheVariants.{LimitExceeded, Malformed, OutOfRange, Repeated}
use Rattle.banks.specs.declared.table.Kind.{Kind}
use Rattle.banks.specs.declared.table.Kind.TheVariants.{Allow, Deny}
use Rattle.banks.specs.declared.rule.Rule.{Rule}
use Rattle.banks.specs.declared.rule.Rule.TheVariants.{NotEqual, AllDiff}
use Rattle.card.specs.Spelling.{Table, RuleSheet, Network}

pub data Verdict : Type 0 where
  fault : Refusal → ℕ → Verdict
  spelled : Network → Verdict

abbrev pub same_bytes : List ℕ → List ℕ → Bool
same_bytes [] [] = true
same_bytes [] (y ∷ ys) = false
same_bytes (x ∷ xs) [] = false
same_bytes (x ∷ xs) (y ∷ ys) = x == y && same_bytes xs ys

-- the bytes before the first c, and those after it, where there is one
pub record Cut : Type 0 where
  pub found : Bool
  pub front : List ℕ
  pub back : List ℕ

abbrev pub push_front : ℕ → Cut → Cut
push_front x k = record { found = k.found; front = x ∷ k.front; back = k.back }

abbrev pub cut : ℕ → List ℕ → Cut
cut c [] = record { found = false; front = []; back = [] }
cut c (x ∷ xs) = cond (x == c) (record { found = true; front = []; back = xs }) (push_front x (cut c xs))

-- pieces between commas
abbrev pub add_byte : ℕ → List (List ℕ) → List (List ℕ)
add_byte x [] = (x ∷ []) ∷ []
add_byte x (p ∷ ps) = (x ∷ p) ∷ ps

abbrev pub pieces : List ℕ → List (List ℕ)
pieces [] = [] ∷ []
pieces (x ∷ xs) = cond (x == 44) ([] ∷ pieces xs) (add_byte x (pieces xs))

abbrev pub is_digit : ℕ → Bool
is_digit x = nat_le 48 x && nat_le x 57

-- 0 alone, or a first digit 1 to 9 and the rest digits
abbrev pub is_number : List ℕ → Bool
is_number [] = false
is_number (x ∷ []) = is_digit x
is_number (x ∷ (y ∷ ys)) = (nat_le 49 x && nat_le x 57) && list_all is_digit (y ∷ ys)

-- the digits after n
abbrev pub value_from : ℕ → List ℕ → ℕ
value_from n bs = fold (λ a x. a * 10 + (x - 48)) n bs

abbrev pub value_of : List ℕ → ℕ
value_of bs = value_from 0 bs

-- what is due next, with what the card has spelled so far
pub data Due : Type 0 where
  blocks_due : Due
  open_due : ℕ → Due
  sheets_due : Due
  kind_due : ℕ → Due
  scope_due : ℕ → Kind → Due
  rows_due : ℕ → Kind → List ℕ → Due
  row_due : ℕ → Kind → List ℕ → ℕ → List (List ℕ) → Due
  rules_due : Due
  rule_due : ℕ → Due
  rule_scope_due : ℕ → Rule → Due
  end_due : Due
  nothing_due : Due

pub record Reading : Type 0 where
  pub due : Due
  pub blocks : ℕ
  pub tuples : ℕ
  pub net : Network

pub data Judged : Type 0 where
  faulty : Refusal → Judged
  good : Reading → Judged

-- the checks of a line in their order: form, limit, range, repetition
abbrev pub judged : Bool → Bool → Bool → Bool → Reading → Judged
judged form limit range order r = cond form (cond limit (cond range (cond order (good r) (faulty Repeated)) (faulty OutOfRange)) (faulty LimitExceeded)) (faulty Malformed)

abbrev pub at : Due → Reading → Reading
at d r = record { due = d; blocks = r.blocks; tuples = r.tuples; net = r.net }

abbrev pub with_net : Network → Reading → Reading
with_net x r = record { due = r.due; blocks = r.blocks; tuples = r.tuples; net = x }

abbrev pub add_mask : ℕ → Reading → Reading
add_mask m r = with_net (record { masks = r.net.masks ++ (m ∷ []); tables = r.net.tables; rules = r.net.rules }) r

abbrev pub add_table : Table → Reading → Reading
add_table t r = with_net (record { masks = r.net.masks; tables = r.net.tables ++ (t ∷ []); rules = r.net.rules }) r

abbrev pub add_rule : RuleSheet → Reading → Reading
add_rule x r = with_net (record { masks = r.net.masks; tables = r.net.tables; rules = r.net.rules ++ (x ∷ []) }) r

-- what comes when so many more are due
abbrev pub open_or_sheets : ℕ → Due
open_or_sheets zero = sheets_due
open_or_sheets (suc k) = open_due k

abbrev pub kind_or_rules : ℕ → Due
kind_or_rules zero = rules_due
kind_or_rules (suc k) = kind_due k

abbrev pub rule_or_end : ℕ → Due
rule_or_end zero = end_due
rule_or_end (suc k) = rule_due k

abbrev pub row_or_next : ℕ → Kind → List ℕ → ℕ → List (List ℕ) → Reading → Reading
row_or_next k kind scope zero ts r = at (kind_or_rules k) (add_table (record { kind = kind; scope = scope; tuples = ts }) r)
row_or_next k kind scope (suc j) ts r = at (row_due k kind scope j ts) r

abbrev pub last_tuple : List (List ℕ) → List ℕ
last_tuple ts = fold (λ _ t. t) [] ts

abbrev pub above_last : List (List ℕ) → List ℕ → Bool
above_last [] u = true
above_last (t ∷ ts) u = precedes (last_tuple (t ∷ ts)) u

-- a scope's own checks: form, 2 to 6 blocks, each below n, none twice
abbrev pub scope_line : Bool → List ℕ → Reading → Reading → Judged
scope_line key value r next =
    judged (key && list_all is_number (pieces value)) (nat_le 2 (length (pieces value)) && nat_le (length (pieces value)) 6)
    (list_all (λ p. ltb (value_of p) r.blocks) (pieces value)) (is_distinct nat_eq (map value_of (pieces value))) next

-- a line with the key and the value that it has
abbrev pub judge : Reading → Due → List ℕ → List ℕ → Judged
judge r blocks_due key value =
    judged (same_bytes key (codes "blocks") && is_number value) (nat_le 1 (value_of value) && nat_le (value_of value) 32) true true
    (record { due = open_or_sheets (value_of value); blocks = value_of value; tuples = 0; net = r.net })
judge r (open_due k) key value =
    judged (same_bytes key (codes "open") && is_number value) (nat_lt (value_of value) (2 ^ 32)) true true
    (at (open_or_sheets k) (add_mask (value_of value) r))
judge r sheets_due key value =
    judged (same_bytes key (codes "sheets") && is_number value) (nat_le (value_of value) 32) true true (at (kind_or_rules (value_of value)) r)
judge r (kind_due k) key value =
    cond (same_bytes key (codes "kind"))
    (cond (same_bytes value (codes "allow")) (good (at (scope_due k Allow) r)) (cond (same_bytes value (codes "deny")) (good (at (scope_due k Deny) r)) (faulty Malformed)))
    (faulty Malformed)
judge r (scope_due k kind) key value =
    scope_line (same_bytes key (codes "scope")) value r (at (rows_due k kind (map value_of (pieces value))) r)
judge r (rows_due k kind scope) key value =
    judged (same_bytes key (codes "rows") && is_number value) (nat_le (r.tuples + value_of value) 4096) true true
    (row_or_next k kind scope (value_of value) [] (record { due = r.due; blocks = r.blocks; tuples = r.tuples + value_of value; net = r.net }))
judge r (row_due k kind scope j ts) key value =
    judged (same_bytes key (codes "row") && (list_all is_number (pieces value) && length (pieces value) == length scope)) true
    (list_all (λ p. ltb (value_of p) 32) (pieces value)) (above_last ts (map value_of (pieces value)))
    (row_or_next k kind scope j (ts ++ (map value_of (pieces value) ∷ [])) r)
judge r rules_due key value =
    judged (same_bytes key (codes "rules") && is_number value) (nat_le (value_of value) 192) true true (at (rule_or_end (value_of value)) r)
judge r (rule_due k) key value =
    cond (same_bytes key (codes "rule"))
    (cond (same_bytes value (codes "notequal")) (good (at (rule_scope_due k NotEqual) r)) (cond (same_bytes value (codes "alldiff")) (good (at (rule_scope_due k AllDiff) r)) (faulty Malformed)))
    (faulty Malformed)
judge r (rule_scope_due k rule) key value =
    scope_line (same_bytes key (codes "scope")) value r (at (rule_or_end k) (add_rule (record { rule = rule; scope = map value_of (pieces value) }) r))
judge r end_due key value = judged (same_bytes key (codes "end") && same_bytes value (codes "net")) true true true (at nothing_due r)
judge r nothing_due key value = faulty Malformed

-- the lines with their newlines, and what is left after the last
pub record Lines : Type 0 where
  pub full : List (List ℕ)
  pub rest : List ℕ

-- one byte more in front of the first line, or of the rest where there is no line
abbrev pub first_line : ℕ → List (List ℕ) → List ℕ → Lines
first_line x [] rest = record { full = []; rest = x ∷ rest }
first_line x (l ∷ ls) rest = record { full = (x ∷ l) ∷ ls; rest = rest }

abbrev pub lines : List ℕ → Lines
lines [] = record { full = []; rest = [] }
lines (x ∷ xs) = cond (x == 10) (record { full = [] ∷ (lines xs).full; rest = (lines xs).rest }) (first_line x (lines xs).full (lines xs).rest)

abbrev pub judge_line : Reading → List ℕ → Judged
judge_line r l = cond (cut 61 l).found (judge r r.due (cut 61 l).front (cut 61 l).back) (faulty Malformed)

abbrev pub finish : Due → ℕ → List ℕ → Network → Verdict
finish nothing_due k [] x = spelled x
finish nothing_due k (b ∷ bs) x = fault Malformed k
finish blocks_due k rest x = fault Malformed k
finish (open_due j) k rest x = fault Malformed k
finish sheets_due k rest x = fault Malformed k
finish (kind_due j) k rest x = fault Malformed k
finish (scope_due j a) k rest x = fault Malformed k
finish (rows_due j a s) k rest x = fault Malformed k
finish (row_due j a s i ts) k rest x = fault Malformed k
finish rules_due k rest x = fault Malformed k
finish (rule_due j) k rest x = fault Malformed k
finish (rule_scope_due j a) k rest x = fault Malformed k
finish end_due k rest x = fault Malformed k

-- line k comes next
abbrev pub judge_lines : Reading → ℕ → List (List ℕ) → List ℕ → Verdict
judge_lines r k [] rest = finish r.due k rest r.net
judge_lines r k (l ∷ ls) rest = elim (judge_line r l) [ faulty n ↦ fault n k | good q ↦ judge_lines q (suc k) ls rest ]

abbrev pub nothing_read : Reading
nothing_read = record { due = blocks_due; blocks = 0; tuples = 0; net = record { masks = []; tables = []; rules = [] } }

-- a card over its length is refused first, at line 0
abbrev pub verdict : List ℕ → Verdict
verdict bytes = cond (nat_lt 32768 (length bytes)) (fault LimitExceeded 0) (judge_lines nothing_read 1 (lines bytes).full (lines bytes).rest)
