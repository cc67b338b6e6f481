-- The checks of a value in their order: form, limit, range, repetition.
use Rattle.std.specs.Prelude.{ℕ, Bool, true, cond, ◌&&◌, List, map, length, Ok, Err, Result, ◌==◌, nat_eq, nat_le, nat_lt}
use Rattle.std.specs.List.{list_all}
use Rattle.network.specs.Sheets.{is_distinct}
use Rattle.network.specs.Tree.{precedes}
use Rattle.network.specs.declared.refusal.Refusal.{Refusal}
use Rattle.network.specs.declared.refusal.Refusal.TheVariants.{LimitExceeded, Malformed, OutOfRange, Repeated}
use Rattle.card.specs.declared.list.NumberList.{NumberList}
use Rattle.card.specs.Lists.{list_of}
use Rattle.card.specs.Verdict.{is_number, pieces, value_of}

abbrev pub checked : {A : Type 0} → Bool → Bool → Bool → Bool → A → Result A Refusal
checked form limit range order v = cond form (cond limit (cond range (cond order (Ok v) (Err Repeated)) (Err OutOfRange)) (Err LimitExceeded)) (Err Malformed)

-- a number from the least to the most
abbrev pub number_checked : ℕ → ℕ → List ℕ → Result ℕ Refusal
number_checked least most bs = checked (is_number bs) (nat_le least (value_of bs) && nat_le (value_of bs) most) true true (value_of bs)

-- 2 to 6 different blocks below n
abbrev pub scope_checked : ℕ → List ℕ → Result NumberList Refusal
scope_checked n bs =
    checked (list_all is_number (pieces bs)) (nat_le 2 (length (pieces bs)) && nat_le (length (pieces bs)) 6) (list_all (λ p. nat_lt (value_of p) n) (pieces bs))
    (is_distinct nat_eq (map value_of (pieces bs))) (list_of (map value_of (pieces bs)))

-- a slot for each block of a scope, above the last tuple
abbrev pub tuple_checked : ℕ → List ℕ → List ℕ → Result NumberList Refusal
tuple_checked arity last bs =
    checked (list_all is_number (pieces bs) && length (pieces bs) == arity) true (list_all (λ p. nat_lt (value_of p) 32) (pieces bs))
    (precedes last (map value_of (pieces bs))) (list_of (map value_of (pieces bs)))
