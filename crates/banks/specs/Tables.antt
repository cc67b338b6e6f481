-- Tables: the check of their records, and the sheets that they stand for.
use Rattle.std.specs.Prelude.{◌≡◌, ℕ, zero, suc, ◌+◌, ◌*◌, ◌/◌, ◌<◌, Bool, true, false, cond, not, ◌&&◌, ◌||◌, ltb, List, [], ◌∷◌, map, length, take, drop, Ok, ◌==◌, nat_eq, nat_lt, slice_index_or}
use Rattle.std.specs.List.{list_all}
use Rattle.network.specs.Sheets.{has, is_distinct, same_list, Sheet, some_pass}
use Rattle.network.specs.Tree.{precedes}
use Rattle.network.specs.declared.refusal.Refusal.TheVariants.{LimitExceeded, OutOfRange, PlaceTooShort, Repeated}
use Rattle.banks.specs.declared.table.Kind.{Kind}
use Rattle.banks.specs.declared.table.Kind.TheVariants.{Allow, Deny}
use Rattle.banks.specs.declared.table.TableRecord.{TableRecord}
use Rattle.banks.specs.Verdicts.{Verdict, accepts, first_blocks, ill_sized, on_records, out_of_range, refused_if}

-- a number of tuples of one arity, one after the other in the cells
abbrev pub tuples_in : ℕ → ℕ → List ℕ → List (List ℕ)
tuples_in a zero xs = []
tuples_in a (suc n) xs = take a xs ∷ tuples_in a n (drop a xs)

-- cells as tuples of one arity
abbrev pub cut : ℕ → List ℕ → List (List ℕ)
cut a xs = tuples_in a (length xs / a) xs

abbrev pub table_scope : TableRecord → List ℕ
table_scope r = first_blocks r.arity r.blocks

abbrev pub table_cells : List ℕ → TableRecord → List ℕ
table_cells cells r = take (r.tuples * r.arity) (drop r.first cells)

abbrev pub tuples_of : List ℕ → TableRecord → List (List ℕ)
tuples_of cells r = tuples_in r.arity r.tuples (table_cells cells r)

-- each tuple comes before the next
abbrev pub climbs_from : List ℕ → List (List ℕ) → Bool
climbs_from t [] = true
climbs_from t (u ∷ us) = precedes t u && climbs_from u us

abbrev pub climbs : List (List ℕ) → Bool
climbs [] = true
climbs (t ∷ ts) = climbs_from t ts

abbrev pub table_verdict : List ℕ → TableRecord → Verdict
table_verdict cells r =
    refused_if (ill_sized r.arity || nat_lt 4096 r.tuples) LimitExceeded
    (refused_if (nat_lt (length cells) (r.first + r.tuples * r.arity)) PlaceTooShort
    (refused_if (out_of_range (table_scope r) || out_of_range (table_cells cells r)) OutOfRange
    (refused_if (not (is_distinct nat_eq (table_scope r)) || not (climbs (tuples_of cells r))) Repeated (Ok tt))))

abbrev pub tables_verdict : List ℕ → List TableRecord → Verdict
tables_verdict cells rs = on_records (table_verdict cells) rs

-- t is one of the tuples
abbrev pub listed : List (List ℕ) → List ℕ → Bool
listed ts t = some_pass (same_list t) ts

-- n slots from 0 to 31
abbrev pub slots_only : ℕ → List ℕ → Bool
slots_only n t = length t == n && list_all (λ x. ltb x 32) t

abbrev pub allowed_in : Kind → ℕ → List (List ℕ) → List ℕ → Bool
allowed_in Allow n ts t = listed ts t
allowed_in Deny n ts t = slots_only n t && not (listed ts t)

abbrev pub table_sheet : List ℕ → TableRecord → Sheet
table_sheet cells r = record { scope = table_scope r; allows = allowed_in r.kind r.arity (tuples_of cells r) }

-- what records mean: no sheets where the check refuses them
abbrev pub tables_meaning : List ℕ → List TableRecord → List Sheet
tables_meaning cells rs = cond (accepts (tables_verdict cells rs)) (map (table_sheet cells) rs) []

-- a slot is in the mask beside it
abbrev pub in_mask : ℕ × ℕ → Bool
in_mask p = nat_lt p.1 32 && has p.0 p.1

-- each slot of the tuple is in its mask
abbrev pub inside : List ℕ → List ℕ → Bool
inside [] [] = true
inside [] (s ∷ t) = false
inside (m ∷ ms) [] = false
inside (m ∷ ms) (s ∷ t) = in_mask (m, s) && inside ms t

-- the element of that place passes, and none before it does
pub record FirstPass (f : List ℕ → Bool) (ts : List (List ℕ)) (i : ℕ) : Type 0 where
  pub there : i < length ts
  pub passes : f (slice_index_or ts i []) ≡ true
  pub none_before : some_pass f (take i ts) ≡ false
