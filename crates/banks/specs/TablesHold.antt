-- The verdict on a table's record, and that accepted records make a lawful bank.
use Rattle.std.specs.Prelude.{◌≡◌, ℕ, ◌+◌, ◌-◌, ◌*◌, ◌<◌, ◌≤◌, true, false, not, ◌||◌, ltb, List, [], map, length, take, drop, Ok, Err, nat_eq, nat_lt, slice_index_or}
use Rattle.std.proofs.Common.{arith, ◌∙◌, ap, sym}
use Rattle.std.proofs.lemmas.Bool.{le-ltb, ltb-false, not-false, or_from, or_parts}
use Rattle.network.specs.Sheets.{is_distinct}
use Rattle.network.specs.Laws.{LawfulBank, LawfulSheet}
use Rattle.network.specs.declared.refusal.Refusal.TheVariants.{LimitExceeded, OutOfRange, PlaceTooShort, Repeated}
use Rattle.network.proofs.Members.{in_at}
use Rattle.banks.specs.declared.table.Kind.TheVariants.{Allow}
use Rattle.banks.specs.declared.table.TableRecord.{TableRecord}
use Rattle.banks.specs.Verdicts.{Verdict, accepts, ill_sized, on_first, out_of_range, refused_if}
use Rattle.banks.specs.Tables.{allowed_in, climbs, table_cells, table_scope, table_sheet, table_verdict, tables_verdict, tuples_in, tuples_of}
use Rattle.banks.specs.Accepted.{blocks_front, each_accepted, passed, records_lawful, scope_lawful, sizes, well_sized}

-- what a read past the records would give
abbrev pub no_table : TableRecord
no_table = record { kind = Allow; arity = 0; blocks = []; first = 0; tuples = 0 }

-- the verdict on a record of a good size whose cells are there, by the tests of its blocks and of its cells
module _ (cells : List ℕ) (r : TableRecord) (sc tb : List ℕ) (scope-is : sc ≡ take r.arity r.blocks) (table_is : tb ≡ table_cells cells r)
    (wide : r.arity ≤ length r.blocks) (low : 2 ≤ r.arity) (high : r.arity ≤ 6) (short : r.tuples ≤ 4096)
    (there : r.first + r.tuples * r.arity ≤ length cells) where
  few : (ill_sized r.arity || nat_lt 4096 r.tuples) ≡ false
  few = or_from (ill_sized r.arity) (nat_lt 4096 r.tuples) (well_sized r.arity low high) (le-ltb 4096 r.tuples short)

  room : ltb (length cells) (r.first + r.tuples * r.arity) ≡ false
  room = le-ltb (length cells) (r.first + r.tuples * r.arity) there

  scope : table_scope r ≡ sc
  scope = blocks_front r.arity r.blocks wide ∙ sym scope-is

  pub table_out : (out_of_range sc || out_of_range tb) ≡ true → Err OutOfRange ≡ table_verdict cells r
  table_out e = sym (simp (few, room, scope, sym table_is, e))

  pub table_twice : (out_of_range sc || out_of_range tb) ≡ false → (not (is_distinct nat_eq sc) || not (climbs (tuples_in r.arity r.tuples tb))) ≡ true →
      Err Repeated ≡ table_verdict cells r
  table_twice e d = sym (simp (few, room, scope, sym table_is, e, d))

  pub table_fine : (out_of_range sc || out_of_range tb) ≡ false → (not (is_distinct nat_eq sc) || not (climbs (tuples_in r.arity r.tuples tb))) ≡ false →
      Ok tt ≡ table_verdict cells r
  table_fine e d = sym (simp (few, room, scope, sym table_is, e, d))

-- the part of the cells that the code takes
pub part_is : (cells : List ℕ) (r : TableRecord) → take (r.first + r.tuples * r.arity - r.first) (drop r.first cells) ≡ table_cells cells r
part_is cells r = let e : r.first + r.tuples * r.arity - r.first ≡ r.tuples * r.arity = omega arith in ap (λ k. take k (drop r.first cells)) e

-- what an accepted record has
pub record Fine (cells : List ℕ) (r : TableRecord) : Type 0 where
  pub size : ill_sized r.arity ≡ false
  pub narrow : r.arity ≤ 6
  pub short : r.tuples ≤ 4096
  pub there : r.first + r.tuples * r.arity ≤ length cells
  pub blocks : out_of_range (table_scope r) ≡ false
  pub apart : is_distinct nat_eq (table_scope r) ≡ true
  pub slots : out_of_range (table_cells cells r) ≡ false
  pub ascends : climbs (tuples_of cells r) ≡ true

pub table_accepted : (cells : List ℕ) (r : TableRecord) → accepts (table_verdict cells r) ≡ true → Fine cells r
table_accepted cells r h =
    let t1 = ill_sized r.arity || ltb 4096 r.tuples in
    let t2 = ltb (length cells) (r.first + r.tuples * r.arity) in
    let t3 = out_of_range (table_scope r) || out_of_range (table_cells cells r) in
    let t4 = not (is_distinct nat_eq (table_scope r)) || not (climbs (tuples_of cells r)) in
    let v4 : Verdict = refused_if t4 Repeated (Ok tt) in
    let v3 : Verdict = refused_if t3 OutOfRange v4 in
    let v2 : Verdict = refused_if t2 PlaceTooShort v3 in
    let a = passed t1 LimitExceeded v2 h in
    let b = passed t2 PlaceTooShort v3 a.1 in
    let d = passed t3 OutOfRange v4 b.1 in
    let e = passed t4 Repeated (Ok tt) d.1 in
    let a' = or_parts (ill_sized r.arity) (nat_lt 4096 r.tuples) a.0 in
    let d' = or_parts (out_of_range (table_scope r)) (out_of_range (table_cells cells r)) d.0 in
    let e' = or_parts (not (is_distinct nat_eq (table_scope r))) (not (climbs (tuples_of cells r))) e.0 in
    record {
      size = a'.0;
      narrow = (sizes r.arity a'.0).1;
      short = ltb-false 4096 r.tuples a'.1;
      there = ltb-false (length cells) (r.first + r.tuples * r.arity) b.0;
      blocks = d'.0;
      apart = not-false (is_distinct nat_eq (table_scope r)) e'.0;
      slots = d'.1;
      ascends = not-false (climbs (tuples_of cells r)) e'.1;
    }

pub table_lawful : (cells : List ℕ) (r : TableRecord) → accepts (table_verdict cells r) ≡ true → LawfulSheet (table_sheet cells r)
table_lawful cells r h =
    let f = table_accepted cells r h in
    scope_lawful r.arity r.blocks (allowed_in r.kind r.arity (tuples_of cells r)) f.size f.blocks f.apart

pub tables_lawful : (cells : List ℕ) (rs : List TableRecord) → accepts (tables_verdict cells rs) ≡ true → LawfulBank (map (table_sheet cells) rs)
tables_lawful cells rs h = records_lawful (table_verdict cells) (table_sheet cells) (table_lawful cells) rs h

pub table_fine_at : (cells : List ℕ) (rs : List TableRecord) → accepts (tables_verdict cells rs) ≡ true → (c : ℕ) (d : TableRecord) → c < length rs → Fine cells (slice_index_or rs c d)
table_fine_at cells rs h c d l =
    let a = passed (nat_lt 1024 (length rs)) LimitExceeded (on_first (table_verdict cells) rs) h in
    table_accepted cells (slice_index_or rs c d) (each_accepted (table_verdict cells) rs a.1 (slice_index_or rs c d) (in_at rs c d l))
