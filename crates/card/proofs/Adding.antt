-- A good line adds its entry to what lies in memory.
use Rattle.std.proofs.Common.{◌≡◌, ℕ, zero, suc, ◌+◌, ◌^◌, ◌≤◌, Bool, true, cond, ◌&&◌, eqb, ltb, leb, List, [], ◌∷◌, ◌++◌, map, length, take, codes, sym, refl, ap, ◌∙◌, subst, ap₂, inl, inr, append-nil, zero-add, arith, length-append}
use lib.ListN.{length-map}
use Rattle.std.specs.List.{list_all, flat_map}
use Rattle.std.proofs.lemmas.List.{flat_map_more, length_push, map_push}
use Rattle.std.proofs.lemmas.Bool.{and_parts, eqb-true, leb-true}
use Rattle.network.specs.Sheets.{is_distinct}
use Rattle.network.specs.declared.refusal.Refusal.TheVariants.{Malformed}
use Rattle.banks.specs.declared.table.Kind.{Kind}
use Rattle.banks.specs.declared.table.TableRecord.{TableRecord}
use Rattle.banks.specs.declared.table.Kind.TheVariants.{Allow, Deny}
use Rattle.banks.specs.declared.rule.RuleRecord.{RuleRecord}
use Rattle.banks.specs.declared.rule.Rule.TheVariants.{NotEqual, AllDiff}
use Rattle.card.specs.declared.entry.Entry.TheVariants.{Table as TableEntry, Tuple}
use Rattle.card.specs.Filling.{added, FitEntry, memory_at, memory_of}
use Rattle.card.specs.Layout.{cells_of, Memory, records_from, rule_record, table_record}
use Rattle.card.specs.Lists.{list_of}
use Rattle.card.specs.Spelling.{Network, RuleSheet, Table}
use Rattle.card.specs.Stages.{Solid}
use Rattle.card.specs.Steps.{entry_of}
use Rattle.card.specs.Verdict.{above_last, add_mask, add_rule, at, blocks_due, Due, end_due, faulty, good, is_number, judge, judged, kind_due, kind_or_rules, nothing_due, open_due, open_or_sheets, pieces, Reading, row_due, row_or_next, rows_due, rule_due, rule_or_end, rule_scope_due, rules_due, same_bytes, scope_due, scope_line, sheets_due, value_of}
use Rattle.card.proofs.Tests.{all_pass_map}
use Rattle.card.proofs.Checking.{packed_front}
use Rattle.card.proofs.Keyed.{judged_good, no_good}
use Rattle.card.proofs.Solids.{one_of, SolidDue}

-- the records of tables, one more at the end
records_push : (first : ℕ) (ts : List Table) (t : Table) → records_from first (ts ++ (t ∷ [])) ≡ records_from first ts ++ (table_record (first + length (flat_map cells_of ts)) t.kind t.scope (length t.tuples) ∷ [])
records_push first [] t = ap (λ n. table_record n t.kind t.scope (length t.tuples) ∷ []) (omega arith)
records_push first (s ∷ ts) t =
    ap (λ rs. table_record first s.kind s.scope (length s.tuples) ∷ rs)
    (records_push (first + length (cells_of s)) ts t
    ∙ ap (λ n. records_from (first + length (cells_of s)) ts ++ (table_record n t.kind t.scope (length t.tuples) ∷ []))
    (omega (arith, length-append (cells_of s) (flat_map cells_of ts))))

-- where a table has not begun
open_quiet : (n : ℕ) (x : Network) → memory_at (open_or_sheets n) x ≡ memory_at blocks_due x
open_quiet zero x = refl
open_quiet (suc n) x = refl

kind_quiet : (n : ℕ) (x : Network) → memory_at (kind_or_rules n) x ≡ memory_at blocks_due x
kind_quiet zero x = refl
kind_quiet (suc n) x = refl

rule_quiet : (n : ℕ) (x : Network) → memory_at (rule_or_end n) x ≡ memory_at blocks_due x
rule_quiet zero x = refl
rule_quiet (suc n) x = refl

abbrev with_tables : Network → List TableRecord → List ℕ → Memory
with_tables x rs cells = record { masks = x.masks; tables = rs; cells = cells; rules = map rule_record x.rules }

abbrev with_rules : Network → List RuleRecord → Memory
with_rules x rs = record { masks = x.masks; tables = (memory_at blocks_due x).tables; cells = (memory_at blocks_due x).cells; rules = rs }

module _ (k : ℕ) (kind : Kind) (scope : List ℕ) where
  -- a table that is whole
  whole : (us : List (List ℕ)) (q : Reading) →
      memory_of (row_or_next k kind scope zero us q)
      ≡ with_tables q.net (records_from 0 q.net.tables ++ (table_record (length (flat_map cells_of q.net.tables)) kind scope (length us) ∷ [])) (flat_map cells_of q.net.tables ++ flat_map (λ u. u) us)
  whole us q =
      let ts = q.net.tables in
      let t : Table = record { kind = kind; scope = scope; tuples = us } in
      let n : 0 + length (flat_map cells_of ts) ≡ length (flat_map cells_of ts) = omega arith in
      kind_quiet k _
      ∙ ap₂ (with_tables q.net)
      (append-nil (records_from 0 (ts ++ (t ∷ []))) ∙ records_push 0 ts t ∙ ap (λ m. records_from 0 ts ++ (table_record m kind scope (length us) ∷ [])) n)
      (append-nil (flat_map cells_of (ts ++ (t ∷ []))) ∙ sym (flat_map_more cells_of [] ts t))

  -- a table's first line of tuples
  begins : (j : ℕ) (q : Reading) → memory_of (row_or_next k kind scope j [] q) ≡ added (TableEntry kind (list_of scope) j) (memory_at (rows_due k kind scope) q.net)
  begins zero q =
      let ts = q.net.tables in
      whole [] q
      ∙ ap₂ (λ rs (n : ℕ). with_tables q.net (rs ++ (table_record n kind scope 0 ∷ [])) (flat_map cells_of ts ++ []))
      (sym (append-nil (records_from 0 ts))) (ap length (sym (append-nil (flat_map cells_of ts))))
  begins (suc j) q =
      let ts = q.net.tables in
      let row : List TableRecord → ℕ → ℕ → Memory = λ rs n m. with_tables q.net (rs ++ (table_record n kind scope m ∷ [])) (flat_map cells_of ts ++ []) in
      ap (λ m. row (records_from 0 ts) (length (flat_map cells_of ts)) m) (zero-add (suc j))
      ∙ ap₂ (λ rs n. row rs n (suc j)) (sym (append-nil (records_from 0 ts))) (ap length (sym (append-nil (flat_map cells_of ts))))

  -- one tuple more
  module _ (us : List (List ℕ)) (u : List ℕ) (q : Reading) where
    abbrev ts : List Table
    ts = q.net.tables

    abbrev cs : List ℕ
    cs = flat_map cells_of ts ++ flat_map (λ v. v) us

    -- so many tuples in the record
    abbrev row : ℕ → List ℕ → Memory
    row m cells = with_tables q.net (records_from 0 ts ++ (table_record (length (flat_map cells_of ts)) kind scope m ∷ [])) cells

    cells_more : flat_map cells_of ts ++ flat_map (λ v. v) (us ++ (u ∷ [])) ≡ cs ++ u
    cells_more = sym (flat_map_more (λ v. v) (flat_map cells_of ts) us u)

    one_more : (j : ℕ) → memory_of (row_or_next k kind scope j (us ++ (u ∷ [])) q) ≡ row (length us + suc j) (cs ++ u)
    one_more zero = whole (us ++ (u ∷ [])) q ∙ ap₂ row (omega (arith, length_push us u)) cells_more
    one_more (suc j) = ap₂ row (omega (arith, length_push us u)) cells_more

    goes_on : (j : ℕ) → take (length u) (list_of u).numbers ≡ u →
        memory_of (row_or_next k kind scope j (us ++ (u ∷ [])) q) ≡ added (Tuple (list_of u)) (memory_at (row_due k kind scope j us) q.net)
    goes_on j e = one_more j ∙ ap (λ v. row (length us + suc j) (cs ++ v)) (sym e)

-- what a line adds where it is due
pub record Adds (q p : Reading) (d : Due) (bs : List ℕ) : Type 0 where
  pub memory : memory_of p ≡ added (entry_of d bs) (memory_at d q.net)
  pub fit : FitEntry (entry_of d bs)

-- the reading after a line whose checks pass
passed : (a b c e : Bool) (q r p : Reading) (d : Due) (bs : List ℕ) → judged a b c e r ≡ good p → (a ≡ true → b ≡ true → c ≡ true → Adds q r d bs) → Adds q p d bs
passed a b c e q r p d bs h adds = let (form, limit, range, _, is) = judged_good a b c e r p h in subst (λ t. Adds q t d bs) (sym is) (adds form limit range)

module _ (q p : Reading) (key bs : List ℕ) where
  abbrev v : ℕ
  v = value_of bs

  abbrev ps : List (List ℕ)
  ps = pieces bs

  abbrev vs : List ℕ
  vs = map value_of (pieces bs)

  number_adds : (d : Due) (word : List ℕ) (limit : Bool) (r : Reading) → judged (same_bytes key word && is_number bs) limit true true r ≡ good p → Adds q r d bs → Adds q p d bs
  number_adds d word limit r h adds = passed (same_bytes key word && is_number bs) limit true true q r p d bs h (λ _ _ _. adds)

  scope_adds : (d : Due) (r : Reading) → scope_line (same_bytes key (codes "scope")) bs q r ≡ good p → (length vs ≤ 6 → Adds q r d bs) → Adds q p d bs
  scope_adds d r h adds =
      passed (same_bytes key (codes "scope") && list_all is_number ps) (leb 2 (length ps) && leb (length ps) 6) (list_all (λ y. ltb (value_of y) q.blocks) ps) (is_distinct eqb vs) q r p d bs h
      (λ _ limit _.
      let six : length ps ≤ 6 = leb-true (length ps) 6 (and_parts (leb 2 (length ps)) (leb (length ps) 6) limit).1 in
      adds (omega (arith, length-map ps value_of)))

  word_adds : (d : Due) (a c e : Bool) (x y : Reading) → cond a (cond c (good x) (cond e (good y) (faulty Malformed))) (faulty Malformed) ≡ good p → Adds q x d bs → Adds q y d bs → Adds q p d bs
  word_adds d a c e x y h sx sy = elim (one_of a c e x y p h) [ inl is ↦ subst (λ t. Adds q t d bs) (sym is) sx | inr is ↦ subst (λ t. Adds q t d bs) (sym is) sy ]

  adds_on : (d : Due) → SolidDue d → judge q d key bs ≡ good p → Adds q p d bs
  adds_on blocks_due s h =
      let r : Reading = record { due = open_or_sheets v; blocks = v; tuples = 0; net = q.net } in
      number_adds blocks_due (codes "blocks") (leb 1 v && leb v 32) r h (record { memory = open_quiet v q.net; fit = tt })
  adds_on (open_due k) s h =
      let r = at (open_or_sheets k) (add_mask v q) in
      number_adds (open_due k) (codes "open") (ltb v (2 ^ 32)) r h (record { memory = open_quiet k r.net; fit = tt })
  adds_on sheets_due s h =
      let r = at (kind_or_rules v) q in
      number_adds sheets_due (codes "sheets") (leb v 32) r h (record { memory = kind_quiet v q.net; fit = tt })
  adds_on (kind_due k) s h =
      let x = at (scope_due k Allow) q in
      let y = at (scope_due k Deny) q in
      word_adds (kind_due k) (same_bytes key (codes "kind")) (same_bytes bs (codes "allow")) (same_bytes bs (codes "deny")) x y h (record { memory = refl; fit = tt }) (record { memory = refl; fit = tt })
  adds_on (scope_due k kind) s h = scope_adds (scope_due k kind) (at (rows_due k kind vs) q) h (λ _. record { memory = refl; fit = tt })
  adds_on (rows_due k kind scope) s h =
      let g : Reading = record { due = q.due; blocks = q.blocks; tuples = q.tuples + v; net = q.net } in
      number_adds (rows_due k kind scope) (codes "rows") (leb (q.tuples + v) 4096) (row_or_next k kind scope v [] g) h (record { memory = begins k kind scope v g; fit = s.0 })
  adds_on (row_due k kind scope j ts) s h =
      passed (same_bytes key (codes "row") && (list_all is_number ps && eqb (length ps) (length scope))) true (list_all (λ y. ltb (value_of y) 32) ps) (above_last ts vs)
      q (row_or_next k kind scope j (ts ++ (vs ∷ [])) q) p (row_due k kind scope j ts) bs h
      (λ form _ range.
      let formed = (and_parts (same_bytes key (codes "row")) (list_all is_number ps && eqb (length ps) (length scope)) form).1 in
      let as_many : length ps ≡ length scope = eqb-true (length ps) (length scope) (and_parts (list_all is_number ps) (eqb (length ps) (length scope)) formed).1 in
      let narrow : length scope ≤ 6 = s.0.0 in
      let short : length vs ≤ 6 = omega (arith, length-map ps value_of) in
      record { memory = goes_on k kind scope ts vs q j (packed_front vs short (sym (all_pass_map (λ x. ltb x 32) value_of ps) ∙ range)); fit = (short, refl) })
  adds_on rules_due s h =
      let r = at (rule_or_end v) q in
      number_adds rules_due (codes "rules") (leb v 192) r h (record { memory = rule_quiet v q.net; fit = tt })
  adds_on (rule_due k) s h =
      let x = at (rule_scope_due k NotEqual) q in
      let y = at (rule_scope_due k AllDiff) q in
      word_adds (rule_due k) (same_bytes key (codes "rule")) (same_bytes bs (codes "notequal")) (same_bytes bs (codes "alldiff")) x y h (record { memory = refl; fit = tt }) (record { memory = refl; fit = tt })
  adds_on (rule_scope_due k rule) s h =
      let x : RuleSheet = record { rule = rule; scope = vs } in
      let r = at (rule_or_end k) (add_rule x q) in
      scope_adds (rule_scope_due k rule) r h
      (λ six. record {
        memory = rule_quiet k r.net ∙ ap (λ rs. with_rules q.net rs) (map_push rule_record q.net.rules x);
        fit = six;
      })
  adds_on end_due s h =
      passed (same_bytes key (codes "end") && same_bytes bs (codes "net")) true true true q (at nothing_due q) p end_due bs h (λ _ _ _. record { memory = refl; fit = tt })
  adds_on nothing_due s h = no_good Malformed p h

pub line_adds : (q p : Reading) (key bs : List ℕ) → Solid q → judge q q.due key bs ≡ good p → Adds q p q.due bs
line_adds q p key bs s h = adds_on q p key bs q.due (s.fit.next, s.slots) h
