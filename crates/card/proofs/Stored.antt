-- A network that lies in memory passes the checks of its records, and means its sheets.
use Rattle.std.proofs.Common.{◌≡◌, ℕ, ◌+◌, ◌*◌, ◌<◌, ◌≤◌, Bool, true, false, not, ltb, leb, List, [], ◌∷◌, ◌++◌, map, length, take, drop, Ok, sym, refl, ap, ◌∙◌, ap₂, append_assoc, suc-mul, zero-mul, arith, length-append}
use Rattle.std.specs.List.{list_all, flat_map, AllByRecursion}
use Rattle.std.proofs.lemmas.List.{drop_at, take_at}
use Rattle.std.proofs.lemmas.Bool.{and_from, lt-leb, lt-ltb, or_from}
use Rattle.network.specs.Sheets.{Sheet, some_pass}
use Rattle.banks.specs.declared.table.TableRecord.{TableRecord}
use Rattle.banks.specs.Accepted.{blocks_front, well_sized}
use Rattle.banks.specs.Tables.{allowed_in, climbs, table_cells, table_scope, table_sheet, table_verdict, tuples_in}
use Rattle.banks.specs.TablesHold.{table_fine}
use Rattle.banks.specs.Rules.{rule_sheet, rule_verdict}
use Rattle.banks.specs.Verdicts.{first_blocks, first_of, on_first, out_of_range}
use Rattle.card.specs.Layout.{cells_of, records_from, rule_record, table_record}
use Rattle.card.specs.Lists.{packed}
use Rattle.card.specs.Sheets.{sheet_of_rule, sheet_of_table}
use Rattle.card.specs.Spelling.{RuleSheet, ScopeWithin, Table, TableWithin}
use Rattle.card.proofs.Tests.{all_pass_append}
use Rattle.card.proofs.Checking.{packed_front}

all_below : (n : ℕ) (xs : List ℕ) → n ≤ 32 → AllByRecursion (λ b. b < n) xs → list_all (λ x. ltb x 32) xs ≡ true
all_below n [] l h = refl
all_below n (x ∷ xs) l h = and_from _ _ (lt-ltb x 32 (omega arith)) (all_below n xs l h.1)

in_range : (xs : List ℕ) → list_all (λ x. ltb x 32) xs ≡ true → out_of_range xs ≡ false
in_range xs e = ap not e

-- the six block numbers of a scope
module _ (n : ℕ) (small : n ≤ 32) (scope : List ℕ) (h : ScopeWithin n scope) where
  scope_below : list_all (λ x. ltb x 32) scope ≡ true
  scope_below = all_below n scope small h.blocks

  pub scope_packed : take (length scope) (packed scope) ≡ scope
  scope_packed = packed_front scope h.high scope_below

  pub scope_read : first_blocks (length scope) (packed scope) ≡ scope
  scope_read = blocks_front (length scope) (packed scope) h.high ∙ scope_packed

-- tuples of one length, one after the other
module _ (a : ℕ) where
  abbrev Slotted : List ℕ → Type 0
  Slotted u = (length u ≡ a) × AllByRecursion (λ s. s < 32) u

  pub tuples_long : (us : List (List ℕ)) → AllByRecursion Slotted us → length (flat_map (λ u. u) us) ≡ length us * a
  tuples_long [] h = sym (zero-mul a)
  tuples_long (u ∷ us) h = omega (arith, length-append u (flat_map (λ v. v) us), h.0.0, tuples_long us h.1, suc-mul (length us) a)

  tuples_back : (us : List (List ℕ)) → AllByRecursion Slotted us → tuples_in a (length us) (flat_map (λ u. u) us) ≡ us
  tuples_back [] h = refl
  tuples_back (u ∷ us) h =
      ap₂ (λ v vs. v ∷ vs) (take_at u (flat_map (λ v. v) us) a h.0.0) (ap (tuples_in a (length us)) (drop_at u (flat_map (λ v. v) us) a h.0.0) ∙ tuples_back us h.1)

  tuples_below : (us : List (List ℕ)) → AllByRecursion Slotted us → list_all (λ x. ltb x 32) (flat_map (λ u. u) us) ≡ true
  tuples_below [] h = refl
  tuples_below (u ∷ us) h = all_pass_append (λ x. ltb x 32) u (flat_map (λ v. v) us) (all_below 32 u (omega arith) h.0.1) (tuples_below us h.1)

-- a table whose cells stand after others
module _ (n : ℕ) (small : n ≤ 32) (t : Table) (h : TableWithin n t) (few : length t.tuples ≤ 4096) (pre post cells : List ℕ) (f : ℕ)
    (cells_are : cells ≡ pre ++ (cells_of t ++ post)) (pre-long : length pre ≡ f) where
  abbrev r : TableRecord
  r = table_record f t.kind t.scope (length t.tuples)

  many : length (cells_of t) ≡ length t.tuples * length t.scope
  many = tuples_long (length t.scope) t.tuples h.tuples

  cells_back : table_cells cells r ≡ cells_of t
  cells_back =
      ap (λ cs. take (length t.tuples * length t.scope) (drop f cs)) cells_are
      ∙ ap (take (length t.tuples * length t.scope)) (drop_at pre (cells_of t ++ post) f pre-long)
      ∙ take_at (cells_of t) post (length t.tuples * length t.scope) many

  scope_back : table_scope r ≡ t.scope
  scope_back = scope_read n small t.scope h.scope

  there : f + length t.tuples * length t.scope ≤ length cells
  there = omega (arith, ap length cells_are, length-append pre (cells_of t ++ post), length-append (cells_of t) post, many)

  ascend : climbs (tuples_in (length t.scope) (length t.tuples) (cells_of t)) ≡ true
  ascend = ap climbs (tuples_back (length t.scope) t.tuples h.tuples) ∙ h.ascend

  table_good : table_verdict cells r ≡ Ok tt
  table_good = sym
      (table_fine cells r t.scope (cells_of t) (sym (scope_packed n small t.scope h.scope)) (sym cells_back) h.scope.high h.scope.low h.scope.high few there
      (or_from _ _ (in_range t.scope (scope_below n small t.scope h.scope)) (in_range (cells_of t) (tuples_below (length t.scope) t.tuples h.tuples)))
      (or_from _ _ (ap not h.scope.apart) (ap not ascend)))

  table_means : table_sheet cells r ≡ sheet_of_table t
  table_means =
      let build : List ℕ → List (List ℕ) → Sheet = λ s ts. record { scope = s; allows = allowed_in t.kind (length t.scope) ts } in
      ap₂ build scope_back (ap (tuples_in (length t.scope) (length t.tuples)) cells_back ∙ tuples_back (length t.scope) t.tuples h.tuples)

module _ (n : ℕ) (small : n ≤ 32) where
  -- tables one after the other
  pub tables_good : (ts : List Table) → AllByRecursion (TableWithin n) ts → AllByRecursion (λ t. length t.tuples ≤ 4096) ts → (pre post cells : List ℕ) (f : ℕ) → cells ≡ pre ++ (flat_map cells_of ts ++ post) → length pre ≡ f →
      (on_first (table_verdict cells) (records_from f ts) ≡ Ok tt) × (map (table_sheet cells) (records_from f ts) ≡ map sheet_of_table ts)
  tables_good [] h few pre post cells f is long = (refl, refl)
  tables_good (t ∷ ts) h few pre post cells f is long =
      let here : cells ≡ pre ++ (cells_of t ++ (flat_map cells_of ts ++ post)) = is ∙ ap (λ cs. pre ++ cs) (append_assoc (cells_of t) (flat_map cells_of ts) post) in
      let more = tables_good ts h.1 few.1 (pre ++ cells_of t) post cells (f + length (cells_of t)) (here ∙ sym (append_assoc pre (cells_of t) (flat_map cells_of ts ++ post)))
      (omega (arith, length-append pre (cells_of t))) in
      let one = table_good n small t h.0 few.0 pre (flat_map cells_of ts ++ post) cells f here long in
      let means = table_means n small t h.0 few.0 pre (flat_map cells_of ts ++ post) cells f here long in (
        ap (λ v. first_of v (on_first (table_verdict cells) (records_from (f + length (cells_of t)) ts))) one ∙ more.0,
        ap₂ (λ s ss. s ∷ ss) means more.1,
      )

  rule_good : (r : RuleSheet) → ScopeWithin n r.scope → rule_verdict (rule_record r) ≡ Ok tt
  rule_good r h =
      let read = scope_read n small r.scope h in
      simp (well_sized (length r.scope) h.low h.high, read, in_range r.scope (scope_below n small r.scope h), h.apart)

  pub rules_good : (rs : List RuleSheet) → AllByRecursion (λ r. ScopeWithin n r.scope) rs → (on_first rule_verdict (map rule_record rs) ≡ Ok tt) × (map rule_sheet (map rule_record rs) ≡ map sheet_of_rule rs)
  rules_good [] h = (refl, refl)
  rules_good (r ∷ rs) h =
      let more = rules_good rs h.1 in
      let build : List ℕ → Sheet = λ s. record { scope = s; allows = (sheet_of_rule r).allows } in (
        ap (λ v. first_of v (on_first rule_verdict (map rule_record rs))) (rule_good r h.0) ∙ more.0,
        ap₂ (λ s ss. s ∷ ss) (ap build (scope_read n small r.scope h.0)) more.1,
      )

-- a sheet names a block not below n
abbrev pub misfits : ℕ → List Sheet → Bool
misfits n m = some_pass (λ sh. some_pass (λ b. leb n b) sh.scope) m

-- every block of a scope is below n
module _ (n : ℕ) where
  scope_fits : (scope : List ℕ) → AllByRecursion (λ b. b < n) scope → some_pass (λ b. leb n b) scope ≡ false
  scope_fits [] h = refl
  scope_fits (b ∷ bs) h = or_from _ _ (lt-leb n b h.0) (scope_fits bs h.1)

  pub sheets_fit : {A : Type 0} (sheet : A → Sheet) (xs : List A) (rest : List Sheet) → AllByRecursion (λ x. ScopeWithin n (sheet x).scope) xs → misfits n rest ≡ false → misfits n (map sheet xs ++ rest) ≡ false
  sheets_fit sheet [] rest h e = e
  sheets_fit sheet (x ∷ xs) rest h e = or_from _ _ (scope_fits (sheet x).scope h.0.blocks) (sheets_fit sheet xs rest h.1 e)
