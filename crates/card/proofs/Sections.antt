-- The sections of a card: the masks, the tables, the rules and the end, each with the passage that it makes.
use Rattle.std.proofs.Common.{◌≡◌, ℕ, suc, ◌+◌, ◌^◌, ◌<◌, ◌≤◌, Bool, true, false, ◌&&◌, ltb, leb, List, [], ◌∷◌, ◌++◌, length, codes, decimal, fold, sum_by, sym, refl, ap, ◌∙◌, arith}
use Rattle.std.specs.List.{flat_map, AllByRecursion}
use Rattle.std.proofs.lemmas.List.Sums.{sum_by_push, sum_by-append}
use Rattle.std.proofs.lemmas.Bool.{and_parts, and_from}
use Rattle.std.proofs.lemmas.Bool.Decides.{Decides-and}
use Rattle.network.specs.Tree.{precedes}
use Rattle.banks.specs.declared.table.Kind.{Kind}
use Rattle.banks.specs.declared.table.Kind.TheVariants.{Allow, Deny}
use Rattle.banks.specs.declared.rule.Rule.{Rule}
use Rattle.banks.specs.declared.rule.Rule.TheVariants.{NotEqual, AllDiff}
use Rattle.banks.specs.Tables.{climbs, climbs_from}
use Rattle.card.specs.Spelling.{Table, RuleSheet, kind_word, rule_word, listed, ScopeWithin, TableWithin}
use Rattle.card.specs.Verdict.{Due, open_due, sheets_due, kind_due, scope_due, rows_due, rules_due, rule_due, rule_scope_due, end_due, nothing_due, Reading, nothing_read, open_or_sheets, kind_or_rules, rule_or_end, row_or_next, above_last, same_bytes}
use Rattle.card.proofs.Tests.{never, decides_leb}
use Rattle.card.proofs.Lines.{same_bytes_true}
use Rattle.card.proofs.Passages.{Passage, chain, like, within, times, times_each, counted}
use Rattle.card.proofs.Keyed.{text, with_key, keyed, numbered, worded}
use Rattle.card.proofs.Scopes.{scoped, rowed}

abbrev pub reading : Due → ℕ → ℕ → List ℕ → List Table → List RuleSheet → Reading
reading d n rows ms ts rs = record { due = d; blocks = n; tuples = rows; net = record { masks = ms; tables = ts; rules = rs } }

-- the masks: their number, and each
pub masks_passage : Passage nothing_read (λ ms. ((1 ≤ length ms) × (length ms ≤ 32)) × AllByRecursion (λ m. m < 2 ^ 32) ms)
    (λ ms. text (codes "blocks") (decimal (length ms)) ∷ flat_map (with_key (codes "open") decimal) ms) (λ ms. reading sheets_due (length ms) 0 ms [] [])
masks_passage = counted blocks_line (λ n _. times_each (λ m. m < 2 ^ 32) (with_key (codes "open") decimal) (λ k ms. reading (open_or_sheets k) n 0 ms [] []) (open_line n) n)
  where
    blocks_line : Passage nothing_read (λ n. (1 ≤ n) × (n ≤ 32)) (with_key (codes "blocks") decimal) (λ n. reading (open_or_sheets n) n 0 [] [] [])
    blocks_line = numbered _ (λ e. never cc) (codes "blocks") (refl, refl) (λ n. leb 1 n && leb n 32) (λ _ _. refl) (λ n. Decides-and _ _ (decides_leb 1 n) (decides_leb n 32)) (λ n h. omega arith)

    open_line : (n k : ℕ) (ms : List ℕ) →
        Passage (reading (open_due k) n 0 ms [] []) (λ m. m < 2 ^ 32) (with_key (codes "open") decimal) (λ m. reading (open_or_sheets k) n 0 (ms ++ (m ∷ [])) [] [])
    open_line n k ms = numbered _ (λ e. never cc) (codes "open") (refl, refl) (λ m. ltb m (2 ^ 32)) (λ _ _. refl) (λ m. decides_leb (suc m) (2 ^ 32)) (λ m h. omega arith)

-- tuples that ascend
climbs_from_front : (t : List ℕ) (ts us : List (List ℕ)) → climbs_from t (ts ++ us) ≡ true → climbs_from t ts ≡ true
climbs_from_front t [] us e = refl
climbs_from_front t (v ∷ vs) us e = let (a, b) = and_parts (precedes t v) _ e in and_from _ _ a (climbs_from_front v vs us b)

climbs_front : (ts us : List (List ℕ)) → climbs (ts ++ us) ≡ true → climbs ts ≡ true
climbs_front [] us e = refl
climbs_front (t ∷ ts) us e = climbs_from_front t ts us e

climbs_from_push : (t : List ℕ) (ts : List (List ℕ)) (u : List ℕ) → climbs_from t (ts ++ (u ∷ [])) ≡ (climbs_from t ts && precedes (fold (λ _ v. v) t ts) u)
climbs_from_push t [] u = and_true (precedes t u)
  where
    and_true : (b : Bool) → (b && true) ≡ b
    and_true true = refl
    and_true false = refl
climbs_from_push t (v ∷ vs) u = ap (λ b. precedes t v && b) (climbs_from_push v vs u) ∙ and_assoc (precedes t v) _ _
  where
    and_assoc : (a b c : Bool) → (a && (b && c)) ≡ ((a && b) && c)
    and_assoc true b c = refl
    and_assoc false b c = refl

climbs_push : (ts : List (List ℕ)) (u : List ℕ) → climbs (ts ++ (u ∷ [])) ≡ (climbs ts && above_last ts u)
climbs_push [] u = refl
climbs_push (t ∷ ts) u = climbs_from_push t ts u

-- the rows of one table, after r
rows_passage : (r : Reading) (k : ℕ) (kind : Kind) (scope : List ℕ) → 2 ≤ length scope → (m : ℕ) →
    Passage (row_or_next k kind scope m [] r) (λ us. (length us ≡ m) × (AllByRecursion (λ u. (length u ≡ length scope) × AllByRecursion (λ s. s < 32) u) us × (climbs us ≡ true)))
    (flat_map (with_key (codes "row") listed)) (λ us. row_or_next k kind scope 0 us r)
rows_passage r k kind scope two m = times (λ u. (length u ≡ length scope) × AllByRecursion (λ s. s < 32) u) (λ us. climbs us ≡ true) (with_key (codes "row") listed)
    (λ j us. row_or_next k kind scope j us r) climbs_front
    (λ j us h. within (rowed r k kind scope j us two)
    (λ u l. (l.0, climbs_push us u ∙ and_from _ _ h l.1)) (λ u l. (l.0, (and_parts _ _ (sym (climbs_push us u) ∙ l.1)).1)))
    m [] refl

abbrev pub table_lines : Table → List (List ℕ)
table_lines t =
    text (codes "kind") (kind_word t.kind) ∷ (text (codes "scope") (listed t.scope)
    ∷ (text (codes "rows") (decimal (length t.tuples)) ∷ flat_map (with_key (codes "row") listed) t.tuples))

abbrev pub total : List Table → ℕ
total ts = sum_by (λ t. length t.tuples) ts

module _ (n : ℕ) (few : n ≤ 32) (ms : List ℕ) where
  -- one table, with so many rows before it
  table_passage : (k rows : ℕ) (ts : List Table) →
      Passage (reading (kind_due k) n rows ms ts []) (λ t. TableWithin n t × (rows + length t.tuples ≤ 4096)) table_lines
      (λ t. reading (kind_or_rules k) n (rows + length t.tuples) ms (ts ++ (t ∷ [])) [])
  table_passage k rows ts = like
      (chain kind_line (λ kind _. chain (scope_line kind) (λ s h. counted (rows_line kind s)
      (λ m _. rows_passage (reading (rows_due k kind s) n (rows + m) ms ts []) k kind s h.low m))))
      (λ v h. (
        record { kind = v.0; scope = v.1.0; tuples = v.1.1 },
        (record { scope = h.1.0; tuples = h.1.1.1.0; ascend = h.1.1.1.1 }, h.1.1.0),
        refl,
        refl,
      ))
      (λ t h. ((t.kind, (t.scope, t.tuples)), (tt, (h.0.scope, (h.1, (h.0.tuples, h.0.ascend)))), refl, refl))
    where
      kind_line : Passage (reading (kind_due k) n rows ms ts []) (λ _. Unit {0}) (with_key (codes "kind") kind_word) (λ kind. reading (scope_due k kind) n rows ms ts [])
      kind_line = worded _ (λ e. never cc) (codes "kind") (refl, refl) Allow Deny kind_word (λ _ _. refl) (elim [ Allow ↦ (refl, refl, refl) | Deny ↦ (refl, refl, refl) ])

      scope_line : (kind : Kind) → Passage (reading (scope_due k kind) n rows ms ts []) (ScopeWithin n) (with_key (codes "scope") listed) (λ s. reading (rows_due k kind s) n rows ms ts [])
      scope_line kind = scoped _ (λ e. never cc) few (λ _ _. refl)

      rows_line : (kind : Kind) (s : List ℕ) → Passage (reading (rows_due k kind s) n rows ms ts []) (λ m. rows + m ≤ 4096) (with_key (codes "rows") decimal)
          (λ m. row_or_next k kind s m [] (reading (rows_due k kind s) n (rows + m) ms ts []))
      rows_line kind s = numbered _ (λ e. never cc) (codes "rows") (refl, refl) (λ m. leb (rows + m) 4096) (λ _ _. refl) (λ m. decides_leb (rows + m) 4096) (λ m h. omega arith)

  -- the tables: their number, and each
  pub tables_passage : Passage (reading sheets_due n 0 ms [] []) (λ ts. (length ts ≤ 32) × (AllByRecursion (TableWithin n) ts × (total ts ≤ 4096)))
      (λ ts. text (codes "sheets") (decimal (length ts)) ∷ flat_map table_lines ts) (λ ts. reading rules_due n (total ts) ms ts [])
  tables_passage = counted sheets_line (λ m _. times (TableWithin n) (λ ts. total ts ≤ 4096) table_lines (λ k ts. reading (kind_or_rules k) n (total ts) ms ts [])
      (λ vs ws h. omega (arith, sum_by-append (λ t. length t.tuples) vs ws))
      (λ k ts _. like (table_passage k (total ts) ts) (λ t l. (t, (l.0, rw (more ts t) l.1), refl, rw (more ts t))) (λ t l. (t, (l.0, rw (more ts t) at l.1), refl, rw (more ts t))))
      m [] (omega arith))
    where
      more : (ts : List Table) (t : Table) → total (ts ++ (t ∷ [])) ≡ total ts + length t.tuples
      more = sum_by_push (λ t. length t.tuples)

      sheets_line : Passage (reading sheets_due n 0 ms [] []) (λ m. m ≤ 32) (with_key (codes "sheets") decimal) (λ m. reading (kind_or_rules m) n 0 ms [] [])
      sheets_line = numbered _ (λ e. never cc) (codes "sheets") (refl, refl) (λ m. leb m 32) (λ _ _. refl) (λ m. decides_leb m 32) (λ m h. omega arith)

abbrev pub rule_lines : RuleSheet → List (List ℕ)
rule_lines r = text (codes "rule") (rule_word r.rule) ∷ (text (codes "scope") (listed r.scope) ∷ [])

module _ (n : ℕ) (few : n ≤ 32) (rows : ℕ) (ms : List ℕ) (ts : List Table) where
  -- one rule
  rule_passage : (k : ℕ) (rs : List RuleSheet) →
      Passage (reading (rule_due k) n rows ms ts rs) (λ r. ScopeWithin n r.scope) rule_lines (λ r. reading (rule_or_end k) n rows ms ts (rs ++ (r ∷ [])))
  rule_passage k rs = like (chain rule_line (λ rule _. scope_line rule))
      (λ v h. (record { rule = v.0; scope = v.1 }, h.1, refl, refl)) (λ r h. ((r.rule, r.scope), (tt, h), refl, refl))
    where
      rule_line : Passage (reading (rule_due k) n rows ms ts rs) (λ _. Unit {0}) (with_key (codes "rule") rule_word) (λ rule. reading (rule_scope_due k rule) n rows ms ts rs)
      rule_line = worded _ (λ e. never cc) (codes "rule") (refl, refl) NotEqual AllDiff rule_word (λ _ _. refl) (elim [ NotEqual ↦ (refl, refl, refl) | AllDiff ↦ (refl, refl, refl) ])

      scope_line : (rule : Rule) → Passage (reading (rule_scope_due k rule) n rows ms ts rs) (ScopeWithin n) (with_key (codes "scope") listed)
          (λ s. reading (rule_or_end k) n rows ms ts (rs ++ (record { rule = rule; scope = s } ∷ [])))
      scope_line rule = scoped _ (λ e. never cc) few (λ _ _. refl)

  -- the rules: their number, and each
  pub rules_passage : Passage (reading rules_due n rows ms ts []) (λ rs. (length rs ≤ 192) × AllByRecursion (λ r. ScopeWithin n r.scope) rs)
      (λ rs. text (codes "rules") (decimal (length rs)) ∷ flat_map rule_lines rs) (λ rs. reading end_due n rows ms ts rs)
  rules_passage = counted rules_line (λ m _. times_each (λ r. ScopeWithin n r.scope) rule_lines (λ k rs. reading (rule_or_end k) n rows ms ts rs) rule_passage m)
    where
      rules_line : Passage (reading rules_due n rows ms ts []) (λ m. m ≤ 192) (with_key (codes "rules") decimal) (λ m. reading (rule_or_end m) n rows ms ts [])
      rules_line = numbered _ (λ e. never cc) (codes "rules") (refl, refl) (λ m. leb m 192) (λ _ _. refl) (λ m. decides_leb m 192) (λ m h. omega arith)

  -- the last line
  pub end_passage : (rs : List RuleSheet) →
      Passage (reading end_due n rows ms ts rs) {V = Unit {0}} (λ _. Unit {0}) (with_key (codes "end") (λ _. codes "net")) (λ _. reading nothing_due n rows ms ts rs)
  end_passage rs = keyed _ (λ e. never cc) (codes "end") (refl, refl) (λ bs. same_bytes bs (codes "net")) (λ _. true) (λ _. true) (λ _. true) (λ _. tt) (λ _. codes "net") (λ _ _. refl)
      (λ bs a _ _ _. (tt, same_bytes_true bs (codes "net") a)) (λ _ _. (refl, refl, refl, refl, refl, refl))
