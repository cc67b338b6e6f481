-- What is accepted is a network within the limits, and its memory then holds it; and a card that spells one is accepted where there is room.
use Rattle.std.proofs.Common.{◌≡◌, ℕ, suc, ◌+◌, ◌≤◌, Bool, true, false, cond, List, [], ◌∷◌, map, length, take, drop, Ok, Err, Result, sym, refl, ap, ◌∙◌, subst, ap₂, append-nil, arith, length-append}
use Rattle.std.specs.List.{AllByRecursion, flat_map}
use Rattle.std.proofs.lemmas.Bool.{cond-true, le-ltb}
use Rattle.std.proofs.lemmas.List.Sums.{sum_by-cons}
use Rattle.std.proofs.lemmas.List.{length-map, take_all, take_at}
use Rattle.network.specs.declared.refusal.Refusal.TheVariants.{PlaceTooShort}
use Rattle.banks.specs.Both.{both}
use Rattle.banks.specs.Rules.{rule_sheet, rule_verdict, rules_meaning, rules_verdict}
use Rattle.banks.specs.Tables.{table_sheet, table_verdict, tables_meaning, tables_verdict}
use Rattle.banks.specs.Verdicts.{Verdict, accepts, on_first, on_records}
use Rattle.banks.specs.declared.rule.RuleRecord.{RuleRecord}
use Rattle.banks.specs.declared.table.TableRecord.{TableRecord}
use Rattle.card.specs.declared.refusal.CardRefusal.{CardRefusal}
use Rattle.card.specs.declared.sizes.Sizes.{Sizes}
use Rattle.card.specs.Layout.{cells_of, layout, Memory, over, records_from, rule_record, sizes_of}
use Rattle.card.specs.Reads.{Accepts, answer_for, fits, HoldsNetwork, memory_after, SpellsExactly}
use Rattle.card.specs.Sheets.{sheet_of_rule, sheet_of_table, sheets_of}
use Rattle.card.specs.Spelling.{Network, ScopeWithin, Table, TableWithin, Within}
use Rattle.card.specs.Verdict.{Verdict as Card, fault, spelled, verdict}
use Rattle.card.proofs.Sections.{total}
use Rattle.card.proofs.Stored.{misfits, rules_good, sheets_fit, tables_good}
use Rattle.card.proofs.Theorem.{accepted_spells, spelled_accepts}

few_each : (ts : List Table) → total ts ≤ 4096 → AllByRecursion (λ t. length t.tuples ≤ 4096) ts
few_each [] h = tt
few_each (t ∷ ts) h = (omega (arith, h, sum_by-cons (λ t. length t.tuples) t ts), few_each ts (omega (arith, h, sum_by-cons (λ t. length t.tuples) t ts)))

pub records_long : (f : ℕ) (ts : List Table) → length (records_from f ts) ≡ length ts
records_long f [] = refl
records_long f (t ∷ ts) = ap suc (records_long (f + length (cells_of t)) ts)

-- records of which each is good, and which are few
on_few : {A : Type 0} (v : A → Verdict) (rs : List A) → length rs ≤ 1024 → on_first v rs ≡ Ok tt → on_records v rs ≡ Ok tt
on_few v rs few good = rw (le-ltb 1024 (length rs) few) good

module _ (x : Network) (h : Within x) (old : Memory) where
  abbrev m : Memory
  m = over (layout x) old

  abbrev s : Sizes
  s = sizes_of (layout x)

  abbrev tables : List TableRecord
  tables = records_from 0 x.tables

  abbrev rules : List RuleRecord
  rules = map rule_record x.rules

  tables_front : take s.tables m.tables ≡ tables
  tables_front = take_at tables (drop (length tables) old.tables) (length tables) refl

  rules_front : take s.rules m.rules ≡ rules
  rules_front = take_at rules (drop (length rules) old.rules) (length rules) refl

  tables_each : (on_first (table_verdict m.cells) tables ≡ Ok tt) × (map (table_sheet m.cells) tables ≡ map sheet_of_table x.tables)
  tables_each = tables_good (length x.masks) h.few.1 x.tables h.tables (few_each x.tables h.few_tuples) [] (drop (length (flat_map cells_of x.tables)) old.cells) m.cells 0 refl refl

  rules_each : (on_first rule_verdict rules ≡ Ok tt) × (map rule_sheet rules ≡ map sheet_of_rule x.rules)
  rules_each = rules_good (length x.masks) h.few.1 x.rules h.rules

  tables_pass : tables_verdict m.cells tables ≡ Ok tt
  tables_pass = on_few (table_verdict m.cells) tables (omega (arith, records_long 0 x.tables, h.sheets)) tables_each.0

  rules_pass : rules_verdict rules ≡ Ok tt
  rules_pass = on_few rule_verdict rules (omega (arith, length-map x.rules rule_record, h.few_rules)) rules_each.0

  tables_mean : tables_meaning m.cells tables ≡ map sheet_of_table x.tables
  tables_mean = cond-true _ _ _ (ap accepts tables_pass) ∙ tables_each.1

  rules_mean : rules_meaning rules ≡ map sheet_of_rule x.rules
  rules_mean = ap (map rule_sheet) (cond-true _ _ _ (ap accepts rules_pass)) ∙ rules_each.1

  all_mean : both (tables_meaning m.cells tables) (rules_meaning rules) ≡ sheets_of x
  all_mean = ap₂ both tables_mean rules_mean
      ∙ take_all 1024 (sheets_of x) (omega (
        arith,
        length-append (map sheet_of_table x.tables) (map sheet_of_rule x.rules),
        length-map x.tables sheet_of_table,
        length-map x.rules sheet_of_rule,
        h.sheets,
        h.few_rules,
      ))

  tables_fit : misfits (length x.masks) (sheets_of x) ≡ false
  tables_fit = sheets_fit (length x.masks) sheet_of_table x.tables (map sheet_of_rule x.rules) (scopes x.tables h.tables)
      (ap (misfits (length x.masks)) (sym (append-nil (map sheet_of_rule x.rules))) ∙ sheets_fit (length x.masks) sheet_of_rule x.rules [] h.rules refl)
    where
      scopes : (ts : List Table) → AllByRecursion (TableWithin (length x.masks)) ts → AllByRecursion (λ t. ScopeWithin (length x.masks) t.scope) ts
      scopes [] k = tt
      scopes (t ∷ ts) k = (k.0.scope, scopes ts k.1)

  pub holds : HoldsNetwork x s m
  holds = record {
    masks = take_at x.masks (drop (length x.masks) old.masks) (length x.masks) refl;
    tables = ap (tables_verdict m.cells) tables_front ∙ tables_pass;
    rules = ap rules_verdict rules_front ∙ rules_pass;
    sheets = ap₂ (λ ts rs. both (tables_meaning m.cells ts) (rules_meaning rs)) tables_front rules_front ∙ all_mean;
    few = h.few;
    fit = tables_fit;
  }

-- the verdict and the spelling agree
pub exactly : (card : List ℕ) (x : Network) → SpellsExactly card x
exactly card x = record {
  judged = λ v. let spells = accepted_spells card x v in record { within = spells.0; text = spells.1; short = spells.2 };
  spelt = λ h. ap verdict h.text ∙ spelled_accepts x h.within (subst (λ t. length t ≤ 32768) h.text h.short);
}

-- what is answered where a card is accepted
pub accepted_holds : (card : List ℕ) (old new : Memory) (r : Result Sizes CardRefusal) → r ≡ answer_for (verdict card) (sizes_of old) → new ≡ memory_after (verdict card) old → Accepts card new r
accepted_holds card old new (Err e) r_is new_is = tt
accepted_holds card old new (Ok n) r_is new_is = go (verdict card) refl r_is new_is
  where
    short : CardRefusal
    short = record { refusal = PlaceTooShort; line = 0 }

    at : (x : Network) (b : Bool) → verdict card ≡ spelled x → Ok n ≡ cond b (Ok (sizes_of (layout x))) (Err short) → new ≡ cond b (over (layout x) old) old → Accepts card new (Ok n)
    at x false v r_is new_is = cc
    at x true v r_is new_is =
        let spells = (exactly card x).judged v in
        let same : n ≡ sizes_of (layout x) = cc in
        (x, spells, rw (same, new_is) (holds x spells.within old))

    go : (v : Card) → verdict card ≡ v → Ok n ≡ answer_for v (sizes_of old) → new ≡ memory_after v old → Accepts card new (Ok n)
    go (fault e k) v r_is new_is = cc
    go (spelled x) v r_is new_is = at x (fits (sizes_of (layout x)) (sizes_of old)) v r_is new_is

-- where a network is accepted, it is one that has room
pub accepted_fits : (v : Card) (n room : Sizes) → Ok n ≡ answer_for v room → (x : Network) × (v ≡ spelled x) × (fits (sizes_of (layout x)) room ≡ true)
accepted_fits (fault e k) n room is = cc
accepted_fits (spelled x) n room is = (x, refl, at (fits (sizes_of (layout x)) room) refl is)
  where
    short : CardRefusal
    short = record { refusal = PlaceTooShort; line = 0 }

    at : (b : Bool) → fits (sizes_of (layout x)) room ≡ b → Ok n ≡ cond b (Ok (sizes_of (layout x))) (Err short) → b ≡ true
    at true e f = refl
    at false e f = cc
