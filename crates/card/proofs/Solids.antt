-- What a good line leads to is within the limits that the checks rely on.
use Rattle.std.proofs.Common.{◌≡◌, ℕ, zero, suc, ◌+◌, ◌^◌, ◌≤◌, Bool, true, false, cond, ◌&&◌, eqb, ltb, leb, ◌⊎◌, List, [], ◌∷◌, ◌++◌, map, length, codes, sym, refl, ap, ◌∙◌, subst, inl, inr, arith, lit≤}
use lib.ListN.{length-map}
use Rattle.std.specs.List.{list_all}
use Rattle.std.proofs.lemmas.Bool.{and_parts, eqb-true, leb-true}
use Rattle.network.specs.Sheets.{is_distinct}
use Rattle.network.specs.declared.refusal.Refusal.TheVariants.{Malformed}
use Rattle.banks.specs.declared.table.Kind.{Kind}
use Rattle.banks.specs.declared.table.Kind.TheVariants.{Allow, Deny}
use Rattle.banks.specs.declared.rule.Rule.TheVariants.{NotEqual, AllDiff}
use Rattle.card.specs.Stages.{FitNext, expected_of, SlotsOnly, Solid}
use Rattle.card.specs.Verdict.{above_last, add_mask, add_rule, at, blocks_due, Due, end_due, faulty, good, is_number, judge, judge_line, judged, kind_due, kind_or_rules, last_tuple, nothing_due, open_due, open_or_sheets, pieces, Reading, row_due, row_or_next, rows_due, rule_due, rule_or_end, rule_scope_due, rules_due, same_bytes, scope_due, scope_line, sheets_due, value_of}
use Rattle.card.proofs.Tests.{all_pass_map}
use Rattle.card.proofs.Keyed.{judge_line_good, judged_good, no_good}
use Rattle.card.proofs.Tupling.{last_push}

abbrev pub SolidDue : Due → Type 0
SolidDue d = FitNext (expected_of d) × SlotsOnly d

made : (r : Reading) → r.blocks ≤ 32 → r.tuples ≤ 4096 → SolidDue r.due → Solid r
made r b t d = record { fit = record { blocks = b; tuples = t; next = d.0 }; slots = d.1 }

open_solid : (n : ℕ) → SolidDue (open_or_sheets n)
open_solid zero = (tt, tt)
open_solid (suc n) = (tt, tt)

kind_solid : (n : ℕ) → SolidDue (kind_or_rules n)
kind_solid zero = (tt, tt)
kind_solid (suc n) = (tt, tt)

rule_solid : (n : ℕ) → SolidDue (rule_or_end n)
rule_solid zero = (tt, tt)
rule_solid (suc n) = (tt, tt)

row_solid : (k : ℕ) (kind : Kind) (scope : List ℕ) (j : ℕ) (ts : List (List ℕ)) (q : Reading) → q.blocks ≤ 32 → q.tuples ≤ 4096 → length scope ≤ 6 → length (last_tuple ts) ≤ 6 →
    list_all (λ x. ltb x 32) (last_tuple ts) ≡ true → Solid (row_or_next k kind scope j ts q)
row_solid k kind scope zero ts q b t narrow short slots = made _ b t (kind_solid k)
row_solid k kind scope (suc j) ts q b t narrow short slots = made _ b t ((narrow, short), slots)

-- the reading after one of two words
pub one_of : (a b c : Bool) (x y p : Reading) → cond a (cond b (good x) (cond c (good y) (faulty Malformed))) (faulty Malformed) ≡ good p → (p ≡ x) ⊎ (p ≡ y)
one_of true true c x y p h = inl cc
one_of true false true x y p h = inr cc
one_of true false false x y p h = no_good Malformed p h
one_of false b c x y p h = no_good Malformed p h

-- the reading after a line whose checks pass
passed : (a b c d : Bool) (r p : Reading) → judged a b c d r ≡ good p → (a ≡ true → b ≡ true → c ≡ true → Solid r) → Solid p
passed a b c d r p h solid = let (form, limit, range, _, e) = judged_good a b c d r p h in subst Solid (sym e) (solid form limit range)

module _ (q p : Reading) (key bs : List ℕ) (b : q.blocks ≤ 32) (t : q.tuples ≤ 4096) where
  abbrev v : ℕ
  v = value_of bs

  abbrev ps : List (List ℕ)
  ps = pieces bs

  abbrev vs : List ℕ
  vs = map value_of (pieces bs)

  number_solid : (word : List ℕ) (limit : Bool) (r : Reading) → judged (same_bytes key word && is_number bs) limit true true r ≡ good p → (limit ≡ true → Solid r) → Solid p
  number_solid word limit r h solid = passed (same_bytes key word && is_number bs) limit true true r p h (λ _ l _. solid l)

  scope_solid : (r : Reading) → scope_line (same_bytes key (codes "scope")) bs q r ≡ good p → (length vs ≤ 6 → Solid r) → Solid p
  scope_solid r h solid =
      passed (same_bytes key (codes "scope") && list_all is_number ps) (leb 2 (length ps) && leb (length ps) 6) (list_all (λ y. ltb (value_of y) q.blocks) ps) (is_distinct eqb vs) r p h
      (λ _ limit _.
      let six : length ps ≤ 6 = leb-true (length ps) 6 (and_parts (leb 2 (length ps)) (leb (length ps) 6) limit).1 in
      solid (omega (arith, length-map ps value_of)))

  word_solid : (a c d : Bool) (x y : Reading) → cond a (cond c (good x) (cond d (good y) (faulty Malformed))) (faulty Malformed) ≡ good p → Solid x → Solid y → Solid p
  word_solid a c d x y h sx sy = elim (one_of a c d x y p h) [ inl e ↦ subst Solid (sym e) sx | inr e ↦ subst Solid (sym e) sy ]

  pub solid_on : (d : Due) → SolidDue d → judge q d key bs ≡ good p → Solid p
  solid_on blocks_due s h =
      let r : Reading = record { due = open_or_sheets v; blocks = v; tuples = 0; net = q.net } in
      number_solid (codes "blocks") (leb 1 v && leb v 32) r h (λ limit. made r (leb-true v 32 (and_parts (leb 1 v) (leb v 32) limit).1) (lit≤ tt) (open_solid v))
  solid_on (open_due k) s h =
      let r = at (open_or_sheets k) (add_mask v q) in
      number_solid (codes "open") (ltb v (2 ^ 32)) r h (λ _. made r b t (open_solid k))
  solid_on sheets_due s h = let r = at (kind_or_rules v) q in number_solid (codes "sheets") (leb v 32) r h (λ _. made r b t (kind_solid v))
  solid_on (kind_due k) s h =
      let x = at (scope_due k Allow) q in
      let y = at (scope_due k Deny) q in
      word_solid (same_bytes key (codes "kind")) (same_bytes bs (codes "allow")) (same_bytes bs (codes "deny")) x y h (made x b t (tt, tt)) (made y b t (tt, tt))
  solid_on (scope_due k kind) s h = let r = at (rows_due k kind vs) q in scope_solid r h (λ six. made r b t (six, tt))
  solid_on (rows_due k kind scope) s h =
      let g : Reading = record { due = q.due; blocks = q.blocks; tuples = q.tuples + v; net = q.net } in
      number_solid (codes "rows") (leb (q.tuples + v) 4096) (row_or_next k kind scope v [] g) h
      (λ limit. row_solid k kind scope v [] g b (leb-true (q.tuples + v) 4096 limit) s.0 (lit≤ tt) refl)
  solid_on (row_due k kind scope j ts) s h =
      passed (same_bytes key (codes "row") && (list_all is_number ps && eqb (length ps) (length scope))) true (list_all (λ y. ltb (value_of y) 32) ps) (above_last ts vs)
      (row_or_next k kind scope j (ts ++ (vs ∷ [])) q) p h
      (λ form _ range.
      let whole = (and_parts (same_bytes key (codes "row")) (list_all is_number ps && eqb (length ps) (length scope)) form).1 in
      let as_many : length ps ≡ length scope = eqb-true (length ps) (length scope) (and_parts (list_all is_number ps) (eqb (length ps) (length scope)) whole).1 in
      let narrow : length scope ≤ 6 = s.0.0 in
      let short : length vs ≤ 6 = omega (arith, length-map ps value_of) in
      row_solid k kind scope j (ts ++ (vs ∷ [])) q b t narrow (subst (λ us. length us ≤ 6) (sym (last_push ts vs)) short)
      (ap (list_all (λ x. ltb x 32)) (last_push ts vs) ∙ sym (all_pass_map (λ x. ltb x 32) value_of ps) ∙ range))
  solid_on rules_due s h = let r = at (rule_or_end v) q in number_solid (codes "rules") (leb v 192) r h (λ _. made r b t (rule_solid v))
  solid_on (rule_due k) s h =
      let x = at (rule_scope_due k NotEqual) q in
      let y = at (rule_scope_due k AllDiff) q in
      word_solid (same_bytes key (codes "rule")) (same_bytes bs (codes "notequal")) (same_bytes bs (codes "alldiff")) x y h (made x b t (tt, tt)) (made y b t (tt, tt))
  solid_on (rule_scope_due k rule) s h =
      let r = at (rule_or_end k) (add_rule (record { rule = rule; scope = vs }) q) in
      scope_solid r h (λ _. made r b t (rule_solid k))
  solid_on end_due s h =
      let r = at nothing_due q in
      passed (same_bytes key (codes "end") && same_bytes bs (codes "net")) true true true r p h (λ _ _ _. made r b t (tt, tt))
  solid_on nothing_due s h = no_good Malformed p h

pub solid_line : (q p : Reading) (l : List ℕ) → Solid q → judge_line q l ≡ good p → Solid p
solid_line q p l s h =
    let (key, value, _, e) = judge_line_good q l p h in
    solid_on q p key value s.fit.blocks s.fit.tuples q.due (s.fit.next, s.slots) e
