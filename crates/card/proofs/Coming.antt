-- A card is judged line by line: where the reader stands, one line more, and the end.
use Rattle.std.proofs.Common.{Option, Result, drop-drop, ◌≡◌, ℕ, ◌+◌, ◌<◌, ◌≤◌, Bool, true, cond, ◌&&◌, eqb, ltb, List, ◌∷◌, length, take, drop, Some, None, Ok, Err, sym, refl, ap, ◌∙◌, subst, ap₂, inl, inr, append-nil, add-one, arith, lit≤, length-drop}
use Rattle.std.specs.List.{flat_map}
use Rattle.std.proofs.lemmas.Bool.{and_parts, cases_Bool, cond-false, cond-true, le-ltb}
use Rattle.network.specs.declared.refusal.Refusal.TheVariants.{LimitExceeded, Malformed}
use Rattle.card.specs.declared.entry.Entry.{Entry}
use Rattle.card.specs.declared.entry.Step.{Step}
use Rattle.card.specs.declared.reader.Reader.{Reader}
use Rattle.card.specs.declared.refusal.CardRefusal.{CardRefusal}
use Rattle.card.specs.declared.stage.Stage.{Stage}
use Rattle.card.specs.Judgement.{ends}
use Rattle.card.specs.Filling.{added, At, ended, FitEntry, ReadsOn, memory_at, memory_of, Ready}
use Rattle.card.specs.Layout.{cells_of, layout, records_from}
use Rattle.card.specs.Parts.{CutAt}
use Rattle.card.specs.Spelling.{Network}
use Rattle.card.specs.Stages.{expected_of, Fit, Solid, stage_of}
use Rattle.card.specs.Steps.{answer, at_line, entry_of, line_answered, step_of}
use Rattle.card.specs.Verdict.{blocks_due, cut, Due, end_due, fault, faulty, good, judge, judge_line, judge_lines, Judged, kind_due, Lines, lines, nothing_due, nothing_read, open_due, Reading, row_due, rows_due, rule_due, rule_scope_due, rules_due, scope_due, sheets_due, spelled, verdict}
use Rattle.card.proofs.Tests.{never}
use Rattle.card.proofs.Adding.{line_adds}
use Rattle.card.proofs.Cuts.{lines_at, lines_whole}
use Rattle.card.proofs.Judging.{bad_line, finished, next_line}
use Rattle.card.proofs.Keyed.{no_good}
use Rattle.card.proofs.Solids.{solid_line}

-- the reader before the first line
module _ (card : List ℕ) (r : Reader) (short : length card ≤ 32768) (rest_is : r.rest.now ≡ card) (start_is : r.start ≡ 0) (line_is : r.line ≡ 1) (stage_is : r.stage ≡ stage_of nothing_read) where
  nothing_solid : Solid nothing_read
  nothing_solid = record { fit = record { blocks = lit≤ tt; tuples = lit≤ tt; next = tt }; slots = tt }

  pub first_ready : Ready r
  first_ready = record { fit = subst Fit (sym stage_is) nothing_solid.fit; short = omega (arith, ap length rest_is); near = omega (arith, ap length rest_is) }

  pub first_at : At card r nothing_read
  first_at = record {
    solid = nothing_solid;
    stage = stage_is;
    place = rest_is ∙ ap (λ n. drop n card) (sym start_is);
    rest =
        cond-false (ltb 32768 (length card)) (fault LimitExceeded 0) (judge_lines nothing_read 1 (lines card).full (lines card).rest) (le-ltb 32768 (length card) short)
        ∙ ap₂ (λ k bs. judge_lines nothing_read k (lines bs).full (lines bs).rest) (sym line_is) (sym rest_is);
  }

good_answer : (k : ℕ) (j : Judged) (x : Entry) (s : Step) → Ok s ≡ at_line k (answer j x) → (p : Reading) × (j ≡ good p) × (s ≡ step_of p x)
good_answer k (faulty n) x s h = absurd (never cc)
good_answer k (good p) x s h = (p, refl, cc)

bad_answer : (k : ℕ) (j : Judged) (x : Entry) (e : CardRefusal) → Err e ≡ at_line k (answer j x) → (j ≡ faulty e.refusal) × (e.line ≡ k)
bad_answer k (faulty n) x e h =
    let is : e ≡ record { refusal = n; line = k } = cc in
    (ap (λ (f : CardRefusal). faulty f.refusal) (sym is), ap (λ (f : CardRefusal). f.line) is)
bad_answer k (good p) x e h = absurd (never cc)

-- the key and the value of a good line
pub line_parts : (q p : Reading) (l : List ℕ) → judge_line q l ≡ good p → judge q q.due (cut 61 l).front (cut 61 l).back ≡ good p
line_parts q p l e = elim (cases_Bool (cut 61 l).found) [ inl f ↦ rw f at e | inr f ↦ no_good Malformed p (rw f at e) ]

module _ (card : List ℕ) (r : Reader) (q : Reading) (stands : At card r q) (i : ℕ) (here : CutAt 10 r.rest.now (Some i)) where
  abbrev l : List ℕ
  l = take i r.rest.now

  abbrev after : Lines
  after = lines (drop (i + 1) r.rest.now)

  abbrev x : Entry
  x = entry_of q.due (cut 61 l).back

  first_line : verdict card ≡ judge_lines q r.line (l ∷ after.full) after.rest
  first_line = stands.rest ∙ ap (λ (ls : Lines). judge_lines q r.line ls.full ls.rest) (lines_at r.rest.now i here)

  pub one_line : (step : Step) (s : Reader) → Ready r → Ok step ≡ at_line r.line (line_answered q l) → s.stage ≡ step.stage → s.line ≡ r.line + 1 → s.rest.now ≡ drop (i + 1) r.rest.now → s.start ≡ r.start + (i + 1) →
      ReadsOn card r q s (Ok (Some step.entry))
  one_line step s ready steps stage_is line_is rest_is start_is =
      let (p, e, is) = good_answer r.line (judge_line q l) x step steps in
      let adds = line_adds q p (cut 61 l).front (cut 61 l).back stands.solid (line_parts q p l e) in
      let solid = solid_line q p l stands.solid e in
      let entry_is : step.entry ≡ x = ap (λ (t : Step). t.entry) is in
      let stage : s.stage ≡ stage_of p = stage_is ∙ ap (λ (t : Step). t.stage) is in
      let less : length s.rest.now < length r.rest.now = omega (arith, here.0, ap length rest_is, length-drop (i + 1) r.rest.now) in (
        subst FitEntry (sym entry_is) adds.fit,
        record {
          ready = record { fit = subst Fit (sym stage) solid.fit; short = omega (arith, ready.short, here.0, ap length rest_is, length-drop (i + 1) r.rest.now); near = omega (arith, ready.near, here.0, ap length rest_is, length-drop (i + 1) r.rest.now) };
          line = line_is;
          less = less;
        },
        (
          p,
          record {
            solid = solid;
            stage = stage;
            place = rest_is ∙ ap (drop (i + 1)) stands.place ∙ drop-drop (i + 1) r.start card ∙ ap (λ n. drop n card) (omega (arith, start_is));
            rest =
                first_line ∙ next_line q r.line l after.full after.rest p e
                ∙ ap₂ (λ k bs. judge_lines p k (lines bs).full (lines bs).rest) (sym (line_is ∙ add-one r.line)) (sym rest_is);
          },
          adds.memory ∙ ap (λ (y : Entry). added y (memory_of q)) (sym entry_is),
        ),
      )

  pub refused_line : (e : CardRefusal) → Err e ≡ at_line r.line (line_answered q l) → verdict card ≡ fault e.refusal e.line
  refused_line e steps =
      let (j, k) = bad_answer r.line (judge_line q l) x e steps in
      first_line ∙ bad_line q r.line l after.full after.rest e.refusal j ∙ ap (fault e.refusal) (sym k)

-- where nothing more is due, all tables are whole
pub laid_out : (d : Due) (y : Network) → ends (expected_of d) ≡ true → memory_at d y ≡ layout y
laid_out nothing_due y e =
    ap₂ (λ ts cs. record { masks = y.masks; tables = ts; cells = cs; rules = (layout y).rules }) (append-nil (records_from 0 y.tables)) (append-nil (flat_map cells_of y.tables))
laid_out blocks_due y e = absurd (never cc)
laid_out (open_due j) y e = absurd (never cc)
laid_out sheets_due y e = absurd (never cc)
laid_out (kind_due j) y e = absurd (never cc)
laid_out (scope_due j a) y e = absurd (never cc)
laid_out (rows_due j a s) y e = absurd (never cc)
laid_out (row_due j a s i ts) y e = absurd (never cc)
laid_out rules_due y e = absurd (never cc)
laid_out (rule_due j) y e = absurd (never cc)
laid_out (rule_scope_due j a) y e = absurd (never cc)
laid_out end_due y e = absurd (never cc)

module _ (card : List ℕ) (r : Reader) (q : Reading) (stands : At card r q) (whole : CutAt 10 r.rest.now None) where
  abbrev over : Bool
  over = ends r.stage.next && eqb (length r.rest.now) 0

  at_end : verdict card ≡ cond over (spelled q.net) (fault Malformed r.line)
  at_end =
      stands.rest ∙ ap (λ (ls : Lines). judge_lines q r.line ls.full ls.rest) (lines_whole r.rest.now whole) ∙ finished q.due r.line r.rest.now q.net
      ∙ ap (λ (t : Stage). cond (ends t.next && eqb (length r.rest.now) 0) (spelled q.net) (fault Malformed r.line)) (sym stands.stage)

  good_end : over ≡ true → (verdict card ≡ spelled q.net) × (memory_of q ≡ layout q.net)
  good_end e = (
    at_end ∙ cond-true _ _ _ e,
    laid_out q.due q.net (ap (λ (t : Stage). ends t.next) (sym stands.stage) ∙ (and_parts (ends r.stage.next) (eqb (length r.rest.now) 0) e).0),
  )

  pub ends_card : (o : Result (Option Entry) CardRefusal) → o ≡ ended r → ReadsOn card r q r o
  ends_card o is = elim (cases_Bool over) [
    | inl e ↦ subst (ReadsOn card r q r) (sym (is ∙ cond-true _ _ _ e)) (good_end e)
    | inr e ↦ subst (ReadsOn card r q r) (sym (is ∙ cond-false _ _ _ e)) (at_end ∙ cond-false _ _ _ e)
  ]
