-- The lines of a table's tuples: their number, and each of them above the last.
use Rattle.std.proofs.Common.{◌≡◌, ℕ, zero, suc, ◌+◌, ◌-◌, ◌<◌, ◌≤◌, Bool, true, ◌&&◌, eqb, ltb, leb, List, [], ◌∷◌, ◌++◌, map, length, take, Ok, Err, codes, fold, sym, refl, ap, ◌∙◌, ap₂, inl, inr, arith}
use lib.ListN.{length-map}
use Rattle.std.specs.List.{list_all}
use Rattle.std.proofs.lemmas.Bool.{cases_lt, le-leb, lt-leb}
use Rattle.network.specs.Tree.{precedes}
use Rattle.network.specs.declared.refusal.Refusal.{Refusal}
use Rattle.banks.specs.declared.table.Kind.{Kind}
use Rattle.card.specs.declared.entry.Entry.{Entry}
use Rattle.card.specs.declared.entry.Entry.TheVariants.{Table, Tuple}
use Rattle.card.specs.declared.entry.Step.{Step}
use Rattle.card.specs.declared.list.NumberList.{NumberList}
use Rattle.card.specs.declared.stage.Expected.{Expected}
use Rattle.card.specs.declared.stage.Stage.{Stage}
use Rattle.card.specs.Checks.{checked, number_checked, tuple_checked}
use Rattle.card.specs.Lists.{Holds, list_of}
use Rattle.card.specs.Stages.{stage_of}
use Rattle.card.specs.Steps.{answered, step_of, step_of_stage}
use Rattle.card.specs.Verdict.{above_last, is_number, last_tuple, pieces, Reading, row_due, row_or_next, rows_due, value_of}
use Rattle.card.proofs.NumberLists.{pieces_some}
use Rattle.card.proofs.Checking.{holds_is, packed_front}
use Rattle.card.proofs.Stepping.{goes, stops}

-- the stage where a tuple or what comes after it is due
row_stage : (k : ℕ) (kind : Kind) (scope : List ℕ) (j : ℕ) (ts : List (List ℕ)) (q : Reading) (x : Entry) →
    step_of_stage (stage_of q) (stage_of (row_or_next k kind scope j ts q)).next x ≡ step_of (row_or_next k kind scope j ts q) x
row_stage k kind scope zero ts q x = refl
row_stage k kind scope (suc j) ts q x = refl

-- the total of tuples, said in two ways
pub total_limit : (t n : ℕ) → t ≤ 4096 → (leb 0 n && leb n (4096 - t)) ≡ leb (t + n) 4096
total_limit t n l = ap (λ b. b && leb n (4096 - t)) (le-leb 0 n (omega arith)) ∙ elim (cases_lt 4096 (t + n)) [
  | inl h ↦ lt-leb n (4096 - t) (omega arith) ∙ sym (lt-leb (t + n) 4096 h)
  | inr h ↦ le-leb n (4096 - t) (omega arith) ∙ sym (le-leb (t + n) 4096 h)
]

-- the last of some tuples
last_from : (t : List ℕ) (ts : List (List ℕ)) (u : List ℕ) → fold (λ _ v. v) t (ts ++ (u ∷ [])) ≡ u
last_from t [] u = refl
last_from t (v ∷ vs) u = last_from v vs u

pub last_push : (ts : List (List ℕ)) (u : List ℕ) → last_tuple (ts ++ (u ∷ [])) ≡ u
last_push ts u = last_from [] ts u

-- above the last tuple, where there is one
before_some : (us : List ℕ) → 0 < length us → precedes [] us ≡ true
before_some [] h = absurd (omega arith)
before_some (u ∷ us) h = refl

pub last_before : (ts : List (List ℕ)) (bs : List ℕ) → precedes (last_tuple ts) (map value_of (pieces bs)) ≡ above_last ts (map value_of (pieces bs))
last_before [] bs = before_some (map value_of (pieces bs)) (omega (arith, pieces_some bs, length-map (pieces bs) value_of))
last_before (t ∷ ts) bs = refl

-- the line with the number of tuples
module _ (s : Stage) (q : Reading) (k : ℕ) (kind : Kind) (blocks bs : List ℕ) (s_is : s ≡ stage_of q) (few : s.tuples ≤ 4096) where
  abbrev grown : Reading
  grown = record { due = q.due; blocks = q.blocks; tuples = q.tuples + value_of bs; net = q.net }

  total : number_checked 0 (4096 - s.tuples) bs ≡ checked (is_number bs) (leb (q.tuples + value_of bs) 4096) true true (value_of bs)
  total =
      ap (λ b. checked (is_number bs) b true true (value_of bs)) (total_limit s.tuples (value_of bs) few ∙ ap (λ (t : Stage). leb (t.tuples + value_of bs) 4096) s_is)

  pub tuples_stop : (e : Refusal) → Err e ≡ number_checked 0 (4096 - s.tuples) bs → Err e ≡ answered q (rows_due k kind blocks) (codes "rows") bs
  tuples_stop e h =
      stops (is_number bs) (leb (q.tuples + value_of bs) 4096) true true (value_of bs) (row_or_next k kind blocks (value_of bs) [] grown) (Table kind (list_of blocks) (value_of bs)) e (h ∙ total)

  pub tuples_go : (n : ℕ) (next : Expected) (scope none : NumberList) (r : Step) → Ok n ≡ number_checked 0 (4096 - s.tuples) bs → scope ≡ list_of blocks → Holds none [] →
      ((a : Kind) (b : List ℕ) (ts : List (List ℕ)) (p : Reading) → scope.count ≡ length b → none ≡ list_of (last_tuple ts) → next ≡ (stage_of (row_or_next k a b n ts p)).next) →
      r ≡ step_of_stage (record { next = s.next; blocks = s.blocks; tuples = s.tuples + n }) next (Table kind scope n) → Ok r ≡ answered q (rows_due k kind blocks) (codes "rows") bs
  tuples_go n next scope none r h scope-is empty next-is is =
      let v = value_of bs in
      let x = Table kind (list_of blocks) v in
      let (e, g) = goes (is_number bs) (leb (q.tuples + v) 4096) true true v (row_or_next k kind blocks v [] grown) x n (h ∙ total) in
      let build : ℕ → ℕ → Expected → Entry → Step = λ b t m y. record { stage = record { next = m; blocks = b; tuples = t }; entry = y } in
      let sums = ap₂ (λ (t : Stage) m. t.tuples + m) s_is e in
      let due = next-is kind blocks [] grown (ap (λ (l : NumberList). l.count) scope-is) (holds_is none [] empty) ∙ ap (λ m. (stage_of (row_or_next k kind blocks m [] grown)).next) e in
      let numbers = ap₂ (λ b t. build b t next (Table kind scope n)) (ap (λ (t : Stage). t.blocks) s_is) sums in
      let rest = ap₂ (λ m y. build q.blocks (q.tuples + v) m y) due (ap₂ (λ l m. Table kind l m) scope-is e) in
      ap Ok (is ∙ numbers ∙ rest ∙ row_stage k kind blocks v [] grown x) ∙ sym g

-- the line of a tuple
module _ (s : Stage) (q : Reading) (k : ℕ) (kind : Kind) (scope : List ℕ) (j : ℕ) (ts : List (List ℕ)) (bs : List ℕ) (arity : ℕ) (last : NumberList)
    (s_is : s ≡ stage_of q) (arity-is : arity ≡ length scope) (last-is : last ≡ list_of (last_tuple ts)) (slots : list_all (λ x. ltb x 32) (last_tuple ts) ≡ true) (few : last.count ≤ 6) where
  abbrev values : List ℕ
  values = map value_of (pieces bs)

  abbrev form : Bool
  form = list_all is_number (pieces bs) && eqb (length (pieces bs)) (length scope)

  abbrev range : Bool
  range = list_all (λ p. ltb (value_of p) 32) (pieces bs)

  last_kept : take last.count last.numbers ≡ last_tuple ts
  last_kept =
      let count : last.count ≡ length (last_tuple ts) = ap (λ (l : NumberList). l.count) last-is in
      ap (λ (l : NumberList). take l.count l.numbers) last-is ∙ packed_front (last_tuple ts) (omega arith) slots

  order : tuple_checked arity (take last.count last.numbers) bs ≡ checked form true range (above_last ts values) (list_of values)
  order = ap₂ (λ a t. tuple_checked a t bs) arity-is last_kept ∙ ap (λ b. checked form true range b (list_of values)) (last_before ts bs)

  pub tuple_stops : (e : Refusal) → Err e ≡ tuple_checked arity (take last.count last.numbers) bs → Err e ≡ answered q (row_due k kind scope j ts) (codes "row") bs
  tuple_stops e h = stops form true range (above_last ts values) (list_of values) (row_or_next k kind scope j (ts ++ (values ∷ [])) q) (Tuple (list_of values)) e (h ∙ order)

  pub tuple_goes : (tuple : NumberList) (next : Expected) (r : Step) → Ok tuple ≡ tuple_checked arity (take last.count last.numbers) bs →
      ((a : Kind) (b : List ℕ) (us : List (List ℕ)) (p : Reading) → arity ≡ length b → tuple ≡ list_of (last_tuple us) → next ≡ (stage_of (row_or_next k a b j us p)).next) →
      r ≡ step_of_stage s next (Tuple tuple) → Ok r ≡ answered q (row_due k kind scope j ts) (codes "row") bs
  tuple_goes tuple next r h next-is is =
      let us = ts ++ (values ∷ []) in
      let x = Tuple (list_of values) in
      let (e, g) = goes form true range (above_last ts values) (list_of values) (row_or_next k kind scope j us q) x tuple (h ∙ order) in
      let due = next-is kind scope us q arity-is (e ∙ ap list_of (sym (last_push ts values))) in
      ap Ok (is ∙ ap (λ t. step_of_stage t next (Tuple tuple)) s_is ∙ ap₂ (λ m y. step_of_stage (stage_of q) m y) due (ap Tuple e) ∙ row_stage k kind scope j us q x) ∙ sym g
