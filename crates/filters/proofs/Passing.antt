-- A pass over the sheets of a set, sheet by sheet, and passes until nothing changes.
use Rattle.std.proofs.Common.{◌≡◌, ℕ, zero, suc, ◌+◌, ◌<◌, true, false, cond, List, [], ◌∷◌, ◌++◌, length, get_or, take, drop, fold, filter, sym, refl, ap, ◌∙◌, subst, inl, inr, arith}
use Rattle.std.proofs.lemmas.List.Elements.{filter-append, filter_more}
use Rattle.std.proofs.lemmas.List.{take-append-drop}
use Rattle.std.proofs.lemmas.List.Sums.{fold_push}
use Rattle.std.proofs.lemmas.Bool.{cond-false, cond-true}
use Rattle.network.specs.Sheets.{Sheet, sheet_at}
use Rattle.network.specs.Rows.{Row, dead}
use Rattle.network.specs.Filters.{fits, narrowed, pass, stabilized, total_slots}
use Rattle.network.specs.Laws.{LawfulRow, Under}
use Rattle.network.proofs.Passes.{Sound, fold_lawful, fold_under, narrowed_sound, pass_lawful, projected_sound}
use Rattle.network.proofs.Picks.{Picking, current_future_picking, current_one_picking, past_future_picking}
use Rattle.network.proofs.Renarrowing.{narrowed_still}
use Rattle.network.proofs.Settling.{row_fewer}
use Rattle.network.proofs.Stabilizing.{stabilized_at, stabilized_fixed}
use Rattle.network.proofs.Steps.{own, spares}
use Rattle.filters.specs.Effects.{Told}
use Rattle.filters.specs.Readings.{step_by}
use Rattle.filters.specs.Sets.{picks_of}
use Rattle.filters.specs.declared.effect.Effect.{Effect}
use Rattle.filters.specs.declared.effect.Effect.TheVariants.{Died, Narrowed, Unchanged}
use Rattle.filters.specs.declared.reading.Reading.{Reading}
use Rattle.filters.specs.declared.reading.Reading.TheVariants.{Open, Present}
use Rattle.filters.specs.declared.sheet_set.SheetSet.{SheetSet}
use Rattle.filters.specs.declared.sheet_set.SheetSet.TheVariants.{CurrentFuture, CurrentOne, PastFuture}

pub step_sound : (reading : Reading) → Sound (step_by reading)
step_sound Present = narrowed_sound
step_sound Open = projected_sound

pub set_picking : (set : SheetSet) → Picking (picks_of set)
set_picking CurrentOne = current_one_picking
set_picking CurrentFuture = current_future_picking
set_picking PastFuture = past_future_picking

-- a dead row stays
step_still : (reading : Reading) (r : Row) (sh : Sheet) → LawfulRow r → dead r ≡ true → step_by reading r sh ≡ r
step_still Present r sh lr d = narrowed_still (fits sh (own r)) lr d
step_still Open r sh lr d = narrowed_still (spares r sh) lr d

fold_still : (reading : Reading) (r : Row) (xs : List Sheet) → LawfulRow r → dead r ≡ true → fold (step_by reading) r xs ≡ r
fold_still reading r [] lr d = refl
fold_still reading r (x ∷ xs) lr d = ap (λ q. fold (step_by reading) q xs) (step_still reading r x lr d) ∙ fold_still reading r xs lr d

fold_append : (step : Row → Sheet → Row) (r : Row) (xs ys : List Sheet) → fold step r (xs ++ ys) ≡ fold step (fold step r xs) ys
fold_append step r [] ys = refl
fold_append step r (x ∷ xs) ys = fold_append step (step r x) xs ys

no_sheet : Sheet
no_sheet = sheet_at [] 0

sheet_get : (m : List Sheet) (c : ℕ) → c < length m → get_or m c no_sheet ≡ sheet_at m c
sheet_get [] c l = absurd (omega arith)
sheet_get (x ∷ xs) zero l = refl
sheet_get (x ∷ xs) (suc c) l = sheet_get xs c (omega arith)

-- fewer slots than a row under another has are fewer than the other's
fewer_under : (p : Row) {q r : Row} → LawfulRow q → LawfulRow r → Under q r → total_slots p < total_slots q → total_slots p < total_slots r
fewer_under p {q} {r} lq lr u l = elim (row_fewer lq lr u) [ inl e ↦ subst (λ x. total_slots p < total_slots x) e l | inr k ↦ omega arith ]

-- the row after the first c sheets, and what that did to it
pub record Passed (reading : Reading) (set : SheetSet) (m : List Sheet) (r q : Row) (c : ℕ) (effect : Effect) : Type 0 where
  pub row : q ≡ fold (step_by reading) r (filter (picks_of set r) (take c m))
  pub told : Told effect r q

-- the pass, at an equal effect
pub passed_as : {reading : Reading} {set : SheetSet} {m : List Sheet} {r q : Row} {c : ℕ} {e f : Effect} → e ≡ f → Passed reading set m r q c f → Passed reading set m r q c e
passed_as {reading} {set} {m} {r} {q} {c} a w = subst (λ x. Passed reading set m r q c x) (sym a) w

module _ {reading : Reading} {set : SheetSet} {m : List Sheet} {r q : Row} {c : ℕ} {effect : Effect} (lr : LawfulRow r) (w : Passed reading set m r q c effect) where
  lq : LawfulRow q
  lq = subst LawfulRow (sym w.row) (fold_lawful (step_sound reading) r (filter (picks_of set r) (take c m)) lr)

  uq : Under q r
  uq = subst (λ x. Under x r) (sym w.row) (fold_under (step_sound reading) r (filter (picks_of set r) (take c m)))

  module _ (l : c < length m) where
    more : filter (picks_of set r) (take (c + 1) m) ≡ filter (picks_of set r) (take c m) ++ cond (picks_of set r (sheet_at m c)) (sheet_at m c ∷ []) []
    more = filter_more (picks_of set r) m c no_sheet l
        ∙ ap (λ x. filter (picks_of set r) (take c m) ++ cond (picks_of set r x) (x ∷ []) []) (sheet_get m c l)

    same : picks_of set q (sheet_at m c) ≡ picks_of set r (sheet_at m c)
    same = (set_picking set).same q r (sheet_at m c) uq.same_opened uq.same_decided

    -- a sheet of another set is passed by
    pub passed_other : false ≡ picks_of set q (sheet_at m c) → Passed reading set m r q (c + 1) effect
    passed_other e = record {
      row = w.row ∙ sym (ap (fold (step_by reading) r) (more
          ∙ ap (λ xs. filter (picks_of set r) (take c m) ++ xs) (cond-false (picks_of set r (sheet_at m c)) (sheet_at m c ∷ []) [] (sym (e ∙ same))))
          ∙ fold_append (step_by reading) r (filter (picks_of set r) (take c m)) []);
      told = w.told;
    }

    module _ (e : true ≡ picks_of set q (sheet_at m c)) (p : Row) (s : p ≡ step_by reading q (sheet_at m c)) where
      -- the step on a sheet of the set
      stepped : p ≡ fold (step_by reading) r (filter (picks_of set r) (take (c + 1) m))
      stepped = s ∙ ap (λ x. step_by reading x (sheet_at m c)) w.row ∙ sym (ap (fold (step_by reading) r) (more
          ∙ ap (λ xs. filter (picks_of set r) (take c m) ++ xs) (cond-true (picks_of set r (sheet_at m c)) (sheet_at m c ∷ []) [] (sym (e ∙ same))))
          ∙ fold_push (step_by reading) r (filter (picks_of set r) (take c m)) (sheet_at m c))

      pub passed_same : p ≡ q → Passed reading set m r p (c + 1) effect
      passed_same h = record { row = stepped; told = subst (Told effect r) (sym h) w.told }

      pub passed_more : total_slots p < total_slots q → Passed reading set m r p (c + 1) Narrowed
      passed_more h = record { row = stepped; told = fewer_under p lq lr uq h }

      pub passed_died : dead p ≡ true → p ≡ pass (step_by reading) (picks_of set) m r
      passed_died d =
          let lp : LawfulRow p = subst LawfulRow (sym s) ((step_sound reading).lawful q (sheet_at m c) lq) in
          stepped ∙ sym (
          ap (λ xs. fold (step_by reading) r (filter (picks_of set r) xs)) (sym (take-append-drop (c + 1) m))
          ∙ ap (fold (step_by reading) r) (filter-append (picks_of set r) (take (c + 1) m) (drop (c + 1) m))
          ∙ fold_append (step_by reading) r (filter (picks_of set r) (take (c + 1) m)) (filter (picks_of set r) (drop (c + 1) m))
          ∙ ap (λ x. fold (step_by reading) x (filter (picks_of set r) (drop (c + 1) m))) (sym stepped)
          ∙ fold_still reading p (filter (picks_of set r) (drop (c + 1) m)) lp d
          ∙ stepped)

module _ (set : SheetSet) (m : List Sheet) {r : Row} (lr : LawfulRow r) where
  -- a pass on the way does not change where it ends
  pub settles_on : stabilized (picks_of set) m (pass narrowed (picks_of set) m r) ≡ stabilized (picks_of set) m r
  settles_on =
      let lp : LawfulRow (pass narrowed (picks_of set) m r) = pass_lawful narrowed_sound (set_picking set) m lr in
      sym (stabilized_at (set_picking set) m lr (suc (total_slots (pass narrowed (picks_of set) m r))) (stabilized_fixed (set_picking set) m lp))

  -- where a pass changes nothing, it has ended
  pub settled_here : pass narrowed (picks_of set) m r ≡ r → stabilized (picks_of set) m r ≡ r
  settled_here e = stabilized_at (set_picking set) m lr 0 e

  -- what passes leave after one more
  module _ {q : Row} (e : q ≡ pass narrowed (picks_of set) m r) where
    pub settles_after : stabilized (picks_of set) m q ≡ stabilized (picks_of set) m r
    settles_after = ap (stabilized (picks_of set) m) e ∙ settles_on

    -- the last pass took no slot, or left a dead row
    pub settled_after : (effect : Effect) → Told effect r q → (effect ≡ Narrowed → ⊥) → q ≡ stabilized (picks_of set) m r
    settled_after Unchanged t n = t ∙ sym (settled_here (sym e ∙ t))
    settled_after Narrowed t n = absurd (n refl)
    settled_after Died t n = sym (ap (stabilized (picks_of set) m) e ∙ settled_q) ∙ settles_after
      where
        lp : LawfulRow (pass narrowed (picks_of set) m r)
        lp = pass_lawful narrowed_sound (set_picking set) m lr

        settled_q : stabilized (picks_of set) m (pass narrowed (picks_of set) m r) ≡ q
        settled_q = stabilized_at (set_picking set) m lp 0 (fold_still Present (pass narrowed (picks_of set) m r) (filter (picks_of set (pass narrowed (picks_of set) m r)) m) lp (ap dead (sym e) ∙ t)) ∙ sym e
