-- The walk along a sheet's scope that narrows a row: what each position leaves, and what is left at the end.
use Rattle.std.proofs.Common.{◌≡◌, ℕ, ◌+◌, ◌^◌, ◌<◌, ◌≤◌, true, false, not, ◌&&◌, ◌||◌, eqb, ltb, leb, List, map, length, get_or, take, set, sym, refl, ap, ◌∙◌, subst, inl, inr, arith}
use lib.ListN.{length-map}
use Rattle.std.proofs.lemmas.List.{take_all}
use Rattle.std.proofs.lemmas.Bool.{and_parts, cases_eq, ne_eqb, not_from_false, or_left, or_right}
use Rattle.network.specs.Sheets.{Sheet, choices, has, mask_of, sheet_at, some_pass, supported}
use Rattle.network.specs.Rows.{Row, dead, keep, narrowed_by, passed_over, undecided_in}
use Rattle.network.specs.Filters.{place, total_slots}
use Rattle.network.specs.Laws.{LawfulBank, LawfulRow, Under}
use Rattle.network.proofs.Fits.{place_at}
use Rattle.network.proofs.Keeping.{keep_narrows, keeps}
use Rattle.network.proofs.Masks.{has_mask, mask_below}
use Rattle.network.proofs.Narrowing.{narrowed_lawful, narrowed_under}
use Rattle.network.proofs.Picks.{in_row}
use Rattle.network.proofs.Renarrowing.{keep_dead, keep_fewer, narrowed_all, narrowed_same}
use Rattle.network.proofs.Settling.{row_fewer}
use Rattle.filters.specs.Effects.{Told}
use Rattle.filters.specs.Readings.{mask_by, step_by}
use Rattle.filters.specs.declared.effect.Effect.{Effect}
use Rattle.filters.specs.declared.effect.Effect.TheVariants.{Narrowed, Unchanged}
use Rattle.filters.specs.declared.reading.Reading.{Reading}
use Rattle.filters.specs.declared.reading.Reading.TheVariants.{Open, Present}
use Rattle.filters.proofs.Asking.{asked, asked_dead, asked_decided, asked_more, asked_none}
use Rattle.filters.proofs.Scopes.{place_is, same_place}
use Rattle.filters.proofs.Sparing.{spared, undecided_fits}

-- the row after the first n positions, and what that did to it
pub record Walked (masks : List ℕ) (r : Row) (sh : Sheet) (q : Row) (n : ℕ) (effect : Effect) : Type 0 where
  pub row : q ≡ narrowed_by (asked r sh masks n) r
  pub told : Told effect r q

-- only the masks of the scope count
supported_front : (sh : Sheet) (masks ys : List ℕ) (p s : ℕ) → take (length sh.scope) masks ≡ ys → length ys ≤ length sh.scope → supported sh masks p s ≡ supported sh ys p s
supported_front sh masks ys p s e l =
    ap (λ (xs : List ℕ). ltb p (length sh.scope) && (ltb s 32 && some_pass sh.allows (choices (set xs p (2 ^ s))))) (e ∙ sym (take_all (length sh.scope) ys l))

-- masks gathered by a reading
abbrev pub Gathered : Reading → Row → Sheet → List ℕ → Type 0
Gathered reading r sh masks = take (length sh.scope) masks ≡ map (mask_by reading r) sh.scope

-- what a step on a picked sheet leaves, with only the undecided blocks asked
step_is : (reading : Reading) (r : Row) (sh : Sheet) → LawfulRow r → passed_over r sh ≡ false → 0 < undecided_in r sh → narrowed_by (undecided_fits r sh (mask_by reading r)) r ≡ step_by reading r sh
step_is Present r sh lr over some = spared r sh lr over some
step_is Open r sh lr over some = refl

asked_step : (reading : Reading) (r : Row) (sh : Sheet) (masks : List ℕ) → LawfulRow r → Gathered reading r sh masks → passed_over r sh ≡ false → 0 < undecided_in r sh →
    narrowed_by (asked r sh masks (length sh.scope)) r ≡ step_by reading r sh
asked_step reading r sh masks lr gathered over some =
    let mask : ℕ → ℕ = mask_by reading r in
    narrowed_same (asked r sh masks (length sh.scope)) (undecided_fits r sh mask) r
    (λ b s. ap (λ v. ltb b r.decided || (leb (length sh.scope) (place sh.scope b) || v))
    (supported_front sh masks (map mask sh.scope) (place sh.scope b) s gathered (omega (arith, length-map sh.scope mask))))
    ∙ step_is reading r sh lr over some

module _ (r : Row) (sh : Sheet) (masks : List ℕ) (lr : LawfulRow r) where
  pub walked_start : Walked masks r sh r 0 Unchanged
  walked_start = record { row = asked_none r sh masks lr; told = refl }

  -- at the end the step is done
  pub walked_end : (reading : Reading) → Gathered reading r sh masks → passed_over r sh ≡ false → 0 < undecided_in r sh → {q : Row} {n : ℕ} {effect : Effect} →
      Walked masks r sh q n effect → length sh.scope ≤ n → n ≤ length sh.scope → q ≡ step_by reading r sh
  walked_end reading gathered over some {q} {n} w l k =
      w.row ∙ ap (λ x. narrowed_by (asked r sh masks x) r) (omega arith) ∙ asked_step reading r sh masks lr gathered over some

module _ (m : List Sheet) (bank : LawfulBank m) (c : ℕ) (masks : List ℕ) (r : Row) (lr : LawfulRow r) (n : ℕ) (l : n < length (sheet_at m c).scope) where
  sh : Sheet
  sh = sheet_at m c

  b : ℕ
  b = get_or sh.scope n 255

  here : (a : ℕ) → place sh.scope a ≡ n → a ≡ b
  unfolding sh b
  here a e = sym (place_at sh.scope a (omega arith)) ∙ ap (λ x. get_or sh.scope x 0) e ∙ same_place sh.scope n 0 255 l

  at : place sh.scope b ≡ n
  unfolding sh b
  at = place_is m bank c n l

  module _ {q : Row} {effect : Effect} (w : Walked masks r (sheet_at m c) q n effect) where
    lq : LawfulRow q
    unfolding sh
    lq = subst LawfulRow (sym w.row) (narrowed_lawful (asked r sh masks n) r lr)

    uq : Under q r
    unfolding sh
    uq = subst (λ x. Under x r) (sym w.row) (narrowed_under (asked r sh masks n) r)

    -- a decided block is passed by
    pub walked_decided : get_or (sheet_at m c).scope n 255 < q.decided → Walked masks r (sheet_at m c) q (n + 1) effect
    unfolding sh b
    walked_decided h = record {
      row = w.row ∙ asked_decided r sh masks lr n b at here (omega (arith, uq.same_decided));
      told = w.told;
    }

    module _ (u : q.decided ≤ get_or (sheet_at m c).scope n 255) (left : ℕ)
        (e : left ≡ mask_of (λ s. has (get_or q.present (get_or (sheet_at m c).scope n 255) 0) s && supported (sheet_at m c) masks n s)) where
      slot : (s : ℕ) → s < 32 → has left s ≡ (has (get_or q.present b 0) s && supported sh masks n s)
      unfolding sh b
      slot s k = ap (λ x. has x s) e ∙ has_mask (λ s. has (get_or q.present b 0) s && supported sh masks n s) s k

      -- the block keeps what its position supports
      next : keep q b left ≡ narrowed_by (asked r sh masks (n + 1)) r
      unfolding sh b
      next = ap (λ x. keep x b left) w.row ∙ asked_more r sh masks lr n b at here (omega (arith, uq.same_decided)) left
          (λ s k. slot s k ∙ ap (λ (x : Row). has (get_or x.present b 0) s && supported sh masks n s) w.row)

      below : left < 2 ^ 32
      below = subst (λ x. x < 2 ^ 32) (sym e) (mask_below (λ s. has (get_or q.present (get_or (sheet_at m c).scope n 255) 0) s && supported (sheet_at m c) masks n s))

      -- every slot has a support
      pub walked_same : left ≡ get_or q.present (get_or (sheet_at m c).scope n 255) 0 → Walked masks r (sheet_at m c) q (n + 1) effect
      unfolding sh b
      walked_same h = record {
        row = sym (keep_narrows lq b left ∙ narrowed_all (keeps b left) lq (λ a s k i. all a s i)) ∙ next;
        told = w.told;
      }
        where
          all : (a s : ℕ) → has (get_or q.present a 0) s ≡ true → keeps b left a s ≡ true
          all a s i = elim (cases_eq a b) [
            | inl j ↦ or_right (not (eqb a b)) (has left s) (ap (λ x. has x s) (h ∙ ap (λ x. get_or q.present x 0) (sym j)) ∙ i)
            | inr d ↦ or_left (not (eqb a b)) (has left s) (not_from_false (eqb a b) (ne_eqb a b d))
          ]

      -- some slot has none
      pub walked_more : (left ≡ get_or q.present (get_or (sheet_at m c).scope n 255) 0 → ⊥) → Walked masks r (sheet_at m c) (keep q (get_or (sheet_at m c).scope n 255) left) (n + 1) Narrowed
      unfolding sh b
      walked_more d = record { row = next; told = fewer }
        where
          fewer : total_slots (keep q b left) < total_slots r
          fewer =
              let f : total_slots (keep q b left) < total_slots q =
              keep_fewer lq b left below (λ s k h. (and_parts (has (get_or q.present b 0) s) (supported sh masks n s) (sym (slot s k) ∙ h)).0) d in
              elim (row_fewer lq lr uq) [ inl same ↦ subst (λ x. total_slots (keep q b left) < total_slots x) same f | inr less ↦ omega arith ]

      -- no slot has one
      pub walked_died : (reading : Reading) → Gathered reading r (sheet_at m c) masks → passed_over r (sheet_at m c) ≡ false → 0 < undecided_in r (sheet_at m c) → left ≡ 0 →
          (keep q (get_or (sheet_at m c).scope n 255) left ≡ step_by reading r (sheet_at m c)) × (dead (keep q (get_or (sheet_at m c).scope n 255) left) ≡ true)
      unfolding sh b
      walked_died reading gathered over some z =
          let k : b < length q.present = omega (arith, lq.as_many, ap length uq.same_opened, in_row r sh over n l, same_place sh.scope n 0 255 l) in
          let d : dead (keep q b left) ≡ true = keep_dead q b left k z in
          (next ∙ asked_dead r sh masks lr (n + 1) (omega arith) (ap dead (sym next) ∙ d) ∙ asked_step reading r sh masks lr gathered over some, d)

-- the mask of a position, as it was read
pub mask_read : (sh : Sheet) (q : Row) (n block mask : ℕ) → block ≡ get_or sh.scope n 255 → mask ≡ get_or q.present block 0 → mask ≡ get_or q.present (get_or sh.scope n 255) 0
mask_read sh q n block mask eb em = em ∙ ap (λ x. get_or q.present x 0) eb

pub left_read : (sh : Sheet) (masks : List ℕ) (q : Row) (n block mask left : ℕ) → block ≡ get_or sh.scope n 255 → mask ≡ get_or q.present block 0 →
    left ≡ mask_of (λ s. has mask s && supported sh masks n s) → left ≡ mask_of (λ s. has (get_or q.present (get_or sh.scope n 255) 0) s && supported sh masks n s)
left_read sh masks q n block mask left eb em el = el ∙ ap (λ x. mask_of (λ s. has x s && supported sh masks n s)) (mask_read sh q n block mask eb em)

-- the walk, at equal values
pub walked_is : {masks : List ℕ} {r : Row} {sh : Sheet} {p q : Row} {n : ℕ} {e f : Effect} → p ≡ q → e ≡ f → Walked masks r sh q n f → Walked masks r sh p n e
walked_is {masks} {r} {sh} {p} {q} {n} {e} {f} a b w = subst (λ x. Walked masks r sh x n e) (sym a) (subst (λ x. Walked masks r sh q n x) (sym b) w)
