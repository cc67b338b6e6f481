-- A stack with one row more.
use Rattle.std.proofs.Common.{◌≡◌, ℕ, suc, ◌<◌, ◌≤◌, true, false, List, [], length, get_or, set, sym, ap, ◌∙◌, subst, ⊎_elim, arith}
use Rattle.std.proofs.lemmas.List.{get_or-set_same, get_or-set_other}
use Rattle.std.proofs.lemmas.Bool.{cases_lt}
use Rattle.network.specs.Sheets.{Sheet, has}
use Rattle.network.specs.Rows.{Row, dead, decide, next_mask}
use Rattle.network.specs.Laws.{LawfulRow, LawfulBank, LawfulFilter}
use Rattle.network.specs.Filters.{Filtering}
use Rattle.network.proofs.Rows.{slot_live}
use Rattle.network.proofs.Deciding.{decide_lawful, slot_within}
use Rattle.listing.specs.ToCome.{ChildOf, Slotted, Stacked, row_at, width}

-- a row whose next block has a slot is live, and not complete
pub next_open : {r : Row} → LawfulRow r → (s : ℕ) → has (next_mask r) s ≡ true → (dead r ≡ false) × (r.decided < length r.opened)
next_open {r} lr s e = (slot_live lr r.decided s e, omega (arith, slot_within r.present r.decided s e, lr.as_many))

-- a stack with one row more
pub stacked_more :
    (F : Filtering) (m : List Sheet) (n : ℕ) (rs : List Row) (k s : ℕ) → LawfulFilter F → LawfulBank m → LawfulRow (row_at rs k) → suc k < length rs → s < 32 → has (next_mask (row_at rs k)) s ≡ true →
    Stacked n rs k → Stacked n (set rs (suc k) (F m (decide (row_at rs k) s))) (suc k)
stacked_more F m n rs k s lf lb lr room small e h j l =
    ⊎_elim
    (λ (p : j < suc k).
    let q : row_at (set rs (suc k) new) j ≡ row_at rs j = get_or-set_other rs (suc k) j new (record { opened = []; present = []; decided = 0 }) (λ z. omega arith) in
    (ap (λ r. r.decided) q ∙ (h j (omega arith)).0, ap (λ r. length r.opened) q ∙ (h j (omega arith)).1))
    (λ (p : suc k ≤ j).
    let z : j ≡ suc k = omega arith in
    let q : row_at (set rs (suc k) new) j ≡ new = ap (row_at (set rs (suc k) new)) z ∙ get_or-set_same rs (suc k) new (record { opened = []; present = []; decided = 0 }) room in
    let o = next_open lr s e in
    let ld : LawfulRow (decide (row_at rs k) s) = decide_lawful s lr o.0 small e in (
      ap (λ r. r.decided) q ∙ (lf.under m (decide (row_at rs k) s) lb ld).same_decided ∙ ap suc (h k (omega arith)).0 ∙ sym z,
      ap (λ r. length r.opened) q ∙ ap length (lf.under m (decide (row_at rs k) s) lb ld).same_opened ∙ (h k (omega arith)).1,
    ))
    (cases_lt j (suc k))
  where
    new : Row
    new = F m (decide (row_at rs k) s)

pub stacked_to : (n : ℕ) (rs : List Row) (k j : ℕ) → j ≤ k → Stacked n rs k → Stacked n rs j
stacked_to n rs k j l h i u = h i (omega arith)

-- the row of a child is above the plans
pub child_low : (n : ℕ) (rs : List Row) (k j s : ℕ) → LawfulRow (row_at rs j) → Stacked n rs k → ChildOf rs k j s → j < n
child_low n rs k j s lr h p = omega (arith, (next_open lr s p.offered).1, (h j p.within).0, (h j p.within).1)

pub child_of : (n : ℕ) (rs : List Row) (k j s : ℕ) → LawfulRow (row_at rs j) → Stacked n rs k → j ≤ k → s < 32 → has (next_mask (row_at rs j)) s ≡ true → ChildOf rs k j s
child_of n rs k j s lr h l small e = record { within = l; low = omega (arith, (next_open lr s e).1, (h j l).0, lr.few); slot = small; offered = e }

-- the deepest row of a stack is no deeper than its blocks
pub stack_low : (n : ℕ) (rs : List Row) (k : ℕ) → LawfulRow (row_at rs k) → Stacked n rs k → k ≤ n
stack_low n rs k lr h = omega (arith, lr.within, (h k (omega arith)).0, (h k (omega arith)).1)

module _ (rs : List Row) (j : ℕ) (new : Row) where
  pub wide_more : width (set rs (suc j) new) ≡ width rs
  wide_more = ap (λ r. length r.opened) (get_or-set_other rs (suc j) 0 new (record { opened = []; present = []; decided = 0 }) (λ e. omega arith))

-- a stack that goes down to a child has its rows stacked, and its path slots
module _ (F : Filtering) (m : List Sheet) (lf : LawfulFilter F) (lb : LawfulBank m) (rs qs : List Row) (k j s d : ℕ) (p : ChildOf rs k j s) (e : d ≡ suc j) where
  pub stacked_down : LawfulRow (row_at rs j) → suc j < length rs → Stacked (width rs) rs k → qs ≡ set rs (suc j) (F m (decide (row_at rs j) s)) → Stacked (width qs) qs d
  stacked_down lr room h q =
      let new : Row = F m (decide (row_at rs j) s) in
      subst (Stacked (width qs) qs) (sym e) (subst (λ z. Stacked (width z) z (suc j)) (sym q)
      (subst (λ n. Stacked n (set rs (suc j) new) (suc j)) (sym (wide_more rs j new)) (stacked_more F m (width rs) rs j s lf lb lr room p.slot p.offered (stacked_to (width rs) rs k j p.within h))))

pub slotted_down : (path : List ℕ) (k j s d : ℕ) → j ≤ k → j < length path → s < 32 → d ≡ suc j → Slotted path k → Slotted (set path j s) d
slotted_down path k j s d below inside small e h i l =
    ⊎_elim (λ (a : i < j). subst (λ z. z < 32) (sym (get_or-set_other path j i s 0 (λ z. omega arith))) (h i (omega arith)))
    (λ (a : j ≤ i). let z : i ≡ j = omega arith in subst (λ x. x < 32) (sym (ap (λ t. get_or (set path j s) t 0) z ∙ get_or-set_same path j s 0 inside)) small)
    (cases_lt i j)
