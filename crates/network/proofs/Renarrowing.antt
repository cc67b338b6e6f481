-- Narrowing a row again: tests that every slot passes, two tests one after the other, rows that are dead.
use Rattle.std.proofs.Common.{◌≡◌, ℕ, ◌^◌, ◌<◌, Bool, true, false, not, ◌&&◌, ◌||◌, List, length, get_or, set, sym, refl, ap, ◌∙◌, subst, inl, inr, arith, length-set}
use lib.Bits.{and_zero_r, bit_and}
use Rattle.std.proofs.lemmas.List.{ext_get_or, get_or-set_same}
use Rattle.std.proofs.lemmas.Bool.{both_ways, eq-eqb}
use Rattle.network.specs.Sheets.{has}
use Rattle.network.specs.Rows.{Row, dead, keep, narrowed_by, passing, some_empty, wipe, with_present}
use Rattle.network.specs.Filters.{total_slots}
use Rattle.network.specs.Laws.{LawfulRow, Under}
use Rattle.network.proofs.Masks.{mutual_masks, same_masks}
use Rattle.network.proofs.Wiping.{some_empty_at, wipe_long, wipe_zero}
use Rattle.network.proofs.Rows.{same_rows, slot_live, under_refl}
use Rattle.network.proofs.Narrowing.{narrowed_lawful, narrowed_mono, narrowed_parts, narrowed_under, passing_below, passing_has, passing_long}
use Rattle.network.proofs.Keeping.{keep_lawful, keep_narrows, keeps, wipe_own}
use Rattle.network.proofs.Settling.{row_fewer}

-- tests that agree leave the same
pub narrowed_same : (f g : ℕ → ℕ → Bool) (r : Row) → ((b s : ℕ) → f b s ≡ g b s) → narrowed_by f r ≡ narrowed_by g r
narrowed_same f g r h = ap (λ t. narrowed_by t r) (λ i b s. h b s i)

-- a test that every slot passes leaves the row
pub narrowed_all : (f : ℕ → ℕ → Bool) {r : Row} → LawfulRow r → ((b s : ℕ) → s < 32 → has (get_or r.present b 0) s ≡ true → f b s ≡ true) → narrowed_by f r ≡ r
narrowed_all f {r} lr h =
    ap (with_present r) (ext_get_or 0 (passing f r.present) r.present (passing_long f r.present) (λ b _.
    same_masks 32 (get_or (passing f r.present) b 0) (get_or r.present b 0) (passing_below f r.present b) (lr.present_masks b)
    (λ s l. passing_has f r.present b s l ∙ all (has (get_or r.present b 0) s) (f b s) (h b s l)))) ∙ wipe_own lr
  where
    all : (v w : Bool) → (v ≡ true → w ≡ true) → (v && w) ≡ v
    all true w k = k refl
    all false w k = refl

-- a dead row stays
pub narrowed_still : (f : ℕ → ℕ → Bool) {r : Row} → LawfulRow r → dead r ≡ true → narrowed_by f r ≡ r
narrowed_still f {r} lr d = narrowed_all f lr (λ b s l h. absurd (both_ways (dead r) (slot_live lr b s h) d))

-- a row under another whose slots all pass is under what is left of it
pub narrowed_above : (f : ℕ → ℕ → Bool) {p r : Row} → LawfulRow p → LawfulRow r → Under p r →
    ((b s : ℕ) → s < 32 → has (get_or p.present b 0) s ≡ true → f b s ≡ true) → Under p (narrowed_by f r)
narrowed_above f {p} {r} lp lr u h = subst (λ q. Under q (narrowed_by f r)) (narrowed_all f lp h) (narrowed_mono f f lp lr u (λ _ b s l _ e. e))

-- dead rows under the same row are equal
pub same_dead : {p q : Row} → LawfulRow p → LawfulRow q → Under p q → dead q ≡ true → p ≡ q
same_dead {p} {q} lp lq u d = same_rows lp lq u (λ b s l h. absurd (both_ways (dead q) (slot_live lq b s h) d))

-- two tests one after the other are a third, which has to agree with them on the slots that are left
pub narrowed_twice : (f g h : ℕ → ℕ → Bool) {r : Row} → LawfulRow r → ((b s : ℕ) → s < 32 → h b s ≡ true → f b s ≡ true) →
    ((b s : ℕ) → s < 32 → has (get_or (narrowed_by f r).present b 0) s ≡ true → f b s ≡ true → g b s ≡ true → h b s ≡ true) →
    ((b s : ℕ) → s < 32 → has (get_or (narrowed_by f r).present b 0) s ≡ true → h b s ≡ true → g b s ≡ true) →
    narrowed_by g (narrowed_by f r) ≡ narrowed_by h r
narrowed_twice f g h {r} lr hf gh hg =
    let q : Row = narrowed_by f r in
    let lq : LawfulRow q = narrowed_lawful f r lr in
    let p : Row = narrowed_by h r in
    let lp : LawfulRow p = narrowed_lawful h r lr in
    let u : Under p q = narrowed_mono h f lr lr under_refl (λ _ b s l _ e. hf b s l e) in
    let v : Under p (narrowed_by g q) = narrowed_above g lp lq u (λ b s l k. hg b s l (u.inside b s l k) (narrowed_parts h r b s l k).1) in
    same_rows (narrowed_lawful g q lq) lp
    (narrowed_mono g h lq lr (narrowed_under f r) (λ _ b s l k e. gh b s l k (narrowed_parts f r b s l k).1 e)) v.inside

-- a block that keeps other slots than it had leaves a row with fewer
pub keep_fewer : {r : Row} → LawfulRow r → (b m : ℕ) → m < 2 ^ 32 → ((s : ℕ) → s < 32 → has m s ≡ true → has (get_or r.present b 0) s ≡ true) →
    (m ≡ get_or r.present b 0 → ⊥) → total_slots (keep r b m) < total_slots r
keep_fewer {r} lr b m l i n =
    let e : keep r b m ≡ narrowed_by (keeps b m) r = keep_narrows lr b m in
    elim (row_fewer (keep_lawful lr b m) lr (subst (λ q. Under q r) (sym e) (narrowed_under (keeps b m) r))) [
      | inl same ↦ absurd (n (mutual_masks m (get_or r.present b 0) l (lr.present_masks b) i (λ s k h.
          (let a = narrowed_parts (keeps b m) r b s k (subst (λ q. has (get_or q.present b 0) s ≡ true) (sym same ∙ e) h) in
          ap (λ v. not v || has m s) (sym (eq-eqb b b refl)) ∙ a.1))))
      | inr h ↦ h
    ]

-- a block that keeps nothing leaves a dead row
pub keep_dead : (r : Row) (b m : ℕ) → b < length r.present → m ≡ 0 → dead (keep r b m) ≡ true
keep_dead r b m l z =
    let x : ℕ = bit_and (get_or r.present b 0) m in
    let ms : List ℕ = set r.present b x in
    let n : length ms ≡ length r.present = length-set r.present b x in
    let e : some_empty ms ≡ true = some_empty_at ms b (omega arith) (get_or-set_same r.present b x 0 l ∙ ap (λ y. bit_and (get_or r.present b 0) y) z ∙ and_zero_r (get_or r.present b 0)) in
    some_empty_at (wipe ms) b (omega (arith, wipe_long ms)) (wipe_zero ms e b)
