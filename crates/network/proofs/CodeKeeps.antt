-- What a row of the code writes when it decides a block, or a block keeps the slots of a mask.
use Rattle.std.proofs.Common.{◌≡◌, ℕ, zero, suc, ◌+◌, ◌*◌, ◌%◌, ◌^◌, ◌<◌, ◌≤◌, true, false, ◌⊎◌, List, [], ◌∷◌, map, length, get_or, take, set, replicate, sym, refl, ap, ◌∙◌, ap₂, inl, inr, add-one, arith, length-set}
use lib.Bits.{and_zero_l, bit_and}
use Rattle.std.proofs.lemmas.Nat.{one_shl}
use Rattle.std.proofs.lemmas.List.{get_or-set_same, get_or-take, set_past, take-replicate}
use Rattle.std.proofs.lemmas.Bool.{cases_Bool, cond-true}
use Rattle.network.specs.Sheets.{has}
use Rattle.network.specs.Rows.{decide, keep, next_mask, row_of, some_empty, with_present}
use Rattle.network.specs.Laws.{LawfulRow}
use Rattle.network.specs.RowModel.{model}
use Rattle.network.specs.declared.row.Row.{Row as CodeRow}
use Rattle.network.proofs.Wiping.{some_empty_at, wipe_live}
use Rattle.network.proofs.Rows.{slot_live}
use Rattle.network.proofs.Keeping.{wipe_own}
use Rattle.network.proofs.Deciding.{decide_lawful, live_set, slot_within}
use Rattle.network.proofs.CodeRows.{lawful_of, take_set_in}

pub lawful_code : (r : CodeRow) → LawfulRow (model r)
lawful_code r = lawful_of (model r) r.lawful

-- the masks of a row of the code are as many as its blocks
pub sized_present : (r : CodeRow) → length (take r.blocks r.present) ≡ r.blocks
sized_present r = (lawful_code r).as_many ∙ r.sized

-- the row with the next block at a slot
pub decided_code : (r : CodeRow) (s : ℕ) → s < 32 →
    row_of r.blocks (r.decided + 1) r.opened (set r.present r.decided ((1 * 2 ^ s) % 4294967296)) ≡ decide (model r) s
decided_code r s h =
    let p : take r.blocks (set r.present r.decided ((1 * 2 ^ s) % 4294967296)) ≡ set (take r.blocks r.present) r.decided (2 ^ s) =
    take_set_in r.blocks r.present r.decided ((1 * 2 ^ s) % 4294967296) ∙ ap (λ v. set (take r.blocks r.present) r.decided v) (one_shl s 32 h) in
    ap₂ (λ x k. record { opened = take r.blocks r.opened; present = x; decided = k }) p (add-one r.decided)

-- a next block with a slot is there
pub next_there : (r : CodeRow) (s : ℕ) → has (next_mask (model r)) s ≡ true → r.decided < r.blocks
next_there r s h = omega (arith, slot_within (take r.blocks r.present) r.decided s h, sized_present r)

pub decided_law : (r : CodeRow) (s : ℕ) → s < 32 → has (next_mask (model r)) s ≡ true → LawfulRow (decide (model r) s)
decided_law r s l h = decide_lawful s (lawful_code r) (slot_live (lawful_code r) r.decided s h) l h

-- a block that isn't there keeps what it has
pub kept_past : (r : CodeRow) (b m : ℕ) → r.blocks ≤ b → model r ≡ keep (model r) b m
kept_past r b m l =
    let ms : List ℕ = take r.blocks r.present in
    sym (ap (with_present (model r)) (set_past ms b (bit_and (get_or ms b 0) m) (omega (arith, sized_present r))) ∙ wipe_own (lawful_code r))

module _ (r : CodeRow) (b m : ℕ) (l : b < r.blocks) where
  left : ℕ
  left = bit_and (get_or r.present b 0) m

  kept_masks : take r.blocks (set r.present b left) ≡ set (take r.blocks r.present) b (bit_and (get_or (take r.blocks r.present) b 0) m)
  unfolding left
  kept_masks = take_set_in r.blocks r.present b (bit_and (get_or r.present b 0) m)
      ∙ ap (λ x. set (take r.blocks r.present) b (bit_and x m)) (sym (get_or-take r.blocks r.present b 0 l))

  -- the block keeps some slots
  pub kept_some : (bit_and (get_or r.present b 0) m ≡ 0 → ⊥) →
      row_of r.blocks r.decided r.opened (set r.present b (bit_and (get_or r.present b 0) m)) ≡ keep (model r) b m
  unfolding left
  kept_some n =
      let ms : List ℕ = take r.blocks r.present in
      let x : ℕ = bit_and (get_or ms b 0) m in
      let same : get_or ms b 0 ≡ get_or r.present b 0 = get_or-take r.blocks r.present b 0 l in
      let pos : 0 < x = (let e : x ≡ bit_and (get_or r.present b 0) m = ap (λ y. bit_and y m) same in elim (cases_zero x) [ inl z ↦ absurd (n (sym e ∙ z)) | inr p ↦ p ]) in
      let live : some_empty ms ≡ false = elim (cases_Bool (some_empty ms)) [
        | inl d ↦ absurd (n (ap (λ y. bit_and y m) (sym same ∙ (lawful_code r).wiped d b) ∙ and_zero_l m))
        | inr d ↦ d
      ] in
      ap (λ xs. record { opened = take r.blocks r.opened; present = xs; decided = r.decided })
      (kept_masks ∙ sym (wipe_live (set ms b x) (live_set ms b x live pos)))
    where
      cases_zero : (x : ℕ) → (x ≡ 0) ⊎ (0 < x)
      cases_zero zero = inl refl
      cases_zero (suc x) = inr (omega arith)

  -- the block keeps none
  pub kept_none : bit_and (get_or r.present b 0) m ≡ 0 → row_of r.blocks r.decided r.opened (replicate 32 0) ≡ keep (model r) b m
  unfolding left
  kept_none z =
      let ms : List ℕ = take r.blocks r.present in
      let x : ℕ = bit_and (get_or ms b 0) m in
      let n : length (set ms b x) ≡ r.blocks = length-set ms b x ∙ sized_present r in
      let e : x ≡ 0 = ap (λ y. bit_and y m) (get_or-take r.blocks r.present b 0 l) ∙ z in
      let d : some_empty (set ms b x) ≡ true = some_empty_at (set ms b x) b (omega arith) (get_or-set_same ms b x 0 (omega (arith, sized_present r)) ∙ e) in
      ap (λ xs. record { opened = take r.blocks r.opened; present = xs; decided = r.decided })
      (take-replicate r.blocks 32 0 r.few ∙ ap (λ k. replicate k 0) (sym n) ∙ sym (zeros (set ms b x))
      ∙ sym (cond-true (some_empty (set ms b x)) (map (λ _. 0) (set ms b x)) (set ms b x) d))
    where
      zeros : (xs : List ℕ) → map {B = ℕ} (λ _. 0) xs ≡ replicate (length xs) 0
      zeros [] = refl
      zeros (x ∷ xs) = ap (λ ys. 0 ∷ ys) (zeros xs)
