-- Masks make a lawful row exactly where each block may have its masks.
use Rattle.std.proofs.Common.{◌≡◌, ℕ, ◌<◌, ◌≤◌, Bool, true, false, not, ◌&&◌, ◌||◌, eqb, ltb, leb, List, ◌++◌, length, get_or, sym, refl, ap, ◌∙◌, ap₂, inl, inr, arith}
use lib.Bits.{and_le_l, and_zero_l, bit_and}
use lib.Count.{ones, ones-le}
use Rattle.std.proofs.lemmas.List.{get_or_past, take_at}
use Rattle.std.proofs.lemmas.Bool.{and_from, and_parts, both_ways, cases_Bool, cases_eq, cases_lt, cond-false, cond-true, eq-eqb, eqb-false, eqb-true, le-leb, leb-true, lt-ltb, ltb-true, ne_eqb, not_from_false, not-true, or_cases, or_left, or_right}
use Rattle.network.specs.Sheets.{has}
use Rattle.network.specs.Rows.{row_of}
use Rattle.network.specs.Laws.{Bounded, LawfulRow}
use Rattle.network.specs.RowModel.{MayStand, given, may_have}
use Rattle.network.proofs.Masks.{has_not, same_masks}
use Rattle.network.proofs.Wiping.{empty_at, some_empty_at}
use Rattle.network.proofs.MaskBits.{has_and}
use Rattle.network.proofs.Rows.{slot_live}
use Rattle.network.proofs.Ones.{ones_single, single_ones}

-- what the test says of a block: an empty first mask makes the others empty
record Standing (o p f : ℕ) (d : Bool) : Type 0 where
  first_empty : f ≡ 0 → p ≡ 0
  empty_first : p ≡ 0 → f ≡ 0
  inside : bit_and p o ≡ p
  single : d ≡ true → ones p ≤ 1

rest : ℕ → ℕ → Bool → Bool
rest o p d = not (eqb p 0) && (eqb (bit_and p o) p && (not d || leb (ones p) 1))

standing : (o p f : ℕ) (d : Bool) → may_have o p f d ≡ true → Standing o p f d
unfolding rest
standing o p f d h = elim (cases_eq f 0) [
  | inl e ↦ (
      let z : p ≡ 0 = eqb-true p 0 (sym (cond-true (eqb f 0) (eqb p 0) (rest o p d) (eq-eqb f 0 e)) ∙ h) in
      record {
        first_empty = λ _. z;
        empty_first = λ _. e;
        inside = ap (λ x. bit_and x o) z ∙ and_zero_l o ∙ sym z;
        single = λ _. omega (arith, ones-le 0 p (omega arith));
      })
  | inr n ↦ (
      let a = and_parts (not (eqb p 0)) (eqb (bit_and p o) p && (not d || leb (ones p) 1)) (sym (cond-false (eqb f 0) (eqb p 0) (rest o p d) (ne_eqb f 0 n)) ∙ h) in
      let b = and_parts (eqb (bit_and p o) p) (not d || leb (ones p) 1) a.1 in
      record {
        first_empty = λ e. absurd (n e);
        empty_first = λ e. absurd (eqb-false p 0 (not-true (eqb p 0) a.0) e);
        inside = eqb-true (bit_and p o) p b.0;
        single = λ e. elim (or_cases (not d) (leb (ones p) 1) b.1) [ inl k ↦ absurd (both_ways d (not-true d k) e) | inr k ↦ leb-true (ones p) 1 k ];
      })
]

stands : (o p f : ℕ) (d : Bool) → Standing o p f d → may_have o p f d ≡ true
unfolding rest
stands o p f d s = elim (cases_eq f 0) [
  | inl e ↦ cond-true (eqb f 0) (eqb p 0) (rest o p d) (eq-eqb f 0 e) ∙ eq-eqb p 0 (s.first_empty e)
  | inr n ↦ cond-false (eqb f 0) (eqb p 0) (rest o p d) (ne_eqb f 0 n)
      ∙ and_from (not (eqb p 0)) (eqb (bit_and p o) p && (not d || leb (ones p) 1)) (not_from_false (eqb p 0) (ne_eqb p 0 (λ e. n (s.empty_first e))))
      (and_from (eqb (bit_and p o) p) (not d || leb (ones p) 1) (eq-eqb (bit_and p o) p s.inside) (elim (cases_Bool d) [
        | inl e ↦ or_right (not d) (leb (ones p) 1) (le-leb (ones p) 1 (s.single e))
        | inr e ↦ or_left (not d) (leb (ones p) 1) (not_from_false d e)
      ]))
]

module _ {os ps : List ℕ} {d : ℕ} where
  -- each block of a lawful row passes
  pub lawful_stands : LawfulRow (given os ps d) → MayStand os ps d
  lawful_stands lr k l = stands (get_or os k 0) (get_or ps k 0) (get_or ps 0 0) (ltb k d) (record {
    first_empty = λ e. lr.wiped (some_empty_at ps 0 (omega (arith, lr.as_many)) e) k;
    empty_first = λ e. lr.wiped (some_empty_at ps k (omega (arith, lr.as_many)) e) 0;
    inside = same_masks 32 (bit_and (get_or ps k 0) (get_or os k 0)) (get_or ps k 0) (omega (arith, and_le_l (get_or ps k 0) (get_or os k 0), lr.present_masks k)) (lr.present_masks k)
        (λ s h. has_and (get_or ps k 0) (get_or os k 0) s ∙ narrower (has (get_or ps k 0) s) (has (get_or os k 0) s) (lr.inside k s h));
    single = λ e. single_ones 32 (get_or ps k 0) (lr.present_masks k) (λ s t a b h g. lr.single (slot_live lr k s h) k (ltb-true k d e) s t a b h g);
  })
    where
      narrower : (v w : Bool) → (v ≡ true → w ≡ true) → (v && w) ≡ v
      narrower true w f = f refl
      narrower false w f = refl

  -- masks of which each block passes make a lawful row
  pub stand_lawful : length os ≤ 32 → length ps ≡ length os → d ≤ length os → Bounded os → Bounded ps → MayStand os ps d → LawfulRow (given os ps d)
  stand_lawful few n within ob pb s = record {
    few = few;
    as_many = n;
    within = within;
    opened_masks = ob;
    present_masks = pb;
    inside = λ b t l h. elim (cases_lt b (length os)) [
      | inl k ↦ (and_parts (has (get_or ps b 0) t) (has (get_or os b 0) t) (sym (has_and (get_or ps b 0) (get_or os b 0) t) ∙ ap (λ x. has x t) (at b k).inside ∙ h)).1
      | inr k ↦ absurd (has_not (get_or ps b 0) t (get_or_past ps b 0 (omega arith)) h)
    ];
    wiped = λ e b. (let r = empty_at ps e in
        let z : get_or ps 0 0 ≡ 0 = (at r.0 (omega (arith, r.1))).empty_first r.2 in
        elim (cases_lt b (length os)) [ inl k ↦ (at b k).first_empty z | inr k ↦ get_or_past ps b 0 (omega arith) ]);
    single = λ _ b l s t _ _ h g. ones_single (get_or ps b 0) s t ((at b (omega arith)).single (lt-ltb b d l)) h g;
  }
    where
      at : (k : ℕ) → k < length os → Standing (get_or os k 0) (get_or ps k 0) (get_or ps 0 0) (ltb k d)
      at k l = standing (get_or os k 0) (get_or ps k 0) (get_or ps 0 0) (ltb k d) (s k l)

-- the row of masks that are copied to the front of longer lists
pub copied_row : {os ps xs ys : List ℕ} (zs ws : List ℕ) (d : ℕ) → xs ≡ os → ys ≡ ps → length ps ≡ length os → row_of (length os) d (xs ++ zs) (ys ++ ws) ≡ given os ps d
copied_row {os} {ps} {xs} {ys} zs ws d e f n =
    ap₂ (λ a b. record { opened = a; present = b; decided = d }) (take_at xs zs (length os) (ap length e) ∙ e) (take_at ys ws (length os) (ap length f ∙ n) ∙ f)
