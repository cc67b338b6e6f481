-- The walk along a mask's slots that keeps those that pass.
use Rattle.std.proofs.Common.{◌≡◌, ℕ, ◌+◌, ◌^◌, ◌<◌, ◌≤◌, Bool, true, false, cond, ◌&&◌, ◌||◌, ltb, ◌⊎◌, List, [], ◌∷◌, Some, None, drop, sym, refl, ap, ◌∙◌, subst, ap₂, inl, inr, arith}
use lib.Bits.{bit_or, or_lt}
use Rattle.std.proofs.lemmas.Nat.{pow_below}
use Rattle.std.proofs.lemmas.Bool.{cases_eq, cases_lt, cond-true, eq-eqb, le-ltb, lt-ltb, ne_eqb}
use Rattle.network.specs.Offers.{first_of, slots_from}
use Rattle.network.specs.Sheets.{has, mask_of, slots}
use Rattle.network.proofs.MaskBits.{has_or}
use Rattle.network.proofs.Masks.{has_mask, has_none, has_single, mask_below, same_masks}
use Rattle.network.proofs.SlotsFrom.{first_after, first_and_rest, first_here, first_past, slots_start}

-- the slots below `from` that pass
pub record Kept (f : ℕ → Bool) (mask left from : ℕ) : Type 0 where
  pub below : left < 2 ^ 32
  pub most : from ≤ 32
  pub slot : (s : ℕ) → s < 32 → has left s ≡ (ltb s from && (has mask s && f s))

kept_start : (f : ℕ → Bool) (mask : ℕ) → Kept f mask 0 0
kept_start f mask = record { below = omega arith; most = omega arith; slot = λ s l. has_none s ∙ ap (λ v. v && (has mask s && f s)) (sym (le-ltb s 0 (omega arith))) }

module _ {f : ℕ → Bool} {mask left from : ℕ} (k : Kept f mask left from) where
  -- at the end all have been seen
  kept_end : first_of (slots_from mask from) ≡ None → left ≡ mask_of (λ s. has mask s && f s)
  kept_end e = same_masks 32 left (mask_of (λ s. has mask s && f s)) k.below (mask_below (λ s. has mask s && f s)) (λ s l.
      k.slot s l ∙ past s l (cases_lt s from) ∙ sym (has_mask (λ s. has mask s && f s) s l))
    where
      past : (s : ℕ) → s < 32 → (s < from) ⊎ (from ≤ s) → (ltb s from && (has mask s && f s)) ≡ (has mask s && f s)
      past s l (inl h) = ap (λ v. v && (has mask s && f s)) (lt-ltb s from h)
      past s l (inr h) = ap (λ v. v && (has mask s && f s)) (le-ltb s from h) ∙ sym (ap (λ v. v && f s) (first_past mask from e s h l))

  module _ (t : ℕ) (e : first_of (slots_from mask from) ≡ Some t) where
    -- up to the next slot none is the mask's
    upto : (s : ℕ) → s < 32 → (s ≡ t → ⊥) → (ltb s from && (has mask s && f s)) ≡ (ltb s (t + 1) && (has mask s && f s))
    upto s l d = elim (cases_lt s from) [
      | inl h ↦ ap (λ v. v && (has mask s && f s)) (lt-ltb s from h ∙ sym (lt-ltb s (t + 1) (omega (arith, (first_here mask from t k.most e).0))))
      | inr h ↦ ap (λ v. v && (has mask s && f s)) (le-ltb s from h) ∙ elim (cases_lt s t) [
        | inl j ↦ sym (ap (λ v. v && (has mask s && f s)) (lt-ltb s (t + 1) (omega arith)) ∙ ap (λ v. v && f s) (first_after mask from t k.most e s h j))
        | inr j ↦ sym (ap (λ v. v && (has mask s && f s)) (le-ltb s (t + 1) (omega arith)))
      ]
    ]

    at_slot : (s : ℕ) → s ≡ t → (v : Bool) → f t ≡ v → (ltb s (t + 1) && (has mask s && f s)) ≡ v
    at_slot s q v h = ap (λ x. ltb x (t + 1) && (has mask x && f x)) q
        ∙ ap₂ (λ a b. a && b) (lt-ltb t (t + 1) (omega arith)) (ap₂ (λ a b. a && b) (first_here mask from t k.most e).2 h)

    -- the next slot does not pass
    kept_less : false ≡ f t → Kept f mask left (t + 1)
    kept_less h = record {
      below = k.below;
      most = omega (arith, (first_here mask from t k.most e).1);
      slot = λ s l. k.slot s l ∙ elim (cases_eq s t) [
        | inl q ↦ ap (λ v. v && (has mask s && f s)) (le-ltb s from (omega (arith, (first_here mask from t k.most e).0))) ∙ refl ∙ sym (at_slot s q false (sym h))
        | inr d ↦ upto s l d
      ];
    }

    -- the next slot passes
    kept_more : true ≡ f t → (x : ℕ) → x ≡ cond (ltb t 32) (2 ^ t) 0 → Kept f mask (bit_or left x) (t + 1)
    kept_more h x e₀ = let ex : x ≡ 2 ^ t = e₀ ∙ cond-true (ltb t 32) (2 ^ t) 0 (lt-ltb t 32 (first_here mask from t k.most e).1) in record {
      below = or_lt 32 left x k.below (subst (λ y. y < 2 ^ 32) (sym ex) (pow_below t 32 (first_here mask from t k.most e).1));
      most = omega (arith, (first_here mask from t k.most e).1);
      slot = λ s l. has_or left x s ∙ ap₂ (λ a b. a || b) (k.slot s l) (ap (λ y. has y s) ex ∙ has_single t s) ∙ elim (cases_eq s t) [
        | inl q ↦ ap (λ v. (ltb s from && (has mask s && f s)) || v) (eq-eqb t s (sym q)) ∙ or_yes (ltb s from && (has mask s && f s)) ∙ sym (at_slot s q true (sym h))
        | inr d ↦ ap (λ v. (ltb s from && (has mask s && f s)) || v) (ne_eqb t s (λ q. d (sym q))) ∙ or_no (ltb s from && (has mask s && f s)) ∙ upto s l d
      ];
    }
      where
        or_yes : (v : Bool) → (v || true) ≡ true
        or_yes true = refl
        or_yes false = refl

        or_no : (v : Bool) → (v || false) ≡ v
        or_no true = refl
        or_no false = refl

-- the slots of the mask that come before those of a list are kept where they pass, and the list is the rest of them
pub record KeptSo (f : ℕ → Bool) (mask left : ℕ) (rest : List ℕ) : Type 0 where
  pub from : ℕ
  pub kept : Kept f mask left from
  pub is : rest ≡ slots_from mask from

pub so_start : (f : ℕ → Bool) {mask : ℕ} {list : List ℕ} → list ≡ slots mask → KeptSo f mask 0 list
so_start f {mask} e = record { from = 0; kept = kept_start f mask; is = e ∙ slots_start mask }

module _ {f : ℕ → Bool} {mask left : ℕ} {list : List ℕ} (k : KeptSo f mask left list) where
  pub so_end : list ≡ [] → left ≡ mask_of (λ s. has mask s && f s)
  so_end e = kept_end k.kept (ap first_of (sym k.is ∙ e))

  module _ {t : ℕ} {rest : List ℕ} (e : list ≡ t ∷ rest) where
    first : first_of (slots_from mask k.from) ≡ Some t
    first = ap first_of (sym k.is ∙ e)

    others : rest ≡ slots_from mask (t + 1)
    others = ap (drop 1) (sym e ∙ k.is ∙ (first_and_rest mask k.from t k.kept.most (sym first)).1)

    pub so_less : false ≡ f t → KeptSo f mask left rest
    so_less h = record { from = t + 1; kept = kept_less k.kept t first h; is = others }

    pub so_more : true ≡ f t → (x : ℕ) → x ≡ cond (ltb t 32) (2 ^ t) 0 → KeptSo f mask (bit_or left x) rest
    so_more h x e₀ = record { from = t + 1; kept = kept_more k.kept t first h x e₀; is = others }
