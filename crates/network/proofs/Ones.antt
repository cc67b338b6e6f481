-- A mask with at most one bit set has no two slots, and the other way round.
use Rattle.std.proofs.Common.{◌≡◌, ℕ, zero, suc, ◌/◌, ◌%◌, ◌^◌, ◌<◌, ◌≤◌, true, sym, refl, ap, ◌∙◌, inl, inr, arith}
use native.Mathlib.Nat.{pow-succ'}
use lib.Count.{ones, ones-le, ones_step}
use Rattle.std.proofs.lemmas.Bool.{cases_eq, eq-eqb, eqb-true}
use Rattle.network.specs.Sheets.{has}
use Rattle.network.proofs.Masks.{has_first, has_next, has_none, same_masks}
use Rattle.network.proofs.Members.{false_unless}

odd : (n : ℕ) → has n 0 ≡ true → n % 2 ≡ 1
odd n h = eqb-true (n % 2) 1 (sym (has_first n) ∙ h)

no_ones : (n s : ℕ) → ones n ≡ 0 → has n s ≡ true → ⊥
no_ones n zero e h = omega (arith, ones_step n, odd n h)
no_ones n (suc s) e h = no_ones (n / 2) s (omega (arith, ones_step n)) (sym (has_next n s) ∙ h)

pub ones_single : (n s t : ℕ) → ones n ≤ 1 → has n s ≡ true → has n t ≡ true → s ≡ t
ones_single n zero zero l h k = refl
ones_single n zero (suc t) l h k = absurd (no_ones (n / 2) t (omega (arith, ones_step n, odd n h)) (sym (has_next n t) ∙ k))
ones_single n (suc s) zero l h k = absurd (no_ones (n / 2) s (omega (arith, ones_step n, odd n k)) (sym (has_next n s) ∙ h))
ones_single n (suc s) (suc t) l h k = ap suc (ones_single (n / 2) s t (omega (arith, ones_step n)) (sym (has_next n s) ∙ h) (sym (has_next n t) ∙ k))

pub single_ones : (w n : ℕ) → n < 2 ^ w → ((s t : ℕ) → s < w → t < w → has n s ≡ true → has n t ≡ true → s ≡ t) → ones n ≤ 1
single_ones zero n l f = omega (arith, ones-le 0 n l)
single_ones (suc w) n l f =
    let up : n < 2 ^ suc w → n / 2 < 2 ^ w = λ k. (let e = pow-succ' 2 w in omega arith) in
    elim (cases_eq (n % 2) 0) [
      | inl e ↦ omega (
        arith,
        ones_step n,
        single_ones w (n / 2) (up l) (λ s t a b h k.
            (let c = f (suc s) (suc t) (omega arith) (omega arith) (has_next n s ∙ h) (has_next n t ∙ k) in omega arith)),
      )
      | inr d ↦ (
          let first : has n 0 ≡ true = has_first n ∙ eq-eqb (n % 2) 1 (omega arith) in
          let none : n / 2 ≡ 0 = same_masks w (n / 2) 0 (up l) (omega (arith, up l))
          (λ s k. false_unless (has (n / 2) s) (λ h. (let c = f 0 (suc s) (omega arith) (omega arith) first (has_next n s ∙ h) in omega arith)) ∙ sym (has_none s)) in
          let zero_ones : ones (n / 2) ≤ 0 = ones-le 0 (n / 2) (omega arith) in
          omega (arith, ones_step n))
    ]
