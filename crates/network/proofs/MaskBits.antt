-- The slots of two masks together, and of both.
use Rattle.std.proofs.Common.{◌≡◌, ℕ, ◌/◌, ◌%◌, ◌^◌, ◌<◌, min, max, Bool, ◌&&◌, ◌||◌, eqb, sym, refl, ap, ◌∙◌, ap₂, inl, inr, arith}
use lib.Bits.{and_shr, and_step, bit_and, bit_or, or_shr, or_step}
use Rattle.std.proofs.lemmas.Bool.{cases_eq}
use Rattle.network.specs.Sheets.{has}

-- what holds of two bits in each of the four cases holds of two numbers below 2
by_bits : (F G : ℕ → ℕ → Bool) → F 0 0 ≡ G 0 0 → F 0 1 ≡ G 0 1 → F 1 0 ≡ G 1 0 → F 1 1 ≡ G 1 1 → (x y : ℕ) → x < 2 → y < 2 → F x y ≡ G x y
by_bits F G a b c d x y l k = elim (cases_eq x 0) [
  | inl e ↦ elim (cases_eq y 0) [
    | inl f ↦ ap₂ F e f ∙ a ∙ sym (ap₂ G e f)
    | inr f ↦ (let h : y ≡ 1 = omega arith in ap₂ F e h ∙ b ∙ sym (ap₂ G e h))
  ]
  | inr e ↦ (let h : x ≡ 1 = omega arith in elim (cases_eq y 0) [
    | inl f ↦ ap₂ F h f ∙ c ∙ sym (ap₂ G h f)
    | inr f ↦ (let i : y ≡ 1 = omega arith in ap₂ F h i ∙ d ∙ sym (ap₂ G h i))
  ])
]

pub has_and : (a b s : ℕ) → has (bit_and a b) s ≡ (has a s && has b s)
has_and a b s =
    let x : ℕ = a / 2 ^ s in
    let y : ℕ = b / 2 ^ s in
    let e : bit_and x y % 2 ≡ min (x % 2) (y % 2) = omega (arith, and_step x y) in
    ap (λ n. eqb (n % 2) 1) (and_shr a b s) ∙ ap (λ n. eqb n 1) e
    ∙ by_bits (λ p q. eqb (min p q) 1) (λ p q. eqb p 1 && eqb q 1) refl refl refl refl (x % 2) (y % 2) (omega arith) (omega arith)

pub has_or : (a b s : ℕ) → has (bit_or a b) s ≡ (has a s || has b s)
has_or a b s =
    let x : ℕ = a / 2 ^ s in
    let y : ℕ = b / 2 ^ s in
    let e : bit_or x y % 2 ≡ max (x % 2) (y % 2) = omega (arith, or_step x y) in
    ap (λ n. eqb (n % 2) 1) (or_shr a b s) ∙ ap (λ n. eqb n 1) e
    ∙ by_bits (λ p q. eqb (max p q) 1) (λ p q. eqb p 1 || eqb q 1) refl refl refl refl (x % 2) (y % 2) (omega arith) (omega arith)
