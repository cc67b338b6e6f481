-- A number of a card is read back from its spelling, and only its spelling reads as that number.
use Rattle.std.proofs.Common.{◌≡◌, ℕ, zero, suc, ◌^◌, ◌<◌, true, false, not, eqb, List, [], ◌∷◌, length, get_or, decimal, refl, ap, arith, rules}
use Rattle.std.specs.List.{list_all}
use Rattle.std.proofs.lemmas.Bool.{and_parts, false≢true}
use Rattle.std.proofs.lemmas.Bool.Decides.{nat_tests}
use Rattle.std.proofs.lemmas.Str.Parse.{IsNumeralModel, numerals_by_fold}
use Rattle.std.proofs.lemmas.Fmt.{decimal-digits_value, digits_value-decimal, digits_decimal, decimal_nonempty, decimal_digit, first_decimal}
use Rattle.card.specs.Verdict.{is_digit, is_number, value_from, value_of}
use Rattle.card.proofs.Tests.{without, all_pass_weaker}

-- the card's digits and numbers, in the shelf's words
pub own : IsNumeralModel (λ ds. list_all is_digit ds ≡ true) value_of
own = numerals_by_fold _ (search rules) value_from (search rules)

-- the form of a number: digits, at least one, and no leading zero
pub digits_number : (bs : List ℕ) → is_number bs ≡ true → (list_all is_digit bs ≡ true) × (0 < length bs) × (get_or bs 0 0 ≡ 48 → length bs ≡ 1)
digits_number [] e = absurd (false≢true e)
digits_number (x ∷ []) e = (grind (arith, nat_tests), omega arith, λ _. refl)
digits_number (x ∷ (y ∷ ys)) e = (grind (arith, nat_tests), omega arith, grind (arith, nat_tests))

pub number_digits : (bs : List ℕ) → list_all is_digit bs ≡ true → 0 < length bs → (get_or bs 0 0 ≡ 48 → length bs ≡ 1) → is_number bs ≡ true
number_digits [] d s z = absurd (omega arith)
number_digits (x ∷ []) d s z = (and_parts _ _ d).0
number_digits (x ∷ (y ∷ ys)) d s z = grind (arith, nat_tests)

-- a number below 2 ^ 64 reads as itself, and only its spelling does
pub value_of_decimal : (n : ℕ) → n < 2 ^ 64 → value_of (decimal n) ≡ n
value_of_decimal n h = digits_value-decimal own n h

pub is_number_decimal : (n : ℕ) → n < 2 ^ 64 → is_number (decimal n) ≡ true
is_number_decimal n h = number_digits (decimal n) (digits_decimal own n h) (decimal_nonempty n h) (first n h)
  where
    first : (m : ℕ) → m < 2 ^ 64 → get_or (decimal m) 0 0 ≡ 48 → length (decimal m) ≡ 1
    first zero h e = ap length (decimal_digit 0 (omega arith))
    first (suc m) h e = absurd (omega (arith, first_decimal (suc m) (omega arith) h))

pub decimal_value_of : (bs : List ℕ) → is_number bs ≡ true → value_of bs < 2 ^ 64 → decimal (value_of bs) ≡ bs
decimal_value_of bs e h = let d = digits_number bs e in decimal-digits_value own bs d.0 d.1 d.2 h

-- a spelled number has digits only
pub decimal_without : (c n : ℕ) → n < 2 ^ 64 → is_digit c ≡ false → without c (decimal n) ≡ true
decimal_without c n h e = all_pass_weaker is_digit (λ b. not (eqb b c)) (λ x d. grind (arith, nat_tests)) (decimal n) (digits_decimal own n h)
