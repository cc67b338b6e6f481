-- A number that is cut at 2 ^ 32 after each digit is the number cut at 2 ^ 32, and the forms of a number are told by its first digit.
use Rattle.std.proofs.Common.{◌≡◌, ℕ, ◌+◌, ◌-◌, ◌*◌, ◌<◌, ◌≤◌, Bool, true, ◌&&◌, leb, List, [], ◌∷◌, length, get_or, drop, sym, ap, ◌∙◌, arith}
use Rattle.std.specs.List.{list_all}
use Rattle.std.proofs.lemmas.List.{at_drop_more}
use Rattle.std.proofs.lemmas.Bool.{and_from, le-leb}
use Rattle.card.specs.Parts.{capped}
use Rattle.card.specs.Verdict.{is_digit, value_from}

capped_digit : (m d : ℕ) → capped (capped m * 10 + d) ≡ capped (m * 10 + d)
capped_digit m d = omega arith

pub capped_on : (m : ℕ) (bs : List ℕ) → capped (value_from (capped m) bs) ≡ capped (value_from m bs)
capped_on m [] = omega arith
capped_on m (x ∷ xs) =
    sym (capped_on (capped m * 10 + (x - 48)) xs) ∙ ap (λ n. capped (value_from n xs)) (capped_digit m (x - 48)) ∙ capped_on (m * 10 + (x - 48)) xs

pub digit_byte : (x : ℕ) → 48 ≤ x → x < 58 → is_digit x ≡ true
digit_byte x l h = and_from (leb 48 x) (leb x 57) (le-leb 48 x l) (le-leb x 57 (omega arith))

-- a loop over digits, at one more digit
module _ (xs : List ℕ) (i : ℕ) (there : i < length xs) where
  pub more_digits : {b : Bool} → list_all is_digit (drop i xs) ≡ b → is_digit (get_or xs i 0) ≡ true → list_all is_digit (drop (i + 1) xs) ≡ b
  more_digits same e = sym (ap (λ t. t && list_all is_digit (drop (i + 1) xs)) e) ∙ sym (at_drop_more (list_all is_digit) xs i 0 there) ∙ same

  pub more_value : {v : ℕ} (n m : ℕ) → capped (value_from n (drop i xs)) ≡ v → m ≡ capped (n * 10 + (get_or xs i 0 - 48)) → capped (value_from m (drop (i + 1) xs)) ≡ v
  more_value n m same e =
      ap (λ k. capped (value_from k (drop (i + 1) xs))) e ∙ capped_on (n * 10 + (get_or xs i 0 - 48)) (drop (i + 1) xs)
      ∙ sym (at_drop_more (λ bs. capped (value_from n bs)) xs i 0 there) ∙ same
