-- A list of numbers with commas is its first, and then a comma and a number for each of the rest.
use Rattle.std.proofs.Common.{◌≡◌, ℕ, ◌-◌, ◌≤◌, length, take, drop, ap₂, get_or, arith, List, [], ◌∷◌, ◌++◌, decimal, ap, sym, ◌∙◌, append-nil, append_assoc}
use Rattle.std.specs.List.{flat_map}
use Rattle.std.proofs.lemmas.List.{take_all}
use Rattle.card.specs.Spelling.{listed}

abbrev pub tail : List ℕ → List ℕ
tail xs = flat_map (λ x. 44 ∷ decimal x) xs

pub listed_cons : (x : ℕ) (xs : List ℕ) → listed (x ∷ xs) ≡ decimal x ++ tail xs
listed_cons x [] = sym (append-nil (decimal x))
listed_cons x (y ∷ ys) = ap (λ t. decimal x ++ (44 ∷ t)) (listed_cons y ys)

-- after the first and each of the rest, all are printed
pub all_slots : (xs old first now : List ℕ) (i : ℕ) → 1 ≤ length xs → first ≡ old ++ decimal (get_or xs 0 0) → now ≡ first ++ tail (take i (take (length xs - 1) (drop 1 xs))) →
    length (take (length xs - 1) (drop 1 xs)) ≤ i → now ≡ old ++ listed xs
all_slots [] old first now i l a b m = absurd (omega (arith, l))
all_slots (x ∷ xs) old first now i l a b m =
    let n = length (x ∷ xs) - 1 in
    let rest : take n xs ≡ xs = take_all n xs (omega arith) in
    b ∙ ap₂ (λ f r. f ++ tail r) a (take_all i (take n xs) m ∙ rest) ∙ append_assoc old (decimal x) (tail xs) ∙ ap (λ t. old ++ t) (sym (listed_cons x xs))
