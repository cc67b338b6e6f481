-- A list of numbers is read back from its spelling with commas, and only its spelling reads as that list.
use Rattle.std.proofs.Common.{◌≡◌, ℕ, ◌^◌, ◌<◌, true, false, not, eqb, List, [], ◌∷◌, ◌++◌, map, length, decimal, refl, ap, ◌∙◌, arith}
use Rattle.std.specs.List.{list_all, AllByRecursion}
use Rattle.std.proofs.lemmas.Bool.{and_parts, and_from, not-true, eqb-true, cond_both, not_from_false}
use Rattle.card.specs.Spelling.{listed}
use Rattle.card.specs.Verdict.{is_digit, is_number, value_of, pieces, add_byte}
use Rattle.card.proofs.Tests.{without, all_pass_append}
use Rattle.card.proofs.Numbers.{value_of_decimal, is_number_decimal, decimal_value_of, decimal_without}

-- the numbers of a value
abbrev pub values_of : List ℕ → List ℕ
values_of bs = map value_of (pieces bs)

-- pieces with commas between them
abbrev commas : List (List ℕ) → List ℕ
commas [] = []
commas (p ∷ []) = p
commas (p ∷ (q ∷ qs)) = p ++ (44 ∷ commas (q ∷ qs))

commas_add : (x : ℕ) (ps : List (List ℕ)) → commas (add_byte x ps) ≡ x ∷ commas ps
commas_add x [] = refl
commas_add x (p ∷ []) = refl
commas_add x (p ∷ (q ∷ qs)) = refl

commas_none : (ps : List (List ℕ)) → 0 < length ps → commas ([] ∷ ps) ≡ 44 ∷ commas ps
commas_none [] h = absurd (omega arith)
commas_none (p ∷ ps) h = refl

pub pieces_some : (bs : List ℕ) → 0 < length (pieces bs)
pieces_some [] = omega arith
pieces_some (x ∷ xs) = cond_both (eqb x 44) _ _ (λ ps. 0 < length ps) (λ _. omega arith) (λ _. add_some (pieces xs))
  where
    add_some : (ps : List (List ℕ)) → 0 < length (add_byte x ps)
    add_some [] = omega arith
    add_some (p ∷ ps) = omega arith

-- the pieces with commas between them are the value again
commas_pieces : (bs : List ℕ) → commas (pieces bs) ≡ bs
commas_pieces [] = refl
commas_pieces (x ∷ xs) =
    let again = commas_pieces xs in
    cond_both (eqb x 44) _ _ (λ ps. commas ps ≡ x ∷ xs)
    (λ e. commas_none (pieces xs) (pieces_some xs) ∙ cc (eqb-true x 44 e))
    (λ _. commas_add x (pieces xs) ∙ cc)

-- a piece ends at the first comma
pieces_last : (p : List ℕ) → without 44 p ≡ true → pieces p ≡ p ∷ []
pieces_last [] e = refl
pieces_last (x ∷ xs) e = let h = and_parts (not (eqb x 44)) (without 44 xs) e in rw (not-true _ h.0, pieces_last xs h.1)

pieces_more : (p rest : List ℕ) → without 44 p ≡ true → pieces (p ++ (44 ∷ rest)) ≡ p ∷ pieces rest
pieces_more [] rest e = refl
pieces_more (x ∷ xs) rest e = let h = and_parts (not (eqb x 44)) (without 44 xs) e in rw (not-true _ h.0, pieces_more xs rest h.1)

-- the pieces of a spelled list are its spelled numbers
pub pieces_listed : (xs : List ℕ) → 0 < length xs → AllByRecursion (λ x. x < 2 ^ 64) xs → pieces (listed xs) ≡ map decimal xs
pieces_listed [] h a = absurd (omega arith)
pieces_listed (x ∷ []) h a = pieces_last (decimal x) (decimal_without 44 x a.0 refl)
pieces_listed (x ∷ (y ∷ ys)) h a =
    pieces_more (decimal x) _ (decimal_without 44 x a.0 refl) ∙ ap (λ ps. decimal x ∷ ps) (pieces_listed (y ∷ ys) (omega arith) a.1)

-- numbers spelled again are their pieces
listed_commas : (ps : List (List ℕ)) → list_all is_number ps ≡ true → AllByRecursion (λ x. x < 2 ^ 64) (map value_of ps) → listed (map value_of ps) ≡ commas ps
listed_commas [] e a = refl
listed_commas (p ∷ []) e a = decimal_value_of p (and_parts _ _ e).0 a.0
listed_commas (p ∷ (q ∷ qs)) e a =
    let h = and_parts (is_number p) (list_all is_number (q ∷ qs)) e in
    let again = listed_commas (q ∷ qs) h.1 a.1 in
    rw (decimal_value_of p h.0 a.0) (ap (λ bs. p ++ (44 ∷ bs)) again)

-- a value of numbers below 2 ^ 64 is the spelling of its numbers
pub listed_values_of : (bs : List ℕ) → list_all is_number (pieces bs) ≡ true → AllByRecursion (λ x. x < 2 ^ 64) (values_of bs) → listed (values_of bs) ≡ bs
listed_values_of bs e a = listed_commas (pieces bs) e a ∙ commas_pieces bs

map_decimals : (xs : List ℕ) → AllByRecursion (λ x. x < 2 ^ 64) xs → (list_all is_number (map decimal xs) ≡ true) × (map value_of (map decimal xs) ≡ xs)
map_decimals [] a = (refl, refl)
map_decimals (x ∷ xs) a =
    let again = map_decimals xs a.1 in
    (and_from _ _ (is_number_decimal x a.0) again.0, cc (again.1, value_of_decimal x a.0))

-- the spelling of some numbers below 2 ^ 64 reads as them
pub values_of_listed : (xs : List ℕ) → 0 < length xs → AllByRecursion (λ x. x < 2 ^ 64) xs → (list_all is_number (pieces (listed xs)) ≡ true) × (values_of (listed xs) ≡ xs)
values_of_listed xs h a = rw (pieces_listed xs h a) (map_decimals xs a)

-- a spelled list has digits and commas only
pub listed_without : (c : ℕ) → is_digit c ≡ false → eqb 44 c ≡ false → (xs : List ℕ) → AllByRecursion (λ x. x < 2 ^ 64) xs → without c (listed xs) ≡ true
listed_without c d k [] a = refl
listed_without c d k (x ∷ []) a = decimal_without c x a.0 d
listed_without c d k (x ∷ (y ∷ ys)) a =
    all_pass_append _ (decimal x) _ (decimal_without c x a.0 d) (and_from _ _ (not_from_false _ k) (listed_without c d k (y ∷ ys) a.1))
