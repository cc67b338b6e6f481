-- The tuples of a table by number, and when they ascend.
use Rattle.std.proofs.Common.{◌≡◌, ℕ, zero, suc, ◌+◌, ◌*◌, ◌/◌, ◌≤◌, true, List, [], ◌∷◌, length, drop, refl, ap, ◌∙◌, inl, inr, add-mul, one-mul, add-one, arith}
use Rattle.std.proofs.Math.Nat.{div-mul-le_self, mul-div_cancel}
use Rattle.std.proofs.lemmas.List.{length-drop, length-take-le}
use Rattle.std.proofs.lemmas.Bool.{and_parts}
use Rattle.network.specs.Sheets.{In}
use Rattle.network.specs.Tree.{precedes}
use Rattle.network.proofs.Ascending.{Ascending}
use Rattle.network.proofs.Order.{precedes_trans}
use Rattle.banks.specs.declared.table.TableRecord.{TableRecord}
use Rattle.banks.specs.Tables.{climbs, climbs_from, cut, table_cells, tuples_in, tuples_of}

pub length_tuples : (a n : ℕ) (xs : List ℕ) → length (tuples_in a n xs) ≡ n
length_tuples a zero xs = refl
length_tuples a (suc n) xs = ap suc (length_tuples a n (drop a xs))

-- a list that climbs ascends
after : (t : List ℕ) (ts : List (List ℕ)) → climbs_from t ts ≡ true → (y : List ℕ) → In y ts → precedes t y ≡ true
after t [] h y m = absurd m
after t (u ∷ us) h y m = elim m [
  | inl e ↦ ap (precedes t) e ∙ (and_parts (precedes t u) (climbs_from u us) h).0
  | inr k ↦ (let p = and_parts (precedes t u) (climbs_from u us) h in precedes_trans t u y p.0 (after u us p.1 y k))
]

pub climbs_ascend : (ts : List (List ℕ)) → climbs ts ≡ true → Ascending precedes ts
climbs_ascend [] h = tt
climbs_ascend (t ∷ ts) h = (after t ts h, rest t ts h)
  where
    rest : (u : List ℕ) (us : List (List ℕ)) → climbs_from u us ≡ true → Ascending precedes us
    rest u [] k = tt
    rest u (v ∷ vs) k = let p = and_parts (precedes u v) (climbs_from v vs) k in (after v vs p.1, rest v vs p.1)

-- each of the tuples has the arity
long_in : (a n : ℕ) (xs : List ℕ) → n * a ≤ length xs → (t : List ℕ) → In t (tuples_in a n xs) → length t ≡ a
long_in a zero xs e t m = absurd m
long_in a (suc n) xs e t (inl q) = ap length q ∙ length-take-le a xs (omega (arith, add-mul n 1 a, one-mul a, add-one n))
long_in a (suc n) xs e t (inr m) = long_in a n (drop a xs) (omega (arith, length-drop a xs, add-mul n 1 a, one-mul a, add-one n)) t m

pub cut_long : (a : ℕ) (xs t : List ℕ) → In t (cut a xs) → length t ≡ a
cut_long a xs t m = long_in a (length xs / a) xs (div-mul-le_self (length xs) a) t m

-- cells of whole tuples
pub cut_is : (a n : ℕ) (xs : List ℕ) → 1 ≤ a → length xs ≡ n * a → cut a xs ≡ tuples_in a n xs
cut_is a n xs l e = ap (λ k. tuples_in a k xs) (ap (λ m. m / a) e ∙ mul-div_cancel n l)

-- a table's part of the cells
pub part_cut : (cells : List ℕ) (r : TableRecord) → 1 ≤ r.arity → r.first + r.tuples * r.arity ≤ length cells → cut r.arity (table_cells cells r) ≡ tuples_of cells r
part_cut cells r l h = cut_is r.arity r.tuples (table_cells cells r) l (length-take-le (r.tuples * r.arity) (drop r.first cells) (omega (arith, length-drop r.first cells)))
