-- The sheet of a number in a bank that is made of others.
use Rattle.std.specs.Prelude.{◌≡◌, ℕ, zero, suc, ◌+◌, ◌-◌, ◌^◌, ◌<◌, ◌≤◌, false, cond, ◌&&◌, List, [], ◌∷◌, ◌++◌, map, length, take, nat_lt, slice_index_or, slice_set, refl}
use Rattle.std.proofs.Common.{arith, inl, inr, ◌∙◌, ap, subst, sym, length-append, length-take}
use Rattle.std.proofs.lemmas.List.{length-map}
use Rattle.std.proofs.lemmas.Bool.{and_left, cases_lt, cond-false, cond-true, le-ltb, lt-ltb}
use Rattle.network.specs.Sheets.{Sheet, choices, sheet_at, some_pass, supported}
use Rattle.network.specs.Laws.{LawfulBank, LawfulSheet}
use Rattle.network.proofs.Members.{sheet_past}
use Rattle.banks.specs.declared.place.Place.{Place}
use Rattle.banks.specs.declared.place.Place.TheVariants.{First, Nowhere, Second}
use Rattle.banks.specs.Both.{both, place_of, sheet_from}

-- a sheet supports nothing at a position past its scope
pub unsupported : (sh : Sheet) (masks : List ℕ) (p s : ℕ) → length sh.scope ≤ p → supported sh masks p s ≡ false
unsupported sh masks p s l =
    and_left (nat_lt p (length sh.scope)) (nat_lt s 32 && some_pass sh.allows (choices (slice_set (take (length sh.scope) masks) p (2 ^ s)))) (le-ltb p (length sh.scope) l)

pub sheet_left : (m n : List Sheet) (c : ℕ) → c < length m → sheet_at (m ++ n) c ≡ sheet_at m c
sheet_left [] n c l = absurd (omega arith)
sheet_left (x ∷ xs) n zero l = refl
sheet_left (x ∷ xs) n (suc c) l = sheet_left xs n c (omega arith)

pub sheet_right : (m n : List Sheet) (c : ℕ) → length m ≤ c → sheet_at (m ++ n) c ≡ sheet_at n (c - length m)
sheet_right [] n c l = ap (sheet_at n) (omega arith)
sheet_right (x ∷ xs) n zero l = absurd (omega arith)
sheet_right (x ∷ xs) n (suc c) l = sheet_right xs n c (omega arith) ∙ ap (sheet_at n) (omega arith)

pub sheet_taken : (k : ℕ) (m : List Sheet) (c : ℕ) → c < k → sheet_at (take k m) c ≡ sheet_at m c
sheet_taken zero m c l = absurd (omega arith)
sheet_taken (suc k) [] c l = refl
sheet_taken (suc k) (x ∷ xs) zero l = refl
sheet_taken (suc k) (x ∷ xs) (suc c) l = sheet_taken k xs c (omega arith)

module _ (m n : List Sheet) where
  pub both_first : (c : ℕ) → c < 1024 → c < length m → sheet_at (both m n) c ≡ sheet_at m c
  both_first c l k = sheet_taken 1024 (m ++ n) c l ∙ sheet_left m n c k

  pub both_second : (c : ℕ) → c < 1024 → length m ≤ c → sheet_at (both m n) c ≡ sheet_at n (c - length m)
  both_second c l k = sheet_taken 1024 (m ++ n) c l ∙ sheet_right m n c k

  pub both_past : (c : ℕ) → 1024 ≤ c → sheet_at (both m n) c ≡ sheet_at [] c
  both_past c l = sheet_past (both m n) c (omega (arith, length-take 1024 (m ++ n)))

  pub both_lawful : LawfulBank m → LawfulBank n → LawfulBank (both m n)
  both_lawful a b = record { few = omega (arith, length-take 1024 (m ++ n)); each = each }
    where
      each : (c : ℕ) → c < length (both m n) → LawfulSheet (sheet_at (both m n) c)
      each c l =
          let t : c < 1024 = omega (arith, length-take 1024 (m ++ n)) in
          let u : c < length m + length n = omega (arith, length-take 1024 (m ++ n), length-append m n) in
          elim (cases_lt c (length m)) [
            | inl k ↦ subst LawfulSheet (sym (both_first c t k)) (a.each c k)
            | inr k ↦ subst LawfulSheet (sym (both_second c t k)) (b.each (c - length m) (omega arith))
          ]

-- the sheet of a number is the one at its place
pub sheet_placed : (m n : List Sheet) (c : ℕ) (p : Place) → p ≡ place_of (length m) c → sheet_at (both m n) c ≡ sheet_from m n p
sheet_placed m n c p e = go ∙ ap (sheet_from m n) (sym e)
  where
    go : sheet_at (both m n) c ≡ sheet_from m n (place_of (length m) c)
    go = elim (cases_lt c 1024) [
      | inl l ↦
          elim (cases_lt c (length m)) [
            | inl k ↦ both_first m n c l k ∙ ap (sheet_from m n) (sym (placed_in l ∙ cond-true (nat_lt c (length m)) (First c) (Second (c - length m)) (lt-ltb c (length m) k)))
            | inr k ↦ both_second m n c l k ∙ ap (sheet_from m n) (sym (placed_in l ∙ cond-false (nat_lt c (length m)) (First c) (Second (c - length m)) (le-ltb c (length m) k)))
          ]
      | inr l ↦ both_past m n c l ∙ ap (sheet_from m n) (sym (cond-false (nat_lt c 1024) (cond (nat_lt c (length m)) (First c) (Second (c - length m))) Nowhere (le-ltb c 1024 l)))
    ]
      where
        placed_in : c < 1024 → place_of (length m) c ≡ cond (nat_lt c (length m)) (First c) (Second (c - length m))
        placed_in l = cond-true (nat_lt c 1024) (cond (nat_lt c (length m)) (First c) (Second (c - length m))) Nowhere (lt-ltb c 1024 l)

-- the sheets of records, by number
pub sheet_map : {A : Type 0} (f : A → Sheet) (xs : List A) (c : ℕ) (d : A) → c < length xs → sheet_at (map f xs) c ≡ f (slice_index_or xs c d)
sheet_map f [] c d l = absurd (omega arith)
sheet_map f (x ∷ xs) zero d l = refl
sheet_map f (x ∷ xs) (suc c) d l = sheet_map f xs c d (omega arith)

pub sheet_map_past : {A : Type 0} (f : A → Sheet) (xs : List A) (c : ℕ) → length xs ≤ c → sheet_at (map f xs) c ≡ sheet_at [] c
sheet_map_past f xs c l = sheet_past (map f xs) c (omega (arith, length-map xs f))
