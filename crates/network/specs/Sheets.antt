-- What a bank of sheets means: a list of sheets, each a scope and the tuples that it allows.
use Rattle.std.specs.Prelude.{◌≡◌, ℕ, zero, suc, ◌/◌, ◌%◌, ◌^◌, ◌<◌, Bool, true, false, cond, not, ◌&&◌, ◌||◌, ◌⊎◌, List, [], ◌∷◌, map, length, get_or, take, sum_by, filter, ◌==◌, ◌≢◌, nat_lt, slice_index, slice_index_or, slice_set}
use Rattle.std.specs.List.{range_with_len, flat_map, list_all}

-- A sheet is a constraint: it ties the blocks of its scope, and allows some tuples with one slot for each of them, in the scope's order.
pub record Sheet : Type 0 where
  pub scope : List ℕ
  pub allows : List ℕ → Bool

-- slot s is in the mask m
abbrev pub has : ℕ → ℕ → Bool
has m s = (m / (2 ^ s)) % 2 == 1

-- the slots of a mask, ascending
unfoldable pub slots : ℕ → List ℕ
slots m = filter (has m) (range_with_len 0 32)

-- the mask of the slots that pass
unfoldable pub mask_of : (ℕ → Bool) → ℕ
mask_of f = sum_by (λ s. cond (f s) (2 ^ s) 0) (range_with_len 0 32)

-- every choice of one slot from each mask, ascending
abbrev pub choices : List ℕ → List (List ℕ)
choices [] = [] ∷ []
choices (m ∷ ms) = flat_map (λ s. map (λ t. s ∷ t) (choices ms)) (slots m)

-- some element passes
abbrev pub some_pass : {A : Type 0} → (A → Bool) → List A → Bool
some_pass f [] = false
some_pass f (x ∷ xs) = f x || some_pass f xs

-- no two elements are equal
abbrev pub is_distinct : {A : Type 0} → (A → A → Bool) → List A → Bool
is_distinct same [] = true
is_distinct same (x ∷ xs) = list_all (λ y. not (same x y)) xs && is_distinct same xs

-- x is in the list
abbrev pub In : {A : Type 0} → A → List A → Type 0
In x [] = ⊥
In x (y ∷ ys) = (x ≡ y) ⊎ In x ys

abbrev pub same_list : List ℕ → List ℕ → Bool
same_list [] [] = true
same_list [] (y ∷ ys) = false
same_list (x ∷ xs) [] = false
same_list (x ∷ xs) (y ∷ ys) = x == y && same_list xs ys

-- the sheet of that number, and one with no blocks where it isn't there
abbrev pub sheet_at : List Sheet → ℕ → Sheet
sheet_at [] c = record { scope = []; allows = λ _. false }
sheet_at (x ∷ xs) zero = x
sheet_at (x ∷ xs) (suc c) = sheet_at xs c

-- slot s has a support at position p: some allowed tuple has s there and, at each other position, a slot of that position's mask
abbrev pub supported : Sheet → List ℕ → ℕ → ℕ → Bool
supported sh masks p s =
    nat_lt p (length sh.scope) && (nat_lt s 32 && some_pass sh.allows (choices (slice_set (take (length sh.scope) masks) p (2 ^ s))))

-- the same, as a relation
pub record Supports (sh : Sheet) (masks : List ℕ) (p s : ℕ) (t : List ℕ) : Type 0 where
  pub allowed : sh.allows t ≡ true
  pub as_many : length t ≡ length sh.scope
  pub here : get_or t p 32 ≡ s
  pub elsewhere : (q : ℕ) → q < length sh.scope → (q ≢ p) → (slice_index_or t q 32 < 32) × (has (slice_index masks q) (slice_index_or t q 32) ≡ true)

-- slot s has a support at position p: the position and the slot are there, and some tuple supports it
abbrev pub HasSupport : Sheet → List ℕ → ℕ → ℕ → Type 0
HasSupport sh masks p s = (p < length sh.scope) × (s < 32) × ((t : List ℕ) × Supports sh masks p s t)

-- a test that comes out true exactly where P holds
pub record Decides (b : Bool) (P : Type 0) : Type 0 where
  pub holds : b ≡ true → P
  pub tells : P → b ≡ true
