-- The scopes of a lawful bank's sheets, also of one that isn't there: at most six different blocks, each at one place.
use Rattle.std.proofs.Common.{◌≡◌, ℕ, zero, suc, ◌<◌, ◌≤◌, List, [], ◌∷◌, map, length, get_or, take, sym, refl, ap, ◌∙◌, subst, inl, inr, arith}
use Rattle.std.proofs.lemmas.List.{take_all}
use Rattle.std.proofs.lemmas.Bool.{cases_lt}
use Rattle.network.specs.Sheets.{Sheet, sheet_at}
use Rattle.network.specs.Filters.{place}
use Rattle.network.specs.Laws.{LawfulBank}
use Rattle.network.proofs.Members.{in_at, sheet_past}
use Rattle.network.proofs.Fits.{place_at, place_in}

pub at_most_six : (m : List Sheet) → LawfulBank m → (c : ℕ) → length (sheet_at m c).scope ≤ 6
at_most_six m bank c = elim (cases_lt c (length m)) [
  | inl l ↦ (bank.each c l).high
  | inr l ↦ subst (λ (sh : Sheet). length sh.scope ≤ 6) (sym (sheet_past m c l)) (omega arith)
]

-- a place of a sheet says that the sheet is there
pub sheet_there : (m : List Sheet) (c p : ℕ) → p < length (sheet_at m c).scope → c < length m
sheet_there m c p l = elim (cases_lt c (length m)) [
  | inl h ↦ h
  | inr h ↦ absurd (let z : p < 0 = subst (λ (sh : Sheet). p < length sh.scope) (sheet_past m c h) l in omega arith)
]

pub same_place : (xs : List ℕ) (p d e : ℕ) → p < length xs → get_or xs p d ≡ get_or xs p e
same_place [] p d e l = absurd (omega arith)
same_place (x ∷ xs) zero d e l = refl
same_place (x ∷ xs) (suc p) d e l = same_place xs p d e (omega arith)

-- a block of a scope stands where it was read
pub place_is : (m : List Sheet) → LawfulBank m → (c p : ℕ) → p < length (sheet_at m c).scope → place (sheet_at m c).scope (get_or (sheet_at m c).scope p 255) ≡ p
place_is m bank c p l =
    let xs : List ℕ = (sheet_at m c).scope in
    let b : ℕ = get_or xs p 255 in
    let k : place xs b < length xs = place_in xs b (in_at xs p 255 l) in
    (bank.each c (sheet_there m c p l)).apart (place xs b) p k l (same_place xs (place xs b) 255 0 k ∙ place_at xs b k)

-- masks gathered along a whole scope
pub gathered : (f : ℕ → ℕ) (xs masks : List ℕ) (p : ℕ) → take p masks ≡ map f (take p xs) → length xs ≤ p → p ≤ length xs → take (length xs) masks ≡ map f xs
gathered f xs masks p e l k = ap (λ n. take n masks) (omega arith) ∙ e ∙ ap (map f) (take_all p xs l)
