-- The library's order of lists of numbers.
use Rattle.std.proofs.Common.{◌≡◌, ℕ, Bool, true, false, cond, ◌&&◌, ◌||◌, eqb, ltb, List, [], ◌∷◌, Some, Option, refl, ap, ◌∙◌}
use Rattle.std.specs.declared.cmp.Ordering.{Ordering}
use Rattle.std.specs.declared.cmp.Ordering.TheVariants.{Equal, Greater, Less}
use Rattle.std.specs.Ordering.{is_lt, is_some_and, nat_cmp, partial_lt, partial_ordering_then}
use Rattle.std.specs.Cmp.Lexicographic.{slice_partial_cmp}
use Rattle.network.specs.Tree.{precedes}

pub less_is : (xs ys : List ℕ) → partial_lt (slice_partial_cmp (λ x y. Some (nat_cmp x y))) xs ys ≡ precedes xs ys
less_is [] [] = refl
less_is [] (y ∷ ys) = refl
less_is (x ∷ xs) [] = refl
less_is (x ∷ xs) (y ∷ ys) = first (ltb x y) (eqb x y) (slice_partial_cmp (λ a b. Some (nat_cmp a b)) xs ys) ∙ ap (λ b. ltb x y || (eqb x y && b)) (less_is xs ys)
  where
    first : (b d : Bool) (o : Option Ordering) → is_some_and is_lt (partial_ordering_then (Some (cond b Less (cond d Equal Greater))) o) ≡ (b || (d && is_some_and is_lt o))
    first true d o = refl
    first false true o = refl
    first false false o = refl
