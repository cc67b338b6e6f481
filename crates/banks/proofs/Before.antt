-- Which of two tuples comes before the other, position by position.
use Rattle.std.proofs.Common.{◌≡◌, ℕ, zero, suc, ◌+◌, ◌<◌, ◌≤◌, Bool, true, false, ◌&&◌, ◌||◌, eqb, ltb, List, [], ◌∷◌, length, get_or, drop, min, sym, refl, ap, ap₂, ◌∙◌, arith}
use Rattle.std.proofs.lemmas.List.{drop_more}
use Rattle.std.proofs.lemmas.Bool.{eq-eqb, le-ltb, lt-ltb, ne_eqb}
use Rattle.std.proofs.lemmas.Bool.Decides.{nat_tests}
use Rattle.network.specs.Tree.{precedes}

-- two tuples that are the same up to a position
module _ (a b : List ℕ) (q : ℕ) (v : precedes (drop q a) (drop q b) ≡ precedes a b) (l : q < length a) (m : q < length b) where
  before_step : precedes (drop q a) (drop q b) ≡ (ltb (get_or a q 0) (get_or b q 0) || (eqb (get_or a q 0) (get_or b q 0) && precedes (drop (q + 1) a) (drop (q + 1) b)))
  before_step = ap₂ precedes (drop_more a q 0 l) (drop_more b q 0 m)

  -- they differ here
  pub before_here : (get_or a q 0 ≡ get_or b q 0 → ⊥) → ltb (get_or a q 0) (get_or b q 0) ≡ precedes a b
  before_here d =
      sym (before_step ∙ ap (λ z. ltb (get_or a q 0) (get_or b q 0) || (z && precedes (drop (q + 1) a) (drop (q + 1) b))) (ne_eqb (get_or a q 0) (get_or b q 0) d)
      ∙ right (ltb (get_or a q 0) (get_or b q 0))) ∙ v
    where
      right : (x : Bool) → (x || false) ≡ x
      right true = refl
      right false = refl

  pub before_later : get_or a q 0 ≡ get_or b q 0 → precedes (drop (q + 1) a) (drop (q + 1) b) ≡ precedes a b
  before_later e =
      sym (before_step ∙ ap₂ (λ y z. y || (z && precedes (drop (q + 1) a) (drop (q + 1) b))) (le-ltb (get_or a q 0) (get_or b q 0) (omega arith)) (eq-eqb (get_or a q 0) (get_or b q 0) e)) ∙ v

-- they are the same as far as the shorter one goes, which comes first
pub before_end : (a b : List ℕ) (q : ℕ) → q ≤ length a → q ≤ length b → min (length a) (length b) ≤ q → precedes (drop q a) (drop q b) ≡ ltb (length a) (length b)
before_end [] [] zero l m n = refl
before_end [] (y ∷ ys) zero l m n = sym (lt-ltb 0 (length (y ∷ ys)) (omega arith))
before_end (x ∷ xs) [] zero l m n = sym (le-ltb (length (x ∷ xs)) 0 (omega arith))
before_end (x ∷ xs) (y ∷ ys) zero l m n = absurd (omega arith)
before_end [] b (suc q) l m n = absurd (omega arith)
before_end (x ∷ xs) [] (suc q) l m n = absurd (omega arith)
before_end (x ∷ xs) (y ∷ ys) (suc q) l m n = before_end xs ys q (omega arith) (omega arith) (omega arith) ∙ one_more (length xs) (length ys)
  where
    one_more : (i j : ℕ) → ltb i j ≡ ltb (suc i) (suc j)
    one_more i j = grind (arith, nat_tests)
