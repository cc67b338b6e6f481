-- Rows of the code: the law out of the ghost field, and what is read and written in the arrays as the model has it.
use Rattle.std.proofs.Common.{◌≡◌, ℕ, zero, suc, List, [], ◌∷◌, take, set, refl, ap}
use mathlib.Core.Logic.{∥∥₁_elim}
use std.HLevel.{Π_prop}
use denote.Struct.Props.{props}
use Rattle.network.specs.Rows.{Row}
use Rattle.network.specs.Laws.{LawfulRow}

pub lawful_of : (r : Row) → ∥ LawfulRow r ∥₁ → LawfulRow r
lawful_of r h =
    record {
      few = ∥∥₁_elim h (hlevel props) (λ l. l.few);
      as_many = ∥∥₁_elim h (hlevel props) (λ l. l.as_many);
      within = ∥∥₁_elim h (hlevel props) (λ l. l.within);
      opened_masks = ∥∥₁_elim h (hlevel props) (λ l. l.opened_masks);
      present_masks = ∥∥₁_elim h (hlevel props) (λ l. l.present_masks);
      inside = ∥∥₁_elim h (hlevel props) (λ l. l.inside);
      wiped = ∥∥₁_elim h (hlevel props) (λ l. l.wiped);
      single = ∥∥₁_elim h (Π_prop (λ _. Π_prop (λ _. Π_prop (λ _. Π_prop (λ _. Π_prop (λ _. hlevel props)))))) (λ l. l.single);
    }

pub take_set_in : {A : Type 0} (n : ℕ) (l : List A) (i : ℕ) (a : A) → take n (set l i a) ≡ set (take n l) i a
take_set_in zero [] i a = refl
take_set_in zero (x ∷ xs) zero a = refl
take_set_in zero (x ∷ xs) (suc i) a = refl
take_set_in (suc n) [] i a = refl
take_set_in (suc n) (x ∷ xs) zero a = refl
take_set_in (suc n) (x ∷ xs) (suc i) a = ap (λ l. x ∷ l) (take_set_in n xs i a)
