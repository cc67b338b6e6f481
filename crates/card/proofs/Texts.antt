-- Two texts compared by `==`: equal, or not, and the test of the definitions agrees.
use Rattle.std.proofs.Common.{◌≡◌, ℕ, Bool, true, false, List, eqb, sym, ◌∙◌, ap, subst}
use lib.Pointwise.{pointwise}
use Rattle.std.proofs.lemmas.Slice.Eq.{slice_eq-Decides}
use Rattle.std.proofs.lemmas.Bool.Decides.{not_from_Decides, same_from_decides, Decides-eqb}
use Rattle.card.specs.Verdict.{same_bytes}
use Rattle.card.proofs.Lines.{same_bytes_self, same_bytes_true}

abbrev pub Compared : List ℕ → List ℕ → Bool → Type 0
Compared xs ys r = r ≡ pointwise eqb xs ys

-- a word stands in an array, and is compared as the slice of it
pub compared : (xs : List ℕ) {slice word : List ℕ} {r : Bool} → Compared xs slice r → slice ≡ word → Compared xs word r
compared xs m n = m ∙ ap (pointwise eqb xs) n

pub same : (key word : List ℕ) (r : Bool) → Compared key word r → r ≡ true → word ≡ key
same key word r m e = sym ((slice_eq-Decides Decides-eqb key word r m).0 e)

pub other : (key word : List ℕ) (r : Bool) → Compared key word r → r ≡ false → key ≡ word → ⊥
other key word r m e = not_from_Decides r (slice_eq-Decides Decides-eqb key word r m) e

pub tested : (bs word : List ℕ) (r : Bool) → Compared bs word r → same_bytes bs word ≡ r
tested bs word r m =
    same_from_decides (same_bytes bs word) r (same_bytes_true bs word, λ e. subst (λ w. same_bytes bs w ≡ true) e (same_bytes_self bs)) (slice_eq-Decides Decides-eqb bs word r m)

-- what `==` tells is what the test of the definitions tells
pub told : (bs word : List ℕ) (r : Bool) → r ≡ pointwise eqb bs word → r ≡ same_bytes bs word
told bs word r m = sym (tested bs word r m)

-- a text that is told to be a word is that word
pub is_same : (text word : List ℕ) → true ≡ same_bytes text word → word ≡ text
is_same text word e = sym (same_bytes_true text word (sym e))
