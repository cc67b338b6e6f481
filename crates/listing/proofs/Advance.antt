-- One node taken off those that are to come.
use Rattle.std.proofs.Common.{◌≡◌, ℕ, zero, suc, ◌+◌, ◌-◌, ◌<◌, ◌≤◌, Bool, true, false, cond, List, [], ◌∷◌, ◌++◌, length, get_or, take, set, Some, None, sym, refl, ap, ◌∙◌, subst, add-one, arith}
use Rattle.std.proofs.lemmas.List.{append_assoc, get_or-set_same, get_or-set_other, take-set-le, take_more_set}
use Rattle.std.proofs.lemmas.Bool.{cond-false}
use Rattle.std.specs.List.{flat_map}
use Rattle.network.specs.Offers.{first_of, slots_from}
use Rattle.network.specs.Rows.{Row, dead, decide, next_mask}
use Rattle.network.specs.Tree.{Node, below}
use Rattle.network.proofs.SlotsFrom.{slots_start, first_here, first_none, from_here}
use Rattle.listing.specs.ToCome.{row_at, branch, rest_of, past, to_come}

pub below_is : (f : Row → Row) (w : ℕ) (p : List ℕ) (r : Row) → below f w p r ≡ rest_of f w p r 0
below_is f zero p r = refl
below_is f (suc w) p r = ap (λ l. cond (dead r) [] (flat_map (branch f w p r) l)) (slots_start (next_mask r))

-- a row with no slot from a on has nothing below it from there
pub nothing_below : (f : Row → Row) (w : ℕ) (p : List ℕ) (r : Row) (a : ℕ) → first_of (slots_from (next_mask r) a) ≡ None → rest_of f w p r a ≡ []
nothing_below f zero p r a e = refl
nothing_below f (suc w) p r a e = ap (λ l. cond (dead r) [] (flat_map (branch f w p r) l)) (first_none (next_mask r) a e) ∙ both (dead r)
  where
    both : (b : Bool) → ◌≡◌ {A = List Node} (cond b [] []) []
    both true = refl
    both false = refl

-- the first slot from a on
pub first_below :
    (f : Row → Row) (w : ℕ) (p : List ℕ) (r : Row) (a s : ℕ) → dead r ≡ false → a ≤ 32 → first_of (slots_from (next_mask r) a) ≡ Some s →
    rest_of f (suc w) p r a ≡ branch f w p r s ++ rest_of f (suc w) p r (suc s)
first_below f w p r a s d h e =
    cond-false (dead r) [] (flat_map (branch f w p r) (slots_from (next_mask r) a)) d
    ∙ ap (flat_map (branch f w p r)) (first_here (next_mask r) a s h e).3
    ∙ ap (λ l. branch f w p r s ++ l) (sym (cond-false (dead r) [] (flat_map (branch f w p r) (slots_from (next_mask r) (suc s))) d))

module _ (f : Row → Row) (n : ℕ) (rs qs : List Row) (path way : List ℕ) where
  -- what is past a path depends on the first rows and slots alone
  pub past_same : (k : ℕ) → ((j : ℕ) → j < k → (row_at qs j ≡ row_at rs j) × (get_or way j 0 ≡ get_or path j 0) × (take j way ≡ take j path)) → past f n qs way k ≡ past f n rs path k
  past_same zero h = refl
  past_same (suc k) h =
      let e = h k (omega arith) in
      ap (λ l. l ++ past f n qs way k) (
      ap (λ p. rest_of f (n - k) p (row_at qs k) (suc (get_or way k 0))) e.2
      ∙ ap (λ r. rest_of f (n - k) (take k path) r (suc (get_or way k 0))) e.0
      ∙ ap (λ s. rest_of f (n - k) (take k path) (row_at rs k) (suc s)) e.1)
      ∙ ap (λ l. rest_of f (n - k) (take k path) (row_at rs k) (suc (get_or path k 0)) ++ l) (past_same k (λ j l. h j (omega arith)))

module _ (f : Row → Row) (n : ℕ) (rs : List Row) (path : List ℕ) (k s : ℕ) (room : suc k < length rs) (way : k < length path) where
  new : Row
  new = f (decide (row_at rs k) s)

  -- the stack and the path once row k has taken slot s
  pub deeper : past f n (set rs (suc k) (f (decide (row_at rs k) s))) (set path k s) (suc k) ≡ rest_of f (n - k) (take k path) (row_at rs k) (suc s) ++ past f n rs path k
  deeper =
      let qs : List Row = set rs (suc k) (f (decide (row_at rs k) s)) in
      let d : Row = record { opened = []; present = []; decided = 0 } in
      let r : row_at qs k ≡ row_at rs k = get_or-set_other rs (suc k) k (f (decide (row_at rs k) s)) d (λ e. omega arith) in
      let t : take k (set path k s) ≡ take k path = take-set-le k path k s (omega arith) in
      let g : get_or (set path k s) k 0 ≡ s = get_or-set_same path k s 0 way in
      ap (λ l. l ++ past f n qs (set path k s) k) (
      ap (λ p. rest_of f (n - k) p (row_at qs k) (suc (get_or (set path k s) k 0))) t
      ∙ ap (λ r. rest_of f (n - k) (take k path) r (suc (get_or (set path k s) k 0))) r
      ∙ ap (λ a. rest_of f (n - k) (take k path) (row_at rs k) (suc a)) g)
      ∙ ap (λ l. rest_of f (n - k) (take k path) (row_at rs k) (suc s) ++ l)
      (past_same f n rs qs path (set path k s) k (λ j l. (get_or-set_other rs (suc k) j (f (decide (row_at rs k) s)) d (λ e. omega arith), get_or-set_other path k j s 0 (λ e. omega arith), take-set-le j path k s (omega arith))))

  -- a visit takes the first node off
  pub visit :
      (a : ℕ) → k < n → dead (row_at rs k) ≡ false → a ≤ 32 → first_of (slots_from (next_mask (row_at rs k)) a) ≡ Some s →
      to_come f n rs path k a ≡
      record { path = take (suc k) (set path k s); row = row_at (set rs (suc k) (f (decide (row_at rs k) s))) (suc k) } ∷ to_come f n (set rs (suc k) (f (decide (row_at rs k) s))) (set path k s) (suc k) 0
  visit a l d h e =
      let qs : List Row = set rs (suc k) (f (decide (row_at rs k) s)) in
      let q : Row = f (decide (row_at rs k) s) in
      let w : n - k ≡ suc (n - suc k) = omega arith in
      let p : take (suc k) (set path k s) ≡ take k path ++ (s ∷ []) = ap (λ i. take i (set path k s)) (sym (add-one k)) ∙ take_more_set path k s way in
      let r : row_at qs (suc k) ≡ q = get_or-set_same rs (suc k) q (record { opened = []; present = []; decided = 0 }) room in
      let fst : rest_of f (n - k) (take k path) (row_at rs k) a ≡ branch f (n - suc k) (take k path) (row_at rs k) s ++ rest_of f (n - k) (take k path) (row_at rs k) (suc s) =
      subst (λ i. rest_of f i (take k path) (row_at rs k) a ≡ branch f (n - suc k) (take k path) (row_at rs k) s ++ rest_of f i (take k path) (row_at rs k) (suc s)) (sym w)
      (first_below f (n - suc k) (take k path) (row_at rs k) a s d h e) in
      let tail : below f (n - suc k) (take k path ++ (s ∷ [])) q ≡ rest_of f (n - suc k) (take (suc k) (set path k s)) (row_at qs (suc k)) 0 =
      below_is f (n - suc k) (take k path ++ (s ∷ [])) q ∙ ap (λ z. rest_of f (n - suc k) z q 0) (sym p) ∙ ap (λ z. rest_of f (n - suc k) (take (suc k) (set path k s)) z 0) (sym r) in
      ap (λ z. z ++ past f n rs path k) fst
      ∙ append_assoc (branch f (n - suc k) (take k path) (row_at rs k) s) (rest_of f (n - k) (take k path) (row_at rs k) (suc s)) (past f n rs path k)
      ∙ ap (λ z. branch f (n - suc k) (take k path) (row_at rs k) s ++ z) (sym deeper)
      ∙ ap (λ z. record { path = z; row = q } ∷ (below f (n - suc k) (take k path ++ (s ∷ [])) q ++ past f n qs (set path k s) (suc k))) (sym p)
      ∙ ap (λ z. record { path = take (suc k) (set path k s); row = z } ∷ (below f (n - suc k) (take k path ++ (s ∷ [])) q ++ past f n qs (set path k s) (suc k))) (sym r)
      ∙ ap (λ z. record { path = take (suc k) (set path k s); row = row_at qs (suc k) } ∷ (z ++ past f n qs (set path k s) (suc k))) tail

-- with no slot left at a row, those to come are the ones past its path
pub climb : (f : Row → Row) (n : ℕ) (rs : List Row) (path : List ℕ) (k a : ℕ) → first_of (slots_from (next_mask (row_at rs k)) a) ≡ None → to_come f n rs path k a ≡ past f n rs path k
climb f n rs path k a e = ap (λ z. z ++ past f n rs path k) (nothing_below f (n - k) (take k path) (row_at rs k) a e)

rest_same : (f : Row → Row) (w : ℕ) (p : List ℕ) (r : Row) (a s : ℕ) → slots_from (next_mask r) a ≡ slots_from (next_mask r) s → rest_of f w p r a ≡ rest_of f w p r s
rest_same f zero p r a s e = refl
rest_same f (suc w) p r a s e = ap (λ l. cond (dead r) [] (flat_map (branch f w p r) l)) e

-- from its first slot on a row has the same below it
pub at_first : (f : Row → Row) (n : ℕ) (rs : List Row) (path : List ℕ) (k a s : ℕ) → a ≤ 32 → first_of (slots_from (next_mask (row_at rs k)) a) ≡ Some s → to_come f n rs path k a ≡ to_come f n rs path k s
at_first f n rs path k a s h e =
    let i = first_here (next_mask (row_at rs k)) a s h e in
    ap (λ z. z ++ past f n rs path k) (rest_same f (n - k) (take k path) (row_at rs k) a s (i.3 ∙ sym (from_here (next_mask (row_at rs k)) s i.1 i.2)))

-- one row up
pub go_up : (f : Row → Row) (n : ℕ) (rs : List Row) (path : List ℕ) (k a : ℕ) → (k ≡ 0 → ⊥) → first_of (slots_from (next_mask (row_at rs k)) a) ≡ None → to_come f n rs path k a ≡ to_come f n rs path (k - 1) (get_or path (k - 1) 0 + 1)
go_up f n rs path k a h e =
    let i : k ≡ suc (k - 1) = omega arith in
    climb f n rs path k a e ∙ ap (past f n rs path) i ∙ ap (to_come f n rs path (k - 1)) (sym (add-one (get_or path (k - 1) 0)))
