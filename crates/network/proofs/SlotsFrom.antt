-- The slots of a mask from a slot on: the first of them, and those after it.
use Rattle.std.proofs.Common.{◌≡◌, ℕ, zero, suc, ◌+◌, ◌-◌, ◌/◌, ◌%◌, ◌^◌, ◌<◌, ◌≤◌, true, false, cond, eqb, ltb, List, [], ◌∷◌, Some, None, filter, sym, refl, ap, ◌∙◌, subst, inl, inr, ⊎_elim, pow-suc, add-one, arith, pow_mono}
use native.Mathlib.Nat.{div-eq_of_lt}
use lib.Count.{count_trailing_zeros, under}
use Rattle.std.specs.List.{list_all, range_with_len}
use Rattle.std.proofs.lemmas.Nat.{shr-shr, shr_le, div_below}
use Rattle.std.proofs.lemmas.Bool.{cond-true, cond-false, eq-eqb, ne_eqb, cases_Bool, both_ways, cases_lt, lt-ltb}
use Rattle.network.specs.Offers.{first_of, slots_from}
use Rattle.network.specs.Sheets.{In, has, slots}
use Rattle.network.proofs.Members.{all_from, false_unless, in_counting, in_kept, of_counting, of_kept}
use Rattle.network.proofs.Masks.{has_next, has_none}

pub slots_start : (m : ℕ) → slots m ≡ slots_from m 0
unfolding slots slots_from
slots_start m = refl

pub from_end : (m a : ℕ) → 32 ≤ a → slots_from m a ≡ []
unfolding slots_from
from_end m a h = let e : 32 - a ≡ 0 = omega arith in ap (λ n. filter (has m) (range_with_len a n)) e

-- one slot on
pub from_more : (m a : ℕ) → a < 32 → slots_from m a ≡ cond (has m a) (a ∷ slots_from m (suc a)) (slots_from m (suc a))
unfolding slots_from
from_more m a h =
    let e : 32 - a ≡ suc (32 - suc a) = omega arith in
    ap (λ n. filter (has m) (range_with_len a n)) e ∙ ap (λ b. cond (has m a) (a ∷ filter (has m) (range_with_len b (32 - suc a))) (filter (has m) (range_with_len b (32 - suc a)))) (add-one a)

pub from_here : (m a : ℕ) → a < 32 → has m a ≡ true → slots_from m a ≡ a ∷ slots_from m (suc a)
from_here m a h e = from_more m a h ∙ cond-true (has m a) (a ∷ slots_from m (suc a)) (slots_from m (suc a)) e

pub from_next : (m a : ℕ) → a < 32 → has m a ≡ false → slots_from m a ≡ slots_from m (suc a)
from_next m a h e = from_more m a h ∙ cond-false (has m a) (a ∷ slots_from m (suc a)) (slots_from m (suc a)) e

-- past slots that the mask has not
pub from_past : (m a d : ℕ) → a + d ≤ 32 → ((k : ℕ) → a ≤ k → k < a + d → has m k ≡ false) → slots_from m a ≡ slots_from m (a + d)
from_past m a zero h f = ap (slots_from m) (omega arith)
from_past m a (suc d) h f =
    from_next m a (omega arith) (f a (omega arith) (omega arith))
    ∙ from_past m (suc a) d (omega arith) (λ k p q. f k (omega arith) (omega arith)) ∙ ap (slots_from m) (omega arith)

pub of_from : (m a s : ℕ) → In s (slots_from m a) → (a ≤ s) × (s < 32) × (has m s ≡ true)
unfolding slots_from
of_from m a s i =
    let k = of_kept (has m) (range_with_len a (32 - a)) s i in
    let j = of_counting a (32 - a) s k.0 in
    (j.0, omega arith, k.1)

pub in_from : (m a s : ℕ) → a ≤ s → s < 32 → has m s ≡ true → In s (slots_from m a)
unfolding slots_from
in_from m a s l k h = in_kept (has m) (range_with_len a (32 - a)) s (in_counting a (32 - a) s l (omega arith)) h

-- what the first slot says of the list
pub first_here : (m a t : ℕ) → a ≤ 32 → first_of (slots_from m a) ≡ Some t → (a ≤ t) × (t < 32) × (has m t ≡ true) × (slots_from m a ≡ t ∷ slots_from m (suc t))
first_here m a t h e = go (32 - a) a (omega arith) e
  where
    go : (d a : ℕ) → a + d ≡ 32 → first_of (slots_from m a) ≡ Some t → (a ≤ t) × (t < 32) × (has m t ≡ true) × (slots_from m a ≡ t ∷ slots_from m (suc t))
    go zero a p q = let n : first_of (slots_from m a) ≡ None = ap first_of (from_end m a (omega arith)) in let z : ◌≡◌ {A = ℕ} 0 1 = cc in absurd (omega arith)
    go (suc d) a p q =
        ⊎_elim
        (λ (b : has m a ≡ true).
        let s = from_here m a (omega arith) b in
        let n : first_of (slots_from m a) ≡ Some a = ap first_of s in
        let y : a ≡ t = cc in
        (omega arith, omega arith, ap (has m) (sym y) ∙ b, s ∙ ap (λ z. z ∷ slots_from m (suc z)) y))
        (λ (b : has m a ≡ false).
        let s = from_next m a (omega arith) b in
        let r = go d (suc a) (omega arith) (ap first_of (sym s) ∙ q) in
        (omega (arith, r.0), r.1, r.2, s ∙ r.3))
        (cases_Bool (has m a))

pub first_none : (m a : ℕ) → first_of (slots_from m a) ≡ None → slots_from m a ≡ []
first_none m a = go (slots_from m a)
  where
    go : (l : List ℕ) → first_of l ≡ None → l ≡ []
    go [] e = refl
    go (x ∷ xs) e = let z : ◌≡◌ {A = ℕ} 0 1 = cc in absurd (omega arith)

pub has_shift : (m a j : ℕ) → has (m / 2 ^ a) j ≡ has m (a + j)
has_shift m a j = ap (λ n. eqb (n % 2) 1) (shr-shr m a j)

-- the count of zeros below a number's lowest digit is the first slot of it as a mask
pub trailing_first : (k n : ℕ) → (n ≡ 0 → ⊥) → n < 2 ^ k → (count_trailing_zeros k n < k) × (has n (count_trailing_zeros k n) ≡ true) × ((j : ℕ) → j < count_trailing_zeros k n → has n j ≡ false)
unfolding count_trailing_zeros
trailing_first zero n z h = absurd (z (omega arith))
trailing_first (suc k) n z h = go (trailing_first k (n / 2)) (n % 2) refl
  where
    half : n / 2 < 2 ^ k
    half = div_below n 2 (2 ^ k) (omega arith) (omega (arith, pow-suc 2 k))

    even : n % 2 ≡ 0 → has n 0 ≡ false
    even e = ne_eqb ((n / 1) % 2) 1 (omega arith)

    below : n % 2 ≡ 0 → ((j : ℕ) → j < count_trailing_zeros k (n / 2) → has (n / 2) j ≡ false) → (j : ℕ) → j < suc (count_trailing_zeros k (n / 2)) → has n j ≡ false
    below e f zero l = even e
    below e f (suc j) l = has_next n j ∙ f j (omega arith)

    go :
        ((n / 2 ≡ 0 → ⊥) → n / 2 < 2 ^ k → (count_trailing_zeros k (n / 2) < k) × (has (n / 2) (count_trailing_zeros k (n / 2)) ≡ true) × ((j : ℕ) → j < count_trailing_zeros k (n / 2) → has (n / 2) j ≡ false)) →
        (b : ℕ) → n % 2 ≡ b → (under b (count_trailing_zeros k (n / 2)) < suc k) × (has n (under b (count_trailing_zeros k (n / 2))) ≡ true) × ((j : ℕ) → j < under b (count_trailing_zeros k (n / 2)) → has n j ≡ false)
    go rec zero e = let r = rec (omega arith) half in (omega (arith, r.0), has_next n (count_trailing_zeros k (n / 2)) ∙ r.1, below e r.2)
    go rec (suc b) e = (omega arith, eq-eqb ((n / 1) % 2) 1 (omega arith), λ j l. absurd (omega arith))

-- a number below 2 ^ k has no digit at k or above
pub in_width : (m k w : ℕ) → m < 2 ^ w → has m k ≡ true → k < w
in_width m k w h e =
    ⊎_elim (λ l. l) (λ l. absurd (both_ways (has m k) (ap (λ x. eqb (x % 2) 1) (div-eq_of_lt {n = m} {m = 2 ^ k} (omega (arith, pow_mono {i = w} {j = k} l)))) e)) (cases_lt k w)

-- the slot from a on that the count of zeros gives
pub trailing_slot : (m a : ℕ) → m < 2 ^ 32 → (m / 2 ^ a ≡ 0 → ⊥) → first_of (slots_from m a) ≡ Some (a + count_trailing_zeros 32 (m / 2 ^ a))
trailing_slot m a l z =
    let t : ℕ = count_trailing_zeros 32 (m / 2 ^ a) in
    let r = trailing_first 32 (m / 2 ^ a) z (omega (arith, shr_le m a)) in
    let e : has m (a + t) ≡ true = sym (has_shift m a t) ∙ r.1 in
    let u : a + t < 32 = in_width m (a + t) 32 l e in
    ap first_of (
    from_past m a t (omega arith) (λ k p q. let i : a + (k - a) ≡ k = omega arith in ap (has m) (sym i) ∙ sym (has_shift m a (k - a)) ∙ r.2 (k - a) (omega arith))
    ∙ from_here m (a + t) u e)

pub from_zero : (m a : ℕ) → a ≤ 32 → m / 2 ^ a ≡ 0 → slots_from m a ≡ []
from_zero m a h z =
    let d : a + (32 - a) ≡ 32 = omega arith in
    from_past m a (32 - a) (omega arith) (λ k p q. let i : a + (k - a) ≡ k = omega arith in ap (has m) (sym i) ∙ sym (has_shift m a (k - a)) ∙ ap (λ x. has x (k - a)) z ∙ has_none (k - a))
    ∙ from_end m (a + (32 - a)) (omega arith)

pub none_from_zero : (m a : ℕ) → a < 32 → m / 2 ^ a ≡ 0 → None ≡ first_of (slots_from m a)
none_from_zero m a h z = sym (ap first_of (from_zero m a (omega arith) z))

-- the slots between are none of the mask's
pub first_after : (m a t : ℕ) → a ≤ 32 → first_of (slots_from m a) ≡ Some t → (s : ℕ) → a ≤ s → s < t → has m s ≡ false
first_after m a t h e s l k =
    let f = first_here m a t h e in
    false_unless (has m s) (λ i. elim (subst (In s) f.3 (in_from m a s l (omega (arith, f.1)) i)) [ inl q ↦ omega arith | inr q ↦ omega (arith, (of_from m (suc t) s q).0) ])

-- where there is no first slot, there is none
pub first_past : (m a : ℕ) → first_of (slots_from m a) ≡ None → (s : ℕ) → a ≤ s → s < 32 → has m s ≡ false
first_past m a e s l k = false_unless (has m s) (λ i. subst (In s) (first_none m a e) (in_from m a s l k i))

-- the slots from one on begin with the first, and go on past it
pub first_and_rest : (m a t : ℕ) → a ≤ 32 → Some t ≡ first_of (slots_from m a) → (t < 32) × (slots_from m a ≡ t ∷ slots_from m (t + 1))
first_and_rest m a t h e = let f = first_here m a t h (sym e) in (f.1, f.3 ∙ ap (λ n. t ∷ slots_from m n) (sym (add-one t)))

pub slots_below : (m : ℕ) → list_all (λ s. ltb s 32) (slots m) ≡ true
slots_below m = all_from (λ s. ltb s 32) (slots m) (λ s i. lt-ltb s 32 (of_from m 0 s (subst (In s) (slots_start m) i)).1)
