-- The checks of the numbers that a list holds, where each of them passes or fails.
use Rattle.std.proofs.Common.{◌≡◌, ℕ, ◌<◌, ◌≤◌, min, Bool, true, false, ◌&&◌, eqb, ltb, leb, ◌⊎◌, List, [], ◌∷◌, map, length, take, Ok, Err, sym, refl, ap, ◌∙◌, ap₂, inl, inr, arith}
use lib.ListN.{length-map}
use Rattle.std.specs.List.{list_all}
use Rattle.std.proofs.lemmas.List.{get_or-map, get_or-take, length-take-le, same_lists}
use Rattle.std.proofs.lemmas.Bool.{and_from, and_parts, cases_lt, eq-eqb, le-leb, lt-ltb, le-ltb, ltb-true}
use Rattle.network.specs.Sheets.{is_distinct}
use Rattle.network.specs.Tree.{precedes}
use Rattle.network.specs.declared.refusal.Refusal.TheVariants.{OutOfRange, Repeated}
use Rattle.card.specs.declared.list.NumberList.{NumberList}
use Rattle.card.specs.Checks.{scope_checked, tuple_checked}
use Rattle.card.specs.Lists.{Holds, list_of, packed}
use Rattle.card.specs.Verdict.{is_number, pieces, value_of}
use Rattle.card.proofs.Packing.{packed_at}
use Rattle.card.proofs.Tests.{all_pass_map}

-- what a list holds
pub holds_is : (l : NumberList) (xs : List ℕ) → Holds l xs → l ≡ list_of xs
holds_is l xs h = let build : ℕ → List ℕ → NumberList = λ n ns. record { count = n; numbers = ns } in ap₂ build h.count h.numbers

front : (xs : List ℕ) → length xs ≤ 6 → take (length xs) (packed xs) ≡ map (λ x. min x 255) xs
front xs l = same_lists _ _ (length-take-le (length xs) (packed xs) l ∙ sym (length-map xs (λ x. min x 255)))
    (λ k d h.
    let k_in : k < length xs = omega (arith, length-take-le (length xs) (packed xs) l) in
    get_or-take (length xs) (packed xs) k d k_in ∙ packed_at xs k d (omega arith) ∙ sym (get_or-map (λ x. min x 255) xs k 255 d k_in))

small_min : (n : ℕ) (xs : List ℕ) → n ≤ 32 → list_all (λ x. ltb x n) (map (λ x. min x 255) xs) ≡ list_all (λ x. ltb x n) xs
small_min n [] l = refl
small_min n (x ∷ xs) l = ap₂ (λ a b. a && b) (below (cases_lt x n)) (small_min n xs l)
  where
    below : (x < n) ⊎ (n ≤ x) → ltb (min x 255) n ≡ ltb x n
    below (inl h) = lt-ltb (min x 255) n (omega arith) ∙ sym (lt-ltb x n h)
    below (inr h) = le-ltb (min x 255) n (omega arith) ∙ sym (le-ltb x n h)

same_min : (n : ℕ) (xs : List ℕ) → n ≤ 32 → list_all (λ x. ltb x n) xs ≡ true → map (λ x. min x 255) xs ≡ xs
same_min n [] l e = refl
same_min n (x ∷ xs) l e =
    let (a, b) = and_parts (ltb x n) (list_all (λ y. ltb y n) xs) e in
    let h : x < n = ltb-true x n a in
    ap₂ (λ y ys. y ∷ ys) (omega arith) (same_min n xs l b)

-- six slots at most stand in a list as they are
pub packed_front : (xs : List ℕ) → length xs ≤ 6 → list_all (λ x. ltb x 32) xs ≡ true → take (length xs) (packed xs) ≡ xs
packed_front xs l e = front xs l ∙ same_min 32 xs (omega arith) e

-- the numbers that a list holds, where there are at most six
module _ (bs : List ℕ) (l : NumberList) (h : Holds l (map value_of (pieces bs))) where
  pub held_count : l.count ≡ length (pieces bs)
  held_count = h.count ∙ length-map (pieces bs) value_of

  module _ (few : l.count ≤ 6) where
    held_front : take l.count l.numbers ≡ map (λ x. min x 255) (map value_of (pieces bs))
    held_front =
        let e = h.count in
        let f = h.numbers in
        ap₂ (λ (k : ℕ) (ns : List ℕ). take k ns) e f ∙ front (map value_of (pieces bs)) (omega arith)

    pub held_below : (n : ℕ) → n ≤ 32 → list_all (λ x. ltb x n) (take l.count l.numbers) ≡ list_all (λ p. ltb (value_of p) n) (pieces bs)
    held_below n k = ap (list_all (λ x. ltb x n)) held_front ∙ small_min n (map value_of (pieces bs)) k ∙ sym (all_pass_map (λ x. ltb x n) value_of (pieces bs))

    pub held_values : (n : ℕ) → n ≤ 32 → list_all (λ p. ltb (value_of p) n) (pieces bs) ≡ true → take l.count l.numbers ≡ map value_of (pieces bs)
    held_values n k e = held_front ∙ same_min n (map value_of (pieces bs)) k (sym (all_pass_map (λ x. ltb x n) value_of (pieces bs)) ∙ e)

  -- the checks of a scope
  module _ (n : ℕ) (small : n ≤ 32) (form : list_all is_number (pieces bs) ≡ true) (low : 2 ≤ l.count) (high : l.count ≤ 6) where
    sized : (leb 2 (length (pieces bs)) && leb (length (pieces bs)) 6) ≡ true
    sized = and_from _ _ (le-leb 2 (length (pieces bs)) (omega (arith, held_count))) (le-leb (length (pieces bs)) 6 (omega (arith, held_count)))

    pub scope_out : false ≡ list_all (λ x. ltb x n) (take l.count l.numbers) → Err OutOfRange ≡ scope_checked n bs
    scope_out e = sym (rw (form, sized, sym (held_below high n small) ∙ sym e))

    module _ (inside : true ≡ list_all (λ x. ltb x n) (take l.count l.numbers)) where
      ranged : list_all (λ p. ltb (value_of p) n) (pieces bs) ≡ true
      ranged = sym (held_below high n small) ∙ sym inside

      apart : {b : Bool} → b ≡ is_distinct eqb (take l.count l.numbers) → is_distinct eqb (map value_of (pieces bs)) ≡ b
      apart e = sym (ap (is_distinct eqb) (held_values high n small ranged)) ∙ sym e

      pub scope_twice : false ≡ is_distinct eqb (take l.count l.numbers) → Err Repeated ≡ scope_checked n bs
      scope_twice e = sym (rw (form, sized, ranged, apart e))

      pub scope_good : true ≡ is_distinct eqb (take l.count l.numbers) → Ok l ≡ scope_checked n bs
      scope_good e = ap Ok (holds_is l (map value_of (pieces bs)) h) ∙ sym (rw (form, sized, ranged, apart e))

  -- the checks of a tuple
  module _ (arity : ℕ) (last : List ℕ) (form : list_all is_number (pieces bs) ≡ true) (as_many : l.count ≡ arity) (few : arity ≤ 6) where
    formed : (list_all is_number (pieces bs) && eqb (length (pieces bs)) arity) ≡ true
    formed = and_from _ _ form (eq-eqb (length (pieces bs)) arity (sym held_count ∙ as_many))

    slots : list_all (λ x. ltb x 32) (take arity l.numbers) ≡ list_all (λ p. ltb (value_of p) 32) (pieces bs)
    slots = ap (λ k. list_all (λ x. ltb x 32) (take k l.numbers)) (sym as_many) ∙ held_below (omega arith) 32 (omega arith)

    pub tuple_out : false ≡ list_all (λ x. ltb x 32) (take arity l.numbers) → Err OutOfRange ≡ tuple_checked arity last bs
    tuple_out e = sym (rw (formed, sym slots ∙ sym e))

    module _ (inside : true ≡ list_all (λ x. ltb x 32) (take arity l.numbers)) where
      slotted : list_all (λ p. ltb (value_of p) 32) (pieces bs) ≡ true
      slotted = sym slots ∙ sym inside

      after : {b : Bool} → b ≡ precedes last (take arity l.numbers) → precedes last (map value_of (pieces bs)) ≡ b
      after e = ap (precedes last) (sym (held_values (omega arith) 32 (omega arith) slotted) ∙ ap (λ k. take k l.numbers) as_many) ∙ sym e

      pub tuple_late : false ≡ precedes last (take arity l.numbers) → Err Repeated ≡ tuple_checked arity last bs
      tuple_late e = sym (rw (formed, slotted, after e))

      pub tuple_good : true ≡ precedes last (take arity l.numbers) → Ok l ≡ tuple_checked arity last bs
      tuple_good e = ap Ok (holds_is l (map value_of (pieces bs)) h) ∙ sym (rw (formed, slotted, after e))
