-- Membership in lists, as `++`, `filter`, `map`, `flat_map`, `range_with_len`, `some_pass` and `list_all` show it. A name `in_..` gives a membership, `of_..` uses one.
use Rattle.std.proofs.Common.{◌≡◌, ℕ, zero, suc, ◌+◌, ◌<◌, ◌≤◌, Bool, true, false, ◌⊎◌, List, [], ◌∷◌, ◌++◌, map, length, get_or, filter, sym, refl, ap, ◌∙◌, subst, inl, inr, ⊎_elim, arith}
use Rattle.std.specs.List.{range_with_len, list_all, flat_map}
use Rattle.std.proofs.lemmas.Bool.{and_from, and_parts, both_ways, cases_eq, cond_both, or_cases, or_left, or_right}
use Rattle.network.specs.Sheets.{In, Sheet, sheet_at, some_pass}

pub false_unless : (b : Bool) → (b ≡ true → ⊥) → b ≡ false
false_unless true h = absurd (h refl)
false_unless false h = refl

module _ {A : Type 0} where
  -- the members are the elements at the places
  pub in_at : (xs : List A) (i : ℕ) (d : A) → i < length xs → In (get_or xs i d) xs
  in_at [] i d l = absurd (omega arith)
  in_at (x ∷ xs) zero d l = inl refl
  in_at (x ∷ xs) (suc i) d l = inr (in_at xs i d (omega arith))

  pub place_of : (xs : List A) (x d : A) → In x xs → (i : ℕ) × (i < length xs) × (get_or xs i d ≡ x)
  place_of [] x d m = absurd m
  place_of (y ∷ ys) x d (inl e) = (0, omega arith, sym e)
  place_of (y ∷ ys) x d (inr m) = let r = place_of ys x d m in (suc r.0, omega arith, r.2)

  pub in_left : (xs ys : List A) (x : A) → In x xs → In x (xs ++ ys)
  in_left [] ys x h = absurd h
  in_left (z ∷ xs) ys x (inl e) = inl e
  in_left (z ∷ xs) ys x (inr h) = inr (in_left xs ys x h)

  pub in_right : (xs ys : List A) (x : A) → In x ys → In x (xs ++ ys)
  in_right [] ys x h = h
  in_right (z ∷ xs) ys x h = inr (in_right xs ys x h)

  pub of_append : (xs ys : List A) (x : A) → In x (xs ++ ys) → In x xs ⊎ In x ys
  of_append [] ys x h = inr h
  of_append (z ∷ xs) ys x (inl e) = inl (inl e)
  of_append (z ∷ xs) ys x (inr h) = ⊎_elim (λ k. inl (inr k)) (λ k. inr k) (of_append xs ys x h)

  module _ (p : A → Bool) where
    -- what is kept are the members that pass
    pub in_kept : (xs : List A) (x : A) → In x xs → p x ≡ true → In x (filter p xs)
    in_kept [] x h k = h
    in_kept (y ∷ ys) x (inl e) k = cond_both (p y) (y ∷ filter p ys) (filter p ys) (In x) (λ _. inl e) (λ n. absurd (both_ways (p y) n (ap p (sym e) ∙ k)))
    in_kept (y ∷ ys) x (inr h) k = cond_both (p y) (y ∷ filter p ys) (filter p ys) (In x) (λ _. inr (in_kept ys x h k)) (λ _. in_kept ys x h k)

    pub of_kept : (xs : List A) (x : A) → In x (filter p xs) → In x xs × (p x ≡ true)
    of_kept [] x = elim [ ]
    of_kept (y ∷ ys) x =
        cond_both (p y) (y ∷ filter p ys) (filter p ys) (λ l. In x l → ((x ≡ y) ⊎ In x ys) × (p x ≡ true))
        (λ e. elim [ inl q ↦ (inl q, ap p q ∙ e) | inr h ↦ (inr (of_kept ys x h).0, (of_kept ys x h).1) ])
        (λ _ h. (inr (of_kept ys x h).0, (of_kept ys x h).1))

    -- some element passes where a member does
    pub some_in : (xs : List A) → some_pass p xs ≡ true → (x : A) × In x xs × (p x ≡ true)
    some_in [] e = absurd (both_ways false refl e)
    some_in (x ∷ xs) e = elim (or_cases (p x) (some_pass p xs) e) [ inl h ↦ (x, inl refl, h) | inr h ↦ (let r = some_in xs h in (r.0, inr r.1, r.2)) ]

    pub some_from : (xs : List A) (x : A) → In x xs → p x ≡ true → some_pass p xs ≡ true
    some_from [] x m e = absurd m
    some_from (y ∷ ys) x (inl q) e = or_left (p y) (some_pass p ys) (ap p (sym q) ∙ e)
    some_from (y ∷ ys) x (inr m) e = or_right (p y) (some_pass p ys) (some_from ys x m e)

    pub none_in : (xs : List A) (x : A) → some_pass p xs ≡ false → In x xs → p x ≡ false
    none_in xs x e m = false_unless (p x) (λ h. both_ways (some_pass p xs) e (some_from xs x m h))

    pub none_from : (xs : List A) → ((x : A) → In x xs → p x ≡ false) → some_pass p xs ≡ false
    none_from xs h = false_unless (some_pass p xs) (λ e. let r = some_in xs e in both_ways (p r.0) (h r.0 r.1) r.2)

    -- every element passes where each member does
    pub all_in : (xs : List A) (x : A) → list_all p xs ≡ true → In x xs → p x ≡ true
    all_in [] x e m = absurd m
    all_in (y ∷ ys) x e (inl q) = ap p q ∙ (and_parts (p y) (list_all p ys) e).0
    all_in (y ∷ ys) x e (inr m) = all_in ys x (and_parts (p y) (list_all p ys) e).1 m

    pub all_from : (xs : List A) → ((x : A) → In x xs → p x ≡ true) → list_all p xs ≡ true
    all_from [] h = refl
    all_from (x ∷ xs) h = and_from (p x) (list_all p xs) (h x (inl refl)) (all_from xs (λ y m. h y (inr m)))

module _ {A B : Type 0} where
  pub in_map : (f : A → B) (xs : List A) (x : A) → In x xs → In (f x) (map f xs)
  in_map f [] x h = absurd h
  in_map f (y ∷ ys) x (inl e) = inl (ap f e)
  in_map f (y ∷ ys) x (inr h) = inr (in_map f ys x h)

  pub of_map : (f : A → B) (xs : List A) (y : B) → In y (map f xs) → (x : A) × In x xs × (y ≡ f x)
  of_map f [] y h = absurd h
  of_map f (x ∷ xs) y (inl e) = (x, inl refl, e)
  of_map f (x ∷ xs) y (inr h) = let k = of_map f xs y h in (k.0, inr k.1, k.2)

  -- a member of the joined lists is one of a member's list
  pub in_joined : (g : A → List B) (l : List A) (s : A) (t : B) → In s l → In t (g s) → In t (flat_map g l)
  in_joined g [] s t h k = absurd h
  in_joined g (x ∷ xs) s t (inl e) k = in_left (g x) (flat_map g xs) t (subst (λ z. In t (g z)) e k)
  in_joined g (x ∷ xs) s t (inr h) k = in_right (g x) (flat_map g xs) t (in_joined g xs s t h k)

  pub of_joined : (g : A → List B) (l : List A) (t : B) → In t (flat_map g l) → (s : A) × In s l × In t (g s)
  of_joined g [] t h = absurd h
  of_joined g (x ∷ xs) t h =
      ⊎_elim (λ k. (x, inl refl, k)) (λ k. let r = of_joined g xs t k in (r.0, inr r.1, r.2)) (of_append (g x) (flat_map g xs) t h)

-- counting from a has the n numbers from a on
pub in_counting : (a n s : ℕ) → a ≤ s → s < a + n → In s (range_with_len a n)
in_counting a zero s l h = omega arith
in_counting a (suc n) s l h = elim (cases_eq s a) [ inl e ↦ inl e | inr d ↦ inr (in_counting (a + 1) n s (omega arith) (omega arith)) ]

pub of_counting : (a n s : ℕ) → In s (range_with_len a n) → (a ≤ s) × (s < a + n)
of_counting a zero s m = absurd m
of_counting a (suc n) s (inl e) = (omega arith, omega arith)
of_counting a (suc n) s (inr m) = let r = of_counting (a + 1) n s m in (omega arith, omega arith)

-- the sheets of a bank by number are its members
pub sheet_in : (m : List Sheet) (c : ℕ) → c < length m → In (sheet_at m c) m
sheet_in [] c l = omega arith
sheet_in (x ∷ xs) zero l = inl refl
sheet_in (x ∷ xs) (suc c) l = inr (sheet_in xs c (omega arith))

pub sheet_of : (m : List Sheet) (sh : Sheet) → In sh m → (c : ℕ) × (c < length m) × (sh ≡ sheet_at m c)
sheet_of [] sh h = absurd h
sheet_of (x ∷ xs) sh (inl e) = (0, omega arith, e)
sheet_of (x ∷ xs) sh (inr h) = let r = sheet_of xs sh h in (suc r.0, omega arith, r.2)

-- past the last sheet there is one with no blocks
pub sheet_past : (m : List Sheet) (c : ℕ) → length m ≤ c → sheet_at m c ≡ sheet_at [] c
sheet_past [] c l = refl
sheet_past (x ∷ xs) zero l = absurd (omega arith)
sheet_past (x ∷ xs) (suc c) l = sheet_past xs c (omega arith)
