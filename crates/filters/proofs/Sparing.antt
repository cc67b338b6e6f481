-- Only undecided blocks need asking: a slot that an undecided block keeps has a support, which serves the decided slots too.
use Rattle.std.proofs.Common.{◌≡◌, ℕ, ◌+◌, ◌<◌, ◌≤◌, Bool, true, false, cond, ◌||◌, ltb, leb, List, [], ◌∷◌, length, get_or, count_by, sym, refl, ap, ◌∙◌, subst, ap₂, inl, inr, arith}
use Rattle.std.proofs.lemmas.List.Sums.{sum_by-cons}
use Rattle.std.proofs.lemmas.Bool.{cases_eq, le-ltb, leb-true, ltb-true, or_cases, or_right}
use Rattle.network.specs.Sheets.{In, Sheet, has}
use Rattle.network.specs.Rows.{Row, narrowed_by, passed_over, passing, some_empty, undecided_in}
use Rattle.network.specs.Filters.{fits, narrowed, place}
use Rattle.network.specs.Laws.{LawfulRow, Under}
use Rattle.network.proofs.Fits.{fits_from, fits_to, place_at, place_in, supports_has, supports_in}
use Rattle.network.proofs.Narrowing.{narrowed_lawful, narrowed_mono, passing_below, passing_long, passing_parts}
use Rattle.network.proofs.Picks.{in_row}
use Rattle.network.proofs.Rows.{same_rows, slot_live, under_refl}
use Rattle.network.proofs.Steps.{own}
use Rattle.network.proofs.Wiping.{live_slot}

-- only undecided blocks are asked
abbrev pub undecided_fits : Row → Sheet → (ℕ → ℕ) → ℕ → ℕ → Bool
undecided_fits r sh mask b s = ltb b r.decided || fits sh mask b s

-- an element that passes, where some are counted
counted : (p : ℕ → Bool) (xs : List ℕ) → 0 < count_by p xs → (x : ℕ) × In x xs × (p x ≡ true)
counted p [] l = absurd (omega arith)
counted p (x ∷ xs) l = go (p x) refl (subst (λ n. 0 < n) (sum_by-cons (λ y. cond (p y) 1 0) x xs) l) (counted p xs)
  where
    go : (v : Bool) → p x ≡ v → 0 < cond v 1 0 + count_by p xs → (0 < count_by p xs → (y : ℕ) × In y xs × (p y ≡ true)) → (y : ℕ) × In y (x ∷ xs) × (p y ≡ true)
    go true e k rec = (x, inl refl, e)
    go false e k rec = let r = rec (omega arith) in (r.0, inr r.1, r.2)

module _ (r : Row) (sh : Sheet) (lr : LawfulRow r) (over : passed_over r sh ≡ false) (some : 0 < undecided_in r sh) where
  -- an undecided block of the scope
  future : (u : ℕ) × (r.decided ≤ u) × (place sh.scope u < length sh.scope)
  future =
      let c = counted (λ b. leb r.decided b) sh.scope some in
      (c.0, leb-true r.decided c.0 c.2, place_in sh.scope c.0 c.1)

  test : ℕ → ℕ → Bool
  test = undecided_fits r sh (own r)

  -- a decided slot passes, where every block keeps a slot
  served : some_empty (passing test r.present) ≡ false → (b s : ℕ) → b < r.decided → s < 32 → has (own r b) s ≡ true → fits sh (own r) b s ≡ true
  unfolding test future
  served live b s d l h = fits_from sh (own r) b s l (λ i.
      (let u : ℕ = future.0 in
      let pu : ℕ = place sh.scope u in
      let k : u < length (passing test r.present) = omega (arith, passing_long test r.present, lr.as_many, in_row r sh over pu future.2, place_at sh.scope u future.2) in
      let w = live_slot (passing test r.present) (passing_below test r.present) live u k in
      let z = passing_parts test r.present u w.0 w.1 w.2 in
      let v = fits_to sh (own r) u w.0 future.2 (ap (λ x. x || fits sh (own r) u w.0) (sym (le-ltb u r.decided future.1)) ∙ z.1) in
      let apart : place sh.scope b ≡ pu → ⊥ = λ e. (let same : b ≡ u = sym (place_at sh.scope b i) ∙ ap (λ x. get_or sh.scope x 0) e ∙ place_at sh.scope u future.2 in omega (arith, future.1)) in
      let g = supports_has sh (own r) pu w.0 v.0 v.1 (place sh.scope b) i apart in
      let at : get_or v.0 (place sh.scope b) 32 ≡ s =
      lr.single (slot_live lr b s h) b d (get_or v.0 (place sh.scope b) 32) s g.0 l (subst (λ x. has (own r x) (get_or v.0 (place sh.scope b) 32) ≡ true) (place_at sh.scope b i) g.1) h in (
        v.0,
        supports_in sh (own r) (own r) pu (place sh.scope b) w.0 s v.0 v.1 at (λ q j _. elim (cases_eq q pu) [
          | inl e ↦ (
              let there : get_or v.0 q 32 ≡ w.0 = ap (λ x. get_or v.0 x 32) e ∙ v.1.here in
              let block : get_or sh.scope q 0 ≡ u = ap (λ x. get_or sh.scope x 0) e ∙ place_at sh.scope u future.2 in
              (subst (λ x. x < 32) (sym there) w.1, ap₂ (λ a x. has (own r a) x) block there ∙ z.0))
          | inr e ↦ supports_has sh (own r) pu w.0 v.0 v.1 q j e
        ]),
      )))

  pub spared : narrowed_by (undecided_fits r sh (own r)) r ≡ narrowed r sh
  unfolding test
  spared =
      let down : Under (narrowed r sh) (narrowed_by test r) = narrowed_mono (fits sh (own r)) test lr lr under_refl (λ _ b s _ _ e. or_right (ltb b r.decided) (fits sh (own r) b s) e) in
      same_rows (narrowed_lawful test r lr) (narrowed_lawful (fits sh (own r)) r lr)
      (narrowed_mono test (fits sh (own r)) lr lr under_refl (λ live b s l h e. elim (or_cases (ltb b r.decided) (fits sh (own r) b s) e) [
        | inl d ↦ served live b s (ltb-true b r.decided d) l h
        | inr k ↦ k
      ])) down.inside
