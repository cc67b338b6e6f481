-- Asking a sheet position by position: the row after the first n positions, and where it ends.
use Rattle.std.proofs.Common.{◌≡◌, ℕ, ◌+◌, ◌<◌, ◌≤◌, Bool, true, not, ◌&&◌, ◌||◌, eqb, ltb, leb, List, length, get_or, sym, ap, ◌∙◌, subst, ap₂, inl, inr, arith}
use Rattle.std.proofs.lemmas.Bool.{and_from, and_parts, cases_eq, cases_lt, eq-eqb, le-leb, le-ltb, leb-true, lt-leb, lt-ltb, ne_eqb, not_from_false, or_cases, or_left, or_right}
use Rattle.network.specs.Sheets.{Sheet, has, supported}
use Rattle.network.specs.Rows.{Row, dead, keep, narrowed_by}
use Rattle.network.specs.Filters.{place}
use Rattle.network.specs.Laws.{LawfulRow, Under}
use Rattle.network.proofs.Keeping.{keep_narrows, keeps}
use Rattle.network.proofs.Narrowing.{narrowed_lawful, narrowed_mono}
use Rattle.network.proofs.Renarrowing.{narrowed_all, narrowed_same, narrowed_twice, same_dead}
use Rattle.network.proofs.Rows.{under_refl}

module _ (r : Row) (sh : Sheet) (ys : List ℕ) where
  -- the test of the first n positions, by their masks
  abbrev pub asked : ℕ → ℕ → ℕ → Bool
  asked n b s = ltb b r.decided || (leb n (place sh.scope b) || supported sh ys (place sh.scope b) s)

  -- fewer positions ask less
  asked_less : (n k b s : ℕ) → n ≤ k → asked k b s ≡ true → asked n b s ≡ true
  asked_less n k b s l e = elim (or_cases (ltb b r.decided) (leb k (place sh.scope b) || supported sh ys (place sh.scope b) s) e) [
    | inl h ↦ or_left (ltb b r.decided) (leb n (place sh.scope b) || supported sh ys (place sh.scope b) s) h
    | inr h ↦ or_right (ltb b r.decided) (leb n (place sh.scope b) || supported sh ys (place sh.scope b) s)
        (elim (or_cases (leb k (place sh.scope b)) (supported sh ys (place sh.scope b) s) h) [
          | inl i ↦ or_left (leb n (place sh.scope b)) (supported sh ys (place sh.scope b) s) (le-leb n (place sh.scope b) (omega (arith, leb-true k (place sh.scope b) i)))
          | inr i ↦ or_right (leb n (place sh.scope b)) (supported sh ys (place sh.scope b) s) i
        ])
  ]

  -- a position that is not n is asked as before
  other : (n b s : ℕ) → (place sh.scope b ≡ n → ⊥) → asked n b s ≡ asked (n + 1) b s
  other n b s d = ap (λ v. ltb b r.decided || (v || supported sh ys (place sh.scope b) s)) (elim (cases_lt (place sh.scope b) n) [
    | inl l ↦ lt-leb n (place sh.scope b) l ∙ sym (lt-leb (n + 1) (place sh.scope b) (omega arith))
    | inr l ↦ le-leb n (place sh.scope b) l ∙ sym (le-leb (n + 1) (place sh.scope b) (omega arith))
  ])

  module _ (lr : LawfulRow r) where
    -- with none asked the row is whole
    pub asked_none : r ≡ narrowed_by (asked 0) r
    asked_none = sym (narrowed_all (asked 0) lr (λ b s _ _.
        or_right (ltb b r.decided) (leb 0 (place sh.scope b) || supported sh ys (place sh.scope b) s)
        (or_left (leb 0 (place sh.scope b)) (supported sh ys (place sh.scope b) s) (le-leb 0 (place sh.scope b) (omega arith)))))

    -- a dead row is not asked any further
    pub asked_dead : (n : ℕ) → n ≤ length sh.scope → dead (narrowed_by (asked n) r) ≡ true → narrowed_by (asked n) r ≡ narrowed_by (asked (length sh.scope)) r
    asked_dead n l d =
        let p : Row = narrowed_by (asked (length sh.scope)) r in
        let u : Under p (narrowed_by (asked n) r) = narrowed_mono (asked (length sh.scope)) (asked n) lr lr under_refl (λ _ b s _ _ e. asked_less n (length sh.scope) b s l e) in
        sym (same_dead (narrowed_lawful (asked (length sh.scope)) r lr) (narrowed_lawful (asked n) r lr) u d)

    module _ (n b : ℕ) (at : place sh.scope b ≡ n) (here : (a : ℕ) → place sh.scope a ≡ n → a ≡ b) where
      -- a decided block is not asked
      pub asked_decided : b < r.decided → narrowed_by (asked n) r ≡ narrowed_by (asked (n + 1)) r
      asked_decided l = narrowed_same (asked n) (asked (n + 1)) r (λ a s. elim (cases_eq (place sh.scope a) n) [
        | inl e ↦ (let t : ltb a r.decided ≡ true = ap (λ x. ltb x r.decided) (here a e) ∙ lt-ltb b r.decided l in
            ap (λ v. v || (leb n (place sh.scope a) || supported sh ys (place sh.scope a) s)) t
            ∙ sym (ap (λ v. v || (leb (n + 1) (place sh.scope a) || supported sh ys (place sh.scope a) s)) t))
        | inr d ↦ other n a s d
      ])

      module _ (u : r.decided ≤ b) (left : ℕ)
          (slot : (s : ℕ) → s < 32 → has left s ≡ (has (get_or (narrowed_by (asked n) r).present b 0) s && supported sh ys n s)) where
        -- the test at the position that is asked
        tested : (s : ℕ) → asked (n + 1) b s ≡ supported sh ys n s
        tested s =
            ap₂ (λ v w. v || (w || supported sh ys (place sh.scope b) s)) (le-ltb b r.decided u) (lt-leb (n + 1) (place sh.scope b) (omega arith))
            ∙ ap (λ x. supported sh ys x s) at

        -- an undecided block keeps what its position supports
        pub asked_more : keep (narrowed_by (asked n) r) b left ≡ narrowed_by (asked (n + 1)) r
        asked_more = keep_narrows (narrowed_lawful (asked n) r lr) b left ∙ narrowed_twice (asked n) (keeps b left) (asked (n + 1)) lr
            (λ a s _ e. asked_less n (n + 1) a s (omega arith) e)
            (λ a s l h f g. elim (cases_eq a b) [
              | inl e ↦ subst (λ x. asked (n + 1) x s ≡ true) (sym e) (tested s
                  ∙ (and_parts (has (get_or (narrowed_by (asked n) r).present b 0) s) (supported sh ys n s)
                  (sym (slot s l) ∙ ap (λ v. not v || has left s) (sym (eq-eqb a b e)) ∙ g)).1)
              | inr d ↦ sym (other n a s (λ e. d (here a e))) ∙ f
            ])
            (λ a s l h e. elim (cases_eq a b) [
              | inl q ↦ or_right (not (eqb a b)) (has left s) (slot s l
                  ∙ and_from (has (get_or (narrowed_by (asked n) r).present b 0) s) (supported sh ys n s)
                  (subst (λ x. has (get_or (narrowed_by (asked n) r).present x 0) s ≡ true) q h) (sym (tested s) ∙ subst (λ x. asked (n + 1) x s ≡ true) q e))
              | inr d ↦ or_left (not (eqb a b)) (has left s) (not_from_false (eqb a b) (ne_eqb a b d))
            ])
