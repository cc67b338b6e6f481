-- A scope's line and a row's line are good exactly when they spell a scope and a tuple within the limits.
use Rattle.std.proofs.Common.{◌≡◌, ℕ, zero, suc, ◌<◌, ◌≤◌, Bool, true, ◌&&◌, eqb, ltb, leb, List, [], ◌∷◌, ◌++◌, length, codes, Decides, sym, refl, ◌∙◌, arith}
use lib.ListN.{length-map}
use Rattle.std.specs.List.{list_all, AllByRecursion}
use Rattle.std.proofs.ByRecursion.{All-weaker, Decides-by_and}
use Rattle.std.proofs.lemmas.Bool.{and_parts, and_from, leb-true, le-leb, eqb-true, eq-eqb}
use Rattle.std.proofs.lemmas.Bool.Decides.{Decides-at}
use Rattle.network.specs.Sheets.{is_distinct}
use Rattle.banks.specs.declared.table.Kind.{Kind}
use Rattle.card.specs.Spelling.{listed, ScopeWithin}
use Rattle.card.specs.Verdict.{Reading, nothing_due, row_due, at, judge, scope_line, row_or_next, above_last, same_bytes, is_number, value_of, pieces}
use Rattle.card.proofs.Tests.{never, decides_leb, all_pass_map}
use Rattle.card.proofs.NumberLists.{values_of}
use Rattle.card.proofs.Passages.{Passage}
use Rattle.card.proofs.Keyed.{with_key, numbered_list}

-- a test of each piece's number tells of each number
pieces_pass : (p : ℕ → Bool) (P : ℕ → Type 0) → ((n : ℕ) → Decides (p n) (P n)) → (bs : List ℕ) → Decides (list_all (λ q. p (value_of q)) (pieces bs)) (AllByRecursion P (values_of bs))
pieces_pass p P each bs = Decides-at _ _ (all_pass_map p value_of (pieces bs)) (Decides-by_and p P (list_all p) each refl (λ _ _. refl) (values_of bs))

-- a scope's line
pub scoped : {next : List ℕ → Reading} (r : Reading) → (r.due ≡ nothing_due → ⊥) → r.blocks ≤ 32 →
    ((k bs : List ℕ) → judge r r.due k bs ≡ scope_line (same_bytes k (codes "scope")) bs r (next (values_of bs))) →
    Passage r (ScopeWithin r.blocks) (with_key (codes "scope") listed) next
scoped r some small is = numbered_list r some (codes "scope") (refl, refl)
    (λ bs. list_all is_number (pieces bs)) (λ bs. leb 2 (length (pieces bs)) && leb (length (pieces bs)) 6)
    (λ bs. list_all (λ p. ltb (value_of p) r.blocks) (pieces bs)) (λ bs. is_distinct eqb (values_of bs)) is
    (λ bs a b c d.
    let (two, six) = and_parts (leb 2 (length (pieces bs))) _ b in
    let e = length-map (pieces bs) value_of in
    (a, record { low = rw e (leb-true _ _ two); high = rw e (leb-true _ _ six); blocks = (below bs).0 c; apart = d }))
    (λ bs a h.
    let e = length-map (pieces bs) value_of in
    (a, and_from _ _ (le-leb _ _ (rw e at h.low)) (le-leb _ _ (rw e at h.high)), (below bs).1 h.blocks, h.apart))
    (λ xs h. (omega arith, All-weaker _ _ (λ x k. omega arith) xs h.blocks))
  where
    below : (bs : List ℕ) → Decides (list_all (λ p. ltb (value_of p) r.blocks) (pieces bs)) (AllByRecursion (λ b. b < r.blocks) (values_of bs))
    below = pieces_pass (λ n. ltb n r.blocks) (λ n. n < r.blocks) (λ n. decides_leb (suc n) r.blocks)

-- a row's line: a slot for each block of the scope, and above the row before it
pub rowed : (r : Reading) (k : ℕ) (kind : Kind) (scope : List ℕ) (j : ℕ) (ts : List (List ℕ)) → 2 ≤ length scope →
    Passage (at (row_due k kind scope j ts) r) (λ u. ((length u ≡ length scope) × AllByRecursion (λ s. s < 32) u) × (above_last ts u ≡ true)) (with_key (codes "row") listed)
    (λ u. row_or_next k kind scope j (ts ++ (u ∷ [])) r)
rowed r k kind scope j ts two = numbered_list _ (λ e. never cc) (codes "row") (refl, refl)
    (λ bs. list_all is_number (pieces bs) && eqb (length (pieces bs)) (length scope)) (λ _. true)
    (λ bs. list_all (λ p. ltb (value_of p) 32) (pieces bs)) (λ bs. above_last ts (values_of bs)) (λ _ bs. rw (same j (ts ++ (values_of bs ∷ []))))
    (λ bs a _ c d.
    let (n, e) = and_parts (list_all is_number (pieces bs)) _ a in
    (n, ((length-map (pieces bs) value_of ∙ eqb-true _ _ e, (upto bs).0 c), d)))
    (λ bs n h. (and_from _ _ n (eq-eqb _ _ (sym (length-map (pieces bs) value_of) ∙ h.0.0)), refl, (upto bs).1 h.0.1, h.1))
    (λ xs h. (omega arith, All-weaker _ _ (λ x s. omega arith) xs h.0.1))
  where
    upto : (bs : List ℕ) → Decides (list_all (λ p. ltb (value_of p) 32) (pieces bs)) (AllByRecursion (λ s. s < 32) (values_of bs))
    upto = pieces_pass (λ n. ltb n 32) (λ n. n < 32) (λ n. decides_leb (suc n) 32)

    same : (i : ℕ) (us : List (List ℕ)) → row_or_next k kind scope i us (at (row_due k kind scope j ts) r) ≡ row_or_next k kind scope i us r
    same zero us = refl
    same (suc i) us = refl
