-- The root row that a session makes of its block records.
use Rattle.std.proofs.Common.{◌≡◌, IsSome, MatchOption, ℕ, suc, ◌^◌, ◌<◌, Bool, true, false, ◌||◌, eqb, ltb, ◌⊎◌, List, [], ◌∷◌, map, length, take, replicate, Some, None, Option, sym, refl, ap, ◌∙◌, subst, ap₂, inl, inr}
use Rattle.std.specs.List.{list_any}
use Rattle.std.proofs.lemmas.List.{length-map, take-replicate}
use Rattle.std.proofs.lemmas.Bool.{cond-false, cond-true, lt-ltb}
use Rattle.network.specs.Rows.{Row, some_empty, wipe}
use Rattle.network.specs.RowModel.{given, model}
use Rattle.network.specs.Tree.{pin_at, pinned, root}
use Rattle.network.specs.Laws.{LawfulRow}
use Rattle.network.proofs.Deciding.{root_lawful}
use Rattle.listing.specs.Records.{mask_under, masks_of, pins_of, record_mask}
use Rattle.listing.specs.Represents.{opened_of, pinned_of, records_of}
use Rattle.network.specs.declared.row.Row.{Row as CodeRow}
use Rattle.listing.specs.declared.record.BlockRecord.{BlockRecord}
use Rattle.listing.specs.declared.listing.Listing.{Listing as CodeListing}
use Rattle.listing.proofs.Records.{lawful_opening}

pinned_one : (m : ℕ) (p : Option ℕ) (ms : List ℕ) (ps : List (Option ℕ)) → ((s : ℕ) → p ≡ Some s → s < 32) → pinned (m ∷ ms) (p ∷ ps) ≡ mask_under m p ∷ pinned ms ps
pinned_one m None ms ps h = refl
pinned_one m (Some s) ms ps h = ap (λ x. x ∷ pinned ms ps) (sym (cond-true (ltb s 32) (2 ^ s) 0 (lt-ltb s 32 (h s refl))))

-- the masks of records whose pins are slots
pinned_is : (rs : List BlockRecord) → ((b s : ℕ) → pin_at (pins_of rs) b ≡ Some s → s < 32) → pinned (masks_of rs) (pins_of rs) ≡ map record_mask rs
pinned_is [] h = refl
pinned_is (r ∷ rs) h = pinned_one r.opened r.pin (masks_of rs) (pins_of rs) (h 0) ∙ ap (λ l. record_mask r ∷ l) (pinned_is rs (λ b. h (suc b)))

some_listed : (ms : List ℕ) → list_any (λ m. eqb m 0) ms ≡ some_empty ms
some_listed [] = refl
some_listed (m ∷ ms) = ap (λ b. eqb m 0 || b) (some_listed ms)

map_zeros : (xs : List ℕ) → map {B = ℕ} (λ _. 0) xs ≡ replicate (length xs) 0
map_zeros [] = refl
map_zeros (x ∷ xs) = ap (λ l. 0 ∷ l) (map_zeros xs)

-- what the loop over the records keeps
pub record Copied (rs : List BlockRecord) (os ps : List ℕ) (i : ℕ) : Type 0 where
  pub opened_size : length os ≡ 32
  pub present_size : length ps ≡ 32
  pub opened : take i os ≡ masks_of (take i rs)
  pub present : take i ps ≡ map record_mask (take i rs)

-- the masks that it leaves, the present ones emptied where one of them is empty, are those of the root row
pub root_made : (s : CodeListing) (os ps last : List ℕ) (i : ℕ) (b : Bool) → Copied s.records os ps i → i ≡ s.blocks → b ≡ list_any (λ m. eqb m 0) (take s.blocks ps) →
    ((b ≡ true) × (last ≡ replicate 32 0)) ⊎ ((b ≡ false) × (last ≡ ps)) → given (take s.blocks os) (take s.blocks last) 0 ≡ root (opened_of s) (pinned_of s)
root_made s os ps last i b v e t w =
    ap₂ (λ x y. record { opened = x; present = y; decided = 0 }) (ap (λ j. take j os) (sym e) ∙ v.opened ∙ ap (λ j. masks_of (take j s.records)) e)
    (shown ∙ ap wipe (sym (pinned_is (records_of s) (λ k l q. ((lawful_opening s).pins k l q).0))))
  where
    ms : List ℕ
    ms = map record_mask (records_of s)

    present : take s.blocks ps ≡ ms
    present = ap (λ j. take j ps) (sym e) ∙ v.present ∙ ap (λ j. map record_mask (take j s.records)) e

    test : b ≡ some_empty ms
    test = t ∙ ap (list_any (λ m. eqb m 0)) present ∙ some_listed ms

    shown : take s.blocks last ≡ wipe ms
    shown = elim w [
      | inl k ↦ ap (take s.blocks) k.1 ∙ take-replicate s.blocks 32 0 s.few ∙ ap (λ j. replicate j 0) (sym (length-map (records_of s) record_mask ∙ s.sized)) ∙ sym (map_zeros ms)
          ∙ sym (cond-true (some_empty ms) (map (λ _. 0) ms) ms (sym test ∙ k.0))
      | inr k ↦ ap (take s.blocks) k.1 ∙ present ∙ sym (cond-false (some_empty ms) (map (λ _. 0) ms) ms (sym test ∙ k.0))
    ]

-- the row of such masks is there, and is the root row
pub root_row : (s : CodeListing) (r : Row) (o : Option CodeRow) → r ≡ root (opened_of s) (pinned_of s) → MatchOption o (LawfulRow r → ⊥) (λ row. model row ≡ r) →
    IsSome o × ((row : CodeRow) → o ≡ Some row → model row ≡ root (opened_of s) (pinned_of s))
root_row s r None e h = absurd (h (subst LawfulRow (sym e) (root_lawful (lawful_opening s))))
root_row s r (Some x) e h = (refl, λ row q. ap (λ z. model z) (let z : row ≡ x = cc in z) ∙ h ∙ e)
