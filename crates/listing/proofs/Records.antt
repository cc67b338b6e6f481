-- Block records: what is read of them, what a pin changes, and how the law comes out of a session's ghost field.
use Rattle.std.proofs.Common.{◌≡◌, ℕ, zero, suc, ◌^◌, ◌<◌, ◌≤◌, true, false, ◌||◌, eqb, ltb, List, [], ◌∷◌, map, length, get_or, take, set, None, Option, sym, refl, ap, ◌∙◌, subst, arith}
use mathlib.Core.Logic.{∥∥₁_elim}
use std.HLevel.{Π_prop}
use denote.Struct.Props.{props}
use Rattle.std.proofs.lemmas.List.{get_or-map, get_or-take, length-map, length-set, map-set, set-get_or}
use Rattle.std.proofs.lemmas.Bool.{le-ltb, ne_eqb, or_from}
use Rattle.network.specs.Sheets.{has}
use Rattle.network.specs.Tree.{pin_at}
use Rattle.network.specs.Nesting.{LawfulOpening}
use Rattle.network.proofs.CodeRows.{take_set_in}
use Rattle.listing.specs.Records.{masks_of, pinned_at, pins_of, unpinned}
use Rattle.listing.specs.Represents.{opened_of, pinned_of}
use Rattle.listing.specs.declared.record.BlockRecord.{BlockRecord}
use Rattle.listing.specs.declared.listing.Listing.{Listing as CodeListing}
use Rattle.listing.proofs.Steps.{open_lawful, pin_lawful}

opening_of : (ms : List ℕ) (ps : List (Option ℕ)) → ∥ LawfulOpening ms ps ∥₁ → LawfulOpening ms ps
opening_of ms ps h = record {
  low = ∥∥₁_elim h (hlevel props) (λ l. l.low);
  high = ∥∥₁_elim h (hlevel props) (λ l. l.high);
  masks = ∥∥₁_elim h (hlevel props) (λ l. l.masks);
  as_many = ∥∥₁_elim h (hlevel props) (λ l. l.as_many);
  pins = ∥∥₁_elim h (Π_prop (λ _. Π_prop (λ _. Π_prop (λ _. hlevel props)))) (λ l. l.pins);
}

-- an opened session's masks and pins are lawful
pub lawful_opening : (s : CodeListing) → LawfulOpening (opened_of s) (pinned_of s)
lawful_opening s = opening_of (opened_of s) (pinned_of s) s.lawful

pub as_many_masks : (s : CodeListing) → length (opened_of s) ≡ s.blocks
as_many_masks s = length-map (take s.blocks s.records) (λ r. r.opened) ∙ s.sized

abbrev pub no_record : BlockRecord
no_record = record { opened = 0; pin = None }

pub pin_is : (rs : List BlockRecord) (b : ℕ) → pin_at (pins_of rs) b ≡ (get_or rs b no_record).pin
pin_is [] b = refl
pin_is (r ∷ rs) zero = refl
pin_is (r ∷ rs) (suc b) = pin_is rs b

-- records with no pin
pub unpinned_masks : (ms : List ℕ) → masks_of (map unpinned ms) ≡ ms
unpinned_masks [] = refl
unpinned_masks (m ∷ ms) = ap (λ l. m ∷ l) (unpinned_masks ms)

pub unpinned_pins : (ms : List ℕ) → pins_of (map unpinned ms) ≡ map (λ _. None) ms
unpinned_pins [] = refl
unpinned_pins (m ∷ ms) = ap (λ l. None ∷ l) (unpinned_pins ms)

pub few_masks : (ms : List ℕ) → 0 < length ms → length ms ≤ 32 → (eqb (length ms) 0 || ltb 32 (length ms)) ≡ false
few_masks ms p q = or_from (eqb (length ms) 0) (ltb 32 (length ms)) (ne_eqb (length ms) 0 (omega arith)) (le-ltb 32 (length ms) q)

pub unpinned_lawful : (ms : List ℕ) (rs : List BlockRecord) → rs ≡ map unpinned ms → 0 < length ms → length ms ≤ 32 → ((b : ℕ) → get_or ms b 0 < 2 ^ 32) →
    LawfulOpening (masks_of rs) (pins_of rs)
unpinned_lawful ms rs e p q h =
    subst (λ z. LawfulOpening (masks_of z) (pins_of z)) (sym e)
    (subst (λ z. LawfulOpening z (pins_of (map unpinned ms))) (sym (unpinned_masks ms)) (subst (LawfulOpening ms) (sym (unpinned_pins ms)) (open_lawful ms (few_masks ms p q) h)))

module _ (rs : List BlockRecord) (n b : ℕ) where
  -- the open mask of a block
  pub mask_at : length (take n rs) ≡ n → b < n → get_or (masks_of (take n rs)) b 0 ≡ (get_or rs b no_record).opened
  mask_at e h = get_or-map (λ r. r.opened) (take n rs) b no_record 0 (omega arith) ∙ ap (λ r. r.opened) (get_or-take n rs b no_record h)

  module _ (v : BlockRecord) (k : ℕ) (same : v ≡ pinned_at (get_or rs b no_record) k) where
    -- a pin leaves the open masks, and is the block's pin
    pub pinned_masks : length (take n rs) ≡ n → b < n → masks_of (take n (set rs b v)) ≡ masks_of (take n rs)
    pinned_masks e h =
        ap masks_of (take_set_in n rs b v) ∙ map-set (λ r. r.opened) (take n rs) b v
        ∙ ap (λ x. set (masks_of (take n rs)) b x) (ap (λ r. r.opened) same ∙ sym (mask_at e h)) ∙ set-get_or (masks_of (take n rs)) b 0

    pub pinned_pins : pins_of (take n (set rs b v)) ≡ set (pins_of (take n rs)) b (pinned_at (get_or rs b no_record) k).pin
    pinned_pins = ap pins_of (take_set_in n rs b v) ∙ map-set (λ r. r.pin) (take n rs) b v ∙ ap (λ r. set (pins_of (take n rs)) b r.pin) same

    pub pinned_size : length (take n rs) ≡ n → length (take n (set rs b v)) ≡ n
    pinned_size e = ap length (take_set_in n rs b v) ∙ length-set (take n rs) b v ∙ e

    pub pinned_lawful : length (take n rs) ≡ n → b < n → k < 32 → has (get_or rs b no_record).opened k ≡ true → LawfulOpening (masks_of (take n rs)) (pins_of (take n rs)) →
        LawfulOpening (masks_of (take n (set rs b v))) (pins_of (take n (set rs b v)))
    pinned_lawful e h p q w =
        subst (λ z. LawfulOpening z (pins_of (take n (set rs b v)))) (sym (pinned_masks e h))
        (subst (LawfulOpening (masks_of (take n rs))) (sym pinned_pins)
        (pin_lawful (masks_of (take n rs)) (pins_of (take n rs)) b k w p (ap (λ x. has x k) (mask_at e h) ∙ q)))
