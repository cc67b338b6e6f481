-- What `pin` and `rewind` refuse, and what they leave behind.
use Rattle.std.proofs.Common.{◌≡◌, ℕ, ◌<◌, Bool, true, false, cond, ◌&&◌, ltb, length, get_or, take, set, is_some, Some, None, Option, sym, refl, ap, ◌∙◌, subst, inl, inr}
use Rattle.std.proofs.lemmas.List.{get_or-take}
use Rattle.std.proofs.lemmas.Bool.{and_left, and_parts, cases_lt, cond-false, cond-true, le-ltb, ltb-true}
use Rattle.network.specs.Sheets.{has}
use Rattle.network.specs.Tree.{pin_at}
use Rattle.listing.specs.Model.{Listing, Step, accepted, is_pinned, listing, pin_call, refuse, refused, rewind_call, started}
use Rattle.listing.specs.Records.{masks_of, pinned_at, pins_of}
use Rattle.listing.specs.Represents.{Keeps, Leads, Meets, records_of}
use Rattle.listing.specs.declared.record.BlockRecord.{BlockRecord}
use Rattle.listing.specs.declared.listing.Listing.{Listing as CodeListing}
use Rattle.listing.proofs.Records.{as_many_masks, mask_at, no_record, pin_is, pinned_masks, pinned_pins}
use Rattle.listing.proofs.Sessions.{refusal}

pub rewind_accepted : (s t : CodeListing) → records_of t ≡ records_of s → t.depth ≡ 0 → Leads s t rewind_call accepted
rewind_accepted s t k d l h = record {
  state = record { opened = h.opened ∙ sym (ap masks_of k); pins = h.pins ∙ sym (ap pins_of k); last = sym (ap (λ i. take i t.path) d) };
  answer = refl;
}

-- the slot is in the open mask of a block of the listing
abbrev pub pinnable : CodeListing → ℕ → ℕ → Bool
pinnable s b k = ltb b s.blocks && (ltb k 32 && has (get_or s.records b no_record).opened k)

pub in_range : (s : CodeListing) (b k : ℕ) → pinnable s b k ≡ true → b < s.blocks
in_range s b k f = ltb-true b s.blocks (and_parts (ltb b s.blocks) (ltb k 32 && has (get_or s.records b no_record).opened k) f).0

pinned_is_some : (o : Option ℕ) → is_pinned o ≡ is_some o
pinned_is_some None = refl
pinned_is_some (Some x) = refl

module _ (s : CodeListing) (l : Listing) (h : Keeps s l) (b k : ℕ) where
  same_test : (ltb b (length l.opened) && (ltb k 32 && has (get_or l.opened b 0) k)) ≡ pinnable s b k
  same_test =
      let n : length l.opened ≡ s.blocks = ap length h.opened ∙ as_many_masks s in
      ap (λ i. ltb b i && (ltb k 32 && has (get_or l.opened b 0) k)) n ∙ elim (cases_lt b s.blocks) [
        | inl p ↦ ap (λ x. ltb b s.blocks && (ltb k 32 && has x k))
            (ap (λ z. get_or z b 0) h.opened ∙ mask_at s.records s.blocks b s.sized p)
        | inr p ↦ and_left (ltb b s.blocks) (ltb k 32 && has (get_or l.opened b 0) k) (le-ltb b s.blocks p)
            ∙ sym (and_left (ltb b s.blocks) (ltb k 32 && has (get_or s.records b no_record).opened k) (le-ltb b s.blocks p))
      ]

  same_pin : b < s.blocks → is_pinned (pin_at l.pins b) ≡ is_some (get_or s.records b no_record).pin
  same_pin p =
      ap (λ z. is_pinned (pin_at z b)) h.pins ∙ ap is_pinned (pin_is (take s.blocks s.records) b)
      ∙ ap (λ r. is_pinned r.pin) (get_or-take s.blocks s.records b no_record p) ∙ pinned_is_some (get_or s.records b no_record).pin

  abbrev unless_pinned : Step
  unless_pinned = cond (is_pinned (pin_at l.pins b)) (refuse (listing l) 8) (started l.opened (set l.pins b (Some k)))

  out_of_range : pinnable s b k ≡ false → cond (ltb b (length l.opened) && (ltb k 32 && has (get_or l.opened b 0) k)) unless_pinned (refuse (listing l) 7) ≡ refuse (listing l) 7
  out_of_range f = cond-false (ltb b (length l.opened) && (ltb k 32 && has (get_or l.opened b 0) k)) unless_pinned (refuse (listing l) 7) (same_test ∙ f)

  within_range : pinnable s b k ≡ true → cond (ltb b (length l.opened) && (ltb k 32 && has (get_or l.opened b 0) k)) unless_pinned (refuse (listing l) 7) ≡ unless_pinned
  within_range f = cond-true (ltb b (length l.opened) && (ltb k 32 && has (get_or l.opened b 0) k)) unless_pinned (refuse (listing l) 7) (same_test ∙ f)

  twice : pinnable s b k ≡ true → is_some (get_or s.records b no_record).pin ≡ true → unless_pinned ≡ refuse (listing l) 8
  twice f g = cond-true (is_pinned (pin_at l.pins b)) (refuse (listing l) 8) (started l.opened (set l.pins b (Some k))) (same_pin (in_range s b k f) ∙ g)

  once : pinnable s b k ≡ true → is_some (get_or s.records b no_record).pin ≡ false → unless_pinned ≡ started l.opened (set l.pins b (Some k))
  once f g = cond-false (is_pinned (pin_at l.pins b)) (refuse (listing l) 8) (started l.opened (set l.pins b (Some k))) (same_pin (in_range s b k f) ∙ g)

module _ (s : CodeListing) (b k : ℕ) where
  pub pin_outside : pinnable s b k ≡ false → Leads s s (pin_call b k) (refused 7)
  pin_outside f = refusal s (pin_call b k) 7 (λ l h. out_of_range s l h b k f)

  pub pin_twice : pinnable s b k ≡ true → is_some (get_or s.records b no_record).pin ≡ true → Leads s s (pin_call b k) (refused 8)
  pin_twice f g = refusal s (pin_call b k) 8 (λ l h. within_range s l h b k f ∙ twice s l h b k f g)

  pub pin_accepted : (t : CodeListing) (v : BlockRecord) → v ≡ pinned_at (get_or s.records b no_record) k →
      pinnable s b k ≡ true → is_some (get_or s.records b no_record).pin ≡ false → records_of t ≡ take s.blocks (set s.records b v) → t.depth ≡ 0 → Leads s t (pin_call b k) accepted
  pin_accepted t v w f g e d l h =
      subst (Meets (Some t) accepted) (sym (within_range s l h b k f ∙ once s l h b k f g))
      (record {
        state = record {
          opened = h.opened ∙ sym (ap masks_of e ∙ pinned_masks s.records s.blocks b v k w s.sized (in_range s b k f));
          pins = ap (λ x. set x b (Some k)) h.pins ∙ sym (ap pins_of e ∙ pinned_pins s.records s.blocks b v k w);
          last = sym (ap (λ i. take i t.path) d);
        };
        answer = refl;
      })
