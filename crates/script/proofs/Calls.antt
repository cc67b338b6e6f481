-- A call on an opened session leaves it opened over the same masks, so that what serves a listing serves the one after the call.
use Rattle.std.proofs.Common.{◌≡◌, ℕ, ◌≤◌, ◌<◌, min, Bool, true, false, cond, ◌&&◌, ◌||◌, ◌==◌, ◌⊎◌, nat_lt, slice_index, slice_set, length, None, Option, Some, take, sym, refl, ap, ◌∙◌, inl, inr, arith}
use Rattle.std.proofs.lemmas.Bool.{cases_lt, le-ltb}
use Rattle.std.proofs.lemmas.List.{length-map}
use Rattle.network.specs.Filters.{Filtering}
use Rattle.network.specs.Sheets.{has}
use Rattle.filters.specs.Nfcs.{filter_of}
use Rattle.filters.specs.declared.nfc.Nfc.{Nfc}
use Rattle.listing.specs.Model.{Call, Listing, State, Step, blank, is_pinned, listing, misfits, next_call, next_step, open_call, pin_call, refuse, rewind_call, started, step}
use Rattle.network.specs.Tree.{pin_at}
use Rattle.listing.specs.Represents.{blocks_in, blocks_of, Represents, Stands}
use Rattle.listing.specs.declared.listing.Listing.{Listing as CodeListing}
use Rattle.listing.specs.declared.session.Session.{Session}
use Rattle.script.specs.Serving.{Serves, ServesListing}
use Rattle.script.specs.declared.lister.Lister.{Lister}

-- a state that is opened over the masks of l
abbrev pub OpenedAs : Listing → State → Type 0
OpenedAs l blank = ⊥
OpenedAs l (listing k) = k.opened ≡ l.opened

module _ (l : Listing) where
  either : (b : Bool) (x y : Step) → OpenedAs l x.state → OpenedAs l y.state → OpenedAs l (cond b x y).state
  either true x y p q = p
  either false x y p q = q

  -- refused, or else y
  unless : (b : Bool) (n : ℕ) (y : Step) → OpenedAs l y.state → OpenedAs l (cond b (refuse (listing l) n) y).state
  unless b n y q = either b (refuse (listing l) n) y refl q

  pub stays_open : (c : Call) → OpenedAs l (step (listing l) c).state
  stays_open (open_call m ms) = refl
  stays_open (pin_call b s) =
      let y : Step = started l.opened (slice_set l.pins b (Some s)) in
      let inner : Step = cond (is_pinned (pin_at l.pins b)) (refuse (listing l) 8) y in
      either (nat_lt b (length l.opened) && (nat_lt s 32 && has (slice_index l.opened b) s)) inner (refuse (listing l) 7) (unless (is_pinned (pin_at l.pins b)) 8 y refl) refl
  stays_open rewind_call = refl
  stays_open (next_call m f budget room) =
      let z : Step = next_step l m f budget in
      let y : Step = cond (misfits (length l.opened) m) (refuse (listing l) 7) z in
      let x : Step = cond (nat_lt room (length l.opened)) (refuse (listing l) 4) y in
      unless (budget == 0 || nat_lt 1000000 budget) 9 x (unless (nat_lt room (length l.opened)) 4 y (unless (misfits (length l.opened) m) 7 z refl))

pub serves_on : (r : Lister) (f : Filtering) (l : Listing) → ServesListing r f l → (t : Session) (g : Nfc) (st : State) → Represents t st → OpenedAs l st → filter_of g ≡ f →
    Serves (record { session = t; filter = g; blocks = r.blocks }) f st
serves_on r f l h t g blank stands same is = same
serves_on r f l h t g (listing k) stands same is = record { session = stands; filter = is; wide = h.wide ∙ ap length (sym same); few = h.few }

off : (a : Bool) (x y z : Step) → cond (a && false) x z ≡ cond (a && false) y z
off true x y z = refl
off false x y z = refl

-- as many blocks as masks
pub blocks_are : (s : Session) (l : Listing) → Represents s (listing l) → blocks_of s ≡ length l.opened
blocks_are s l h = go s.listing h
  where
    go : (o : Option CodeListing) → Stands o (listing l) → blocks_in o ≡ length l.opened
    go None k = absurd k
    go (Some t) k = sym (ap length k.opened ∙ length-map (take t.blocks t.records) (λ r. r.opened) ∙ t.sized)

-- numbers past every block and slot are refused alike
pub capped_pin : (l : Listing) (b s : ℕ) → length l.opened ≤ 32 → step (listing l) (pin_call (min b 255) (min s 255)) ≡ step (listing l) (pin_call b s)
capped_pin l b s few = elim (cases_lt b 32) [
  | inl p ↦ let e : min b 255 ≡ b = omega arith in ap (λ n. step (listing l) (pin_call n (min s 255))) e ∙ slots (cases_lt s 32)
  | inr p ↦ rw (le-ltb b (length l.opened) (omega arith), le-ltb (min b 255) (length l.opened) (omega arith)) refl
]
  where
    slots : ((s < 32) ⊎ (32 ≤ s)) → step (listing l) (pin_call b (min s 255)) ≡ step (listing l) (pin_call b s)
    slots (inl q) = let e : min s 255 ≡ s = omega arith in ap (λ n. step (listing l) (pin_call b n)) e
    slots (inr q) = rw (le-ltb s 32 q, le-ltb (min s 255) 32 (omega arith)) (off (nat_lt b (length l.opened)) _ _ _)
