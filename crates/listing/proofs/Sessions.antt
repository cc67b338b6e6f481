-- What a call does to a session follows from what it does to the listing, or from its refusal of a blank session.
use Rattle.std.proofs.Common.{◌≡◌, ℕ, Some, None, Option, is_some, Ok, Err, OnErr, Result, true, false, refl, sym, ap, ◌∙◌, subst}
use Rattle.std.proofs.lemmas.Bool.{both_ways}
use Rattle.listing.specs.Model.{Answer, Call, Listing, blank, listing, refuse, refused, step}
use Rattle.listing.specs.Represents.{Keeps, Leads, Meets, Stands, Takes}
use Rattle.listing.specs.declared.listing.Listing.{Listing as CodeListing}
use Rattle.listing.specs.declared.session.Session.{Session}

pub some_of : (o : Option CodeListing) → is_some o ≡ true → (q : CodeListing) × (o ≡ Some q)
some_of None e = absurd (both_ways false refl e)
some_of (Some q) e = (q, refl)

pub none_of : (o : Option CodeListing) → is_some o ≡ false → o ≡ None
none_of None e = refl
none_of (Some q) e = absurd (both_ways true e refl)

pub none_unless : (o : Option CodeListing) → ((q : CodeListing) → o ≡ Some q → ⊥) → o ≡ None
none_unless None h = refl
none_unless (Some q) h = absurd (h q refl)

pub opened : (s t : Session) (q r : CodeListing) (c : Call) (a : Answer) → s.listing ≡ Some q → t.listing ≡ Some r → Leads q r c a → Takes s t c a
opened s t q r c a e f h blank k = absurd (subst (λ o. Stands o blank) e k)
opened s t q r c a e f h (listing l) k = subst (λ o. Meets o a (step (listing l) c)) (sym f) (h l (subst (λ o. Stands o (listing l)) e k))

-- a listing stays as it is at a refusal
pub refusal : (q : CodeListing) (c : Call) (k : ℕ) → ((l : Listing) → Keeps q l → step (listing l) c ≡ refuse (listing l) k) → Leads q q c (refused k)
refusal q c k h l i = subst (Meets (Some q) (refused k)) (sym (h l i)) (record { state = i; answer = refl })

-- a blank session is led to a step of the blank state
pub unopened : (s t : Session) (c : Call) (a : Answer) → s.listing ≡ None → Meets t.listing a (step blank c) → Takes s t c a
unopened s t c a e h blank k = h
unopened s t c a e h (listing l) k = absurd (subst (λ o. Stands o (listing l)) e k)

pub unopened_refused : (s : Session) (c : Call) (k : ℕ) → s.listing ≡ None → step blank c ≡ refuse blank k → Takes s s c (refused k)
unopened_refused s c k e h =
    unopened s s c (refused k) e (subst (Meets s.listing (refused k)) (sym h) (record { state = subst (λ o. Stands o blank) (sym e) tt; answer = refl }))

-- where a call of the listing is refused, nothing changes
pub same_session : {T E : Type 0} (r : Result T E) (s : Session) (q t : CodeListing) → s.listing ≡ Some q → OnErr r (t ≡ q) → OnErr r (◌≡◌ {A = Session} (record { listing = Some t }) s)
same_session (Ok v) s q t e h = h
same_session (Err x) s q t e h = ap (λ o. record { listing = o }) (ap (λ z. Some z) h ∙ sym e)

pub same_listing : (s : Session) (q : CodeListing) → s.listing ≡ Some q → ◌≡◌ {A = Session} (record { listing = Some q }) s
same_listing s q e = ap (λ o. record { listing = o }) (sym e)
