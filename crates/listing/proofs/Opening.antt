-- What `open` refuses, and what it leaves behind.
use Rattle.std.proofs.Common.{◌≡◌, ℕ, ◌<◌, ◌≤◌, true, false, cond, ◌||◌, eqb, ltb, List, map, length, take, Some, None, is_some, sym, refl, ap, ◌∙◌, subst}
use Rattle.std.proofs.lemmas.Bool.{cond-false, cond-true}
use Rattle.network.specs.Sheets.{Sheet}
use Rattle.listing.specs.Model.{accepted, blank, misfits, open_call, refuse, refused, started, step}
use Rattle.listing.specs.Records.{masks_of, pins_of, unpinned}
use Rattle.listing.specs.Represents.{Meets, Stands, Takes, records_of}
use Rattle.listing.specs.declared.listing.Listing.{Listing as CodeListing}
use Rattle.listing.specs.declared.session.Session.{Session}
use Rattle.listing.proofs.Records.{few_masks, unpinned_masks, unpinned_pins}
use Rattle.listing.proofs.Sessions.{opened, refusal, some_of, unopened, unopened_refused}

module _ (s : Session) (m : List Sheet) (ms : List ℕ) where
  -- a session that is opened
  pub open_twice : is_some s.listing ≡ true → Takes s s (open_call m ms) (refused 6)
  open_twice e = let q = some_of s.listing e in opened s s q.0 q.0 (open_call m ms) (refused 6) q.1 q.1 (refusal q.0 (open_call m ms) 6 (λ l h. refl))

  module _ (none : s.listing ≡ None) where
    -- no mask, or more than 32
    pub open_uncounted : (eqb (length ms) 0 || ltb 32 (length ms)) ≡ true → Takes s s (open_call m ms) (refused 2)
    open_uncounted e =
        unopened_refused s (open_call m ms) 2 none (cond-true (eqb (length ms) 0 || ltb 32 (length ms)) (refuse blank 2) (cond (misfits (length ms) m) (refuse blank 7) (started ms (map (λ _. None) ms))) e)

    module _ (low : 0 < length ms) (high : length ms ≤ 32) where
      after_count : step blank (open_call m ms) ≡ cond (misfits (length ms) m) (refuse blank 7) (started ms (map (λ _. None) ms))
      after_count = cond-false (eqb (length ms) 0 || ltb 32 (length ms)) (refuse blank 2) (cond (misfits (length ms) m) (refuse blank 7) (started ms (map (λ _. None) ms))) (few_masks ms low high)

      -- a sheet that names a block past them
      pub open_misfit : misfits (length ms) m ≡ true → Takes s s (open_call m ms) (refused 7)
      open_misfit f = unopened_refused s (open_call m ms) 7 none (after_count ∙ cond-true (misfits (length ms) m) (refuse blank 7) (started ms (map (λ _. None) ms)) f)

      pub open_accepted : misfits (length ms) m ≡ false → (t : Session) (q : CodeListing) → t.listing ≡ Some q → records_of q ≡ map unpinned ms → q.depth ≡ 0 → Takes s t (open_call m ms) accepted
      open_accepted f t q o e d =
          unopened s t (open_call m ms) accepted none
          (subst (Meets t.listing accepted) (sym (after_count ∙ cond-false (misfits (length ms) m) (refuse blank 7) (started ms (map (λ _. None) ms)) f))
          (record {
            state = subst (λ z. Stands z (started ms (map (λ _. None) ms)).state) (sym o) (record {
              opened = sym (ap masks_of e ∙ unpinned_masks ms);
              pins = sym (ap pins_of e ∙ unpinned_pins ms);
              last = sym (ap (λ i. take i q.path) d);
            });
            answer = refl;
          }))
