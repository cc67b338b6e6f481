-- What `next` refuses and answers.
use Rattle.std.proofs.Common.{◌≡◌, ℕ, ◌<◌, ◌≤◌, Some, true, false, cond, ◌||◌, eqb, ltb, List, [], ◌++◌, length, take, drop, sym, refl, ap, ◌∙◌, subst, ap₂, arith}
use Rattle.std.proofs.lemmas.List.{take-append-drop}
use Rattle.std.proofs.lemmas.Bool.{cond-false, cond-true, le-ltb, lt-ltb}
use Rattle.network.specs.Sheets.{Sheet}
use Rattle.network.specs.Filters.{Filtering}
use Rattle.network.specs.Laws.{LawfulBank}
use Rattle.network.proofs.TreeOrder.{tree_ascends}
use Rattle.listing.specs.Model.{Answer, Call, done, if_plan, Listing, listing, misfits, next_call, next_step, outcome, Outcome, plan, refuse, refused, spent, step, Step, stop, walk, walked}
use Rattle.listing.specs.Runs.{WalksOn}
use Rattle.listing.specs.Represents.{Continued, GoesOn, Keeps, Leads, Meets, PlaceAt, Runs, Takes, WalksAlong, blocks_in, blocks_of, last_of, nodes_of, opened_of, pinned_of, records_of}
use Rattle.listing.specs.Records.{masks_of, pins_of}
use Rattle.listing.specs.Walked.{outcome_named}
use Rattle.listing.specs.declared.outcome.Outcome.{Outcome as CodeOutcome}
use Rattle.listing.specs.declared.outcome.Outcome.TheVariants.{Done, Plan, Spent}
use Rattle.listing.specs.declared.listing.Listing.{Listing as CodeListing}
use Rattle.listing.specs.declared.session.Session.{Session}
use Rattle.listing.proofs.Records.{as_many_masks}
use Rattle.listing.proofs.RunsFrom.{next_runs}
use Rattle.listing.proofs.Sessions.{opened, refusal}
use Rattle.listing.proofs.Visits.{walk_on}

pub named_plan : (o : CodeOutcome) → outcome_named o ≡ plan → o ≡ Plan
named_plan Plan e = refl
named_plan Done e = cc
named_plan Spent e = cc

-- a place stays where there is no plan
pub kept_place : (o : CodeOutcome) (n : ℕ) (node place : List ℕ) → (o ≡ Plan → ⊥) → PlaceAt (outcome_named o) n node place place
kept_place Plan n node place e = absurd (e refl)
kept_place Done n node place e = refl
kept_place Spent n node place e = refl

-- the plan that is shown: where there is one
plan_part : (o : Outcome) (x y : List ℕ) → (o ≡ plan → x ≡ y) → if_plan o x [] ≡ if_plan o y []
plan_part plan x y h = h refl
plan_part done x y h = refl
plan_part spent x y h = refl

-- the plan in a place is the path of the node that a walk stops at
shown_plan : (s t : CodeListing) (m : List Sheet) (f : Filtering) (budget : ℕ) (o : CodeOutcome) (v : ℕ) → Continued s t m f budget o v →
    (place : List ℕ) → (outcome_named o ≡ plan → take s.blocks place ≡ take s.blocks t.path) → if_plan (outcome_named o) (take s.blocks place) [] ≡ if_plan (outcome_named o) (last_of t) []
shown_plan s t m f budget o v c place p = plan_part (outcome_named o) (take s.blocks place) (last_of t) (λ q. p q ∙ ap (λ i. take i t.path) (sym (c.whole q)))

-- a plan that is written fills the front of the place
pub filled_place : (s t : CodeListing) (m : List Sheet) (f : Filtering) (budget : ℕ) (o : CodeOutcome) (v : ℕ) → Continued s t m f budget o v → o ≡ Plan →
    (before after : List ℕ) → take s.blocks after ≡ take s.blocks t.path → drop s.blocks after ≡ drop s.blocks before → PlaceAt (outcome_named o) s.blocks (last_of t) before after
filled_place s t m f budget o v c e before after front back =
    subst (λ x. PlaceAt (outcome_named x) s.blocks (last_of t) before after) (sym e)
    (sym (take-append-drop s.blocks after) ∙ ap₂ (λ a b. a ++ b) (front ∙ ap (λ i. take i t.path) (sym (c.whole (ap outcome_named e)))) back)

-- a walk goes on over the filter's nodes
walks_along : (s t : CodeListing) (m : List Sheet) (f : Filtering) (budget : ℕ) (o : CodeOutcome) (v : ℕ) → Continued s t m f budget o v →
    (place : List ℕ) → (outcome_named o ≡ plan → take s.blocks place ≡ take s.blocks t.path) →
    WalksOn s.blocks budget (nodes_of s m f) (last_of s) (last_of t) (outcome_named o) v (if_plan (outcome_named o) (take s.blocks place) [])
walks_along s t m f budget o v c place p =
    let n = s.blocks in
    let xs = nodes_of s m f in
    let old = last_of s in
    let new = last_of t in
    subst (WalksOn n budget xs old new (outcome_named o) v) (sym (shown_plan s t m f budget o v c place p))
    (subst (λ z. WalksOn n budget xs old new z v (if_plan z new [])) (sym c.outcome)
    (subst (λ z. WalksOn n budget xs old new (outcome n budget old xs) z (if_plan (outcome n budget old xs) new [])) (sym c.visits)
    (subst (λ z. WalksOn n budget xs old z (outcome n budget old xs) (length (walk n budget old xs)) (if_plan (outcome n budget old xs) z [])) (sym c.stop)
    (walk_on n budget old xs (tree_ascends f m (opened_of s) (pinned_of s))))))

-- the refusals, in the order in which they are judged
module _ (s : CodeListing) (m : List Sheet) (f : Filtering) (budget room : ℕ) where
  abbrev if_fit : Listing → Step
  if_fit l = cond (misfits (length l.opened) m) (refuse (listing l) 7) (next_step l m f budget)

  abbrev if_room : Listing → Step
  if_room l = cond (ltb room (length l.opened)) (refuse (listing l) 4) (if_fit l)

  pub next_budget : (eqb budget 0 || ltb 1000000 budget) ≡ true → Leads s s (next_call m f budget room) (refused 9)
  next_budget e = refusal s (next_call m f budget room) 9 (λ l h. cond-true (eqb budget 0 || ltb 1000000 budget) (refuse (listing l) 9) (if_room l) e)

  module _ (allowed : (eqb budget 0 || ltb 1000000 budget) ≡ false) where
    size : (l : Listing) → Keeps s l → length l.opened ≡ s.blocks
    size l h = ap length h.opened ∙ as_many_masks s

    after_budget : (l : Listing) → step (listing l) (next_call m f budget room) ≡ if_room l
    after_budget l = cond-false (eqb budget 0 || ltb 1000000 budget) (refuse (listing l) 9) (if_room l) allowed

    pub next_short : room < s.blocks → Leads s s (next_call m f budget room) (refused 4)
    next_short r = refusal s (next_call m f budget room) 4
        (λ l h. after_budget l ∙ cond-true (ltb room (length l.opened)) (refuse (listing l) 4) (if_fit l) (lt-ltb room (length l.opened) (omega (arith, size l h))))

    module _ (enough : s.blocks ≤ room) where
      after_room : (l : Listing) → Keeps s l → step (listing l) (next_call m f budget room) ≡ if_fit l
      after_room l h = after_budget l ∙ cond-false (ltb room (length l.opened)) (refuse (listing l) 4) (if_fit l) (le-ltb room (length l.opened) (omega (arith, size l h)))

      pub next_misfit : misfits s.blocks m ≡ true → Leads s s (next_call m f budget room) (refused 7)
      next_misfit e = refusal s (next_call m f budget room) 7
          (λ l h. after_room l h ∙ cond-true (misfits (length l.opened) m) (refuse (listing l) 7) (next_step l m f budget) (ap (λ n. misfits n m) (size l h) ∙ e))

      -- a walk is the model's step
      next_accepted : misfits s.blocks m ≡ false → (t : CodeListing) (o : CodeOutcome) (v : ℕ) → Continued s t m f budget o v →
          (place : List ℕ) → (outcome_named o ≡ plan → take s.blocks place ≡ take s.blocks t.path) →
          Leads s t (next_call m f budget room) (walked (outcome_named o) v (if_plan (outcome_named o) (take s.blocks place) []))
      next_accepted e t o v c place p l h =
          let rs : records_of t ≡ records_of s = ap (λ n. take n t.records) c.blocks ∙ ap (take s.blocks) c.records in
          let n : length (opened_of s) ≡ s.blocks = as_many_masks s in
          let k : Listing = record { opened = opened_of s; pins = pinned_of s; last = last_of s; shown = l.shown } in
          let same : l ≡ k =
          ap (λ x. record { opened = x; pins = l.pins; last = l.last; shown = l.shown }) h.opened
          ∙ ap (λ x. record { opened = opened_of s; pins = x; last = l.last; shown = l.shown }) h.pins
          ∙ ap (λ x. record { opened = opened_of s; pins = pinned_of s; last = x; shown = l.shown }) h.last in
          subst (Meets (Some t) (walked (outcome_named o) v (if_plan (outcome_named o) (take s.blocks place) [])))
          (sym (after_room l h ∙ cond-false (misfits (length l.opened) m) (refuse (listing l) 7) (next_step l m f budget) (ap (λ i. misfits i m) (size l h) ∙ e) ∙ ap (λ z. next_step z m f budget) same))
          (record {
            state = record {
              opened = sym (ap masks_of rs);
              pins = sym (ap pins_of rs);
              last = ap (λ i. stop i budget (last_of s) (nodes_of s m f)) n ∙ sym c.stop;
            };
            answer =
                ap (λ y. walked (outcome_named o) v y) (shown_plan s t m f budget o v c place p)
                ∙ ap (λ y. walked (outcome_named o) v (if_plan (outcome_named o) y [])) c.stop
                ∙ ap (λ x. walked (outcome_named o) x (if_plan (outcome_named o) (stop s.blocks budget (last_of s) (nodes_of s m f)) [])) c.visits
                ∙ ap (λ x. walked x (length (walk s.blocks budget (last_of s) (nodes_of s m f))) (if_plan x (stop s.blocks budget (last_of s) (nodes_of s m f)) [])) c.outcome
                ∙ ap (λ i. walked (outcome i budget (last_of s) (nodes_of s m f)) (length (walk i budget (last_of s) (nodes_of s m f))) (if_plan (outcome i budget (last_of s) (nodes_of s m f)) (stop i budget (last_of s) (nodes_of s m f)) [])) (sym n);
          })

-- what a walk of its listing says of a session
module _ (s : Session) (q t : CodeListing) (is : s.listing ≡ Some q) (m : List Sheet) (f : Filtering) (budget : ℕ) (o : CodeOutcome) (v : ℕ) (place : List ℕ) where
  session_takes : (c : Call) → Leads q t c (walked (outcome_named o) v (if_plan (outcome_named o) (take q.blocks place) [])) →
      Takes s (record { listing = Some t }) c (walked (outcome_named o) v (if_plan (outcome_named o) (take (blocks_of s) place) []))
  session_takes c h =
      subst (λ n. Takes s (record { listing = Some t }) c (walked (outcome_named o) v (if_plan (outcome_named o) (take n place) []))) (sym (ap blocks_in is))
      (opened s (record { listing = Some t }) q t c _ is refl h)

  session_walks : WalksOn q.blocks budget (nodes_of q m f) (last_of q) (last_of t) (outcome_named o) v (if_plan (outcome_named o) (take q.blocks place) []) →
      WalksAlong s (record { listing = Some t }) m f budget (walked (outcome_named o) v (if_plan (outcome_named o) (take (blocks_of s) place) []))
  session_walks h = subst (λ z. GoesOn z (Some t) m f budget (outcome_named o) v (if_plan (outcome_named o) (take (blocks_in z) place) [])) (sym is) h

  -- an accepted call is the model's step, over every list of calls, and a walk
  module _ (bank : LawfulBank m) (room : ℕ) (allowed : (eqb budget 0 || ltb 1000000 budget) ≡ false) (enough : q.blocks ≤ room) (fit : misfits q.blocks m ≡ false)
      (w : Continued q t m f budget o v) (agrees : outcome_named o ≡ plan → take q.blocks place ≡ take q.blocks t.path) where
    abbrev after : Session
    after = record { listing = Some t }

    abbrev answer : Answer
    answer = walked (outcome_named o) v (if_plan (outcome_named o) (take (blocks_of s) place) [])

    steps : Takes s after (next_call m f budget room) answer
    steps = session_takes (next_call m f budget room) (next_accepted q m f budget room allowed enough fit t o v w place agrees)

    pub accepted : Takes s after (next_call m f budget room) answer × ((n : List Sheet) → Runs n s after (next_call m f budget room) answer) × WalksAlong s after m f budget answer
    accepted = (steps, next_runs s after answer m f budget room bank steps, session_walks (walks_along q t m f budget o v w place agrees))
