use Rattle.std.proofs.Common.{◌≡◌, ◌||◌, eqb, ltb, length, take, drop, sym, refl, ap, ◌∙◌, subst}
use Rattle.std.proofs.lemmas.Bool.{not-false, not-true}
use Rattle.listing.specs.Represents.{PlaceAt, blocks_in, last_of}
use Rattle.listing.specs.Walked.{outcome_named}
use Rattle.listing.proofs.Nexting.{accepted, filled_place, kept_place, named_plan, next_budget, next_misfit, next_short}
use Rattle.listing.proofs.RunsFrom.{next_runs}
use Rattle.listing.proofs.Sessions.{none_unless, opened, same_listing, unopened_refused}
use Rattle.listing.proofs.session.Session.next.Goals as goal

pub returns-in_default : goal.returns-in_default
returns-in_default g c =
    let s = c.args.self.now in
    let e = unopened_refused s _ 5 (none_unless s.listing c.in_default.not-Some) refl in
    record { step = e; runs = next_runs s s _ _ _ _ _ (g.B.Bank.lawful c.args.bank.now) e; walks = tt; meaning = refl; refused = (refl, refl); place = refl }

pub returns-then-not-is_budget : goal.returns-then-not-is_budget
returns-then-not-is_budget g c =
    let s = c.args.self.now in
    let m = g.B.Bank.meaning c.args.bank.now in
    let f = g.F.Filter.filtered c.args.filter.now in
    let b = c.args.budget in
    let e = opened s _ c.in-Some.listing _ _ _ c.in-Some.is refl (next_budget c.in-Some.listing m f b (length c.args.place.now) (not-false (eqb b 0 || ltb 1000000 b) (sym c.if-not-is_budget.ensures))) in
    record { step = e; runs = next_runs s _ _ _ _ _ _ (g.B.Bank.lawful c.args.bank.now) e; walks = tt; meaning = refl; refused = (same_listing s _ c.in-Some.is, refl); place = refl }

pub returns-then-place-listing : goal.returns-then-place-listing
returns-then-place-listing g c =
    let s = c.args.self.now in
    let m = g.B.Bank.meaning c.args.bank.now in
    let f = g.F.Filter.filtered c.args.filter.now in
    let b = c.args.budget in
    let k = not-true (eqb b 0 || ltb 1000000 b) (sym c.if-not-is_budget.ensures) in
    let e = opened s _ c.in-Some.listing _ _ _ c.in-Some.is refl (next_short c.in-Some.listing m f b (length c.args.place.now) k c.if-place-listing.true) in
    record { step = e; runs = next_runs s _ _ _ _ _ _ (g.B.Bank.lawful c.args.bank.now) e; walks = tt; meaning = refl; refused = (same_listing s _ c.in-Some.is, refl); place = refl }

pub returns-then-has_misfit : goal.returns-then-has_misfit
returns-then-has_misfit g c =
    let s = c.args.self.now in
    let m = g.B.Bank.meaning c.args.bank.now in
    let f = g.F.Filter.filtered c.args.filter.now in
    let b = c.args.budget in
    let k = not-true (eqb b 0 || ltb 1000000 b) (sym c.if-not-is_budget.ensures) in
    let e = opened s _ c.in-Some.listing _ _ _ c.in-Some.is refl (next_misfit c.in-Some.listing m f b (length c.args.place.now) k c.if-place-listing.false (sym c.if-has_misfit.ensures)) in
    record { step = e; runs = next_runs s _ _ _ _ _ _ (g.B.Bank.lawful c.args.bank.now) e; walks = tt; meaning = refl; refused = (same_listing s _ c.in-Some.is, refl); place = refl }

pub returns-in-Plan : goal.returns-in-Plan
returns-in-Plan g c =
    let s = c.args.self.now in
    let q = c.in-Some.listing in
    let t = c.go_on-outcome.new.self in
    let o = c.go_on-outcome.result.0 in
    let w = c.go_on-outcome.ensures.walk in
    let place = c.write_plan.new.place in
    let written : take q.blocks place ≡ take q.blocks t.path = ap (λ i. take i place) (sym w.blocks) ∙ c.write_plan.ensures.front ∙ ap (λ i. take i t.path) w.blocks in
    let a = accepted s q t c.in-Some.is _ _ c.args.budget o _ place (g.B.Bank.lawful c.args.bank.now) _ (not-true _ (sym c.if-not-is_budget.ensures)) c.if-place-listing.false (sym c.if-has_misfit.ensures) w (λ _. written) in
    record {
      step = a.0;
      runs = a.1;
      walks = a.2;
      meaning = c.go_on-outcome.ensures.meaning;
      refused = tt;
      place = subst (λ z. PlaceAt (outcome_named o) (blocks_in z) (last_of t) c.args.place.now place) (sym c.in-Some.is)
          (filled_place q t _ _ c.args.budget o _ w c.in-Plan.is c.args.place.now place written (ap (λ i. drop i place) (sym w.blocks) ∙ c.write_plan.ensures.back ∙ ap (λ i. drop i c.args.place.now) w.blocks));
    }

pub returns-in_default-outcome : goal.returns-in_default-outcome
returns-in_default-outcome g c =
    let s = c.args.self.now in
    let t = c.go_on-outcome.new.self in
    let o = c.go_on-outcome.result.0 in
    let place = c.args.place.now in
    let a = accepted s c.in-Some.listing t c.in-Some.is _ _ c.args.budget o _ place (g.B.Bank.lawful c.args.bank.now) _ (not-true _ (sym c.if-not-is_budget.ensures)) c.if-place-listing.false (sym c.if-has_misfit.ensures)
    c.go_on-outcome.ensures.walk (λ p. absurd (c.in_default-outcome.not-Plan (named_plan o p))) in
    record { step = a.0; runs = a.1; walks = a.2; meaning = c.go_on-outcome.ensures.meaning; refused = tt; place = kept_place o _ (last_of t) place c.in_default-outcome.not-Plan }
