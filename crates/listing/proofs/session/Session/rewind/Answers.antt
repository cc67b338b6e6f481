use Rattle.std.proofs.Common.{refl}
use Rattle.listing.proofs.Pinning.{rewind_accepted}
use Rattle.listing.proofs.RunsFrom.{rewind_runs}
use Rattle.listing.proofs.Sessions.{none_unless, opened, unopened_refused}
use Rattle.listing.proofs.session.Session.rewind.Goals as goal

pub returns-in_default : goal.returns-in_default
returns-in_default c =
    let s = c.args.self.now in
    let e = unopened_refused s _ 5 (none_unless s.listing c.in_default.not-Some) refl in
    record { step = e; runs = rewind_runs s s _ e; refused = refl }

pub returns : goal.returns
returns c =
    let s = c.args.self.now in
    let e = opened s _ c.in-Some.listing _ _ _ c.in-Some.is refl (rewind_accepted c.in-Some.listing _ refl refl) in
    record { step = e; runs = rewind_runs s _ _ e; refused = tt }
