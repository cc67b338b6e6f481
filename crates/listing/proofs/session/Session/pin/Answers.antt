use Rattle.std.proofs.Common.{refl}
use Rattle.listing.proofs.RunsFrom.{runs_from}
use Rattle.listing.proofs.Sessions.{none_unless, opened, same_session, unopened_refused}
use Rattle.listing.proofs.session.Session.pin.Goals as goal

pub returns-in_default : goal.returns-in_default
returns-in_default c =
    let s = c.args.self.now in
    let e = unopened_refused s _ 5 (none_unless s.listing c.in_default.not-Some) refl in
    record { step = e; runs = runs_from s s _ _ e; refused = refl }

pub returns : goal.returns
returns c =
    let s = c.args.self.now in
    let e = opened s _ c.in-Some.listing c.pin.new.self _ _ c.in-Some.is refl c.pin.ensures.step in
    record { step = e; runs = runs_from s _ _ _ e; refused = same_session c.pin.result s c.in-Some.listing c.pin.new.self c.in-Some.is c.pin.ensures.refused }
