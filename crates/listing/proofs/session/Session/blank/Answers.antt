use Rattle.listing.specs.Example.{worked_listings}
use Rattle.listing.proofs.session.Session.blank.Goals as goal

pub returns-clause-example : goal.returns-clause-example
returns-clause-example c = ∣ worked_listings ∣₁
