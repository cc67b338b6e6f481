use Rattle.std.proofs.Common.{rules}
use Rattle.script.proofs.Listing.{lists_along}
use Rattle.script.proofs.run.run.Goals as goal

pub returns-clause-plans : goal.returns-clause-plans
returns-clause-plans c = lists_along c.args.card.now c.args.commands.now _ (search rules)
