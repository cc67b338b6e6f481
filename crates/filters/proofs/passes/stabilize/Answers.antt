use Rattle.std.proofs.Common.{◌∙◌}
use Rattle.network.proofs.CodeKeeps.{lawful_code}
use Rattle.filters.proofs.Passing.{settled_after, settles_after}
use Rattle.filters.proofs.passes.stabilize.Goals as goal

pub loop-preserved : goal.loop-preserved
loop-preserved g c = settles_after c.args.set (g.B.Bank.meaning c.args.bank.now) (lawful_code c.loop.row) c.pass.ensures.row ∙ c.loop.invariant

pub returns : goal.returns
returns g c =
    settled_after c.args.set (g.B.Bank.meaning c.args.bank.now) (lawful_code c.loop.row) c.pass.ensures.row c.pass.result c.pass.ensures.told c.in_default.not-Narrowed ∙ c.loop.invariant
