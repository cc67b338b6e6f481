use Rattle.std.proofs.Common.{◌∙◌, subst}
use Rattle.listing.specs.Walked.{Visited}
use Rattle.listing.proofs.Walking.{finish_done, finish_plan, finish_spent, walk_on}
use Rattle.listing.proofs.walk.Walk.visit_nodes.Goals as goal

pub returns-clause-walked : goal.returns-clause-walked
returns-clause-walked g c =
    let f = g.F.Filter.filtered c.args.filter.now (g.B.Bank.meaning c.args.bank.now) in finish_done f _ _ _ c.loop-child.self c.loop-child.visits c.loop-child.invariant.1 (c.in_default.ensures f)

pub returns-then-visits-budget-clause-walked : goal.returns-then-visits-budget-clause-walked
returns-then-visits-budget-clause-walked g c =
    let p = c.in-Some.child in finish_spent _ _ _ _ c.loop-child.self c.loop-child.visits c.loop-child.invariant.1 c.if-visits-budget.true p.depth p.slot c.in-Some.ensures

pub returns-then-shows-clause-walked : goal.returns-then-shows-clause-walked
returns-then-shows-clause-walked g c =
    let w = c.loop-child.self in
    let t = c.visit-shows.new.self in
    let b = c.visit-shows.result in
    let k = subst (λ H. Visited (H (g.B.Bank.meaning c.args.bank.now)) w t b) c.loop-child.invariant.0 c.visit-shows.ensures.node in
    finish_plan _ _ _ _ w c.loop-child.visits c.loop-child.invariant.1 c.if-visits-budget.false t b k c.if-shows.true

pub loop-child-preserved : goal.loop-child-preserved
loop-child-preserved g c =
    let v = c.loop-child.invariant in
    let w = c.loop-child.self in
    let t = c.visit-shows.new.self in
    let b = c.visit-shows.result in
    let k = subst (λ H. Visited (H (g.B.Bank.meaning c.args.bank.now)) w t b) v.0 c.visit-shows.ensures.node in
    (c.visit-shows.ensures.meaning ∙ v.0, walk_on _ _ _ _ w c.loop-child.visits v.1 c.if-visits-budget.false t b k c.if-shows.false)
