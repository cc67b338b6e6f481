use Rattle.std.proofs.Common.{◌≡◌, not, ◌&&◌, eqb, length, ap, ◌∙◌, arith}
use Rattle.std.proofs.lemmas.List.{length-map}
use Rattle.network.specs.Rows.{Row, dead}
use Rattle.network.specs.RowModel.{model}
use Rattle.listing.proofs.StackRows.{read}
use Rattle.listing.proofs.Visiting.{visited}
use Rattle.listing.proofs.walk.Walk.visit.Goals as goal

pub returns-clause-node : goal.returns-clause-node
returns-clause-node g c =
    let w = c.args.self.now in
    let v = c.descend.new.self in
    let p = c.args.child in
    let e = c.descend.ensures in
    let still : length v.rows ≡ 33 = omega arith in
    let way : length w.path ≡ 32 = omega arith in
    visited (g.F.Filter.filtered c.args.filter.now (g.B.Bank.meaning c.args.bank.now)) w v p.depth p.slot c.requires (omega (arith, still, length-map v.rows model, c.requires.child.low))
    (omega (arith, way, c.requires.child.low)) e.rows e.path e.depth e.from c.shows_plan.result
    (c.shows_plan.ensures ∙ ap (λ (r : Row). eqb r.decided (length r.opened) && not (dead r)) (read v.rows v.depth c.index-self-self.result (omega (arith, still, v.deep))))
