use Rattle.std.proofs.Common.{◌≡◌, ◌+◌, length, add-one, arith, length-set}
use Rattle.std.proofs.lemmas.List.{length-map}
use Rattle.network.specs.RowModel.{model}
use Rattle.listing.specs.ToCome.{models}
use Rattle.listing.proofs.StackRows.{descended, lawful_at}
use Rattle.listing.proofs.Stacking.{slotted_down, stacked_down}
use Rattle.listing.proofs.walk.Walk.descend.Goals as goal

pub invariant_of-self : goal.invariant_of-self
invariant_of-self g c =
    let w = c.args.self.now in
    let p = c.args.child in
    let F = g.F.Filter.filtered c.args.filter.now in
    let m = g.B.Bank.meaning c.args.bank.now in
    let long : length w.rows ≡ 33 = omega arith in
    let way : length w.path ≡ 32 = omega arith in
    let q = descended (F m) w.rows p.depth p.slot c.index-rows-depth.result c.index-rows-depth-3.result c.index-rows-depth-4.result c.decide.new.self c.apply.new.row c.decide.result
    (omega (arith, long, c.requires.low)) c.requires.slot c.requires.offered c.decide.ensures.offered c.decide.ensures.row c.apply.ensures.row in
    record {
      deep = omega (arith, c.requires.low);
      room = omega (arith, c.requires.low, way, length-set w.path p.depth p.slot);
      slot = omega arith;
      slotted = slotted_down w.path w.depth p.depth p.slot (p.depth + 1) c.requires.within (omega (arith, way, c.requires.low)) c.requires.slot (add-one p.depth) w.slotted;
      stacked =
          stacked_down F m (g.F.Filter.lawful c.args.filter.now) (g.B.Bank.lawful c.args.bank.now) (models w.rows) _ w.depth p.depth p.slot (p.depth + 1) c.requires (add-one p.depth)
          (lawful_at w.rows p.depth) (omega (arith, long, length-map w.rows model, c.requires.low)) w.stacked q;
    }

pub returns-clause-rows : goal.returns-clause-rows
returns-clause-rows g c =
    let w = c.args.self.now in
    let p = c.args.child in
    let F = g.F.Filter.filtered c.args.filter.now in
    let m = g.B.Bank.meaning c.args.bank.now in
    let long : length w.rows ≡ 33 = omega arith in
    descended (F m) w.rows p.depth p.slot c.index-rows-depth.result c.index-rows-depth-3.result c.index-rows-depth-4.result c.decide.new.self c.apply.new.row c.decide.result
    (omega (arith, long, c.requires.low)) c.requires.slot c.requires.offered c.decide.ensures.offered c.decide.ensures.row c.apply.ensures.row
