use Rattle.std.proofs.Common.{◌<◌, length, arith}
use Rattle.network.specs.RowModel.{model}
use Rattle.network.proofs.CodeKeeps.{lawful_code}
use Rattle.filters.proofs.Passing.{passed_as, passed_died, passed_more, passed_other, passed_same}
use Rattle.filters.proofs.passes.pass.Goals as goal
use Rattle.filters.proofs.passes.pass.Goals.{in-Narrowed, in-Unchanged}

pub loop-c-preserved-then-not-picks : goal.loop-c-preserved-then-not-picks
loop-c-preserved-then-not-picks g c =
    passed_other (lawful_code c.args.row.now) c.loop-c.invariant (omega (arith, c.count-c-end.ensures, c.loop-c-test.true)) c.if-not-picks.ensures

pub returns-in-Died : goal.returns-in-Died
returns-in-Died g c = record {
  row = passed_died (lawful_code c.args.row.now) c.loop-c.invariant (omega (arith, c.count-c-end.ensures, c.loop-c-test.true)) c.if-not-picks.ensures (model c.narrow.new.row)
      c.narrow.ensures.row c.in-Died.ensures.told;
  told = c.in-Died.ensures.told;
}

pub loop-c-preserved : goal.loop-c-preserved
loop-c-preserved g c =
    let lr = lawful_code c.args.row.now in
    let l : c.loop-c.c < length (g.B.Bank.meaning c.args.bank.now) = omega (arith, c.count-c-end.ensures, c.loop-c-test.true) in
    let q = model c.narrow.new.row in
    let e = c.if-not-picks.ensures in
    elim c.match-narrow.branch [
      | in-Unchanged w ↦ passed_as w.effect-is (passed_same lr c.loop-c.invariant l e q c.narrow.ensures.row w.in-Unchanged.ensures.told)
      | in-Narrowed w ↦ passed_as w.effect-is (passed_more lr c.loop-c.invariant l e q c.narrow.ensures.row w.in-Narrowed.ensures.told)
    ]
