use Rattle.std.proofs.Common.{ap, ◌∙◌, arith, length-set}
use Rattle.std.proofs.lemmas.List.{map_more, take_more_set}
use Rattle.network.specs.RowModel.{model}
use Rattle.network.specs.Sheets.{sheet_at}
use Rattle.filters.specs.Readings.{mask_by}
use Rattle.filters.proofs.Scopes.{at_most_six}
use Rattle.filters.proofs.reading.Reading.masks.Goals as goal

pub offset_bounds-masks-p : goal.offset_bounds-masks-p
offset_bounds-masks-p g c =
    let six = at_most_six (g.B.Bank.meaning c.args.bank.now) (g.B.Bank.lawful c.args.bank.now) c.args.c in
    omega (arith, c.arity-p-end.ensures, c.loop-p-test.true)

pub bounds-masks-p : goal.bounds-masks-p
bounds-masks-p g c =
    let six = at_most_six (g.B.Bank.meaning c.args.bank.now) (g.B.Bank.lawful c.args.bank.now) c.args.c in
    omega (arith, c.arity-p-end.ensures, c.loop-p-test.true)

pub loop-p-preserved : goal.loop-p-preserved
loop-p-preserved g c =
    let six = at_most_six (g.B.Bank.meaning c.args.bank.now) (g.B.Bank.lawful c.args.bank.now) c.args.c in
    let xs = (sheet_at (g.B.Bank.meaning c.args.bank.now) c.args.c).scope in
    let p = c.loop-p.p in
    let f = mask_by c.args.self (model c.args.row.now) in
    let e = take_more_set c.loop-p.masks p c.mask.result (omega (arith, c.loop-p.invariant.0, c.arity-p-end.ensures, c.loop-p-test.true)) in
    let k = map_more f xs p 255 (omega (arith, c.arity-p-end.ensures, c.loop-p-test.true)) in
    let v = c.mask.ensures ∙ ap f c.block.ensures in
    (length-set c.loop-p.masks p c.mask.result ∙ c.loop-p.invariant.0, cc (e, k, v, c.loop-p.invariant.1))
