use Rattle.std.proofs.Common.{sym, refl, subst, arith}
use Rattle.network.specs.RowModel.{model}
use Rattle.network.proofs.CodeKeeps.{lawful_code}
use Rattle.filters.specs.Nfcs.{LeavesLargest, filter_of}
use Rattle.filters.proofs.Applied.{fifth_leaves, leaves_largest, third_leaves}
use Rattle.filters.proofs.nfc.NfcFilter.apply.Goals as goal

pub returns-in-Nfc3 : goal.returns-in-Nfc3
returns-in-Nfc3 g c =
    let m = g.B.Bank.meaning c.args.bank.now in
    let r = model c.args.row.now in
    let e = third_leaves c.args.self.now m r (model c.stabilize.new.row) c.in-Nfc3.is (omega (arith, c.decided.ensures, c.if-decided-eq0.false)) (sym c.if-is_dead.ensures) c.stabilize.ensures in
    record { row = e; meaning = refl {a = filter_of c.args.self.now}; largest = subst (LeavesLargest c.args.self.now m r) (sym e) (leaves_largest c.args.self.now m r (lawful_code c.args.row.now)) }

pub returns-in-Nfc5 : goal.returns-in-Nfc5
returns-in-Nfc5 g c =
    let m = g.B.Bank.meaning c.args.bank.now in
    let r = model c.args.row.now in
    let e = fifth_leaves c.args.self.now m r (model c.stabilize-in-Nfc5.new.row) c.in-Nfc5.is (omega (arith, c.decided.ensures, c.if-decided-eq0.false)) (sym c.if-is_dead.ensures) c.stabilize-in-Nfc5.ensures in
    record { row = e; meaning = refl {a = filter_of c.args.self.now}; largest = subst (LeavesLargest c.args.self.now m r) (sym e) (leaves_largest c.args.self.now m r (lawful_code c.args.row.now)) }
