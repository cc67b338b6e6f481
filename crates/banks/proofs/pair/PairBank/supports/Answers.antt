use Rattle.std.proofs.Common.{[], sym, arith}
use Rattle.network.specs.Sheets.{sheet_at}
use Rattle.banks.specs.declared.place.Place.TheVariants.{First, Nowhere, Second}
use Rattle.banks.specs.SheetAt.{unsupported}
use Rattle.banks.proofs.Placed.{answered_at}
use Rattle.banks.proofs.pair.PairBank.supports.Goals as goal

pub returns-in-First : goal.returns-in-First
returns-in-First g c =
    let pair = c.args.self.now in
    let e = answered_at (g.A.Bank.meaning pair.first) (g.B.Bank.meaning pair.second) (g.A.Bank.lawful pair.first) (g.B.Bank.lawful pair.second) c.args.c c.args.masks.now (omega arith) c.args.p c.args.s
    (First c.in-First.c) _ c.in-First.ensures c.supports.ensures.test in
    record { test = e.0; support = e.1 }

pub returns-in-Second : goal.returns-in-Second
returns-in-Second g c =
    let pair = c.args.self.now in
    let e = answered_at (g.A.Bank.meaning pair.first) (g.B.Bank.meaning pair.second) (g.A.Bank.lawful pair.first) (g.B.Bank.lawful pair.second) c.args.c c.args.masks.now (omega arith) c.args.p c.args.s
    (Second c.in-Second.c) _ c.in-Second.ensures c.supports-in-Second.ensures.test in
    record { test = e.0; support = e.1 }

pub returns-in-Nowhere : goal.returns-in-Nowhere
returns-in-Nowhere g c =
    let pair = c.args.self.now in
    let e = answered_at (g.A.Bank.meaning pair.first) (g.B.Bank.meaning pair.second) (g.A.Bank.lawful pair.first) (g.B.Bank.lawful pair.second) c.args.c c.args.masks.now (omega arith) c.args.p c.args.s
    Nowhere _ c.in-Nowhere.ensures (sym (unsupported (sheet_at [] 0) c.args.masks.now c.args.p c.args.s (omega arith))) in
    record { test = e.0; support = e.1 }
