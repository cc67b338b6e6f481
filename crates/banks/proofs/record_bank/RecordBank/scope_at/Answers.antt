use Rattle.std.proofs.Common.{sym, ap, ◌∙◌}
use Rattle.network.specs.Sheets.{Sheet}
use Rattle.banks.proofs.Recorded.{scope_few, scope_got}
use Rattle.banks.specs.SheetAt.{sheet_map_past}
use Rattle.banks.proofs.record_bank.RecordBank.scope_at.Goals as goal

pub scope-requires : goal.scope-requires
scope-requires g c =
    let R = g.R.Record in
    let b = c.args.self.now in
    let k = c.in-Some.ensures.lookup in
    scope_few (R.verdict b.cells.now) (R.sheet b.cells.now) R.scope (R.same_scope b.cells.now) (R.lawful b.cells.now) b.records.now b.ok c.args.c c.in-Some.line.now k.3.0 k.1

pub returns-in-Some : goal.returns-in-Some
returns-in-Some g c =
    let R = g.R.Record in
    let b = c.args.self.now in
    let k = c.in-Some.ensures.lookup in
    c.scope.ensures.value ∙ sym (scope_got (R.verdict b.cells.now) (R.sheet b.cells.now) R.scope (R.same_scope b.cells.now) (R.lawful b.cells.now) b.records.now b.ok c.args.c c.in-Some.line.now k.3.0 k.1)

pub returns-in-None : goal.returns-in-None
returns-in-None g c =
    let b = c.args.self.now in
    ap (λ (sh : Sheet). sh.scope) (sym (sheet_map_past (g.R.Record.sheet b.cells.now) b.records.now c.args.c c.in-None.ensures.lookup.3))
