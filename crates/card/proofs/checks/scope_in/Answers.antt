use Rattle.std.proofs.Common.{◌≡◌, ◌-◌, true, false, eqb, ltb, take, subst, arith}
use Rattle.std.specs.List.{list_all}
use Rattle.network.specs.Sheets.{is_distinct}
use Rattle.card.proofs.Checking.{scope_good, scope_out, scope_twice}
use Rattle.card.proofs.checks.scope_in.Goals as goal

pub returns-then-not-all_below : goal.returns-then-not-all_below
returns-then-not-all_below c =
    let l = c.in-Some.list in
    let read = c.in-Some.ensures in
    let e : l.count - 0 ≡ l.count = omega arith in
    scope_out c.args.value.now l read.1 c.args.blocks (omega arith) read.0 (omega arith) (omega arith)
    (subst (λ k. false ≡ list_all (λ x. ltb x c.args.blocks) (take k l.numbers)) e c.if-not-all_below.ensures)

pub returns-then-not-all_distinct : goal.returns-then-not-all_distinct
returns-then-not-all_distinct c =
    let l = c.in-Some.list in
    let read = c.in-Some.ensures in
    let e : l.count - 0 ≡ l.count = omega arith in
    scope_twice c.args.value.now l read.1 c.args.blocks (omega arith) read.0 (omega arith) (omega arith)
    (subst (λ k. true ≡ list_all (λ x. ltb x c.args.blocks) (take k l.numbers)) e c.if-not-all_below.ensures)
    (subst (λ k. false ≡ is_distinct eqb (take k l.numbers)) e c.if-not-all_distinct.ensures)

pub returns : goal.returns
returns c =
    let l = c.in-Some.list in
    let read = c.in-Some.ensures in
    let e : l.count - 0 ≡ l.count = omega arith in
    scope_good c.args.value.now l read.1 c.args.blocks (omega arith) read.0 (omega arith) (omega arith)
    (subst (λ k. true ≡ list_all (λ x. ltb x c.args.blocks) (take k l.numbers)) e c.if-not-all_below.ensures)
    (subst (λ k. true ≡ is_distinct eqb (take k l.numbers)) e c.if-not-all_distinct.ensures)
