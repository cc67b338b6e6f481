use Rattle.std.proofs.Common.{◌≡◌, ◌-◌, true, false, ltb, take, subst, arith}
use Rattle.std.specs.List.{list_all}
use Rattle.network.specs.Tree.{precedes}
use Rattle.card.proofs.Checking.{tuple_good, tuple_late, tuple_out}
use Rattle.card.proofs.checks.tuple_in.Goals as goal

pub returns-then-not-all_below : goal.returns-then-not-all_below
returns-then-not-all_below c =
    let l = c.in-Some.list in
    let read = c.in-Some.ensures in
    let e : c.args.arity - 0 ≡ c.args.arity = omega arith in
    tuple_out c.args.value.now l read.1 c.args.arity c.args.last.now read.0 (omega arith) (omega arith)
    (subst (λ k. false ≡ list_all (λ x. ltb x 32) (take k l.numbers)) e c.if-not-all_below.ensures)

pub returns-then-not-comes_before : goal.returns-then-not-comes_before
returns-then-not-comes_before c =
    let l = c.in-Some.list in
    let read = c.in-Some.ensures in
    let e : c.args.arity - 0 ≡ c.args.arity = omega arith in
    tuple_late c.args.value.now l read.1 c.args.arity c.args.last.now read.0 (omega arith) (omega arith)
    (subst (λ k. true ≡ list_all (λ x. ltb x 32) (take k l.numbers)) e c.if-not-all_below.ensures)
    (subst (λ k. false ≡ precedes c.args.last.now (take k l.numbers)) e c.if-not-comes_before.ensures)

pub returns : goal.returns
returns c =
    let l = c.in-Some.list in
    let read = c.in-Some.ensures in
    let e : c.args.arity - 0 ≡ c.args.arity = omega arith in
    tuple_good c.args.value.now l read.1 c.args.arity c.args.last.now read.0 (omega arith) (omega arith)
    (subst (λ k. true ≡ list_all (λ x. ltb x 32) (take k l.numbers)) e c.if-not-all_below.ensures)
    (subst (λ k. true ≡ precedes c.args.last.now (take k l.numbers)) e c.if-not-comes_before.ensures)
