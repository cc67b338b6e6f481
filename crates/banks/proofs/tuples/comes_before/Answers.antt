use Rattle.std.proofs.Common.{sym, ◌∙◌, arith}
use Rattle.banks.proofs.Before.{before_end, before_here, before_later}
use Rattle.banks.proofs.tuples.comes_before.Goals as goal

pub returns-then-a-q : goal.returns-then-a-q
returns-then-a-q c =
    before_here c.args.a.now c.args.b.now c.loop-q.q c.loop-q.invariant.2 (omega (arith, c.min-q-end.ensures, c.loop-q-test.true)) (omega (arith, c.min-q-end.ensures, c.loop-q-test.true))
    c.if-a-q.true

pub loop-q-preserved : goal.loop-q-preserved
loop-q-preserved c = (
  omega (arith, c.min-q-end.ensures, c.loop-q-test.true),
  omega (arith, c.min-q-end.ensures, c.loop-q-test.true),
  before_later c.args.a.now c.args.b.now c.loop-q.q c.loop-q.invariant.2 (omega (arith, c.min-q-end.ensures, c.loop-q-test.true)) (omega (arith, c.min-q-end.ensures, c.loop-q-test.true))
      c.if-a-q.false,
)

pub returns : goal.returns
returns c =
    sym (before_end c.args.a.now c.args.b.now c.loop-q.q c.loop-q.invariant.0 c.loop-q.invariant.1 (omega (arith, c.min-q-end.ensures, c.loop-q-test.false))) ∙ c.loop-q.invariant.2
