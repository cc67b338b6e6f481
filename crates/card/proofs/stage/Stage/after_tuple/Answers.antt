use Rattle.std.proofs.Common.{◌≡◌, ◌-◌, take, Ok, Err, subst, arith}
use Rattle.std.proofs.lemmas.Result.{err_from_is_err_and}
use Rattle.card.specs.Checks.{tuple_checked}
use Rattle.card.proofs.Tupling.{tuple_goes, tuple_stops}
use Rattle.card.proofs.stage.Stage.after_tuple.Goals as goal

pub returns-in_err-tuple : goal.returns-in_err-tuple
returns-in_err-tuple c = λ q kind scope ts s_is arity-is last-is slots.
    let p = err_from_is_err_and c.from_residual.result c.from_residual.ensures.1 in
    let last = c.args.last in
    let few : last.count - 0 ≡ last.count = omega arith in
    rw (p.1, p.2)
    (tuple_stops c.args.self q c.args.more kind scope c.args.left ts c.args.value.now c.args.arity last s_is arity-is last-is slots (omega arith) c.in_err-tuple.field-0.0
    (subst (λ n. Err c.in_err-tuple.field-0.0 ≡ tuple_checked c.args.arity (take n last.numbers) c.args.value.now) few c.in_err-tuple.ensures))

pub returns : goal.returns
returns c = λ q kind scope ts s_is arity-is last-is slots.
    let last = c.args.last in
    let few : last.count - 0 ≡ last.count = omega arith in
    tuple_goes c.args.self q c.args.more kind scope c.args.left ts c.args.value.now c.args.arity last s_is arity-is last-is slots (omega arith) c.in_ok-tuple.tuple
    c.tuple_or_next-next.result c.then.result
    (subst (λ n. Ok c.in_ok-tuple.tuple ≡ tuple_checked c.args.arity (take n last.numbers) c.args.value.now) few c.in_ok-tuple.ensures) c.tuple_or_next-next.ensures
    c.then.ensures
