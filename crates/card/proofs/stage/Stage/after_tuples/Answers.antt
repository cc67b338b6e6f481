use Rattle.std.proofs.lemmas.Result.{err_from_is_err_and}
use Rattle.card.proofs.Tupling.{tuples_go, tuples_stop}
use Rattle.card.proofs.stage.Stage.after_tuples.Goals as goal

pub returns-in_err-tuples : goal.returns-in_err-tuples
returns-in_err-tuples c = λ q blocks s_is scope-is.
    let p = err_from_is_err_and c.from_residual.result c.from_residual.ensures.1 in
    rw (p.1, p.2) (tuples_stop c.args.self q c.args.more c.args.kind blocks c.args.value.now s_is c.requires c.in_err-tuples.field-0.0 c.in_err-tuples.ensures)

pub returns : goal.returns
returns c = λ q blocks s_is scope-is.
    tuples_go c.args.self q c.args.more c.args.kind blocks c.args.value.now s_is c.requires c.in_ok-tuples.tuples c.tuple_or_next-next.result c.args.scope
    c.empty.result c.then.result c.in_ok-tuples.ensures scope-is c.empty.ensures c.tuple_or_next-next.ensures c.then.ensures
