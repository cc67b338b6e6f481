use Rattle.std.proofs.Common.{◌≡◌, ◌-◌, take, sym, ap, ◌∙◌, arith}
use Rattle.banks.specs.Accepted.{blocks_front}
use Rattle.banks.proofs.scope.scope_of.Goals as goal

pub returns : goal.returns
returns c =
    let e : c.args.arity - 0 ≡ c.args.arity = omega arith in
    ap (λ n. take n c.args.blocks.now) e ∙ sym (blocks_front c.args.arity c.args.blocks.now (omega arith))
