use Rattle.std.proofs.Common.{get_or, arith}
use Rattle.card.proofs.Capped.{digit_byte, more_digits, more_value}
use Rattle.card.proofs.number.with_digits.Goals as goal

pub loop-digit-preserved : goal.loop-digit-preserved
loop-digit-preserved c =
    let ds = c.args.digits.now in
    let i = c.loop-digit.digit-index in (
      omega arith,
      more_digits ds i (omega arith) c.loop-digit.invariant.1 (digit_byte (get_or ds i 0) (omega arith) (omega arith)),
      more_value ds i (omega arith) c.loop-digit.n c.min-n.result c.loop-digit.invariant.2 c.min-n.ensures,
    )
