use Rattle.std.proofs.Common.{◌≡◌, ◌^◌, ◌≤◌, drop}
use Rattle.std.specs.List.{list_all}
use Rattle.card.specs.Parts.{capped}
use Rattle.card.specs.Verdict.{is_digit, value_from}
use Rattle.card.proofs.number.with_digits.Given as goal

abbrev pub invariant-loop-digit : goal.invariant-loop-digit
invariant-loop-digit l =
    (l.n ≤ 2 ^ 32)
    × (list_all is_digit (drop l.digit-index l.digits) ≡ list_all is_digit l.digits)
    × (capped (value_from l.n (drop l.digit-index l.digits)) ≡ capped (value_from l.first l.digits))
