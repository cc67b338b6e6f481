use Rattle.std.proofs.Common.{eqb, sym, ap, ◌∙◌}
use Rattle.network.specs.Sheets.{choices, is_distinct, some_pass}
use Rattle.banks.specs.Rules.{allowed_by, free}
use Rattle.banks.proofs.Free.{free_none}
use Rattle.banks.proofs.SomePass.{some_same}
use Rattle.banks.proofs.rule.RuleRecordRecord.allows_some.Goals as goal

pub returns-in-AllDiff : goal.returns-in-AllDiff
returns-in-AllDiff c =
    let ms = c.args.masks.now in
    c.some_distinct.ensures ∙ some_same (free 0) (is_distinct eqb) (choices ms) (λ t _. free_none t) ∙ ap (λ x. some_pass (allowed_by x) (choices ms)) (sym c.in-AllDiff.is)
