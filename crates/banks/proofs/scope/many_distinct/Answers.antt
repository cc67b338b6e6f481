use Rattle.std.proofs.Common.{not, eqb, ◌&&◌, ◌-◌, length, take, drop, sym, ap, ◌∙◌}
use Rattle.network.specs.Sheets.{is_distinct}
use Rattle.banks.proofs.Loops.{distinct_step}
use Rattle.banks.proofs.scope.many_distinct.Goals as goal

pub returns-then-contains : goal.returns-then-contains
returns-then-contains c =
    let rest = c.loop-rest.rest.now in
    let after = take (length rest - 1) (drop 1 rest) in
    ap (λ b. not b && is_distinct eqb after) c.if-contains.ensures.value ∙ sym (distinct_step rest c.in-len1-up.len_at_least) ∙ c.loop-rest.invariant

pub loop-rest-preserved : goal.loop-rest-preserved
loop-rest-preserved c =
    let rest = c.loop-rest.rest.now in
    let after = take (length rest - 1) (drop 1 rest) in
    ap (λ b. not b && is_distinct eqb after) c.if-contains.ensures.value ∙ sym (distinct_step rest c.in-len1-up.len_at_least) ∙ c.loop-rest.invariant
