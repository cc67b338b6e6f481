use Rattle.std.proofs.Common.{arith, ◌≡◌, ◌+◌, Err, subst, rules, sym, refl, ap, ◌∙◌}
use Rattle.std.proofs.lemmas.List.{take_rest}
use Rattle.card.specs.Filling.{ReadsOn}
use Rattle.card.specs.Steps.{at_line}
use Rattle.card.proofs.Coming.{ends_card, one_line, refused_line}
use Rattle.card.proofs.reader.Reader.next_entry.Goals as goal

pub returns-in_default : goal.returns-in_default
returns-in_default c card q stands = ends_card card c.args.self.now q stands c.in_default.ensures c.end.result c.end.ensures

pub returns-in_err-step : goal.returns-in_err-step
returns-in_err-step c card q stands =
    let r = c.args.self.now in
    let rest = r.rest.now in
    let i = c.in-Some.end in
    let e = c.in_err-step.field-0.0 in
    let same : c.from_residual.result ≡ Err e = search rules in
    subst (ReadsOn card r q r) (sym same) (refused_line card r q stands i c.in-Some.ensures e (c.in_err-step.ensures ∙ ap (at_line r.line) (c.step_over.ensures q stands.solid.slots stands.stage)))

pub returns : goal.returns
returns c card q stands =
    let r = c.args.self.now in
    let rest = r.rest.now in
    let i = c.in-Some.end in
    one_line card r q stands i c.in-Some.ensures c.in_ok-step.step _ c.requires (c.in_ok-step.ensures ∙ ap (at_line r.line) (c.step_over.ensures q stands.solid.slots stands.stage)) refl refl (take_rest rest (i + 1)) (omega arith)
