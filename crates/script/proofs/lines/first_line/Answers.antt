use Rattle.std.proofs.Common.{◌≡◌, None, Some, rules, sym, subst}
use Rattle.card.specs.Parts.{CutAt}
use Rattle.card.proofs.Cuts.{lines_whole}
use Rattle.script.specs.Serving.{FirstLine}
use Rattle.script.proofs.Cutting.{cut_off}
use Rattle.script.proofs.lines.first_line.Goals as goal

pub returns-in_err-end : goal.returns-in_err-end
returns-in_err-end c =
    let text = c.args.text.now in
    let none : c.from_residual.result ≡ None = search rules in
    let whole : c.place_of.result ≡ None = search rules in
    subst (FirstLine text) (sym none) (lines_whole text (subst (CutAt 10 text) whole c.place_of.ensures))

pub returns : goal.returns
returns c =
    let text = c.args.text.now in
    let is : c.place_of.result ≡ Some c.in_ok-end.end = search rules in
    cut_off text c.in_ok-end.end (subst (CutAt 10 text) is c.place_of.ensures)
