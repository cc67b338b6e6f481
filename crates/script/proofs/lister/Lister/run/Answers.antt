use Rattle.std.proofs.Common.{string_bytes, ◌∙◌}
use Rattle.script.specs.Transcript.{taken}
use Rattle.script.proofs.Taking.{one_line}
use Rattle.script.proofs.lister.Lister.run.Goals as goal

pub loop-line-preserved : goal.loop-line-preserved
loop-line-preserved g c f st serves =
    let m = g.B.Bank.meaning c.args.bank.now in
    let (now, stands, printed) = c.loop-line.invariant f st serves in
    let said = c.in_ok-take_line.ensures f now stands in
    let line = c.in-Some.line.now in (
      (taken m f now line).state,
      said.0,
      one_line m f now (string_bytes c.loop-line.out) (string_bytes c.take_line.new.out) c.loop-line.rest.now line c.in-Some.more.now c.in-Some.ensures.0 said.1 ∙ printed,
    )
