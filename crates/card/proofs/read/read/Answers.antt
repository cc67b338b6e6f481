use Rattle.std.proofs.Common.{rules, ◌≡◌, Ok}
use Rattle.card.specs.Layout.{memory_in, sizes_of}
use Rattle.card.specs.Reads.{answer_for}
use Rattle.card.specs.Verdict.{verdict}
use Rattle.card.proofs.Accepting.{accepted_fits, accepted_holds}
use Rattle.card.proofs.read.read.Goals as goal

pub fill-requires-clause-room : goal.fill-requires-clause-room
fill-requires-clause-room c =
    let room = sizes_of (memory_in c.args.places.now) in
    let good : Ok c.in_ok-sizes.sizes ≡ answer_for (verdict c.args.card.now) room = search rules in
    accepted_fits (verdict c.args.card.now) c.in_ok-sizes.sizes room good

pub returns-clause-accepts : goal.returns-clause-accepts
returns-clause-accepts c = accepted_holds c.args.card.now (memory_in c.args.places.now) (memory_in c.fill.new.places) (Ok c.in_ok-sizes.sizes) (search rules) (search rules)
