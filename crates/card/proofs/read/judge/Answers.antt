use Rattle.std.proofs.Common.{rules}
use Rattle.card.specs.Verdict.{nothing_read}
use Rattle.card.proofs.Coming.{first_at, first_ready}
use Rattle.card.proofs.Turns.{first_counted}
use Rattle.card.proofs.read.judge.Goals as goal

pub loop-entry-init : goal.loop-entry-init
loop-entry-init c =
    let card = c.args.card.now in
    let r = c.new-reader.result in
    let is = c.new-reader.ensures in (
      nothing_read,
      first_counted card r c.default-sizes.result (first_ready card r c.if-card-gt-MAX_BYTES.false is.rest is.start is.line is.stage)
          (first_at card r c.if-card-gt-MAX_BYTES.false is.rest is.start is.line is.stage) (search rules),
    )
