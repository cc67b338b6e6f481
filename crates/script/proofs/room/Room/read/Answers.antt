use Rattle.std.proofs.Common.{rules, ◌∙◌}
use Rattle.script.proofs.Enough.{enough}
use Rattle.script.proofs.room.Room.read.Goals as goal

pub returns-clause-judged : goal.returns-clause-judged
returns-clause-judged c = c.read.ensures.verdict ∙ enough c.args.card.now _ (search rules)
