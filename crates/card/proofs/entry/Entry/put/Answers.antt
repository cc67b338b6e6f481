use Rattle.card.proofs.Putting.{put_mask, put_rule, put_table}
use Rattle.card.proofs.entry.Entry.put.Goals as goal

pub returns-in-Mask-clause-written : goal.returns-in-Mask-clause-written
returns-in-Mask-clause-written c m old is held = put_mask m old _ c.args.filled is held c.args.self c.requires.room c.in-Mask.mask c.in-Mask.is

pub returns-in-Table-clause-written : goal.returns-in-Table-clause-written
returns-in-Table-clause-written c m old is held =
    put_table m old _ c.args.filled is held c.args.self c.requires.room c.in-Table.kind c.in-Table.scope c.in-Table.tuples c.in-Table.is

pub returns-in-Rule-clause-written : goal.returns-in-Rule-clause-written
returns-in-Rule-clause-written c m old is held = put_rule m old _ c.args.filled is held c.args.self c.requires.room c.in-Rule.rule c.in-Rule.scope c.in-Rule.is
