use Rattle.std.proofs.Common.{arith}
use Rattle.banks.specs.Accepted.{blocks_many}
use Rattle.banks.proofs.rule.RuleRecordRecord.check.Goals as goal

pub scope-scope-requires : goal.scope-scope-requires
scope-scope-requires c = let r = c.args.self.now in omega (arith, blocks_many r.arity r.blocks)
