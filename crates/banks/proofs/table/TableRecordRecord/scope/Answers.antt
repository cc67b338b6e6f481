use Rattle.std.proofs.Common.{arith}
use Rattle.banks.specs.Accepted.{blocks_many}
use Rattle.banks.proofs.table.TableRecordRecord.scope.Goals as goal

pub scope_of-requires : goal.scope_of-requires
scope_of-requires c = let r = c.args.self.now in omega (arith, blocks_many r.arity r.blocks, c.requires)
