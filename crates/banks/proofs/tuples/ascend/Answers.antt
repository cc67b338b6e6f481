use Rattle.std.proofs.Common.{rules}
use borrow.Author.Tests.{tests}
use Rattle.banks.proofs.Chains.{chunks_road, sorted_answers}
use Rattle.banks.proofs.tuples.ascend.Goals as goal

pub returns : goal.returns
returns c = sorted_answers _ (λ y. y.now) _ (λ x y b q k. search (rules, tests)) _ c.chunks_exact.result _ c.is_sorted_by.ensures.ran (chunks_road c.args.arity c.args.cells.now c.requires c.chunks_exact.ensures.rest c.chunks_exact.ensures.size)
