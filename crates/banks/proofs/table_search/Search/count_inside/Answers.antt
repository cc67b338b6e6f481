use Rattle.std.proofs.Common.{◌≡◌, ℕ, List, ◌∙◌, rules, length}
use borrow.Author.Tests.{tests}
use Rattle.std.specs.List.{filter, list_all, zip}
use Rattle.std.proofs.lemmas.Iterator.Consumers.{YieldsList-from_filter, YieldsList-at, count_from_yields_List}
use Rattle.banks.specs.Tables.{cut, in_mask}
use Rattle.banks.proofs.Counting.{inside_count}
use Rattle.banks.proofs.Tupled.{cut_long}
use Rattle.banks.proofs.Chains.{chunks_road}
use Rattle.banks.proofs.table_search.Search.count_inside.Goals as goal

pub returns : goal.returns
returns c =
    let ms = c.args.self.now.masks.now in
    let test : List ℕ → _ = λ t. list_all in_mask (zip ms t) in
    let ts = cut (length ms) c.args.self.now.cells.now in
    let e : c.count.result ≡ length (filter test ts) = count_from_yields_List c.filter.result _ c.count.ensures.ran
    (YieldsList-from_filter _ test (YieldsList-at c.filter.ensures.source (chunks_road (length ms) c.args.self.now.cells.now c.args.self.now.low c.chunks_exact.ensures.rest c.chunks_exact.ensures.size)) c.filter.ensures.closure (λ x b q k. search (rules, tests))) in
    e ∙ inside_count ms ts (cut_long (length ms) c.args.self.now.cells.now)
