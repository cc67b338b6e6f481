use Rattle.std.proofs.Common.{length, sym, ap, ◌∙◌}
use Rattle.network.specs.Sheets.{choices, some_pass}
use Rattle.banks.specs.Tables.{allowed_in, cut}
use Rattle.banks.proofs.Counting.{allow_is, deny_is}
use Rattle.banks.proofs.Tupled.{climbs_ascend}
use Rattle.banks.proofs.table_search.Search.some_allowed.Goals as goal

pub returns-in-Allow : goal.returns-in-Allow
returns-in-Allow c =
    let ms = c.args.self.now.masks.now in
    let ts = cut (length ms) c.args.self.now.cells.now in
    c.is_some.ensures ∙ c.first_inside.ensures.some ∙ sym (allow_is ts ms)
    ∙ ap (λ k. some_pass (allowed_in k (length ms) ts) (choices ms)) (sym c.in-Allow.is)

pub returns-in-Deny : goal.returns-in-Deny
returns-in-Deny c =
    let ms = c.args.self.now.masks.now in
    let ts = cut (length ms) c.args.self.now.cells.now in
    c.fewer_inside.ensures ∙ sym (deny_is ts (climbs_ascend ts c.args.self.now.ascends) ms)
    ∙ ap (λ k. some_pass (allowed_in k (length ms) ts) (choices ms)) (sym c.in-Deny.is)
