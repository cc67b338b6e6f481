use Rattle.std.proofs.Common.{◌≡◌, ◌≤◌, length, ap, ap₂, ◌∙◌, arith}
use Rattle.network.specs.Sheets.{choices, some_pass}
use Rattle.banks.specs.Accepted.{blocks_many, sizes}
use Rattle.banks.specs.Tables.{allowed_in, climbs, cut}
use Rattle.banks.specs.TablesHold.{table_accepted}
use Rattle.banks.proofs.Tupled.{part_cut}
use Rattle.banks.proofs.table.TableRecordRecord.allows_some.Goals as goal

pub invariant_of-search : goal.invariant_of-search
invariant_of-search c =
    let r = c.args.self.now in
    let f = table_accepted c.args.cells.now r c.requires.accepted in
    let n : length c.args.masks.now ≡ r.arity = c.requires.sized ∙ blocks_many r.arity r.blocks in
    let low : 1 ≤ r.arity = omega (arith, (sizes r.arity f.size).0) in
    record {
      low = omega arith;
      high = omega (arith, f.narrow);
      ascends = ap₂ (λ k xs. climbs (cut k xs)) n c.part.ensures ∙ ap climbs (part_cut c.args.cells.now r low f.there) ∙ f.ascends;
    }

pub returns : goal.returns
returns c =
    let r = c.args.self.now in
    let ms = c.args.masks.now in
    let f = table_accepted c.args.cells.now r c.requires.accepted in
    c.some_allowed.ensures ∙ ap₂ (λ k xs. some_pass (allowed_in r.kind k (cut k xs)) (choices ms)) (c.requires.sized ∙ blocks_many r.arity r.blocks) c.part.ensures
    ∙ ap (λ ts. some_pass (allowed_in r.kind r.arity ts) (choices ms)) (part_cut c.args.cells.now r (omega (arith, (sizes r.arity f.size).0)) f.there)
