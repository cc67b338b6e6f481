use Rattle.std.proofs.Common.{◌≡◌, ℕ, ◌<◌, true, ◌&&◌, ltb, sym, subst, arith}
use Rattle.std.proofs.lemmas.Bool.{and_parts, ltb-true}
use Rattle.network.specs.Sheets.{has}
use Rattle.network.specs.Rows.{next_mask}
use Rattle.network.specs.Laws.{LawfulRow}
use Rattle.network.specs.RowModel.{model}
use Rattle.network.specs.declared.row.Row.{Row as CodeRow}
use Rattle.network.proofs.CodeKeeps.{decided_code, decided_law, next_there}
use Rattle.network.proofs.row.Row.decide.Goals as goal

-- the slot is one of the next block's
offered : (r : CodeRow) (s : ℕ) → true ≡ (ltb s 32 && has (next_mask (model r)) s) → (s < 32) × (has (next_mask (model r)) s ≡ true)
offered r s e = let a = and_parts (ltb s 32) (has (next_mask (model r)) s) (sym e) in (ltb-true s 32 a.0, a.1)

pub invariant_of-self : goal.invariant_of-self
invariant_of-self c =
    let r = c.args.self.now in
    let o = offered r c.args.slot c.if-not-offers.ensures in
    let l = next_there r c.args.slot o.1 in
    record {
      few = r.few;
      within = omega (arith, l);
      sized = r.sized;
      lawful = ∣ subst LawfulRow (sym (decided_code r c.args.slot o.0)) (decided_law r c.args.slot o.0 o.1) ∣₁;
    }

pub returns : goal.returns
returns c =
    let r = c.args.self.now in
    let o = offered r c.args.slot c.if-not-offers.ensures in
    record { offered = c.if-not-offers.ensures; row = decided_code r c.args.slot o.0 }
