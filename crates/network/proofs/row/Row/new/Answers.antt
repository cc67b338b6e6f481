use Rattle.std.proofs.Common.{length, sym, ap, ◌∙◌, subst, arith}
use Rattle.std.proofs.lemmas.Bool.{both_ways}
use Rattle.std.proofs.lemmas.List.{take_at}
use Rattle.network.specs.Laws.{LawfulRow}
use Rattle.network.proofs.Made.{copied_row, lawful_stands, stand_lawful}
use Rattle.network.proofs.row.Row.new.Goals as goal

pub returns-then-not-may_stand : goal.returns-then-not-may_stand
returns-then-not-may_stand c lr = both_ways _ c.if-not-may_stand.true (c.may_stand.ensures.1 (lawful_stands lr))

pub invariant_of-result : goal.invariant_of-result
invariant_of-result c =
    let row = copied_row _ _ c.args.decided c.copy_from_slice.ensures.after c.copy_from_slice-2.ensures.after c.if-present-blocks.false in
    record {
      few = c.if-blocks-gt-BLOCKS.false;
      within = c.if-decided-blocks.false;
      sized = ap length (take_at c.copy_from_slice.new.self _ (length c.args.opened.now) (ap length c.copy_from_slice.ensures.after)) ∙ ap length c.copy_from_slice.ensures.after;
      lawful = ∣ subst LawfulRow (sym row) (stand_lawful c.if-blocks-gt-BLOCKS.false c.if-present-blocks.false c.if-decided-blocks.false
          (λ b. omega (arith, c.type_inv.opened b)) (λ b. omega (arith, c.type_inv.present b)) (c.may_stand.ensures.0 c.if-not-may_stand.false)) ∣₁;
    }
