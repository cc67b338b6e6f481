use Rattle.std.proofs.Common.{sym, subst}
use Rattle.network.specs.Laws.{LawfulRow}
use Rattle.network.proofs.CodeKeeps.{kept_none, kept_past, kept_some, lawful_code}
use Rattle.network.proofs.Keeping.{keep_lawful}
use Rattle.network.proofs.row.Row.keep.Goals as goal

pub returns-then-block-self : goal.returns-then-block-self
returns-then-block-self c = kept_past c.args.self.now c.args.block c.args.mask c.if-block-self.true

pub way_repeat-self : goal.way_repeat-self
way_repeat-self c =
    let r = c.args.self.now in
    let l = keep_lawful (lawful_code r) c.args.block c.args.mask in
    (r.few, (r.within, (r.sized, (∣ subst LawfulRow (sym (kept_none r c.args.block c.args.mask c.if-block-self.false c.if-left-eq0.true)) l ∣₁, tt))))

pub invariant_of-self : goal.invariant_of-self
invariant_of-self c =
    let r = c.args.self.now in
    let l = keep_lawful (lawful_code r) c.args.block c.args.mask in
    record {
      few = r.few;
      within = r.within;
      sized = r.sized;
      lawful = ∣ subst LawfulRow (sym (kept_some r c.args.block c.args.mask c.if-block-self.false c.if-left-eq0.false)) l ∣₁;
    }

pub returns-then-left-eq0 : goal.returns-then-left-eq0
returns-then-left-eq0 c = kept_none c.args.self.now c.args.block c.args.mask c.if-block-self.false c.if-left-eq0.true

pub returns-else-left-eq0 : goal.returns-else-left-eq0
returns-else-left-eq0 c = kept_some c.args.self.now c.args.block c.args.mask c.if-block-self.false c.if-left-eq0.false
