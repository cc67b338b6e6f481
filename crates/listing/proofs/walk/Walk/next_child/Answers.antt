use Rattle.std.proofs.Common.{◌-◌, sym, ap, ◌∙◌, arith}
use Rattle.network.specs.Offers.{first_of, slots_from}
use Rattle.network.specs.Rows.{next_mask}
use Rattle.network.proofs.SlotsFrom.{first_here}
use Rattle.listing.specs.ToCome.{models, row_at, width}
use Rattle.listing.proofs.Advance.{at_first, go_up}
use Rattle.listing.proofs.Stacking.{child_of}
use Rattle.listing.proofs.StackRows.{lawful_at, read}
use Rattle.listing.proofs.walk.Walk.next_child.Goals as goal

pub returns-in-Some : goal.returns-in-Some
returns-in-Some c =
    let w = c.args.self.now in
    let rs = models w.rows in
    let k = c.loop-slot.depth in
    let a = c.loop-slot.from in
    let v = c.loop-slot.invariant in
    let e = ap (λ r. first_of (slots_from (next_mask r) a)) (sym (read w.rows k c.index-self-depth.result (omega (arith, v.0, w.deep)))) ∙ sym c.in-Some.ensures in
    let i = first_here (next_mask (row_at rs k)) a c.in-Some.slot v.1 e in
    record { child = child_of (width rs) rs w.depth k c.in-Some.slot (lawful_at w.rows k) w.stacked v.0 i.1 i.2; same = λ f n. v.2 f n ∙ at_first f n rs w.path k a c.in-Some.slot v.1 e }

pub loop-slot-preserved : goal.loop-slot-preserved
loop-slot-preserved c =
    let w = c.args.self.now in
    let k = c.loop-slot.depth in
    let a = c.loop-slot.from in
    let v = c.loop-slot.invariant in (
      omega (arith, v.0),
      omega (arith, w.slotted (k - 1) (omega (arith, v.0, c.if-depth-eq0.false))),
      λ f n. v.2 f n ∙ go_up f n (models w.rows) w.path k a c.if-depth-eq0.false
          (ap (λ r. first_of (slots_from (next_mask r) a)) (sym (read w.rows k c.index-self-depth.result (omega (arith, v.0, w.deep)))) ∙ sym c.in_default.ensures),
    )
