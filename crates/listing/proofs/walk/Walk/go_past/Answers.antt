use Rattle.std.proofs.Common.{◌≡◌, suc, set, length, get_or, sym, ap, ◌∙◌, add-one, arith}
use Rattle.network.specs.Filters.{Filtering}
use Rattle.network.specs.Rows.{decide}
use Rattle.listing.specs.ToCome.{models, row_at, width}
use Rattle.listing.proofs.Rebuilding.{go_on, stop_all, stop_part}
use Rattle.listing.proofs.StackRows.{has_read, lawful_at}
use Rattle.listing.proofs.Stacking.{child_of}
use Rattle.listing.proofs.walk.Walk.go_past.Goals as goal

pub returns-then-not-offers-clause-left : goal.returns-then-not-offers-clause-left
returns-then-not-offers-clause-left g c =
    let w = c.loop-slot.self in
    let v = c.loop-slot.invariant in
    let last = c.args.last.now in
    let s = get_or last c.loop-slot.slot-index 0 in
    let deep : length w.rows ≡ 33 = omega arith in
    stop_part _ (row_at (models c.args.self.now.rows) 0) last w v.3 c.requires.long (omega (arith, v.1, c.loop-slot-test.true)) s (ap (λ k. get_or last k 0) (sym v.1)) (c.requires.slots c.loop-slot.slot-index c.loop-slot-test.true)
    (has_read w.rows w.depth c.index-self-depth.result s _ (omega (arith, deep, w.deep)) (c.requires.slots c.loop-slot.slot-index c.loop-slot-test.true) c.if-not-offers.ensures)

pub descend-requires : goal.descend-requires
descend-requires g c =
    let w = c.loop-slot.self in
    let s = get_or c.args.last.now c.loop-slot.slot-index 0 in
    let deep : length w.rows ≡ 33 = omega arith in
    child_of (width (models w.rows)) (models w.rows) w.depth w.depth s (lawful_at w.rows w.depth) w.stacked (omega arith) (c.requires.slots c.loop-slot.slot-index c.loop-slot-test.true)
    (has_read w.rows w.depth c.index-self-depth.result s _ (omega (arith, deep, w.deep)) (c.requires.slots c.loop-slot.slot-index c.loop-slot-test.true) c.if-not-offers.ensures)

pub loop-slot-preserved : goal.loop-slot-preserved
loop-slot-preserved g c =
    let w = c.loop-slot.self in
    let v = c.loop-slot.invariant in
    let last = c.args.last.now in
    let s = get_or last c.loop-slot.slot-index 0 in
    let m = g.B.Bank.meaning c.args.bank.now in
    let deep : length w.rows ≡ 33 = omega arith in
    let way : length w.path ≡ 32 = omega arith in
    let few = (lawful_at c.args.self.now.rows 0).few in
    let e = c.descend.ensures in (
      e.meaning ∙ v.0,
      e.depth ∙ omega (arith, v.1, add-one c.loop-slot.slot-index),
      e.from,
      go_on _ (row_at (models c.args.self.now.rows) 0) last w v.3 c.requires.long (omega (arith, v.1, c.loop-slot-test.true)) s (ap (λ k. get_or last k 0) (sym v.1)) (c.requires.slots c.loop-slot.slot-index c.loop-slot-test.true)
          (omega (arith, deep, v.1, c.loop-slot-test.true, c.requires.long, few)) (omega (arith, way, v.1, c.loop-slot-test.true, c.requires.long, few))
          (has_read w.rows w.depth c.index-self-depth.result s _ (omega (arith, deep, w.deep)) (c.requires.slots c.loop-slot.slot-index c.loop-slot-test.true) c.if-not-offers.ensures)
          c.descend.new.self (e.rows ∙ ap (λ (H : Filtering). set (models w.rows) (suc w.depth) (H m (decide (row_at (models w.rows) w.depth) s))) v.0) e.path e.depth,
    )

pub returns-clause-left : goal.returns-clause-left
returns-clause-left g c =
    let v = c.loop-slot.invariant in
    stop_all _ (row_at (models c.args.self.now.rows) 0) c.args.last.now c.loop-slot.self v.3 c.requires.long (omega (arith, v.1, c.loop-slot-test.false, c.loop-slot.auto.slot-index-end)) v.2
