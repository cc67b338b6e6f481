use Rattle.std.proofs.Common.{◌≡◌, true, ◌&&◌, ltb, get_or, sym, refl, arith}
use mathlib.Core.Logic.{∥∥₁_map}
use Rattle.std.proofs.lemmas.Bool.{and_from, and_parts, lt-ltb, ltb-true}
use Rattle.network.specs.Sheets.{has}
use Rattle.listing.proofs.Pinning.{pin_accepted, pin_twice, pinnable}
use Rattle.listing.proofs.Records.{no_record, pinned_lawful, pinned_size}
use Rattle.listing.proofs.listing.Listing.pin.Goals as goal

pub returns-then-is_some-clause-step : goal.returns-then-is_some-clause-step
returns-then-is_some-clause-step c =
    let s = c.args.self.now in
    let b = c.args.block in
    let k = c.args.slot in
    let m = has (get_or s.records b no_record).opened k in
    let f : pinnable s b k ≡ true = and_from (ltb b s.blocks) (ltb k 32 && m) (lt-ltb b s.blocks c.if-block-self.false) (sym c.if-not-has_slot.ensures) in
    pin_twice s b k f (sym c.if-is_some.ensures)

pub invariant_of-self : goal.invariant_of-self
invariant_of-self c =
    let s = c.args.self.now in
    let b = c.args.block in
    let k = c.args.slot in
    let m = has (get_or s.records b no_record).opened k in
    let f = and_parts (ltb k 32) m (sym c.if-not-has_slot.ensures) in record {
      few = s.few;
      sized = pinned_size s.records s.blocks b c.pin_at.new.self k c.pin_at.ensures s.sized;
      lawful = ∥∥₁_map s.lawful (pinned_lawful s.records s.blocks b c.pin_at.new.self k c.pin_at.ensures s.sized c.if-block-self.false (ltb-true k 32 f.0) f.1);
      deep = omega arith;
      room = omega arith;
      slotted = λ j l. absurd (omega arith);
    }

pub returns-clause-step : goal.returns-clause-step
returns-clause-step c =
    let s = c.args.self.now in
    let b = c.args.block in
    let k = c.args.slot in
    let m = has (get_or s.records b no_record).opened k in
    let f : pinnable s b k ≡ true = and_from (ltb b s.blocks) (ltb k 32 && m) (lt-ltb b s.blocks c.if-block-self.false) (sym c.if-not-has_slot.ensures) in
    pin_accepted s b k _ c.pin_at.new.self c.pin_at.ensures f (sym c.if-is_some.ensures) refl refl
