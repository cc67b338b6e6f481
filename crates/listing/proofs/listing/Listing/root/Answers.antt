use Rattle.std.proofs.Common.{inl, inr, arith}
use Rattle.listing.proofs.RootMade.{root_made, root_row}
use Rattle.listing.proofs.listing.Listing.root.Goals as goal
use Rattle.listing.proofs.listing.Listing.root.Goals.{then-contains, else-contains}

pub unwrap-requires : goal.unwrap-requires
unwrap-requires c =
    let s = c.args.self.now in
    let m = root_made s c.loop-block.opened c.loop-block.present c.if-contains.present c.loop-block.block c.contains.result c.loop-block.invariant
    (omega (arith, c.loop-block-test.false, c.loop-block.auto.block-end, s.sized)) c.contains.ensures.value
    (elim c.if-contains.branch [ then-contains w ↦ inl (w.if-contains.true, w.present-is) | else-contains w ↦ inr (w.if-contains.false, w.present-is) ]) in
    (root_row s _ c.new.result m c.new.ensures).0

pub returns : goal.returns
returns c =
    let s = c.args.self.now in
    let m = root_made s c.loop-block.opened c.loop-block.present c.if-contains.present c.loop-block.block c.contains.result c.loop-block.invariant
    (omega (arith, c.loop-block-test.false, c.loop-block.auto.block-end, s.sized)) c.contains.ensures.value
    (elim c.if-contains.branch [ then-contains w ↦ inl (w.if-contains.true, w.present-is) | else-contains w ↦ inr (w.if-contains.false, w.present-is) ]) in
    (root_row s _ c.new.result m c.new.ensures).1 c.unwrap.result c.unwrap.ensures
