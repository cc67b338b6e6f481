use Rattle.std.proofs.Common.{length, ap, ◌∙◌, arith}
use Rattle.listing.specs.ToCome.{models, width}
use Rattle.listing.proofs.Records.{as_many_masks}
use Rattle.listing.proofs.StackRows.{lawful_at}
use Rattle.listing.proofs.Stacking.{stack_low}
use Rattle.listing.proofs.listing.Listing.go_on.Goals as goal

pub invariant_of-self : goal.invariant_of-self
invariant_of-self g c =
    let s = c.args.self.now in
    let u = c.visit_nodes-outcome.new.self in
    let n = c.visit_nodes-outcome.ensures.walked.wide ∙ c.go_past.ensures.wide ∙ ap (λ r. length r.opened) c.root.ensures ∙ as_many_masks s in
    let low = stack_low (width (models u.rows)) (models u.rows) u.depth (lawful_at u.rows u.depth) u.stacked in
    record { few = s.few; sized = s.sized; lawful = s.lawful; deep = omega (arith, low, n); room = u.room; slotted = u.slotted }
