use Rattle.std.proofs.Common.{length, ap, ◌∙◌, arith}
use Rattle.std.proofs.lemmas.List.{length-map}
use Rattle.listing.specs.Records.{unpinned}
use Rattle.listing.proofs.Records.{unpinned_lawful}
use Rattle.listing.proofs.listing.Listing.new.Goals as goal

pub invariant_of-result : goal.invariant_of-result
invariant_of-result c =
    let ms = c.args.masks.now in
    let e = c.unpinned_records.ensures in
    record {
      few = c.requires.few;
      sized = ap length e ∙ length-map ms unpinned;
      lawful = ∣ unpinned_lawful ms _ e c.requires.some c.requires.few (λ b. (c.type_inv.masks b).fits) ∣₁;
      deep = omega arith;
      room = omega arith;
      slotted = λ j l. absurd (omega arith);
    }
