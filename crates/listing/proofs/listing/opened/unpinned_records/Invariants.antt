use Rattle.std.proofs.Common.{◌≡◌, map, length, take}
use Rattle.listing.specs.Records.{unpinned}
use Rattle.listing.proofs.listing.opened.unpinned_records.Given as goal

abbrev pub invariant-loop-block : goal.invariant-loop-block
invariant-loop-block l = (length l.records ≡ 32) × (take l.block l.records ≡ map unpinned (take l.block l.masks))
