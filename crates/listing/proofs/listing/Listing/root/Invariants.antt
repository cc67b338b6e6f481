use Rattle.listing.proofs.RootMade.{Copied}
use Rattle.listing.proofs.listing.Listing.root.Given as goal

abbrev pub invariant-loop-block : goal.invariant-loop-block
invariant-loop-block l = Copied l.self.records l.opened l.present l.block
