use Rattle.std.proofs.Common.{◌≡◌, ℕ, ◌≤◌}
use Rattle.network.specs.Rows.{Row}
use Rattle.listing.specs.ToCome.{models, to_come}
use Rattle.listing.proofs.walk.Walk.next_child.Given as goal

abbrev pub invariant-loop-slot : goal.invariant-loop-slot
invariant-loop-slot l =
    (l.depth ≤ l.self.depth)
    × (l.from ≤ 32)
    × ((f : Row → Row) (n : ℕ) → to_come f n (models l.self.rows) l.self.path l.self.depth l.self.from ≡ to_come f n (models l.self.rows) l.self.path l.depth l.from)

abbrev pub decreases-loop-slot : goal.decreases-loop-slot
decreases-loop-slot l = l.depth
