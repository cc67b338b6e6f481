use Rattle.std.proofs.Common.{◌≡◌, length}
use Rattle.card.specs.Filling.{memory_of}
use Rattle.card.specs.Layout.{SameLoans, memory_in, over, sizes_of}
use Rattle.card.specs.Verdict.{Reading}
use Rattle.card.proofs.Turns.{Counted}
use Rattle.card.proofs.read.fill.Given as goal

abbrev pub invariant-loop-entry : goal.invariant-loop-entry
invariant-loop-entry l =
    (q : Reading) × Counted l.card l.reader q l.filled
    × (memory_in l.places ≡ over (memory_of q) (memory_in l.initial.places)) × (sizes_of (memory_in l.places) ≡ sizes_of (memory_in l.initial.places)) × SameLoans l.initial.places l.places

abbrev pub decreases-loop-entry : goal.decreases-loop-entry
decreases-loop-entry l = length l.reader.rest.now
