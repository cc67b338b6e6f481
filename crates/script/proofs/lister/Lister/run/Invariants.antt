use Rattle.std.proofs.Common.{◌≡◌, ◌++◌, string_bytes, length}
use Rattle.network.specs.Filters.{Filtering}
use Rattle.listing.specs.Model.{State}
use Rattle.card.specs.Verdict.{lines}
use Rattle.script.specs.Printed.{text_of}
use Rattle.script.specs.Serving.{Serves}
use Rattle.script.proofs.Taking.{rest_printed}
use Rattle.script.proofs.lister.Lister.run.Given as goal

abbrev pub invariant-loop-line : goal.invariant-loop-line
invariant-loop-line g l =
    let m = g.B.Bank.meaning l.bank in
    (f : Filtering) (st : State) → Serves l.initial.self f st → (now : State) × Serves l.self f now
    × (string_bytes l.out ++ text_of (rest_printed m f now (lines l.rest)) ≡ string_bytes l.initial.out ++ text_of (rest_printed m f st (lines l.commands)))

abbrev pub decreases-loop-line : goal.decreases-loop-line
decreases-loop-line g l = length l.rest
