-- The word for each way that a call ends which visits nodes.
use Rattle.std.specs.Prelude.{ℕ, List, codes}
use Rattle.listing.specs.declared.outcome.Outcome.{Outcome}
use Rattle.listing.specs.declared.outcome.Outcome.TheVariants.{Done, Plan, Spent}

abbrev pub word_of : Outcome → List ℕ
word_of Plan = codes "plan"
word_of Done = codes "done"
word_of Spent = codes "spent"
