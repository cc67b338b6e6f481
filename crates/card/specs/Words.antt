-- What a word of a card is read as.
use Rattle.std.specs.Prelude.{ℕ, cond, List, Ok, Err, codes, Result}
use Rattle.network.specs.declared.refusal.Refusal.{Refusal}
use Rattle.network.specs.declared.refusal.Refusal.TheVariants.{Malformed}
use Rattle.banks.specs.declared.table.Kind.{Kind}
use Rattle.banks.specs.declared.table.Kind.TheVariants.{Allow, Deny}
use Rattle.banks.specs.declared.rule.Rule.{Rule}
use Rattle.banks.specs.declared.rule.Rule.TheVariants.{NotEqual, AllDiff}
use Rattle.card.specs.Verdict.{same_bytes}

abbrev pub kind_read : List ℕ → Result Kind Refusal
kind_read bs = cond (same_bytes bs (codes "allow")) (Ok Allow) (cond (same_bytes bs (codes "deny")) (Ok Deny) (Err Malformed))

abbrev pub rule_read : List ℕ → Result Rule Refusal
rule_read bs = cond (same_bytes bs (codes "notequal")) (Ok NotEqual) (cond (same_bytes bs (codes "alldiff")) (Ok AllDiff) (Err Malformed))

abbrev pub net_read : List ℕ → Result (Unit {0}) Refusal
net_read bs = cond (same_bytes bs (codes "net")) (Ok tt) (Err Malformed)
