use Rattle.std.proofs.Common.{◌-◌, length, take, drop}
use Rattle.network.specs.Sheets.{choices, some_pass}
use Rattle.banks.specs.Rules.{free}
use Rattle.banks.proofs.Free.{Left}
use Rattle.banks.proofs.rule_search.+some_distinct.Given as goal

abbrev pub decreases-some_distinct : goal.decreases-some_distinct
decreases-some_distinct l = length l.masks.now

abbrev pub invariant-loop-s : goal.invariant-loop-s
invariant-loop-s l = Left l.used (take (length l.masks - 1) (drop 1 l.masks)) (some_pass (free l.used) (choices l.masks)) l.s-iterator
