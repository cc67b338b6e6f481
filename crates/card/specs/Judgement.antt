-- After which line a card has been read.
use Rattle.std.specs.Prelude.{Bool, true, false}
use Rattle.card.specs.declared.stage.Expected.{Expected}
use Rattle.card.specs.declared.stage.Expected.TheVariants.{Blocks, Open, Sheets, Kind, Scope, Tuples, Tuple, Rules, Rule, RuleScope, End, Nothing}

-- nothing more is due
abbrev pub ends : Expected → Bool
ends Blocks = false
ends (Open k) = false
ends Sheets = false
ends (Kind k) = false
ends (Scope k kind) = false
ends (Tuples k kind scope) = false
ends (Tuple k arity j last) = false
ends Rules = false
ends (Rule k) = false
ends (RuleScope k rule) = false
ends End = false
ends Nothing = true
