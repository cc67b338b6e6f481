-- What reading a card answers, what it leaves in memory, and what that memory means.
use Rattle.std.specs.Prelude.{◌≡◌, ℕ, ◌≤◌, Bool, false, cond, ◌&&◌, List, length, take, Ok, Err, Result, nat_le}
use Rattle.network.specs.Sheets.{some_pass}
use Rattle.network.specs.declared.refusal.Refusal.TheVariants.{PlaceTooShort}
use Rattle.banks.specs.Both.{both}
use Rattle.banks.specs.Rules.{rules_meaning, rules_verdict}
use Rattle.banks.specs.Tables.{tables_meaning, tables_verdict}
use Rattle.card.specs.declared.refusal.CardRefusal.{CardRefusal}
use Rattle.card.specs.declared.sizes.Sizes.{Sizes}
use Rattle.card.specs.Layout.{layout, Memory, over, sizes_of}
use Rattle.card.specs.Sheets.{sheets_of}
use Rattle.card.specs.Spelling.{Network, spell, Within}
use Rattle.card.specs.Verdict.{fault, spelled, Verdict, verdict}

abbrev pub fits : Sizes → Sizes → Bool
fits s room = nat_le s.masks room.masks && (nat_le s.tables room.tables && (nat_le s.cells room.cells && nat_le s.rules room.rules))

-- what a network takes of each place, or the refusal
abbrev pub judgement : Verdict → Result Sizes CardRefusal
judgement (fault e k) = Err (record { refusal = e; line = k })
judgement (spelled x) = Ok (sizes_of (layout x))

-- a place that is too short is refused last, at line 0
abbrev pub answer_for : Verdict → Sizes → Result Sizes CardRefusal
answer_for (fault e k) room = Err (record { refusal = e; line = k })
answer_for (spelled x) room = cond (fits (sizes_of (layout x)) room) (Ok (sizes_of (layout x))) (Err (record { refusal = PlaceTooShort; line = 0 }))

-- the network over the front of each place, or all as it was
abbrev pub memory_after : Verdict → Memory → Memory
memory_after (fault e k) old = old
memory_after (spelled x) old = cond (fits (sizes_of (layout x)) (sizes_of old)) (over (layout x) old) old

-- the card spells a network that follows the rules
pub record Spells (card : List ℕ) (x : Network) : Type 0 where
  pub within : Within x
  pub text : card ≡ spell x
  pub short : length card ≤ 32768

-- the verdict is that network exactly where the card spells it
pub record SpellsExactly (card : List ℕ) (x : Network) : Type 0 where
  pub judged : verdict card ≡ spelled x → Spells card x
  pub spelt : Spells card x → verdict card ≡ spelled x

-- the front of each place holds the network: its records pass their checks and mean its sheets, and a session can be opened on them
pub record HoldsNetwork (x : Network) (s : Sizes) (m : Memory) : Type 0 where
  pub masks : take s.masks m.masks ≡ x.masks
  pub tables : tables_verdict m.cells (take s.tables m.tables) ≡ Ok tt
  pub rules : rules_verdict (take s.rules m.rules) ≡ Ok tt
  pub sheets : both (tables_meaning m.cells (take s.tables m.tables)) (rules_meaning (take s.rules m.rules)) ≡ sheets_of x
  pub few : (1 ≤ s.masks) × (s.masks ≤ 32)
  pub fit : some_pass (λ sh. some_pass (λ b. nat_le s.masks b) sh.scope) (sheets_of x) ≡ false

-- what is accepted is the spelling of a network, and that network is then in memory
abbrev pub Accepts : List ℕ → Memory → Result Sizes CardRefusal → Type 0
Accepts card m (Ok s) = (x : Network) × Spells card x × HoldsNetwork x s m
Accepts card m (Err e) = Unit {0}
