-- On a card that is accepted a session can be opened, and what its commands print is the transcript.
use Rattle.std.proofs.Common.{◌≡◌, ℕ, ◌≤◌, List, length, Ok, sym, ap, ap₂, ◌∙◌, subst}
use Rattle.network.specs.Sheets.{Sheet}
use Rattle.listing.specs.Model.{accepted, blank, open_call, Step, step}
use Rattle.card.specs.declared.sizes.Sizes.{Sizes}
use Rattle.card.specs.Layout.{Memory}
use Rattle.card.specs.Reads.{Accepts, HoldsNetwork}
use Rattle.card.specs.Sheets.{sheets_of}
use Rattle.card.specs.Spelling.{Network}
use Rattle.card.specs.Verdict.{verdict}
use Rattle.card.proofs.Accepting.{exactly}
use Rattle.script.specs.Transcript.{command_lines, printed}
use Rattle.script.proofs.Bank.{starts}

module _ (card : List ℕ) (s : Sizes) (held : Memory) (good : Accepts card held (Ok s)) (m : List Sheet) (ms : List ℕ)
    (means : (x : Network) → HoldsNetwork x s held → m ≡ sheets_of x) (masks : (x : Network) → HoldsNetwork x s held → ms ≡ x.masks) where
  abbrev x : Network
  x = good.0

  sheets_are : m ≡ sheets_of x
  sheets_are = means x good.2

  masks_are : ms ≡ x.masks
  masks_are = masks x good.2

  pub can_open : (step blank (open_call m ms)).answer ≡ accepted
  can_open = ap₂ (λ n ks. (step blank (open_call n ks)).answer) sheets_are masks_are ∙ ap (λ (t : Step). t.answer) (starts x good.1.within)

  pub few_masks : length ms ≤ 32
  few_masks = subst (λ ks. length ks ≤ 32) (sym masks_are) good.1.within.few.1

  pub prints : (commands : List ℕ) → command_lines m ms commands ≡ printed (verdict card) commands
  prints commands = ap₂ (λ n ks. command_lines n ks commands) sheets_are masks_are ∙ ap (λ v. printed v commands) (sym ((exactly card x).spelt good.1))
