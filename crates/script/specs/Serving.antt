-- What the code that takes commands is owed and leaves: the lines of a text, how a command file begins, and the state that a session stands for.
use Rattle.std.specs.Prelude.{◌≡◌, ℕ, ◌<◌, ◌≤◌, List, [], ◌∷◌, ◌++◌, length, None, Ok, Err, Option, Result, Some}
use Rattle.std.specs.Borrow.{Bor}
use Rattle.network.specs.Filters.{Filtering}
use Rattle.network.specs.Sheets.{Sheet}
use Rattle.network.specs.declared.refusal.Refusal.{Refusal}
use Rattle.filters.specs.Nfcs.{filter_of}
use Rattle.filters.specs.declared.nfc.Nfc.{Nfc}
use Rattle.listing.specs.Model.{Listing, State, blank, listing}
use Rattle.listing.specs.Represents.{Represents}
use Rattle.card.specs.Verdict.{lines}
use Rattle.script.specs.Transcript.{command_lines, opened, printed_by, refusal, unended}
use Rattle.script.specs.declared.lister.Lister.{Lister}

-- a text is its first line and the lines after that, or has no whole line
abbrev pub FirstLine : List ℕ → Option (Bor (List ℕ) × Bor (List ℕ)) → Type 0
FirstLine bs (Some p) = (lines bs ≡ record { full = p.0.now ∷ (lines p.1.now).full; rest = (lines p.1.now).rest }) × (length p.1.now < length bs)
FirstLine bs None = lines bs ≡ record { full = []; rest = bs }

-- a command file begins with a filter, and then the rest is commands; or it is refused
abbrev pub Begins : List ℕ → Result (Nfc × Bor (List ℕ)) Refusal → Type 0
Begins bs (Ok p) = (m : List Sheet) (ms : List ℕ) → command_lines m ms bs ≡ printed_by m (filter_of p.0) (opened m ms) (lines p.1.now).full ++ unended (lines p.1.now).rest
Begins bs (Err e) = (m : List Sheet) (ms : List ℕ) → command_lines m ms bs ≡ refusal e

-- a session that stands for a listing, with its filter and its number of blocks
pub record ServesListing (r : Lister) (f : Filtering) (l : Listing) : Type 0 where
  pub session : Represents r.session (listing l)
  pub filter : filter_of r.filter ≡ f
  pub wide : r.blocks ≡ length l.opened
  pub few : r.blocks ≤ 32

abbrev pub Serves : Lister → Filtering → State → Type 0
Serves r f blank = ⊥
Serves r f (listing l) = ServesListing r f l
