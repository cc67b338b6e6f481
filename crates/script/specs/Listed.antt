-- What the printed lines are owed: the plans among them are the first ones of all, and a "done" comes only after the last.
use Rattle.std.specs.Prelude.{◌≡◌, ℕ, ◌+◌, ◌≤◌, List, [], ◌∷◌, ◌++◌, fold, length, map, take, None, Ok, Err, Option, Result, Some, slice_set}
use Rattle.network.specs.Filters.{Filtering}
use Rattle.network.specs.Sheets.{Sheet}
use Rattle.network.specs.Tree.{tree}
use Rattle.network.specs.declared.refusal.Refusal.{Refusal}
use Rattle.filters.specs.Nfcs.{filter_of}
use Rattle.filters.specs.declared.nfc.Nfc.{Nfc}
use Rattle.listing.specs.Model.{State, done, plans}
use Rattle.card.specs.Sheets.{sheets_of}
use Rattle.card.specs.Spelling.{Network}
use Rattle.card.specs.Verdict.{lines, spelled, verdict}
use Rattle.script.specs.Commands.{command_read, filter_read}
use Rattle.script.specs.Printed.{End, Line, end_line, pinned, plan_line, refused_line, rewound, text_of, visits_line, walked}
use Rattle.script.specs.Transcript.{opened, printed_by, taken}
use Rattle.script.specs.declared.command.Command.{Command}
use Rattle.script.specs.declared.command.Command.TheVariants.{Next, Pin, Rewind}

-- an accepted pin or rewind starts over
abbrev pub shown_past : End → List (List ℕ) → List (List ℕ)
shown_past pinned ts = []
shown_past rewound ts = []
shown_past (walked o) ts = ts

abbrev pub shown_with : List (List ℕ) → Line → List (List ℕ)
shown_with ts (refused_line n) = ts
shown_with ts (end_line e) = shown_past e ts
shown_with ts (plan_line t) = ts ++ (t ∷ [])
shown_with ts (visits_line n) = ts

-- the plans in the `plan=` lines since the latest accepted pin or rewind
abbrev pub shown_in : List Line → List (List ℕ)
shown_in ls = fold shown_with [] ls

-- the visits in the `visits=` lines since then, together
abbrev pub visits_past : End → ℕ → ℕ
visits_past pinned v = 0
visits_past rewound v = 0
visits_past (walked o) v = v

abbrev pub visits_with : ℕ → Line → ℕ
visits_with v (refused_line n) = v
visits_with v (end_line e) = visits_past e v
visits_with v (plan_line t) = v
visits_with v (visits_line n) = n + v

abbrev pub visits_in : List Line → ℕ
visits_in ls = fold visits_with 0 ls

-- how the latest call ended that was accepted
abbrev pub latest_with : Option End → Line → Option End
latest_with e (refused_line n) = e
latest_with e (end_line d) = Some d
latest_with e (plan_line t) = e
latest_with e (visits_line n) = e

abbrev pub latest_in : List Line → Option End
latest_in ls = fold latest_with None ls

-- a pin counts from the line that accepts it
abbrev pub pinned_with : List (Option ℕ) → Result Command Refusal → List Line → List (Option ℕ)
pinned_with ps (Ok (Pin b s)) (end_line e ∷ ls) = slice_set ps b (Some s)
pinned_with ps (Ok (Pin b s)) [] = ps
pinned_with ps (Ok (Pin b s)) (refused_line n ∷ ls) = ps
pinned_with ps (Ok (Pin b s)) (plan_line t ∷ ls) = ps
pinned_with ps (Ok (Pin b s)) (visits_line n ∷ ls) = ps
pinned_with ps (Ok Rewind) ls = ps
pinned_with ps (Ok (Next n)) ls = ps
pinned_with ps (Err e) ls = ps

-- the pins that command lines set, from a state on
abbrev pub pinned_by : List Sheet → Filtering → State → List (Option ℕ) → List (List ℕ) → List (Option ℕ)
pinned_by m f st ps [] = ps
pinned_by m f st ps (l ∷ ls) = pinned_by m f (taken m f st l).state (pinned_with ps (command_read l) (taken m f st l).printed) ls

-- of what was printed up to some command, under the pins accepted so far: the plans since the latest start are the first so many of all plans,
-- ascending; after a "done" they are all, and the visits are as many as the nodes of the filter
pub record ListsPlans (x : Network) (f : Filtering) (pins : List (Option ℕ)) (ls : List Line) : Type 0 where
  pub first : shown_in ls ≡ take (length (shown_in ls)) (plans (sheets_of x) x.masks pins)
  pub last : latest_in ls ≡ Some (walked done) → shown_in ls ≡ plans (sheets_of x) x.masks pins
  pub counted : latest_in ls ≡ Some (walked done) → visits_in ls ≡ length (tree f (sheets_of x) x.masks pins)

-- the commands so far, on a network: what they print, and the pins that they set
abbrev pub printed_on : Network → Filtering → List (List ℕ) → List Line
printed_on x f ls = printed_by (sheets_of x) f (opened (sheets_of x) x.masks) ls

abbrev pub pinned_on : Network → Filtering → List (List ℕ) → List (Option ℕ)
pinned_on x f ls = pinned_by (sheets_of x) f (opened (sheets_of x) x.masks) (map (λ _. None) x.masks) ls

-- the text is what the commands so far print and what comes after them, for every number of commands
pub record Lists (out : List ℕ) (x : Network) (f : Filtering) (before : List (List ℕ)) : Type 0 where
  pub text : (later : List Line) × (out ≡ text_of (printed_on x f before) ++ text_of later)
  pub plans : ListsPlans x f (pinned_on x f before) (printed_on x f before)

-- a good card, a command file that is not too long and chooses a filter, and any of its commands taken
abbrev pub ListsAlong : List ℕ → List ℕ → List ℕ → Type 0
ListsAlong card commands out =
    (x : Network) (chooses : List ℕ) (f : Nfc) (before after : List (List ℕ)) → verdict card ≡ spelled x → length commands ≤ 4096 →
    (lines commands).full ≡ chooses ∷ (before ++ after) → filter_read chooses ≡ Ok f → Lists out x (filter_of f) before
