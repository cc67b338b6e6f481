-- The transcript: what is printed for a card and a command file.
use Rattle.std.specs.Prelude.{ℕ, cond, List, [], ◌∷◌, ◌++◌, Ok, Err, Result, length, nat_lt}
use Rattle.network.specs.Filters.{Filtering}
use Rattle.network.specs.Refusals.{number_of}
use Rattle.network.specs.Sheets.{Sheet}
use Rattle.network.specs.declared.refusal.Refusal.{Refusal}
use Rattle.network.specs.declared.refusal.Refusal.TheVariants.{LimitExceeded, Malformed}
use Rattle.filters.specs.Nfcs.{filter_of}
use Rattle.filters.specs.declared.nfc.Nfc.{Nfc}
use Rattle.listing.specs.Model.{Answer, Call, Outcome, State, Step, accepted, blank, done, next_call, open_call, pin_call, plan, refused, rewind_call, spent, step, walked as has_walked}
use Rattle.card.specs.Sheets.{sheets_of}
use Rattle.card.specs.Verdict.{Verdict, fault, lines, spelled, verdict}
use Rattle.script.specs.Commands.{command_read, filter_read}
use Rattle.script.specs.Printed.{End, Line, end_line, pinned, plan_line, refused_line, rewound, text_of, visits_line, walked}
use Rattle.script.specs.declared.command.Command.{Command}
use Rattle.script.specs.declared.command.Command.TheVariants.{Next, Pin, Rewind}

abbrev pub refusal : Refusal → List Line
refusal e = refused_line (number_of e) ∷ []

-- a plan is printed where there is one
abbrev pub plan_lines : Outcome → List ℕ → List Line
plan_lines plan t = plan_line t ∷ []
plan_lines done t = []
plan_lines spent t = []

-- what a call's answer prints, where acceptance ends it so
abbrev pub answer_lines : End → Answer → List Line
answer_lines e (refused n) = refused_line n ∷ []
answer_lines e accepted = end_line e ∷ []
answer_lines e (has_walked o v t) = end_line (walked o) ∷ plan_lines o t ++ (visits_line v ∷ [])

-- the call that a command makes, with a plan place of 32 bytes, and how it ends where it is only accepted
abbrev pub call_of : List Sheet → Filtering → Command → Call
call_of m f (Pin b s) = pin_call b s
call_of m f Rewind = rewind_call
call_of m f (Next budget) = next_call m f budget 32

abbrev pub end_of : Command → End
end_of (Pin b s) = pinned
end_of Rewind = rewound
end_of (Next budget) = walked spent

-- one command line: the state after it, and what it prints
pub record Taken : Type 0 where
  pub state : State
  pub printed : List Line

abbrev pub called : Command → Step → Taken
called c s = record { state = s.state; printed = answer_lines (end_of c) s.answer }

-- a line that is refused changes nothing
abbrev pub obeyed : List Sheet → Filtering → State → Result Command Refusal → Taken
obeyed m f st (Err e) = record { state = st; printed = refusal e }
obeyed m f st (Ok c) = called c (step st (call_of m f c))

abbrev pub taken : List Sheet → Filtering → State → List ℕ → Taken
taken m f st bs = obeyed m f st (command_read bs)

-- command lines in order: the state after them, and all that they print
abbrev pub state_after : List Sheet → Filtering → State → List (List ℕ) → State
state_after m f st [] = st
state_after m f st (l ∷ ls) = state_after m f (taken m f st l).state ls

abbrev pub printed_by : List Sheet → Filtering → State → List (List ℕ) → List Line
printed_by m f st [] = []
printed_by m f st (l ∷ ls) = (taken m f st l).printed ++ printed_by m f (taken m f st l).state ls

-- bytes after the last newline are a line without its newline
abbrev pub unended : List ℕ → List Line
unended [] = []
unended (x ∷ xs) = refusal Malformed

-- a session opened on a network
abbrev pub opened : List Sheet → List ℕ → State
opened m ms = (step blank (open_call m ms)).state

abbrev pub session_lines : List Sheet → List ℕ → Result Nfc Refusal → List (List ℕ) → List ℕ → List Line
session_lines m ms (Err e) ls rest = refusal e
session_lines m ms (Ok f) ls rest = printed_by m (filter_of f) (opened m ms) ls ++ unended rest

-- the first line chooses the filter
abbrev pub after_filter : List Sheet → List ℕ → List (List ℕ) → List ℕ → List Line
after_filter m ms [] rest = refusal Malformed
after_filter m ms (l ∷ ls) rest = session_lines m ms (filter_read l) ls rest

abbrev pub command_lines : List Sheet → List ℕ → List ℕ → List Line
command_lines m ms commands = cond (nat_lt 4096 (length commands)) (refusal LimitExceeded) (after_filter m ms (lines commands).full (lines commands).rest)

-- the card comes first
abbrev pub printed : Verdict → List ℕ → List Line
printed (fault e k) commands = refusal e
printed (spelled x) commands = command_lines (sheets_of x) x.masks commands

abbrev pub transcript : List ℕ → List ℕ → List ℕ
transcript card commands = text_of (printed (verdict card) commands)
