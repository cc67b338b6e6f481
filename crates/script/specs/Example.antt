-- The worked case: a card, a command file and the lines that are printed for them.
use Rattle.std.specs.Prelude.{◌≡◌, ℕ, List, [], ◌∷◌, codes, refl}
use Rattle.network.specs.Sheets.{mask_of, slots}
use Rattle.listing.specs.Model.{plan, spent}
use Rattle.card.specs.Verdict.{verdict}
use Rattle.script.specs.Printed.{end_line, Line, pinned, plan_line, refused_line, visits_line, walked}
use Rattle.script.specs.Transcript.{printed}

abbrev pub card : List ℕ
card = codes "blocks=2\nopen=3\nopen=3\nsheets=1\nkind=deny\nscope=0,1\nrows=1\nrow=0,0\nrules=0\nend=net\n"

abbrev pub commands : List ℕ
commands = codes "filter=0\nnext=10\npin=0,0\nnext=1\nnext=9\npin=0,1\n"

abbrev pub listing : List Line
listing =
    end_line (walked plan) ∷ plan_line (0 ∷ 1 ∷ []) ∷ visits_line 2 ∷ end_line pinned ∷ end_line (walked spent) ∷ visits_line 1
    ∷ end_line (walked plan) ∷ plan_line (0 ∷ 1 ∷ []) ∷ visits_line 1 ∷ refused_line 8 ∷ []

abbrev pub WorkedCase : Type 0
WorkedCase = printed (verdict card) commands ≡ listing

pub worked_case : WorkedCase
unfolding slots mask_of
worked_case = refl
