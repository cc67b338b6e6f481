-- What is printed: lines, each a key, an equals sign, a value and a newline.
use Rattle.std.specs.Prelude.{ℕ, List, codes, decimal}
use Rattle.listing.specs.Model.{Outcome, done, plan, spent}
use Rattle.card.specs.Spelling.{each, line, listed}

-- how a call ended: a pin or a rewind that was accepted, or a walk
pub data End : Type 0 where
  pinned : End
  rewound : End
  walked : Outcome → End

pub data Line : Type 0 where
  refused_line : ℕ → Line
  end_line : End → Line
  plan_line : List ℕ → Line
  visits_line : ℕ → Line

abbrev pub outcome_word : Outcome → List ℕ
outcome_word plan = codes "plan"
outcome_word done = codes "done"
outcome_word spent = codes "spent"

abbrev pub end_word : End → List ℕ
end_word pinned = codes "pin"
end_word rewound = codes "rewind"
end_word (walked o) = outcome_word o

abbrev pub bytes_of : Line → List ℕ
bytes_of (refused_line n) = line (codes "refused") (decimal n)
bytes_of (end_line e) = line (codes "outcome") (end_word e)
bytes_of (plan_line t) = line (codes "plan") (listed t)
bytes_of (visits_line n) = line (codes "visits") (decimal n)

abbrev pub text_of : List Line → List ℕ
text_of ls = each bytes_of ls
