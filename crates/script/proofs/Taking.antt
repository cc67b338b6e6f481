-- What is printed so far, and what the lines that are left print: one line more.
use Rattle.std.proofs.Common.{◌≡◌, ℕ, List, [], ◌∷◌, ◌++◌, sym, refl, ap, ◌∙◌, append_assoc}
use Rattle.network.specs.Filters.{Filtering}
use Rattle.network.specs.Sheets.{Sheet}
use Rattle.listing.specs.Model.{State}
use Rattle.card.specs.Verdict.{Lines, lines}
use Rattle.script.specs.Printed.{Line, bytes_of, text_of}
use Rattle.script.specs.Transcript.{printed_by, taken, unended}

pub text_append : (ls ms : List Line) → text_of (ls ++ ms) ≡ text_of ls ++ text_of ms
text_append [] ms = refl
text_append (l ∷ ls) ms = ap (λ t. bytes_of l ++ t) (text_append ls ms) ∙ sym (append_assoc (bytes_of l) (text_of ls) (text_of ms))

-- what the lines of a text print
abbrev pub rest_printed : List Sheet → Filtering → State → Lines → List Line
rest_printed m f st ls = printed_by m f st ls.full ++ unended ls.rest

module _ (m : List Sheet) (f : Filtering) (st : State) (out now : List ℕ) where
  pub one_line : (rest line more : List ℕ) → lines rest ≡ record { full = line ∷ (lines more).full; rest = (lines more).rest } → now ≡ out ++ text_of (taken m f st line).printed →
      now ++ text_of (rest_printed m f (taken m f st line).state (lines more)) ≡ out ++ text_of (rest_printed m f st (lines rest))
  one_line rest line more cut is =
      let t = (taken m f st line).printed in
      let p = printed_by m f (taken m f st line).state (lines more).full in
      let u = unended (lines more).rest in
      ap (λ o. o ++ text_of (p ++ u)) is ∙ append_assoc out (text_of t) (text_of (p ++ u)) ∙ ap (λ x. out ++ x) (sym (text_append t (p ++ u)) ∙ ap text_of (sym (append_assoc t p u)))
      ∙ ap (λ ls. out ++ text_of (rest_printed m f st ls)) (sym cut)
