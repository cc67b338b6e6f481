-- The sheets of a list of accepted records, by number.
use Rattle.std.specs.Prelude.{nat_lt}
use Rattle.std.proofs.Common.{◌≡◌, ℕ, ◌<◌, ◌≤◌, true, List, map, length, get_or, sym, ap, ◌∙◌, subst}
use Rattle.network.specs.Sheets.{Sheet, sheet_at}
use Rattle.network.specs.Laws.{LawfulSheet}
use Rattle.network.specs.declared.refusal.Refusal.TheVariants.{LimitExceeded}
use Rattle.network.proofs.Members.{in_at}
use Rattle.banks.specs.Verdicts.{Verdict, accepts, on_first, on_records}
use Rattle.banks.specs.Accepted.{each_accepted, passed}
use Rattle.banks.specs.SheetAt.{sheet_map}

-- what holds of the record of a number
module _ {A : Type 0} (verdict : A → Verdict) (sheet : A → Sheet) (scope : A → List ℕ) (same : (r : A) → (sheet r).scope ≡ scope r)
    (each : (r : A) → accepts (verdict r) ≡ true → LawfulSheet (sheet r)) (xs : List A) (ok : accepts (on_records verdict xs) ≡ true)
    (c : ℕ) (x : A) (l : c < length xs) (e : x ≡ get_or xs c x) where
  pub sheet_got : sheet_at (map sheet xs) c ≡ sheet x
  sheet_got = sheet_map sheet xs c x l ∙ ap sheet (sym e)

  pub scope_got : (sheet_at (map sheet xs) c).scope ≡ scope x
  scope_got = ap (λ (sh : Sheet). sh.scope) sheet_got ∙ same x

  pub accepted_got : accepts (verdict x) ≡ true
  accepted_got =
      ap (λ r. accepts (verdict r)) e ∙ each_accepted verdict xs (passed (nat_lt 1024 (length xs)) LimitExceeded (on_first verdict xs) ok).1 (get_or xs c x) (in_at xs c x l)

  pub scope_few : length (scope x) ≤ 6
  scope_few = subst (λ (bs : List ℕ). length bs ≤ 6) (same x) (each x accepted_got).high
