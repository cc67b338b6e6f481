-- A card is judged line by line: one line more, and the end.
use Rattle.std.proofs.Common.{◌≡◌, ℕ, suc, cond, ◌&&◌, eqb, List, [], ◌∷◌, length, sym, refl, ap, arith}
use Rattle.std.proofs.lemmas.Bool.{cond-false, ne_eqb}
use Rattle.network.specs.declared.refusal.Refusal.{Refusal}
use Rattle.network.specs.declared.refusal.Refusal.TheVariants.{Malformed}
use Rattle.card.specs.Spelling.{Network}
use Rattle.card.specs.Verdict.{blocks_due, Due, end_due, fault, faulty, finish, good, judge_line, judge_lines, Judged, kind_due, nothing_due, open_due, Reading, row_due, rows_due, rule_due, rule_scope_due, rules_due, scope_due, sheets_due, spelled, Verdict}
use Rattle.card.specs.Stages.{expected_of}
use Rattle.card.specs.Judgement.{ends}

pub next_line : (q : Reading) (k : ℕ) (l : List ℕ) (ls : List (List ℕ)) (rest : List ℕ) (p : Reading) → judge_line q l ≡ good p → judge_lines q k (l ∷ ls) rest ≡ judge_lines p (suc k) ls rest
next_line q k l ls rest p e = ap (λ (j : Judged). elim j as (λ _. Verdict) [ faulty n ↦ fault n k | good p' ↦ judge_lines p' (suc k) ls rest ]) e

pub bad_line : (q : Reading) (k : ℕ) (l : List ℕ) (ls : List (List ℕ)) (rest : List ℕ) (n : Refusal) → judge_line q l ≡ faulty n → judge_lines q k (l ∷ ls) rest ≡ fault n k
bad_line q k l ls rest n e = ap (λ (j : Judged). elim j as (λ _. Verdict) [ faulty n' ↦ fault n' k | good p' ↦ judge_lines p' (suc k) ls rest ]) e

-- the end of the card
pub finished : (d : Due) (k : ℕ) (rest : List ℕ) (x : Network) → finish d k rest x ≡ cond (ends (expected_of d) && eqb (length rest) 0) (spelled x) (fault Malformed k)
finished nothing_due k [] x = refl
finished nothing_due k (b ∷ bs) x = sym (cond-false (eqb (length (b ∷ bs)) 0) (spelled x) (fault Malformed k) (ne_eqb (length (b ∷ bs)) 0 (λ e. omega arith)))
finished blocks_due k rest x = refl
finished (open_due j) k rest x = refl
finished sheets_due k rest x = refl
finished (kind_due j) k rest x = refl
finished (scope_due j a) k rest x = refl
finished (rows_due j a s) k rest x = refl
finished (row_due j a s i ts) k rest x = refl
finished rules_due k rest x = refl
finished (rule_due j) k rest x = refl
finished (rule_scope_due j a) k rest x = refl
finished end_due k rest x = refl
