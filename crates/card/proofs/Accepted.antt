-- The verdict on lines accepts them with a network exactly when each is good and the last reading has spelled that network.
use Rattle.std.proofs.Common.{◌≡◌, ℕ, suc, List, [], ◌∷◌, refl}
use Rattle.network.specs.declared.refusal.Refusal.{Refusal}
use Rattle.network.specs.declared.refusal.Refusal.TheVariants.{Malformed}
use Rattle.card.specs.Spelling.{Network}
use Rattle.card.specs.Verdict.{Verdict, fault, spelled, Due, blocks_due, open_due, sheets_due, kind_due, scope_due, rows_due, row_due, rules_due, rule_due, rule_scope_due, end_due, nothing_due, Reading, Judged, faulty, good, judge_line, judge_lines, finish}
use Rattle.card.proofs.Tests.{never}
use Rattle.card.proofs.Passages.{Accepts}

no_fault : {P : Type 0} (n : Refusal) (k : ℕ) (x : Network) → fault n k ≡ spelled x → P
no_fault n k x e = absurd (never cc)

-- only after the last line, with no rest, does a card spell anything
finish_spelled : (d : Due) (k : ℕ) (rest : List ℕ) (x y : Network) → finish d k rest x ≡ spelled y → ((d ≡ nothing_due) × (x ≡ y)) × (rest ≡ [])
finish_spelled nothing_due k [] x y e = ((refl, cc), refl)
finish_spelled nothing_due k (b ∷ bs) x y e = no_fault Malformed k y e
finish_spelled blocks_due k rest x y e = no_fault Malformed k y e
finish_spelled (open_due j) k rest x y e = no_fault Malformed k y e
finish_spelled sheets_due k rest x y e = no_fault Malformed k y e
finish_spelled (kind_due j) k rest x y e = no_fault Malformed k y e
finish_spelled (scope_due j a) k rest x y e = no_fault Malformed k y e
finish_spelled (rows_due j a s) k rest x y e = no_fault Malformed k y e
finish_spelled (row_due j a s i ts) k rest x y e = no_fault Malformed k y e
finish_spelled rules_due k rest x y e = no_fault Malformed k y e
finish_spelled (rule_due j) k rest x y e = no_fault Malformed k y e
finish_spelled (rule_scope_due j a) k rest x y e = no_fault Malformed k y e
finish_spelled end_due k rest x y e = no_fault Malformed k y e

-- the two directions
pub accepts_spelled : (r : Reading) (k : ℕ) (ls : List (List ℕ)) (rest : List ℕ) (x : Network) → judge_lines r k ls rest ≡ spelled x → Accepts r ls x × (rest ≡ [])
accepts_spelled r k [] rest x e = finish_spelled r.due k rest r.net x e
accepts_spelled r k (l ∷ ls) rest x e = go (judge_line r l) refl e (λ q. accepts_spelled q (suc k) ls rest x)
  where
    go : (j : Judged) → judge_line r l ≡ j → elim j as (λ _. Verdict) [ faulty n ↦ fault n k | good q ↦ judge_lines q (suc k) ls rest ] ≡ spelled x →
        ((q : Reading) → judge_lines q (suc k) ls rest ≡ spelled x → Accepts q ls x × (rest ≡ [])) → Accepts r (l ∷ ls) x × (rest ≡ [])
    go (faulty n) f e again = no_fault n k x e
    go (good q) f e again = let (a, nil) = again q e in ((q, f, a), nil)

pub spelled_accepted : (r : Reading) (k : ℕ) (ls : List (List ℕ)) (x : Network) → Accepts r ls x → judge_lines r k ls [] ≡ spelled x
spelled_accepted r k [] x a = rw (a.0, a.1)
spelled_accepted r k (l ∷ ls) x a = rw (a.1, judge_lines) (spelled_accepted a.0 (suc k) ls x a.2)
