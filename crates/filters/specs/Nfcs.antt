-- The number and the meaning of each filter, and which of them leave the largest stable row.
use Rattle.std.specs.Prelude.{◌≡◌, ℕ, ◌<◌, ◌≤◌, false, List, MatchResult, Result}
use Rattle.network.specs.Sheets.{Sheet}
use Rattle.network.specs.Rows.{Row, current_future, dead, past_future}
use Rattle.network.specs.Filters.{Filtering, nfc0, nfc1, nfc2, nfc3, nfc4, nfc5}
use Rattle.network.specs.Laws.{Largest}
use Rattle.network.specs.declared.refusal.Refusal.{Refusal}
use Rattle.network.specs.declared.refusal.Refusal.TheVariants.{LimitExceeded}
use Rattle.filters.specs.declared.nfc.Nfc.{Nfc}
use Rattle.filters.specs.declared.nfc.Nfc.TheVariants.{Nfc0, Nfc1, Nfc2, Nfc3, Nfc4, Nfc5}

abbrev pub number_of : Nfc → ℕ
number_of Nfc0 = 0
number_of Nfc1 = 1
number_of Nfc2 = 2
number_of Nfc3 = 3
number_of Nfc4 = 4
number_of Nfc5 = 5

-- what a number from 0 to 5 names is the filter of that number; another passes the limit
abbrev pub Numbers : ℕ → Result Nfc Refusal → Type 0
Numbers n r = MatchResult r (λ f. number_of f ≡ n) (λ e. (6 ≤ n) × (e ≡ LimitExceeded))

abbrev pub filter_of : Nfc → Filtering
filter_of Nfc0 = nfc0
filter_of Nfc1 = nfc1
filter_of Nfc2 = nfc2
filter_of Nfc3 = nfc3
filter_of Nfc4 = nfc4
filter_of Nfc5 = nfc5

-- of a live row with a block decided, a filter that goes on until nothing changes leaves the largest row that its sheets leave unaltered
abbrev pub LeavesLargest : Nfc → List Sheet → Row → Row → Type 0
LeavesLargest Nfc0 m r q = Unit {0}
LeavesLargest Nfc1 m r q = Unit {0}
LeavesLargest Nfc2 m r q = Unit {0}
LeavesLargest Nfc3 m r q = 0 < r.decided → dead r ≡ false → Largest current_future m r q
LeavesLargest Nfc4 m r q = Unit {0}
LeavesLargest Nfc5 m r q = 0 < r.decided → dead r ≡ false → Largest past_future m r q
