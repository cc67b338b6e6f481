-- Which row a row of the code stands for, and which masks may stand in one.
use Rattle.std.specs.Prelude.{◌≡◌, ℕ, ◌<◌, Bool, true, cond, not, ◌&&◌, ◌||◌, List, length, ◌==◌, bit_and, count_ones, nat_le, nat_lt, slice_index}
use Rattle.network.specs.Rows.{Row, row_of}
use Rattle.network.specs.declared.row.Row.{Row as CodeRow}

abbrev pub model : CodeRow → Row
model r = row_of r.blocks r.decided r.opened r.present

-- the row of these masks with so many blocks decided
abbrev pub given : List ℕ → List ℕ → ℕ → Row
given opened present decided = record { opened = opened; present = present; decided = decided }

-- a block's masks in a row whose first present mask is f: where that is empty all are, and else no decided block has two slots
abbrev pub may_have : ℕ → ℕ → ℕ → Bool → Bool
may_have o p f decided = cond (f == 0) (p == 0) (not (p == 0) && (bit_and p o == p && (not decided || nat_le (count_ones p) 1)))

-- each block may have its masks where the first d are decided
abbrev pub MayStand : List ℕ → List ℕ → ℕ → Type 0
MayStand os ps d = (b : ℕ) → b < length os → may_have (slice_index os b) (slice_index ps b) (slice_index ps 0) (nat_lt b d) ≡ true
