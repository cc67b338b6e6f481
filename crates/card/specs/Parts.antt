-- What the parts of a line are read as: the place of a byte, a number.
use Rattle.std.specs.Prelude.{◌≡◌, ℕ, ◌+◌, ◌^◌, ◌<◌, min, true, false, List, length, take, drop, Some, None, Option}
use Rattle.std.specs.List.{list_all}
use Rattle.card.specs.Verdict.{cut, is_digit, is_number, value_of, value_from}

-- where the bytes are cut at the first c
abbrev pub CutAt : ℕ → List ℕ → Option ℕ → Type 0
CutAt c bs (Some i) = (i < length bs) × (cut c bs ≡ record { found = true; front = take i bs; back = drop (i + 1) bs })
CutAt c bs None = (cut c bs).found ≡ false

-- a number stands for itself up to 2 ^ 32, and that for every number above
abbrev pub capped : ℕ → ℕ
capped n = min n (2 ^ 32)

abbrev pub GoesOn : ℕ → List ℕ → Option ℕ → Type 0
GoesOn n bs (Some m) = (list_all is_digit bs ≡ true) × (m ≡ capped (value_from n bs))
GoesOn n bs None = list_all is_digit bs ≡ false

abbrev pub Numbered : List ℕ → Option ℕ → Type 0
Numbered bs (Some n) = (is_number bs ≡ true) × (n ≡ capped (value_of bs))
Numbered bs None = is_number bs ≡ false
