-- What a list of numbers with commas is read as.
use Rattle.std.specs.Prelude.{◌≡◌, ℕ, min, true, false, List, map, length, Some, None, Option, slice_index_or}
use Rattle.std.specs.List.{range_with_len, list_all}
use Rattle.card.specs.declared.list.NumberList.{NumberList}
use Rattle.card.specs.Verdict.{is_number, pieces, value_of}

-- six numbers up to 255, where 255 also stands for one that is missing
abbrev pub packed : List ℕ → List ℕ
packed xs = map (λ p. min (slice_index_or xs p 255) 255) (range_with_len 0 6)

abbrev pub list_of : List ℕ → NumberList
list_of xs = record { count = length xs; numbers = packed xs }

pub record Holds (l : NumberList) (xs : List ℕ) : Type 0 where
  pub count : l.count ≡ length xs
  pub numbers : l.numbers ≡ packed xs

abbrev pub Listed : List ℕ → Option NumberList → Type 0
Listed bs (Some l) = (list_all is_number (pieces bs) ≡ true) × Holds l (map value_of (pieces bs))
Listed bs None = list_all is_number (pieces bs) ≡ false
