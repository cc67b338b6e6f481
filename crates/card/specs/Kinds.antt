-- The ten kinds of lines: the key of each, and what the bytes of a line are read as.
use Rattle.std.specs.Prelude.{◌≡◌, ℕ, ◌+◌, true, List, length, Some, None, codes, Option}
use Rattle.network.specs.declared.refusal.Refusal.TheVariants.{Malformed}
use Rattle.card.specs.declared.line.Line.{Line}
use Rattle.card.specs.declared.line.Value.{Value}
use Rattle.card.specs.declared.line.Line.TheVariants.{Blocks, Open, Sheets, Kind, Scope, Tuples, Tuple, Rules, Rule, End}
use Rattle.card.specs.Verdict.{cut, faulty, judge, judge_line, Reading}

abbrev pub key_of : Line → List ℕ
key_of (Blocks v) = codes "blocks"
key_of (Open v) = codes "open"
key_of (Sheets v) = codes "sheets"
key_of (Kind v) = codes "kind"
key_of (Scope v) = codes "scope"
key_of (Tuples v) = codes "rows"
key_of (Tuple v) = codes "row"
key_of (Rules v) = codes "rules"
key_of (Rule v) = codes "rule"
key_of (End v) = codes "end"

abbrev pub part_of : Line → Value
part_of (Blocks v) = v
part_of (Open v) = v
part_of (Sheets v) = v
part_of (Kind v) = v
part_of (Scope v) = v
part_of (Tuples v) = v
part_of (Tuple v) = v
part_of (Rules v) = v
part_of (Rule v) = v
part_of (End v) = v

abbrev pub bytes_of : Line → List ℕ
bytes_of l = (part_of l).bytes.now

-- a line of one of the kinds has its key and its value, and any other is good nowhere
abbrev pub Keyed : List ℕ → Value → Option Line → Type 0
Keyed key value (Some l) = (key_of l ≡ key) × (part_of l ≡ value)
Keyed key value None = (r : Reading) → judge r r.due key value.bytes.now ≡ faulty Malformed

-- of a line that begins at a place of the card: the value begins past its key and its equals sign
abbrev pub ReadAs : ℕ → List ℕ → Option Line → Type 0
ReadAs start bs (Some l) =
    ((cut 61 bs).found ≡ true) × (key_of l ≡ (cut 61 bs).front) × (bytes_of l ≡ (cut 61 bs).back)
    × ((part_of l).place ≡ start + length (cut 61 bs).front + 1)
ReadAs start bs None = (r : Reading) → judge_line r bs ≡ faulty Malformed
