use Rattle.std.proofs.Common.{◌*◌, ◌<◌, ◌/◌, length, count_by, sym, ◌∙◌, arith}
use Rattle.std.proofs.Math.Nat.{div-lt_iff_lt-mul}
use Rattle.std.proofs.lemmas.List.Sums.{count_by-le-length}
use Rattle.std.proofs.lemmas.Bool.{lt-ltb}
use Rattle.network.specs.Sheets.{choices}
use Rattle.banks.specs.Tables.{cut, inside}
use Rattle.banks.proofs.Tupled.{length_tuples}
use Rattle.banks.proofs.table_search.Search.fewer_inside.Goals as goal

pub returns-then-self-all : goal.returns-then-self-all
returns-then-self-all c =
    let ms = c.args.self.now.masks.now in
    let cells = c.args.self.now.cells.now in
    let few : length cells / length ms < c.combinations-all.result = (div-lt_iff_lt-mul c.args.self.now.low).1 c.if-self-all.true in
    let fewer : count_by (inside ms) (cut (length ms) cells) < length (choices ms) =
    omega (arith, count_by-le-length (inside ms) (cut (length ms) cells), length_tuples (length ms) (length cells / length ms) cells, c.combinations-all.ensures.value) in
    lt-ltb (length cells) (c.combinations-all.result * length ms) c.if-self-all.true ∙ sym (lt-ltb (count_by (inside ms) (cut (length ms) cells)) (length (choices ms)) fewer)
