-- The nodes that are still to come, as a stack of rows along a path stands for them.
use Rattle.std.specs.Prelude.{◌≡◌, ℕ, zero, suc, ◌-◌, ◌<◌, ◌≤◌, true, cond, List, [], ◌∷◌, ◌++◌, map, length, take, slice_index, slice_index_or}
use Rattle.std.specs.List.{flat_map}
use Rattle.network.specs.Sheets.{has}
use Rattle.network.specs.Offers.{slots_from}
use Rattle.network.specs.Rows.{Row, dead, decide, next_mask}
use Rattle.network.specs.RowModel.{model}
use Rattle.network.specs.Tree.{Node, below, child}
use Rattle.network.specs.declared.row.Row.{Row as CodeRow}

-- the row of that number in a stack
abbrev pub row_at : List Row → ℕ → Row
row_at rs k = slice_index_or rs k (record { opened = []; present = []; decided = 0 })

-- the node at slot s of a row's next block, and the nodes below it
abbrev pub branch : (Row → Row) → ℕ → List ℕ → Row → ℕ → List Node
branch f w path r s = child f path r s ∷ below f w (path ++ (s ∷ [])) (f (decide r s))

-- the nodes below a row from slot a of its next block on, at most w levels deep
abbrev pub rest_of : (Row → Row) → ℕ → List ℕ → Row → ℕ → List Node
rest_of f zero path r a = []
rest_of f (suc w) path r a = cond (dead r) [] (flat_map (branch f w path r) (slots_from (next_mask r) a))

-- the nodes past the path's first k slots, at each of their levels
abbrev pub past : (Row → Row) → ℕ → List Row → List ℕ → ℕ → List Node
past f n rs path zero = []
past f n rs path (suc k) = rest_of f (n - k) (take k path) (row_at rs k) (suc (slice_index path k)) ++ past f n rs path k

-- those below row k from slot a on, and those past its path
abbrev pub to_come : (Row → Row) → ℕ → List Row → List ℕ → ℕ → ℕ → List Node
to_come f n rs path k a = rest_of f (n - k) (take k path) (row_at rs k) a ++ past f n rs path k

-- the first rows of a stack, to row k, have each one block more decided
abbrev pub Stacked : ℕ → List Row → ℕ → Type 0
Stacked n rs k = (j : ℕ) → j ≤ k → ((row_at rs j).decided ≡ j) × (length (row_at rs j).opened ≡ n)

-- the path's first k numbers are slots
abbrev pub Slotted : List ℕ → ℕ → Type 0
Slotted path k = (j : ℕ) → j < k → slice_index path j < 32

abbrev pub models : List CodeRow → List Row
models rows = map model rows

-- how many blocks the rows of a stack have
abbrev pub width : List Row → ℕ
width rs = length (row_at rs 0).opened

-- slot s of row j, one of the rows to row k, is one of its next block's
pub record ChildOf (rs : List Row) (k j s : ℕ) : Type 0 where
  pub within : j ≤ k
  pub low : j < 32
  pub slot : s < 32
  pub offered : has (next_mask (row_at rs j)) s ≡ true

-- slot s of row j is the first of those to come from slot a of row k on
pub record ComesFirst (rs : List Row) (path : List ℕ) (k a j s : ℕ) : Type 0 where
  pub child : ChildOf rs k j s
  pub same : (f : Row → Row) (n : ℕ) → to_come f n rs path k a ≡ to_come f n rs path j s

-- the node at row k of a stack
abbrev pub node_at : List Row → List ℕ → ℕ → Node
node_at rs path k = record { path = take k path; row = row_at rs k }
