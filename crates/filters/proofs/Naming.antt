-- What a walk along a sheet's scope finds out of the blocks that it names.
use Rattle.std.proofs.Common.{◌≡◌, ℕ, suc, Bool, false, eqb, ltb, leb, List, length, count_by}
use Rattle.network.specs.Sheets.{some_pass}
use Rattle.network.specs.Rows.{Row}

-- the blocks named so far: all are in the row, whether the current one and a decided one are among them, and how many are undecided
pub record Named (r : Row) (xs : List ℕ) (current past : Bool) (future : ℕ) : Type 0 where
  pub in_row : some_pass (λ b. leb (length r.opened) b) xs ≡ false
  pub current_is : current ≡ some_pass (λ b. eqb (suc b) r.decided) xs
  pub past_is : past ≡ some_pass (λ b. ltb b r.decided) xs
  pub future_is : future ≡ count_by (λ b. leb r.decided b) xs
