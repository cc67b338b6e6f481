use Rattle.std.proofs.Common.{◌≡◌, ℕ, ◌*◌, ◌^◌, ◌<◌, ◌≤◌, get_or, take, fold}
use lib.Count.{ones}
use Rattle.banks.proofs.table_search.Search.combinations.Given as goal

abbrev pub invariant-loop-mask : goal.invariant-loop-mask
invariant-loop-mask l =
    (l.total ≡ fold (λ a m. a * ones m) 1 (take l.mask-index l.self.masks.now)) × (l.total ≤ 32 ^ l.mask-index) × ((k : ℕ) → k < l.mask-index → get_or l.self.masks.now k 0 < 2 ^ 32)
