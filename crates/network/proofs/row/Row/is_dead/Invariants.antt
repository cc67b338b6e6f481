use Rattle.std.proofs.Common.{◌≡◌, ℕ, ◌<◌, slice_index}
use Rattle.network.proofs.row.Row.is_dead.Given as goal

abbrev pub invariant-loop-mask : goal.invariant-loop-mask
invariant-loop-mask l = (b : ℕ) → b < l.mask-index → slice_index l.mask-items b ≡ 0 → ⊥
