-- What a table of block records holds: open masks, pins, and the mask that each block has under its pin.
use Rattle.std.specs.Prelude.{ℕ, ◌^◌, cond, List, map, Some, None, Option, nat_lt}
use Rattle.listing.specs.declared.record.BlockRecord.{BlockRecord}

abbrev pub masks_of : List BlockRecord → List ℕ
masks_of rs = map (λ r. r.opened) rs

abbrev pub pins_of : List BlockRecord → List (Option ℕ)
pins_of rs = map (λ r. r.pin) rs

abbrev pub unpinned : ℕ → BlockRecord
unpinned m = record { opened = m; pin = None }

abbrev pub pinned_at : BlockRecord → ℕ → BlockRecord
pinned_at r s = record { opened = r.opened; pin = Some s }

-- a block's mask under its pin
abbrev pub mask_under : ℕ → Option ℕ → ℕ
mask_under m None = m
mask_under m (Some s) = cond (nat_lt s 32) (2 ^ s) 0

abbrev pub record_mask : BlockRecord → ℕ
record_mask r = mask_under r.opened r.pin
