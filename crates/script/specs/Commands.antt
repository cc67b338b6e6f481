-- What a command line is read as, and which filter the first line chooses.
use Rattle.std.specs.Prelude.{ℕ, zero, suc, ◌^◌, Bool, cond, ◌&&◌, List, Ok, Err, codes, Result, nat_le, nat_lt}
use Rattle.network.specs.declared.refusal.Refusal.{Refusal}
use Rattle.network.specs.declared.refusal.Refusal.TheVariants.{LimitExceeded, Malformed}
use Rattle.filters.specs.declared.nfc.Nfc.{Nfc}
use Rattle.filters.specs.declared.nfc.Nfc.TheVariants.{Nfc0, Nfc1, Nfc2, Nfc3, Nfc4, Nfc5}
use Rattle.card.specs.Verdict.{Cut, cut, is_number, same_bytes, value_of}
use Rattle.script.specs.declared.command.Command.{Command}
use Rattle.script.specs.declared.command.Command.TheVariants.{Next, Pin, Rewind}

-- a number up to 4,294,967,295
abbrev pub is_small : List ℕ → Bool
is_small bs = nat_lt (value_of bs) (2 ^ 32)

-- form first, then limits
abbrev pub checked : {A : Type 0} → Bool → Bool → A → Result A Refusal
checked form limit v = cond form (cond limit (Ok v) (Err LimitExceeded)) (Err Malformed)

-- two numbers with a comma between them
abbrev pub pin_read : Cut → Result Command Refusal
pin_read k = checked (k.found && (is_number k.front && is_number k.back)) (is_small k.front && is_small k.back) (Pin (value_of k.front) (value_of k.back))

abbrev pub rewind_read : List ℕ → Result Command Refusal
rewind_read bs = cond (same_bytes bs (codes "1")) (Ok Rewind) (Err Malformed)

abbrev pub next_read : List ℕ → Result Command Refusal
next_read bs = checked (is_number bs) (is_small bs) (Next (value_of bs))

abbrev pub value_read : List ℕ → List ℕ → Result Command Refusal
value_read key value =
    cond (same_bytes key (codes "pin")) (pin_read (cut 44 value))
    (cond (same_bytes key (codes "rewind")) (rewind_read value) (cond (same_bytes key (codes "next")) (next_read value) (Err Malformed)))

abbrev pub command_read : List ℕ → Result Command Refusal
command_read bs = cond (cut 61 bs).found (value_read (cut 61 bs).front (cut 61 bs).back) (Err Malformed)

-- the filter of a number from 0 to 5
abbrev pub filter_numbered : ℕ → Nfc
filter_numbered zero = Nfc0
filter_numbered (suc zero) = Nfc1
filter_numbered (suc (suc zero)) = Nfc2
filter_numbered (suc (suc (suc zero))) = Nfc3
filter_numbered (suc (suc (suc (suc zero)))) = Nfc4
filter_numbered (suc (suc (suc (suc (suc n))))) = Nfc5

abbrev pub filter_read : List ℕ → Result Nfc Refusal
filter_read bs =
    cond ((cut 61 bs).found && same_bytes (cut 61 bs).front (codes "filter"))
    (checked (is_number (cut 61 bs).back) (nat_le (value_of (cut 61 bs).back) 5) (filter_numbered (value_of (cut 61 bs).back))) (Err Malformed)
