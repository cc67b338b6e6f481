-- What the filters leave: the two that stabilize leave the largest stable row.
use Rattle.std.proofs.Common.{◌≡◌, ◌<◌, false, List, sym, ap, ◌∙◌}
use Rattle.network.specs.Sheets.{Sheet}
use Rattle.network.specs.Rows.{Row, current_future, dead, past_future}
use Rattle.network.specs.Filters.{stabilized}
use Rattle.network.specs.Laws.{LawfulRow}
use Rattle.network.proofs.FilterLaws.{begun_yes}
use Rattle.network.proofs.Largest.{nfc3_largest, nfc5_largest}
use Rattle.filters.specs.Nfcs.{LeavesLargest, filter_of}
use Rattle.filters.specs.declared.nfc.Nfc.{Nfc}
use Rattle.filters.specs.declared.nfc.Nfc.TheVariants.{Nfc0, Nfc1, Nfc2, Nfc3, Nfc4, Nfc5}

pub leaves_largest : (f : Nfc) (m : List Sheet) (r : Row) → LawfulRow r → LeavesLargest f m r (filter_of f m r)
leaves_largest Nfc0 m r lr = tt
leaves_largest Nfc1 m r lr = tt
leaves_largest Nfc2 m r lr = tt
leaves_largest Nfc3 m r lr = nfc3_largest m r lr
leaves_largest Nfc4 m r lr = tt
leaves_largest Nfc5 m r lr = nfc5_largest m r lr

pub third_leaves : (f : Nfc) (m : List Sheet) (r q : Row) → f ≡ Nfc3 → 0 < r.decided → dead r ≡ false → q ≡ stabilized current_future m r → q ≡ filter_of f m r
third_leaves f m r q e l d s = s ∙ sym (begun_yes (stabilized current_future) m r l d) ∙ sym (ap (λ x. filter_of x m r) e)

pub fifth_leaves : (f : Nfc) (m : List Sheet) (r q : Row) → f ≡ Nfc5 → 0 < r.decided → dead r ≡ false → q ≡ stabilized past_future m r → q ≡ filter_of f m r
fifth_leaves f m r q e l d s = s ∙ sym (begun_yes (stabilized past_future) m r l d) ∙ sym (ap (λ x. filter_of x m r) e)
