-- There is room enough for the network of any card.
use Rattle.std.proofs.Common.{◌≡◌, ℕ, ◌*◌, ◌≤◌, true, List, [], ◌∷◌, length, refl, arith, length-append}
use Rattle.std.specs.List.{AllByRecursion, flat_map}
use Rattle.std.proofs.lemmas.Bool.{and_from, cond-true, le-leb}
use Rattle.std.proofs.lemmas.List.{length-map}
use Rattle.std.proofs.lemmas.List.Sums.{sum_by-cons}
use Rattle.std.proofs.Math.Nat.{mul-le-mul_left}
use Rattle.card.specs.declared.sizes.Sizes.{Sizes}
use Rattle.card.specs.Layout.{cells_of, layout, records_from, rule_record, sizes_of}
use Rattle.card.specs.Reads.{answer_for, fits, judgement}
use Rattle.card.specs.Spelling.{Network, Table, TableWithin, Within}
use Rattle.card.specs.Verdict.{Verdict, fault, spelled, verdict}
use Rattle.card.proofs.Accepting.{records_long}
use Rattle.card.proofs.Sections.{total}
use Rattle.card.proofs.Stored.{tuples_long}
use Rattle.card.proofs.Theorem.{accepted_spells}

cells_few : (n : ℕ) (ts : List Table) → AllByRecursion (TableWithin n) ts → length (flat_map cells_of ts) ≤ 6 * total ts
cells_few n [] h = omega arith
cells_few n (t ∷ ts) h =
    let long : length (cells_of t) ≡ length t.tuples * length t.scope = tuples_long (length t.scope) t.tuples h.0.tuples in
    let few : length t.tuples * length t.scope ≤ length t.tuples * 6 = mul-le-mul_left (length t.tuples) h.0.scope.high in
    omega (arith, length-append (cells_of t) (flat_map cells_of ts), long, few, cells_few n ts h.1, sum_by-cons (λ u. length u.tuples) t ts)

abbrev pub full_room : Sizes
full_room = record { masks = 32; tables = 32; cells = 24576; rules = 192 }

all_fit : (x : Network) → Within x → fits (sizes_of (layout x)) full_room ≡ true
all_fit x h =
    and_from _ _ (le-leb (length x.masks) 32 h.few.1) (and_from _ _ (le-leb (length (records_from 0 x.tables)) 32 (omega (arith, records_long 0 x.tables, h.sheets)))
    (and_from _ _ (le-leb (length (flat_map cells_of x.tables)) 24576 (omega (arith, cells_few (length x.masks) x.tables h.tables, h.few_tuples)))
    (le-leb _ 192 (omega (arith, length-map x.rules rule_record, h.few_rules)))))

pub enough : (card : List ℕ) (room : Sizes) → room ≡ full_room → answer_for (verdict card) room ≡ judgement (verdict card)
enough card room is = rw is (go (verdict card) refl)
  where
    go : (v : Verdict) → verdict card ≡ v → answer_for v full_room ≡ judgement v
    go (fault e k) is = refl
    go (spelled x) is = cond-true _ _ _ (all_fit x (accepted_spells card x is).0)
