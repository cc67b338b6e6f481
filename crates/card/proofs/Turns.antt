-- One turn of a loop over the lines of a card: where the reader stands, and the sizes of what has been read.
use Rattle.std.proofs.Common.{◌≡◌, ℕ, ◌+◌, List, Some, Ok, sym, ap, ◌∙◌, subst, arith}
use Rattle.card.specs.declared.entry.Entry.{Entry}
use Rattle.card.specs.declared.places.Places.{Places}
use Rattle.card.specs.declared.reader.Reader.{Reader}
use Rattle.card.specs.declared.sizes.Sizes.{Sizes}
use Rattle.card.specs.Filling.{added, At, Few, ReadsOn, memory_of, Ready}
use Rattle.card.specs.Layout.{Memory, SameLoans, sizes_of}
use Rattle.card.specs.Verdict.{nothing_read, Reading}

pub later_loans : {p q r : Places} → SameLoans p q → SameLoans q r → SameLoans p r
later_loans a b = record { masks = b.masks ∙ a.masks; tables = b.tables ∙ a.tables; cells = b.cells ∙ a.cells; rules = b.rules ∙ a.rules }

-- the sizes of what the reader has read
pub record Counted (card : List ℕ) (r : Reader) (q : Reading) (s : Sizes) : Type 0 where
  pub ready : Ready r
  pub few : Few r.line s
  pub stands : At card r q
  pub sizes : s ≡ sizes_of (memory_of q)

pub first_counted : (card : List ℕ) (r : Reader) (s : Sizes) → Ready r → At card r nothing_read → s ≡ sizes_of (memory_of nothing_read) → Counted card r nothing_read s
first_counted card r s ready stands is = record {
  ready = ready;
  few = subst (Few r.line) (sym is) (record { masks = omega arith; tables = omega arith; cells = omega arith; rules = omega arith });
  stands = stands;
  sizes = is;
}

module _ {card : List ℕ} {r : Reader} {q : Reading} {old : Sizes} (c : Counted card r q old) (s : Reader) (x : Entry) (new : Sizes) (goes : ReadsOn card r q s (Ok (Some x)))
    (few : (n : ℕ) → Few n old → Few (n + 1) new) (sizes : (m : Memory) → old ≡ sizes_of m → new ≡ sizes_of (added x m)) where
  pub later_counted : Counted card s goes.2.0 new
  later_counted = record {
    ready = goes.1.ready;
    few = subst (λ n. Few n new) (sym goes.1.line) (few r.line c.few);
    stands = goes.2.1;
    sizes = sizes (memory_of q) c.sizes ∙ ap sizes_of (sym goes.2.2);
  }
