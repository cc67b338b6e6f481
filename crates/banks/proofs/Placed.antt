-- What is asked of the sheet of a number in two banks is asked of the one at its place, and so are its supports.
use Rattle.std.proofs.Common.{◌≡◌, ℕ, Bool, List, length, sym, ap, ◌∙◌}
use Rattle.network.specs.Laws.{LawfulBank}
use Rattle.network.specs.Sheets.{Decides, HasSupport, Sheet, sheet_at, supported}
use Rattle.network.proofs.Supports.{bank_decides}
use Rattle.banks.specs.declared.place.Place.{Place}
use Rattle.banks.specs.Both.{both, place_of, sheet_from}
use Rattle.banks.specs.SheetAt.{both_lawful, sheet_placed}

pub asked_at : {X : Type 0} (ask : Sheet → X) (m n : List Sheet) (c : ℕ) (p : Place) (x : X) → p ≡ place_of (length m) c → x ≡ ask (sheet_from m n p) → x ≡ ask (sheet_at (both m n) c)
asked_at ask m n c p x e h = h ∙ ap ask (sym (sheet_placed m n c p e))

-- the support that a place answers is the pair's, as the test and in words
module _ (m n : List Sheet) (first : LawfulBank m) (second : LawfulBank n) (c : ℕ) (masks : List ℕ) (six : length masks ≡ 6) (p s : ℕ) where
  pub answered_at : (k : Place) (b : Bool) → k ≡ place_of (length m) c → b ≡ supported (sheet_from m n k) masks p s →
      (b ≡ supported (sheet_at (both m n) c) masks p s) × Decides b (HasSupport (sheet_at (both m n) c) masks p s)
  answered_at k b at e =
      let test : b ≡ supported (sheet_at (both m n) c) masks p s = asked_at (λ (sh : Sheet). supported sh masks p s) m n c k b at e in
      (test, bank_decides (both m n) (both_lawful m n first second) c masks six p s test)
