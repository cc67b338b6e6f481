-- The sheets of a network within the limits make a lawful bank, and its masks open a session on them.
use Rattle.std.proofs.Common.{◌≡◌, ℕ, zero, suc, ◌^◌, ◌<◌, ◌≤◌, false, ◌||◌, eqb, ltb, List, [], ◌∷◌, map, length, get_or, None, sym, ap, ◌∙◌, subst, inl, inr, ⊎_elim, arith, length-append}
use Rattle.std.specs.List.{AllByRecursion}
use Rattle.std.proofs.lemmas.List.{length-map}
use Rattle.std.proofs.lemmas.Bool.{cond-false, le-ltb, ne_eqb, or_from}
use Rattle.network.specs.Sheets.{In, Sheet, sheet_at}
use Rattle.network.specs.Laws.{Bounded, LawfulBank, LawfulSheet}
use Rattle.network.proofs.Members.{of_append, of_map, sheet_in}
use Rattle.banks.specs.Accepted.{distinct_apart}
use Rattle.listing.specs.Model.{Step, blank, listing, open_call, started, step}
use Rattle.card.specs.Sheets.{sheet_of_rule, sheet_of_table, sheets_of}
use Rattle.card.specs.Spelling.{Network, ScopeWithin, Within}
use Rattle.card.proofs.Accepting.{holds}
use Rattle.script.specs.Transcript.{opened}

-- what holds of each element holds of a member
all_of : {A : Type 0} (P : A → Type 0) (xs : List A) (x : A) → AllByRecursion P xs → In x xs → P x
all_of P [] x h m = absurd m
all_of P (y ∷ ys) x h (inl e) = subst P (sym e) h.0
all_of P (y ∷ ys) x h (inr m) = all_of P ys x h.1 m

block_below : (n : ℕ) (bs : List ℕ) → AllByRecursion (λ b. b < n) bs → (p : ℕ) → p < length bs → get_or bs p 255 < n
block_below n [] h p l = absurd (omega arith)
block_below n (b ∷ bs) h zero l = h.0
block_below n (b ∷ bs) h (suc p) l = block_below n bs h.1 p (omega arith)

sheet_lawful : (n : ℕ) → n ≤ 32 → (sh : Sheet) → ScopeWithin n sh.scope → LawfulSheet sh
sheet_lawful n small sh h = record {
  low = h.low;
  high = h.high;
  blocks = λ p l. let k = block_below n sh.scope h.blocks p l in omega arith;
  apart = distinct_apart sh.scope h.apart;
}

pub masks_bounded : (ms : List ℕ) → AllByRecursion (λ m. m < 2 ^ 32) ms → Bounded ms
masks_bounded [] h b = omega arith
masks_bounded (m ∷ ms) h zero = h.0
masks_bounded (m ∷ ms) h (suc b) = masks_bounded ms h.1 b

module _ (x : Network) (h : Within x) where
  table_lawful : (sh : Sheet) → In sh (map sheet_of_table x.tables) → LawfulSheet sh
  table_lawful sh i =
      let r = of_map sheet_of_table x.tables sh i in
      subst LawfulSheet (sym r.2) (sheet_lawful (length x.masks) h.few.1 (sheet_of_table r.0) (all_of _ x.tables r.0 h.tables r.1).scope)

  rule_lawful : (sh : Sheet) → In sh (map sheet_of_rule x.rules) → LawfulSheet sh
  rule_lawful sh i =
      let r = of_map sheet_of_rule x.rules sh i in
      subst LawfulSheet (sym r.2) (sheet_lawful (length x.masks) h.few.1 (sheet_of_rule r.0) (all_of _ x.rules r.0 h.rules r.1))

  pub bank_lawful : LawfulBank (sheets_of x)
  bank_lawful = record {
    few = omega (
      arith,
      length-append (map sheet_of_table x.tables) (map sheet_of_rule x.rules),
      length-map x.tables sheet_of_table,
      length-map x.rules sheet_of_rule,
      h.sheets,
      h.few_rules,
    );
    each = λ c l.
        let sh : Sheet = sheet_at (sheets_of x) c in
        ⊎_elim (table_lawful sh) (rule_lawful sh) (of_append (map sheet_of_table x.tables) (map sheet_of_rule x.rules) sh (sheet_in (sheets_of x) c l));
  }

  -- a session can be opened on it
  pub starts : step blank (open_call (sheets_of x) x.masks) ≡ started x.masks (map (λ _. None) x.masks)
  starts =
      let low : length x.masks ≡ 0 → ⊥ = λ e. omega (arith, h.few.0) in
      let good : (eqb (length x.masks) 0 || ltb 32 (length x.masks)) ≡ false = or_from _ _ (ne_eqb (length x.masks) 0 low) (le-ltb 32 (length x.masks) h.few.1) in
      let fit = (holds x h (record { masks = []; tables = []; cells = []; rules = [] })).fit in
      cond-false _ _ _ good ∙ cond-false _ _ _ fit

  -- and begins with no pins
  pub opens : opened (sheets_of x) x.masks ≡ listing (record { opened = x.masks; pins = map (λ _. None) x.masks; last = []; shown = [] })
  opens = ap (λ (s : Step). s.state) starts
