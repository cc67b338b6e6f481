-- The rows of a stack as the code holds them.
use Rattle.std.proofs.Common.{◌≡◌, ℕ, zero, suc, ◌+◌, add-one, length-set, ◌<◌, Bool, true, false, ◌&&◌, ltb, List, [], ◌∷◌, length, get_or, set, MatchBool, sym, refl, ap, ◌∙◌, arith}
use Rattle.std.proofs.lemmas.List.{set-set, map-set, get_or-map, get_or-set_same}
use Rattle.std.proofs.lemmas.Bool.{and_from, both_ways, lt-ltb}
use Rattle.network.specs.Sheets.{has}
use Rattle.network.specs.Rows.{Row, decide, next_mask}
use Rattle.network.specs.Laws.{LawfulRow}
use Rattle.network.specs.RowModel.{model}
use Rattle.network.specs.declared.row.Row.{Row as CodeRow}
use Rattle.network.proofs.CodeRows.{lawful_of}
use Rattle.listing.specs.ToCome.{row_at, models}

pub read : (rows : List CodeRow) (k : ℕ) (x : CodeRow) → k < length rows → model (get_or rows k x) ≡ row_at (models rows) k
read rows k x h = sym (get_or-map model rows k x (record { opened = []; present = []; decided = 0 }) h)

-- every row of a stack is lawful, and so is the one that stands in for a row that isn't there
pub lawful_at : (rows : List CodeRow) (k : ℕ) → LawfulRow (row_at (models rows) k)
lawful_at [] k = record {
  few = omega arith;
  as_many = refl;
  within = omega arith;
  opened_masks = λ b. omega arith;
  present_masks = λ b. omega arith;
  inside = λ b s l h. h;
  wiped = λ e b. refl;
  single = λ e b l. absurd (omega arith);
}
lawful_at (r ∷ rows) zero = lawful_of (model r) r.lawful
lawful_at (r ∷ rows) (suc k) = lawful_at rows k

-- whether the next block of row k has a slot, as the code asks it
pub has_read : (rows : List CodeRow) (k : ℕ) (x : CodeRow) (s : ℕ) (b : Bool) → k < length rows → s < 32 → b ≡ (ltb s 32 && has (next_mask (model (get_or rows k x))) s) →
    has (next_mask (row_at (models rows) k)) s ≡ b
has_read rows k x s b h l e =
    ap (λ r. has (next_mask r) s) (sym (read rows k x h)) ∙ sym (ap (λ t. t && has (next_mask (model (get_or rows k x))) s) (lt-ltb s 32 l)) ∙ sym e

-- the row that deciding an offered slot leaves
decided_so : (b : Bool) (new old : CodeRow) (v : Row) → b ≡ true → MatchBool b (model new ≡ v) (new ≡ old) → model new ≡ v
decided_so true new old v e h = h
decided_so false new old v e h = absurd (both_ways false refl e)

-- the stack once row j is copied to the next one, the slot decided there and the row filtered
pub descended : (f : Row → Row) (rows : List CodeRow) (j s : ℕ) (x y z decided filtered : CodeRow) (b : Bool) →
    suc j < length rows → s < 32 → has (next_mask (row_at (models rows) j)) s ≡ true →
    let a = get_or rows j x in
    let old = get_or (set rows (j + 1) a) (j + 1) y in
    b ≡ (ltb s 32 && has (next_mask (model old)) s) → MatchBool b (model decided ≡ decide (model old) s) (decided ≡ old) →
    model filtered ≡ f (model (get_or (set (set rows (j + 1) a) (j + 1) decided) (j + 1) z)) →
    models (set (set (set rows (j + 1) a) (j + 1) decided) (j + 1) filtered) ≡ set (models rows) (suc j) (f (decide (row_at (models rows) j) s))
descended f rows j s x y z decided filtered b room small e =
    λ o d h.
    let a = get_or rows j x in
    let old = get_or (set rows (j + 1) a) (j + 1) y in
    let one : model old ≡ row_at (models rows) j = ap model (get_or-set_same rows (j + 1) a y (omega arith)) ∙ read rows j x (omega arith) in
    let offered : b ≡ true = o ∙ and_from (ltb s 32) (has (next_mask (model old)) s) (lt-ltb s 32 small) (ap (λ r. has (next_mask r) s) one ∙ e) in
    let two : model decided ≡ decide (row_at (models rows) j) s = decided_so b decided old (decide (model old) s) offered d ∙ ap (λ r. decide r s) one in
    ap models (set-set (set rows (j + 1) a) (j + 1) decided filtered ∙ set-set rows (j + 1) a filtered) ∙ map-set model rows (j + 1) filtered
    ∙ ap (λ r. set (models rows) (j + 1) r)
    (h ∙ ap f (ap model (get_or-set_same (set rows (j + 1) a) (j + 1) decided z (omega (arith, length-set rows (j + 1) a))) ∙ two))
    ∙ ap (λ i. set (models rows) i (f (decide (row_at (models rows) j) s))) (add-one j)
