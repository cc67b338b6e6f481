-- A block that keeps only the slots of a mask: the row is narrowed by that test.
use Rattle.std.proofs.Common.{◌≡◌, ℕ, ◌^◌, ◌<◌, Bool, true, false, not, ◌&&◌, ◌||◌, eqb, List, length, get_or, set, sym, refl, ap, ◌∙◌, subst, inl, inr, arith, length-set}
use lib.Bits.{and_le_l, bit_and}
use Rattle.std.proofs.lemmas.List.{ext_get_or, get_or_past, get_or-set_other, get_or-set_same}
use Rattle.std.proofs.lemmas.Bool.{cases_Bool, cases_eq, cases_lt, eq-eqb, ne_eqb}
use Rattle.network.specs.Sheets.{has}
use Rattle.network.specs.Rows.{Row, dead, keep, narrowed_by, passing, wipe, with_present}
use Rattle.network.specs.Laws.{LawfulRow}
use Rattle.network.proofs.Masks.{has_none, same_masks}
use Rattle.network.proofs.MaskBits.{has_and}
use Rattle.network.proofs.Wiping.{wipe_live, wipe_long, wipe_zero}
use Rattle.network.proofs.Narrowing.{narrowed_lawful, passing_below, passing_has, passing_long}

-- a lawful row's own masks are wiped already
pub wipe_own : {r : Row} → LawfulRow r → with_present r r.present ≡ r
wipe_own {r} lr = ap (λ ms. record { opened = r.opened; present = ms; decided = r.decided }) (elim (cases_Bool (dead r)) [
  | inl e ↦ ext_get_or 0 (wipe r.present) r.present (wipe_long r.present) (λ b _. wipe_zero r.present e b ∙ sym (lr.wiped e b))
  | inr e ↦ wipe_live r.present e
])

-- the test of a block that keeps the slots of a mask
abbrev pub keeps : ℕ → ℕ → ℕ → ℕ → Bool
keeps b m a s = not (eqb a b) || has m s

kept_has : (ms : List ℕ) (b m a s : ℕ) → has (get_or (set ms b (bit_and (get_or ms b 0) m)) a 0) s ≡ (has (get_or ms a 0) s && keeps b m a s)
kept_has ms b m a s = elim (cases_eq a b) [
  | inl e ↦ subst (λ x. has (get_or (set ms b (bit_and (get_or ms b 0) m)) x 0) s ≡ (has (get_or ms x 0) s && keeps b m x s)) (sym e) (elim (cases_lt b (length ms)) [
    | inl l ↦ ap (λ x. has x s) (get_or-set_same ms b (bit_and (get_or ms b 0) m) 0 l) ∙ has_and (get_or ms b 0) m s
        ∙ ap (λ v. has (get_or ms b 0) s && (not v || has m s)) (sym (eq-eqb b b refl))
    | inr l ↦ (let n : length (set ms b (bit_and (get_or ms b 0) m)) ≡ length ms = length-set ms b (bit_and (get_or ms b 0) m) in
        ap (λ x. has x s) (get_or_past (set ms b (bit_and (get_or ms b 0) m)) b 0 (omega arith)) ∙ has_none s
        ∙ ap (λ v. v && keeps b m b s) (sym (ap (λ x. has x s) (get_or_past ms b 0 l) ∙ has_none s)))
  ])
  | inr d ↦ ap (λ x. has x s) (get_or-set_other ms b a (bit_and (get_or ms b 0) m) 0 d)
      ∙ sym (and_yes (has (get_or ms a 0) s)) ∙ ap (λ v. has (get_or ms a 0) s && (not v || has m s)) (sym (ne_eqb a b d))
]
  where
    and_yes : (v : Bool) → (v && true) ≡ v
    and_yes true = refl
    and_yes false = refl

-- keeping the slots of a mask is narrowing by that test
pub keep_narrows : {r : Row} → LawfulRow r → (b m : ℕ) → keep r b m ≡ narrowed_by (keeps b m) r
keep_narrows {r} lr b m =
    let ms : List ℕ = r.present in
    let x : ℕ = bit_and (get_or ms b 0) m in
    let n : length (set ms b x) ≡ length ms = length-set ms b x in
    let k : length (passing (keeps b m) ms) ≡ length ms = passing_long (keeps b m) ms in
    ap (with_present r) (ext_get_or 0 (set ms b x) (passing (keeps b m) ms) (n ∙ sym k) (λ a _.
    same_masks 32 (get_or (set ms b x) a 0) (get_or (passing (keeps b m) ms) a 0) (below a) (passing_below (keeps b m) ms a)
    (λ s l. kept_has ms b m a s ∙ sym (passing_has (keeps b m) ms a s l))))
  where
    below : (a : ℕ) → get_or (set r.present b (bit_and (get_or r.present b 0) m)) a 0 < 2 ^ 32
    below a = elim (cases_eq a b) [
      | inl e ↦ subst (λ z. get_or (set r.present b (bit_and (get_or r.present b 0) m)) z 0 < 2 ^ 32) (sym e) (elim (cases_lt b (length r.present)) [
        | inl l ↦ omega (arith, get_or-set_same r.present b (bit_and (get_or r.present b 0) m) 0 l, and_le_l (get_or r.present b 0) m, lr.present_masks b)
        | inr l ↦ (let n : length (set r.present b (bit_and (get_or r.present b 0) m)) ≡ length r.present = length-set r.present b (bit_and (get_or r.present b 0) m) in
            omega (arith, get_or_past (set r.present b (bit_and (get_or r.present b 0) m)) b 0 (omega arith)))
      ])
      | inr d ↦ omega (arith, get_or-set_other r.present b a (bit_and (get_or r.present b 0) m) 0 d, lr.present_masks a)
    ]

pub keep_lawful : {r : Row} → LawfulRow r → (b m : ℕ) → LawfulRow (keep r b m)
keep_lawful {r} lr b m = subst LawfulRow (sym (keep_narrows lr b m)) (narrowed_lawful (keeps b m) r lr)
