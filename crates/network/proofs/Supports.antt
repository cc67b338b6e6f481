-- The test `supported` tells whether a tuple supports a slot.
use Rattle.std.proofs.Common.{◌≡◌, ℕ, ◌^◌, ◌<◌, ◌≤◌, Bool, true, ◌&&◌, ltb, List, length, get_or, take, set, sym, ap, ◌∙◌, subst, ap₂, inl, inr, arith, length-set}
use Rattle.std.proofs.lemmas.List.{get_or-set_other, get_or-set_same, get_or-take, length-take-le}
use Rattle.std.proofs.lemmas.Bool.{and_from, and_parts, cases_eq, cases_lt, lt-ltb, ltb-true}
use Rattle.network.specs.Sheets.{Decides, HasSupport, Sheet, Supports, choices, has, sheet_at, some_pass, supported}
use Rattle.network.specs.Laws.{Chosen, LawfulBank}
use Rattle.network.proofs.Members.{sheet_past, some_from, some_in}
use Rattle.network.proofs.Masks.{single_has, single_is}
use Rattle.network.proofs.Choices.{in_choices, of_choices}

module _ (sh : Sheet) (masks : List ℕ) (p s : ℕ) (long : length sh.scope ≤ length masks) where
  tried : List ℕ
  tried = set (take (length sh.scope) masks) p (2 ^ s)

  tried_long : length tried ≡ length sh.scope
  unfolding tried
  tried_long = length-set (take (length sh.scope) masks) p (2 ^ s) ∙ length-take-le (length sh.scope) masks long

  tried_here : p < length sh.scope → get_or tried p 0 ≡ 2 ^ s
  unfolding tried
  tried_here l = get_or-set_same (take (length sh.scope) masks) p (2 ^ s) 0 (omega (arith, length-take-le (length sh.scope) masks long))

  tried_elsewhere : (q : ℕ) → q < length sh.scope → (q ≡ p → ⊥) → get_or tried q 0 ≡ get_or masks q 0
  unfolding tried
  tried_elsewhere q l d = get_or-set_other (take (length sh.scope) masks) p q (2 ^ s) 0 d ∙ get_or-take (length sh.scope) masks q 0 l

  -- a slot that the test passes has a support
  pub support_of : supported sh masks p s ≡ true → (t : List ℕ) × Supports sh masks p s t
  unfolding tried
  support_of e =
      let a = and_parts (ltb p (length sh.scope)) (ltb s 32 && some_pass sh.allows (choices tried)) e in
      let b = and_parts (ltb s 32) (some_pass sh.allows (choices tried)) a.1 in
      let r = some_in sh.allows (choices tried) b.1 in
      let l : p < length sh.scope = ltb-true p (length sh.scope) a.0 in
      let c : Chosen tried r.0 = of_choices tried r.0 r.1 in
      let n : length tried ≡ length sh.scope = tried_long in (
        r.0,
        record {
          allowed = r.2;
          as_many = c.as_many ∙ n;
          here = single_is s (get_or r.0 p 32) (ap (λ m. has m (get_or r.0 p 32)) (sym (tried_here l)) ∙ c.at p (omega arith));
          elsewhere = λ q k d. (c.slot q (omega arith), ap (λ m. has m (get_or r.0 q 32)) (sym (tried_elsewhere q k d)) ∙ c.at q (omega arith));
        },
      )

  -- a slot with a support passes the test
  pub supported_by : p < length sh.scope → s < 32 → (t : List ℕ) → Supports sh masks p s t → supported sh masks p s ≡ true
  unfolding tried
  supported_by l k t u =
      and_from (ltb p (length sh.scope)) (ltb s 32 && some_pass sh.allows (choices tried)) (lt-ltb p (length sh.scope) l)
      (and_from (ltb s 32) (some_pass sh.allows (choices tried)) (lt-ltb s 32 k)
      (some_from sh.allows (choices tried) t (in_choices tried t (record { as_many = u.as_many ∙ sym tried_long; slot = slot; at = at })) u.allowed))
    where
      slot : (q : ℕ) → q < length tried → get_or t q 32 < 32
      slot q h = let n : length tried ≡ length sh.scope = tried_long in elim (cases_eq q p) [
        | inl e ↦ subst (λ x. x < 32) (sym (ap (λ x. get_or t x 32) e ∙ u.here)) k
        | inr d ↦ (u.elsewhere q (omega arith) d).0
      ]

      at : (q : ℕ) → q < length tried → has (get_or tried q 0) (get_or t q 32) ≡ true
      at q h = let n : length tried ≡ length sh.scope = tried_long in elim (cases_eq q p) [
        | inl e ↦ ap₂ has (ap (λ x. get_or tried x 0) e ∙ tried_here l) (ap (λ x. get_or t x 32) e ∙ u.here) ∙ single_has s
        | inr d ↦ (let k : q < length sh.scope = omega arith in ap (λ m. has m (get_or t q 32)) (tried_elsewhere q k d) ∙ (u.elsewhere q k d).1)
      ]

  -- the test and the relation agree
  pub decides : (b : Bool) → b ≡ supported sh masks p s → Decides b (HasSupport sh masks p s)
  decides b e =
      record {
        holds = λ h.
            let y : supported sh masks p s ≡ true = sym e ∙ h in
            let a = and_parts (ltb p (length sh.scope)) (ltb s 32 && some_pass sh.allows (choices (set (take (length sh.scope) masks) p (2 ^ s)))) y in
            let k = and_parts (ltb s 32) (some_pass sh.allows (choices (set (take (length sh.scope) masks) p (2 ^ s)))) a.1 in
            (ltb-true p (length sh.scope) a.0, ltb-true s 32 k.0, support_of y);
        tells = λ h. e ∙ supported_by h.0 h.1 h.2.0 h.2.1;
      }

-- for a sheet of a lawful bank and six masks, also for one that isn't there
pub bank_decides :
    (m : List Sheet) → LawfulBank m → (c : ℕ) (masks : List ℕ) → length masks ≡ 6 → (p s : ℕ) {b : Bool} → b ≡ supported (sheet_at m c) masks p s →
    Decides b (HasSupport (sheet_at m c) masks p s)
bank_decides m bank c masks six p s {b} e = decides (sheet_at m c) masks p s (elim (cases_lt c (length m)) [
  | inl l ↦ (let h : length (sheet_at m c).scope ≤ 6 = (bank.each c l).high in omega arith)
  | inr l ↦ subst (λ (sh : Sheet). length sh.scope ≤ length masks) (sym (sheet_past m c l)) (omega arith)
]) b e
