-- A line is good exactly when it has the due key and spells a value within the limits: for any key and value, and for numbers, lists and words.
use Rattle.std.proofs.Common.{◌≡◌, ℕ, ◌^◌, ◌<◌, Bool, true, false, cond, ◌&&◌, ◌||◌, ◌⊎◌, List, [], ◌∷◌, ◌++◌, length, decimal, Decides, sym, refl, ap, ◌∙◌, subst, inl, inr}
use Rattle.std.specs.List.{list_all, AllByRecursion}
use Rattle.std.proofs.lemmas.Bool.{and_parts, and_from, cases_Bool, true≢false}
use Rattle.network.specs.declared.refusal.Refusal.{Refusal}
use Rattle.network.specs.declared.refusal.Refusal.TheVariants.{LimitExceeded, Malformed, OutOfRange, Repeated}
use Rattle.card.specs.Spelling.{Network, listed}
use Rattle.card.specs.Verdict.{Reading, nothing_due, faulty, good, judge_line, judge, judged, cut, same_bytes, is_number, value_of, pieces}
use Rattle.card.proofs.Tests.{never, without, all_pass_append}
use Rattle.card.proofs.Numbers.{value_of_decimal, is_number_decimal, decimal_value_of, decimal_without}
use Rattle.card.proofs.NumberLists.{values_of, values_of_listed, listed_values_of, listed_without}
use Rattle.card.proofs.Lines.{same_bytes_true, same_bytes_self, cut_back, cut_key}
use Rattle.card.proofs.Passages.{Accepts, Passage}

pub no_good : {P : Type 0} (n : Refusal) (q : Reading) → faulty n ≡ good q → P
no_good n q e = absurd (never cc)

-- a line is good where each of its checks passes
pub judged_good : (a b c d : Bool) (r q : Reading) → judged a b c d r ≡ good q → (a ≡ true) × (b ≡ true) × (c ≡ true) × (d ≡ true) × (q ≡ r)
judged_good true true true true r q e = (refl, refl, refl, refl, cc)
judged_good true true true false r q e = no_good Repeated q e
judged_good true true false d r q e = no_good OutOfRange q e
judged_good true false c d r q e = no_good LimitExceeded q e
judged_good false b c d r q e = no_good Malformed q e

-- a key, an equals sign and a value
abbrev pub text : List ℕ → List ℕ → List ℕ
text key value = key ++ (61 ∷ value)

-- the one line with this key for v
abbrev pub with_key : {V : Type 0} → List ℕ → (V → List ℕ) → V → List (List ℕ)
with_key key write v = text key (write v) ∷ []

-- the parts of a good line
pub judge_line_good : (r : Reading) (l : List ℕ) (q : Reading) → judge_line r l ≡ good q →
    (key : List ℕ) × (value : List ℕ) × (l ≡ text key value) × (judge r r.due key value ≡ good q)
judge_line_good r l q e = go (cases_Bool (cut 61 l).found)
  where
    go : (((cut 61 l).found ≡ true) ⊎ ((cut 61 l).found ≡ false)) → (key : List ℕ) × (value : List ℕ) × (l ≡ text key value) × (judge r r.due key value ≡ good q)
    go (inl f) = ((cut 61 l).front, (cut 61 l).back, cut_back 61 l f, rw f at e)
    go (inr f) = no_good Malformed q (rw f at e)

-- a key that neither an equals sign nor a newline ends
abbrev Plain : List ℕ → Type 0
Plain key = (without 61 key ≡ true) × (without 10 key ≡ true)

module _ (r : Reading) (some : r.due ≡ nothing_due → ⊥) (key : List ℕ) (plain : Plain key) where
  -- a line with this key and a value that `reads` and `writes` tell
  pub keyed : {V : Type 0} {L : V → Type 0} {next : V → Reading} (form limit range order : List ℕ → Bool) (read : List ℕ → V) (write : V → List ℕ) →
      ((k bs : List ℕ) → judge r r.due k bs ≡ judged (same_bytes k key && form bs) (limit bs) (range bs) (order bs) (next (read bs))) →
      ((bs : List ℕ) → form bs ≡ true → limit bs ≡ true → range bs ≡ true → order bs ≡ true → L (read bs) × (bs ≡ write (read bs))) →
      ((v : V) → L v → (form (write v) ≡ true) × (limit (write v) ≡ true) × (range (write v) ≡ true) × (order (write v) ≡ true) × (read (write v) ≡ v) × (without 10 (write v) ≡ true)) →
      Passage r L (with_key key write) next
  keyed {V} {L} {next} form limit range order read write is reads writes = record {
    takes = takes;
    gives = λ v h more x accepts.
        let (a, b, c, d, e, _) = writes v h in
        (next v, rw (cut_key 61 key (write v) plain.0, is key (write v), same_bytes_self key, a, b, c, d, e), accepts);
    clean = λ v h. and_from _ _ (all_pass_append _ key (61 ∷ write v) plain.1 (writes v h).5) refl;
  }
    where
      takes : (ls : List (List ℕ)) (x : Network) → Accepts r ls x → (v : V) × (more : List (List ℕ)) × L v × (ls ≡ text key (write v) ∷ more) × Accepts (next v) more x
      takes [] x a = absurd (some a.0)
      takes (l ∷ ls) x accepts =
          let (k, bs, l-is, f) = judge_line_good r l accepts.0 accepts.1 in
          let (a, b, c, d, q-is) = judged_good _ _ _ _ _ accepts.0 (sym (is k bs) ∙ f) in
          let (same, formed) = and_parts (same_bytes k key) (form bs) a in
          let (h, bs-is) = reads bs formed b c d in
          (read bs, ls, h, ap (λ m. m ∷ ls) (l-is ∙ cc (same_bytes_true k key same)), rw q-is at accepts.2)

  -- a line with a number within a limit
  pub numbered : {L : ℕ → Type 0} {next : ℕ → Reading} (limit : ℕ → Bool) →
      ((k bs : List ℕ) → judge r r.due k bs ≡ judged (same_bytes k key && is_number bs) (limit (value_of bs)) true true (next (value_of bs))) →
      ((n : ℕ) → Decides (limit n) (L n)) → ((n : ℕ) → L n → n < 2 ^ 64) → Passage r L (with_key key decimal) next
  numbered limit is tells small = keyed is_number (λ bs. limit (value_of bs)) (λ _. true) (λ _. true) value_of decimal is
      (λ bs f b _ _. let h = (tells (value_of bs)).0 b in (h, sym (decimal_value_of bs f (small (value_of bs) h))))
      (λ n h.
      let s = small n h in
      let e = value_of_decimal n s in
      (is_number_decimal n s, rw e ((tells n).1 h), refl, refl, e, decimal_without 10 n s refl))

  -- a line with a list of numbers within limits
  pub numbered_list : {L : List ℕ → Type 0} {next : List ℕ → Reading} (form limit range order : List ℕ → Bool) →
      ((k bs : List ℕ) → judge r r.due k bs ≡ judged (same_bytes k key && form bs) (limit bs) (range bs) (order bs) (next (values_of bs))) →
      ((bs : List ℕ) → form bs ≡ true → limit bs ≡ true → range bs ≡ true → order bs ≡ true → (list_all is_number (pieces bs) ≡ true) × L (values_of bs)) →
      ((bs : List ℕ) → list_all is_number (pieces bs) ≡ true → L (values_of bs) → (form bs ≡ true) × (limit bs ≡ true) × (range bs ≡ true) × (order bs ≡ true)) →
      ((xs : List ℕ) → L xs → (0 < length xs) × AllByRecursion (λ x. x < 2 ^ 64) xs) → Passage r L (with_key key listed) next
  numbered_list {L} form limit range order is tells passes fine = keyed form limit range order values_of listed is
      (λ bs a b c d. let (n, h) = tells bs a b c d in (h, sym (listed_values_of bs n (fine (values_of bs) h).1)))
      (λ xs h.
      let (some, small) = fine xs h in
      let (n, e) = values_of_listed xs some small in
      let (a, b, c, d) = passes (listed xs) n (subst L (sym e) h) in
      (a, b, c, d, e, listed_without 10 refl refl xs small))

  -- a line with one of two words
  pub worded : {V : Type 0} {next : V → Reading} (one two : V) (word : V → List ℕ) →
      ((k bs : List ℕ) → judge r r.due k bs ≡ cond (same_bytes k key) (cond (same_bytes bs (word one)) (good (next one)) (cond (same_bytes bs (word two)) (good (next two)) (faulty Malformed))) (faulty Malformed)) →
      ((v : V) → (same_bytes (word v) (word one) || same_bytes (word v) (word two) ≡ true) × (cond (same_bytes (word v) (word one)) one two ≡ v) × (without 10 (word v) ≡ true)) →
      Passage r (λ _. Unit {0}) (with_key key word) next
  worded {next} one two word is writes =
      keyed (λ bs. same_bytes bs (word one) || same_bytes bs (word two)) (λ _. true) (λ _. true) (λ _. true) (λ bs. cond (same_bytes bs (word one)) one two) word
      (λ k bs. is k bs ∙ as_judged (same_bytes k key) (same_bytes bs (word one)) (same_bytes bs (word two)))
      (λ bs a _ _ _. (tt, reads bs (same_bytes bs (word one)) (same_bytes bs (word two)) refl refl a))
      (λ v _. ((writes v).0, refl, refl, refl, (writes v).1, (writes v).2))
    where
      as_judged : (a b c : Bool) → cond a (cond b (good (next one)) (cond c (good (next two)) (faulty Malformed))) (faulty Malformed) ≡ judged (a && (b || c)) true true true (next (cond b one two))
      as_judged false b c = refl
      as_judged true true c = refl
      as_judged true false true = refl
      as_judged true false false = refl

      reads : (bs : List ℕ) (b c : Bool) → same_bytes bs (word one) ≡ b → same_bytes bs (word two) ≡ c → (b || c) ≡ true → bs ≡ word (cond b one two)
      reads bs true c e f a = same_bytes_true bs (word one) e
      reads bs false true e f a = same_bytes_true bs (word two) f
      reads bs false false e f a = absurd (true≢false (sym a))
