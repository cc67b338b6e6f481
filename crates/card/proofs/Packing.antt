-- A list of numbers is read piece by piece: what is seen so far, one piece more, and the last.
use Rattle.std.proofs.Common.{◌≡◌, ℕ, ◌+◌, ◌<◌, ◌≤◌, min, true, false, List, [], ◌∷◌, ◌++◌, map, length, get_or, take, drop, set, Some, None, sym, refl, ap, ◌∙◌, subst, inl, inr, append_assoc, append-nil, zero-add, arith, length-set}
use Rattle.std.specs.List.{range_with_len, list_all}
use Rattle.std.proofs.lemmas.List.FromFn.{get_or-range_with_len}
use Rattle.std.proofs.lemmas.List.{get_or_append_left, get_or-map, get_or_past, get_or_push, get_or-set_other, get_or-set_same, length_push, map_push, same_lists}
use Rattle.std.proofs.lemmas.Bool.{and_from, and_left, and_right, cases_eq, cases_lt}
use Rattle.card.specs.declared.list.NumberList.{NumberList}
use Rattle.card.specs.Verdict.{is_number, pieces, value_of}
use Rattle.card.specs.Parts.{capped, CutAt, Numbered}
use Rattle.card.specs.Lists.{Holds, Listed, packed}
use Rattle.card.proofs.Tests.{all_pass_append}
use Rattle.card.proofs.Cuts.{pieces_at, pieces_whole}

pub packed_at : (xs : List ℕ) (k d : ℕ) → k < 6 → get_or (packed xs) k d ≡ min (get_or xs k 255) 255
packed_at xs k d l = get_or-map (λ p. min (get_or xs p 255) 255) (range_with_len 0 6) k 0 d l ∙ ap (λ p. min (get_or xs p 255) 255) (get_or-range_with_len 0 6 k 0 l ∙ zero-add k)

-- one number more, where there is room and where there is none
pub pack_more : (xs : List ℕ) (v n : ℕ) → length xs < 6 → n ≡ capped v → set (packed xs) (length xs) (min n 255) ≡ packed (xs ++ (v ∷ []))
pack_more xs v n room is = same_lists _ _ (length-set (packed xs) (length xs) (min n 255)) (λ k d h. go k d (omega (arith, length-set (packed xs) (length xs) (min n 255))))
  where
    go : (k d : ℕ) → k < 6 → get_or (set (packed xs) (length xs) (min n 255)) k d ≡ get_or (packed (xs ++ (v ∷ []))) k d
    go k d l = elim (cases_eq k (length xs)) [
      | inl e ↦
          subst (λ i. get_or (set (packed xs) (length xs) (min n 255)) i d ≡ get_or (packed (xs ++ (v ∷ []))) i d) (sym e)
          (get_or-set_same (packed xs) (length xs) (min n 255) d room ∙ omega (arith, packed_at (xs ++ (v ∷ [])) (length xs) d room, get_or_push xs v 255 (length xs) refl))
      | inr e ↦ get_or-set_other (packed xs) (length xs) k (min n 255) d e ∙ packed_at xs k d l ∙ rest k e ∙ sym (packed_at (xs ++ (v ∷ [])) k d l)
    ]
      where
        rest : (k : ℕ) → (k ≡ length xs → ⊥) → min (get_or xs k 255) 255 ≡ min (get_or (xs ++ (v ∷ [])) k 255) 255
        rest k e = ap (λ y. min y 255) (elim (cases_lt k (length xs)) [
          | inl l ↦ sym (get_or_append_left xs (v ∷ []) 255 k l)
          | inr l ↦ get_or_past xs k 255 l ∙ sym (get_or_past (xs ++ (v ∷ [])) k 255 (omega (arith, length_push xs v, e)))
        ])

pub pack_full : (xs : List ℕ) (v : ℕ) → 6 ≤ length xs → packed xs ≡ packed (xs ++ (v ∷ []))
pack_full xs v full = same_lists _ _ refl (λ k d h. packed_at xs k d h ∙ ap (λ y. min y 255) (sym (get_or_append_left xs (v ∷ []) 255 k (omega arith))) ∙ sym (packed_at (xs ++ (v ∷ [])) k d h))

-- a push where there is room and where there is none
pub pushed_in : (l : NumberList) (n m : ℕ) → l.count < 6 → m ≡ min n 255 → (xs : List ℕ) (v : ℕ) → Holds l xs → n ≡ capped v →
    Holds (record { count = l.count + 1; numbers = set l.numbers l.count m }) (xs ++ (v ∷ []))
pushed_in l n m room least xs v h is = record {
  count = omega (arith, length_push xs v, h.count);
  numbers = cc (h.numbers, h.count, least, pack_more xs v n (omega (arith, h.count)) is);
}

pub pushed_past : (l : NumberList) → 6 ≤ l.count → (xs : List ℕ) (v : ℕ) → Holds l xs → Holds (record { count = l.count + 1; numbers = l.numbers }) (xs ++ (v ∷ []))
pushed_past l full xs v h = record { count = omega (arith, length_push xs v, h.count); numbers = h.numbers ∙ pack_full xs v (omega (arith, h.count)) }

-- pieces seen before the rest, each of them a number that the list holds
abbrev pub Seen : List ℕ → List ℕ → NumberList → Type 0
Seen value rest l = (seen : List (List ℕ)) × (pieces value ≡ seen ++ pieces rest) × (list_all is_number seen ≡ true) × Holds l (map value_of seen)

-- what a push does
abbrev pub Pushed : NumberList → ℕ → NumberList → Type 0
Pushed l n m = (xs : List ℕ) (v : ℕ) → Holds l xs → n ≡ capped v → Holds m (xs ++ (v ∷ []))

fails : (ps : List (List ℕ)) (q : List ℕ) (qs : List (List ℕ)) → is_number q ≡ false → list_all is_number (ps ++ (q ∷ qs)) ≡ false
fails [] q qs e = and_left _ _ e
fails (p ∷ ps) q qs e = and_right _ _ (fails ps q qs e)

module _ (value rest : List ℕ) (l : NumberList) where
  one_more : (m : NumberList) (p : List ℕ) (ps : List (List ℕ)) (n : ℕ) → pieces rest ≡ p ∷ ps → Numbered p (Some n) → Pushed l n m → Seen value rest l →
      (seen : List (List ℕ)) × (pieces value ≡ seen ++ ps) × (list_all is_number seen ≡ true) × Holds m (map value_of seen)
  one_more m p ps n e k push (seen, is, pass, h) = (
    seen ++ (p ∷ []),
    is ∙ ap (λ qs. seen ++ qs) e ∙ sym (append_assoc seen (p ∷ []) ps),
    all_pass_append is_number seen (p ∷ []) pass (and_from _ _ k.0 refl),
    subst (Holds m) (sym (map_push value_of seen p)) (push (map value_of seen) (value_of p) h k.1),
  )

  one_fails : (p : List ℕ) (ps : List (List ℕ)) → pieces rest ≡ p ∷ ps → Numbered p None → Seen value rest l → Listed value None
  one_fails p ps e k (seen, is, pass, h) = ap (list_all is_number) (is ∙ ap (λ qs. seen ++ qs) e) ∙ fails seen p ps k

  pub seen_more : (m : NumberList) (i n : ℕ) → CutAt 44 rest (Some i) → Numbered (take i rest) (Some n) → Pushed l n m → Seen value rest l → Seen value (drop (i + 1) rest) m
  seen_more m i n cut k push s = one_more m (take i rest) (pieces (drop (i + 1) rest)) n (pieces_at rest i cut) k push s

  pub seen_fails : (i : ℕ) → CutAt 44 rest (Some i) → Numbered (take i rest) None → Seen value rest l → Listed value None
  seen_fails i cut k s = one_fails (take i rest) (pieces (drop (i + 1) rest)) (pieces_at rest i cut) k s

  pub last_fails : CutAt 44 rest None → Numbered rest None → Seen value rest l → Listed value None
  last_fails cut k s = one_fails rest [] (pieces_whole rest cut) k s

  pub last_more : (m : NumberList) (n : ℕ) → CutAt 44 rest None → Numbered rest (Some n) → Pushed l n m → Seen value rest l → Listed value (Some m)
  last_more m n cut k push s =
      let (seen, is, pass, h) = one_more m rest [] n (pieces_whole rest cut) k push s in
      let all : pieces value ≡ seen = is ∙ append-nil seen in
      (ap (list_all is_number) all ∙ pass, subst (λ ps. Holds m (map value_of ps)) (sym all) h)
