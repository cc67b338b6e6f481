-- A text is cut at the first place of a byte, and lines and pieces are what is cut off again and again.
use Rattle.std.proofs.Common.{◌≡◌, ℕ, zero, suc, ◌+◌, ◌<◌, true, false, eqb, ltb, List, [], ◌∷◌, length, get_or, take, drop, Option, Some, None, add-one, sym, refl, ap, ◌∙◌, inl, inr, arith}
use Rattle.std.specs.List.{position, position_or_len}
use Rattle.std.proofs.lemmas.List.Quantifiers.{position-Some}
use Rattle.std.proofs.lemmas.Bool.{cases_Bool, eq-eqb, eqb-false, eqb-true, false≢true, cases_lt, le-ltb, lt-ltb, ne_eqb}
use Rattle.card.specs.Verdict.{add_byte, Cut, cut, first_line, Lines, lines, pieces, push_front}
use Rattle.card.specs.Parts.{CutAt}
use Rattle.card.proofs.Tests.{never}

pub cut_at : (c : ℕ) (bs : List ℕ) (i : ℕ) → i < length bs → ((k : ℕ) → k < i → get_or bs k 0 ≡ c → ⊥) → get_or bs i 0 ≡ c →
    cut c bs ≡ record { found = true; front = take i bs; back = drop (suc i) bs }
cut_at c [] i l none here = absurd (omega arith)
cut_at c (x ∷ xs) zero l none here = rw (eq-eqb x c here)
cut_at c (x ∷ xs) (suc i) l none here =
    rw (ne_eqb x c (none 0 (omega arith))) (ap (push_front x) (cut_at c xs i (omega arith) (λ k h. none (suc k) (omega arith)) here))

under : (a b : ℕ) → ltb a b ≡ ltb (1 + a) (suc b)
under a b = elim (cases_lt a b) [ inl l ↦ lt-ltb a b l ∙ sym (lt-ltb (1 + a) (suc b) (omega arith)) | inr l ↦ le-ltb a b l ∙ sym (le-ltb (1 + a) (suc b) (omega arith)) ]

cut_found : (c : ℕ) (bs : List ℕ) → (cut c bs).found ≡ ltb (position_or_len (λ b. eqb b c) bs) (length bs)
cut_found c [] = refl
cut_found c (x ∷ xs) = elim (cases_Bool (eqb x c)) [ inl t ↦ rw t (sym (lt-ltb 0 (length (x ∷ xs)) (omega arith))) | inr t ↦ rw t (cut_found c xs ∙ under (position_or_len (λ b. eqb b c) xs) (length xs)) ]

-- the first position of the byte is where the text is cut
pub cut_position : (c : ℕ) (bs : List ℕ) (r : Option ℕ) → r ≡ position (λ b. eqb b c) bs → CutAt c bs r
cut_position c bs (Some i) e =
    let p = position-Some (λ b. eqb b c) bs i 0 (sym e) in
    (p.0, rw add-one (cut_at c bs i p.0 (λ k h. eqb-false (get_or bs k 0) c (p.2 k h)) (eqb-true (get_or bs i 0) c p.1)))
cut_position c bs None e = cut_found c bs ∙ elim (cases_Bool (ltb (position_or_len (λ b. eqb b c) bs) (length bs))) [
  | inl t ↦ (let z : ◌≡◌ {A = Option ℕ} None (Some (position_or_len (λ b. eqb b c) bs)) = rw t at e in absurd (never cc))
  | inr f ↦ f
]

-- the first piece ends at the first comma, and the first line at the first newline
pieces_cut : (bs : List ℕ) → (cut 44 bs).found ≡ true → pieces bs ≡ (cut 44 bs).front ∷ pieces (cut 44 bs).back
pieces_cut [] e = absurd (false≢true e)
pieces_cut (x ∷ xs) e = elim (cases_Bool (eqb x 44)) [ inl t ↦ rw t | inr t ↦ rw t (ap (add_byte x) (pieces_cut xs (rw t at e))) ]

pub pieces_whole : (bs : List ℕ) → (cut 44 bs).found ≡ false → pieces bs ≡ bs ∷ []
pieces_whole [] e = refl
pieces_whole (x ∷ xs) e =
    elim (cases_Bool (eqb x 44)) [ inl t ↦ absurd (false≢true (sym (rw t at e))) | inr t ↦ rw t (ap (add_byte x) (pieces_whole xs (rw t at e))) ]

lines_cut : (bs : List ℕ) → (cut 10 bs).found ≡ true → lines bs ≡ record { full = (cut 10 bs).front ∷ (lines (cut 10 bs).back).full; rest = (lines (cut 10 bs).back).rest }
lines_cut [] e = absurd (false≢true e)
lines_cut (x ∷ xs) e =
    elim (cases_Bool (eqb x 10)) [ inl t ↦ rw t | inr t ↦ rw t (ap (λ (k : Lines). first_line x k.full k.rest) (lines_cut xs (rw t at e))) ]

pub lines_whole : (bs : List ℕ) → (cut 10 bs).found ≡ false → lines bs ≡ record { full = []; rest = bs }
lines_whole [] e = refl
lines_whole (x ∷ xs) e =
    elim (cases_Bool (eqb x 10)) [
      | inl t ↦ absurd (false≢true (sym (rw t at e)))
      | inr t ↦ rw t (ap (λ (k : Lines). first_line x k.full k.rest) (lines_whole xs (rw t at e)))
    ]

pub pieces_at : (bs : List ℕ) (i : ℕ) → CutAt 44 bs (Some i) → pieces bs ≡ take i bs ∷ pieces (drop (i + 1) bs)
pieces_at bs i h = pieces_cut bs (ap (λ (k : Cut). k.found) h.1) ∙ ap (λ (k : Cut). k.front ∷ pieces k.back) h.1

pub lines_at : (bs : List ℕ) (i : ℕ) → CutAt 10 bs (Some i) → lines bs ≡ record { full = take i bs ∷ (lines (drop (i + 1) bs)).full; rest = (lines (drop (i + 1) bs)).rest }
lines_at bs i h =
    lines_cut bs (ap (λ (k : Cut). k.found) h.1) ∙ ap (λ (k : Cut). record { full = k.front ∷ (lines k.back).full; rest = (lines k.back).rest }) h.1
