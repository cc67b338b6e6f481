-- A text is cut after its first newline.
use Rattle.std.proofs.Common.{◌≡◌, ℕ, ◌+◌, ◌-◌, ◌<◌, List, ◌∷◌, length, take, drop, Some, sym, ap, ◌∙◌, arith, length-drop}
use Rattle.std.proofs.lemmas.List.{take_rest}
use Rattle.card.specs.Parts.{CutAt}
use Rattle.card.specs.Verdict.{lines}
use Rattle.card.proofs.Cuts.{lines_at}

abbrev pub front : ℕ → List ℕ → List ℕ
front i bs = take (i - 0) bs

abbrev pub back : ℕ → List ℕ → List ℕ
back i bs = take (length bs - (i + 1)) (drop (i + 1) bs)

pub cut_off : (bs : List ℕ) (i : ℕ) → CutAt 10 bs (Some i) → (lines bs ≡ record { full = front i bs ∷ (lines (back i bs)).full; rest = (lines (back i bs)).rest }) × (length (back i bs) < length bs)
cut_off bs i h =
    let e : i - 0 ≡ i = omega arith in
    let r : back i bs ≡ drop (i + 1) bs = take_rest bs (i + 1) in (
      lines_at bs i h ∙ ap (λ n. record { full = take n bs ∷ (lines (drop (i + 1) bs)).full; rest = (lines (drop (i + 1) bs)).rest }) (sym e)
          ∙ ap (λ b. record { full = front i bs ∷ (lines b).full; rest = (lines b).rest }) (sym r),
      omega (arith, ap length r, length-drop (i + 1) bs, h.0),
    )
