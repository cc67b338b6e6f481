-- A card is accepted with a network exactly when it is the one spelling of that network, which is within the limits, and is not over its length.
use Rattle.std.proofs.Common.{◌≡◌, ℕ, ◌≤◌, Bool, true, false, cond, ltb, List, [], ◌∷◌, length, sym, refl, ap, ◌∙◌, subst, append-nil}
use Rattle.std.proofs.lemmas.Bool.{ltb-false, le-ltb}
use Rattle.network.specs.declared.refusal.Refusal.TheVariants.{LimitExceeded, Malformed}
use Rattle.card.specs.Spelling.{Network, Within, spell}
use Rattle.card.specs.Verdict.{Reading, judge_lines, nothing_due, nothing_read, verdict, fault, spelled, lines}
use Rattle.card.proofs.Tests.{never}
use Rattle.card.proofs.Lines.{ended, ended_lines, lines_ended}
use Rattle.card.proofs.Passages.{Accepts, Passage, chain, like}
use Rattle.card.proofs.Accepted.{accepts_spelled, spelled_accepted}
use Rattle.card.proofs.Keyed.{no_good, judge_line_good}
use Rattle.card.proofs.Spelled.{lines_of, ended_lines_of}
use Rattle.card.proofs.Sections.{reading, total, masks_passage, tables_passage, rules_passage, end_passage}

-- the reading after the last line
abbrev done : Network → Reading
done x = reading nothing_due (length x.masks) (total x.tables) x.masks x.tables x.rules

-- from the first line to the last
card_passage : Passage nothing_read Within lines_of done
card_passage = like
    (chain masks_passage (λ ms h. chain (tables_passage (length ms) h.0.1 ms) (λ ts k.
    chain (rules_passage (length ms) h.0.1 (total ts) ms ts) (λ rs _. end_passage (length ms) h.0.1 (total ts) ms ts rs))))
    (λ v h. (
      record { masks = v.0; tables = v.1.0; rules = v.1.1.0 },
      record { few = h.0.0; masks = h.0.1; sheets = h.1.0.0; tables = h.1.0.1.0; few_tuples = h.1.0.1.1; few_rules = h.1.1.0.0; rules = h.1.1.0.1 },
      refl,
      refl,
    ))
    (λ x h. ((x.masks, (x.tables, (x.rules, tt))), ((h.few, h.masks), ((h.sheets, (h.tables, h.few_tuples)), ((h.few_rules, h.rules), tt))), refl, refl))

-- after the last line nothing more is good
accepts_done : (y : Network) (ls : List (List ℕ)) (x : Network) → Accepts (done y) ls x → (ls ≡ []) × (y ≡ x)
accepts_done y [] x a = (refl, a.1)
accepts_done y (l ∷ ls) x a = let (_, _, _, e) = judge_line_good (done y) l a.0 a.1 in no_good Malformed a.0 e

-- what is accepted is the spelling of a network within the limits, and not over the length
pub accepted_spells : (bytes : List ℕ) (x : Network) → verdict bytes ≡ spelled x → Within x × (bytes ≡ spell x) × (length bytes ≤ 32768)
accepted_spells bytes x e = go (ltb 32768 (length bytes)) refl e
  where
    go : (over : Bool) → ltb 32768 (length bytes) ≡ over → cond over (fault LimitExceeded 0) (judge_lines nothing_read 1 (lines bytes).full (lines bytes).rest) ≡ spelled x → Within x × (bytes ≡ spell x) × (length bytes ≤ 32768)
    go true o f = absurd (never cc)
    go false o f =
        let (a, nil) = accepts_spelled nothing_read 1 (lines bytes).full (lines bytes).rest x f in
        let (y, more, h, full, b) = card_passage.takes (lines bytes).full x a in
        let (none, same) = accepts_done y more x b in
        let card : bytes ≡ ended (lines_of y) = sym (ended_lines bytes) ∙ cc (append-nil (lines_of y), append-nil (ended (lines_of y))) in
        (subst Within same h, card ∙ ended_lines_of y ∙ ap spell same, ltb-false _ _ o)

-- lines that are all good and spell x in the end give the verdict x
verdict_accepts : (bytes : List ℕ) (ls : List (List ℕ)) (x : Network) → lines bytes ≡ record { full = ls; rest = [] } → length bytes ≤ 32768 → Accepts nothing_read ls x → verdict bytes ≡ spelled x
verdict_accepts bytes ls x e short a = rw (le-ltb 32768 (length bytes) short, e) (spelled_accepted nothing_read 1 ls x a)

-- the spelling of a network within the limits is accepted, if it is not over the length
pub spelled_accepts : (x : Network) → Within x → length (spell x) ≤ 32768 → verdict (spell x) ≡ spelled x
spelled_accepts x h short =
    verdict_accepts (spell x) (lines_of x) x (ap lines (sym (ended_lines_of x)) ∙ lines_ended (lines_of x) (card_passage.clean x h)) short
    (subst (λ ls. Accepts nothing_read ls x) (append-nil (lines_of x)) (card_passage.gives x h [] x (refl, refl)))
