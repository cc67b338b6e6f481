-- What a card has spelled so far takes no more room than the network that it spells in the end.
use Rattle.std.proofs.Common.{◌≡◌, ℕ, suc, ◌≤◌, Bool, true, ◌&&◌, eqb, List, [], ◌∷◌, length, take, Some, Ok, sym, refl, ap, ◌∙◌, subst, inl, inr, arith, length-append}
use Rattle.std.proofs.lemmas.List.{length_push, length-take-le}
use Rattle.std.proofs.lemmas.Bool.{and_parts, cases_Bool, cond-false, cond-true, leb-true}
use Rattle.network.specs.declared.refusal.Refusal.TheVariants.{Malformed}
use Rattle.card.specs.declared.entry.Entry.{Entry}
use Rattle.card.specs.declared.entry.Entry.TheVariants.{Mask, Nothing, Rule, Table, Tuple}
use Rattle.card.specs.declared.reader.Reader.{Reader}
use Rattle.card.specs.declared.sizes.Sizes.{Sizes}
use Rattle.card.specs.Judgement.{ends}
use Rattle.card.specs.Filling.{added, At, FitEntry, ReadsOn, HasRoom, memory_of}
use Rattle.card.specs.Layout.{layout, Memory, sizes_of}
use Rattle.card.specs.Reads.{fits}
use Rattle.card.specs.Spelling.{Network}
use Rattle.card.specs.Stages.{expected_of, Solid}
use Rattle.card.specs.Steps.{entry_of}
use Rattle.card.specs.Verdict.{cut, fault, faulty, finish, good, judge_line, judge_lines, Judged, lines, Reading, spelled, verdict}
use Rattle.card.proofs.Tests.{never}
use Rattle.card.proofs.Adding.{line_adds}
use Rattle.card.proofs.Judging.{bad_line, finished, next_line}
use Rattle.card.proofs.Coming.{laid_out, line_parts}
use Rattle.card.proofs.Solids.{solid_line}

pub record Within (s t : Sizes) : Type 0 where
  pub masks : s.masks ≤ t.masks
  pub tables : s.tables ≤ t.tables
  pub cells : s.cells ≤ t.cells
  pub rules : s.rules ≤ t.rules

within_trans : {s t u : Sizes} → Within s t → Within t u → Within s u
within_trans a b = record { masks = omega arith; tables = omega arith; cells = omega arith; rules = omega arith }

within_self : (m n : Memory) → m ≡ n → Within (sizes_of m) (sizes_of n)
within_self m n e = subst (λ (k : Memory). Within (sizes_of m) (sizes_of k)) e (record { masks = omega arith; tables = omega arith; cells = omega arith; rules = omega arith })

pub fits_within : (s t : Sizes) → fits s t ≡ true → Within s t
fits_within s t e =
    let (a, r) = and_parts _ _ e in
    let (b, q) = and_parts _ _ r in
    let (c, d) = and_parts _ _ q in
    record { masks = leb-true _ _ a; tables = leb-true _ _ b; cells = leb-true _ _ c; rules = leb-true _ _ d }

added_within : (x : Entry) (m : Memory) → Within (sizes_of m) (sizes_of (added x m))
added_within Nothing m = within_self m m refl
added_within (Mask v) m = record { masks = omega (arith, length_push m.masks v); tables = omega arith; cells = omega arith; rules = omega arith }
added_within (Table kind scope n) m = record {
  masks = omega arith;
  tables = omega (arith, length_push m.tables (record { kind = kind; arity = scope.count; blocks = scope.numbers; first = length m.cells; tuples = n }));
  cells = omega arith;
  rules = omega arith;
}
added_within (Tuple u) m = record { masks = omega arith; tables = omega arith; cells = omega (arith, length-append m.cells (take u.count u.numbers)); rules = omega arith }
added_within (Rule rule scope) m = record {
  masks = omega arith;
  tables = omega arith;
  cells = omega arith;
  rules = omega (arith, length_push m.rules (record { rule = rule; arity = scope.count; blocks = scope.numbers }));
}

-- where an entry more fits, there is room for it
room_for : (x : Entry) (m : Memory) (room : Sizes) → FitEntry x → Within (sizes_of (added x m)) room → HasRoom x (sizes_of m) room
room_for Nothing m room f w = tt
room_for (Mask v) m room f w = omega (arith, w.masks, length_push m.masks v)
room_for (Table kind scope n) m room f w = omega (arith, w.tables, length_push m.tables (record { kind = kind; arity = scope.count; blocks = scope.numbers; first = length m.cells; tuples = n }))
room_for (Tuple u) m room f w =
    let wide : u.count ≤ length u.numbers = omega (arith, f.0, f.1) in
    omega (arith, w.cells, length-append m.cells (take u.count u.numbers), length-take-le u.count u.numbers wide)
room_for (Rule rule scope) m room f w = omega (arith, w.rules, length_push m.rules (record { rule = rule; arity = scope.count; blocks = scope.numbers }))

same_network : (x y : Network) → spelled x ≡ spelled y → x ≡ y
same_network x y e = cc

module _ (x : Network) where
  at_last : (p : Reading) (k : ℕ) (rest : List ℕ) → finish p.due k rest p.net ≡ spelled x → memory_of p ≡ layout x
  at_last p k rest e = elim (cases_Bool t) [
    | inl ended ↦
        laid_out p.due p.net (and_parts (ends (expected_of p.due)) (eqb (length rest) 0) ended).0
        ∙ ap layout (same_network p.net x (sym (finished p.due k rest p.net ∙ cond-true _ _ _ ended) ∙ e))
    | inr more ↦ absurd (never (let f : fault Malformed k ≡ spelled x = sym (finished p.due k rest p.net ∙ cond-false _ _ _ more) ∙ e in cc))
  ]
    where
      t : Bool
      t = ends (expected_of p.due) && eqb (length rest) 0

  grows : (ls : List (List ℕ)) (p : Reading) (k : ℕ) (rest : List ℕ) → Solid p → judge_lines p k ls rest ≡ spelled x → Within (sizes_of (memory_of p)) (sizes_of (layout x))
  grows [] p k rest solid e = within_self (memory_of p) (layout x) (at_last p k rest e)
  grows (l ∷ ls) p k rest solid e = go (judge_line p l) refl (λ q s f. grows ls q (suc k) rest s f)
    where
      go : (j : Judged) → judge_line p l ≡ j → ((q : Reading) → Solid q → judge_lines q (suc k) ls rest ≡ spelled x → Within (sizes_of (memory_of q)) (sizes_of (layout x))) →
          Within (sizes_of (memory_of p)) (sizes_of (layout x))
      go (faulty n) is later = absurd (never (let f : fault n k ≡ spelled x = sym (bad_line p k l ls rest n is) ∙ e in cc))
      go (good q) is later =
          let adds = line_adds p q (cut 61 l).front (cut 61 l).back solid (line_parts p q l is) in
          within_trans (subst (λ (m : Memory). Within (sizes_of (memory_of p)) (sizes_of m)) (sym adds.memory) (added_within (entry_of p.due (cut 61 l).back) (memory_of p)))
          (later q (solid_line p q l solid is) (sym (next_line p k l ls rest q is) ∙ e))

  module _ (card : List ℕ) (spells : verdict card ≡ spelled x) where
    -- the reader is at a reading that leads to x
    pub stands_within : (r : Reader) (q : Reading) → At card r q → Within (sizes_of (memory_of q)) (sizes_of (layout x))
    stands_within r q stands = grows (lines r.rest.now).full q r.line (lines r.rest.now).rest stands.solid (sym stands.rest ∙ spells)

    -- there is room for the next entry
    pub has_room : (r s : Reader) (q : Reading) (y : Entry) (filled room : Sizes) → ReadsOn card r q s (Ok (Some y)) → filled ≡ sizes_of (memory_of q) → Within (sizes_of (layout x)) room → HasRoom y filled room
    has_room r s q y filled room (fit, _, (p, stands, memory-is)) is within =
        subst (λ (f : Sizes). HasRoom y f room) (sym is)
        (room_for y (memory_of q) room fit (within_trans (subst (λ (m : Memory). Within (sizes_of m) (sizes_of (layout x))) memory-is (stands_within s p stands)) within))
