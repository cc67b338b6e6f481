-- What the loop of a walk keeps, and how it ends.
use Rattle.std.proofs.Common.{◌≡◌, ℕ, zero, suc, ◌+◌, ◌-◌, ◌<◌, ◌≤◌, Bool, true, false, eqb, ◌≢◌, not, List, [], ◌∷◌, ◌++◌, length, take, fold, sym, refl, ap, ◌∙◌, add-zero, arith}
use Rattle.std.proofs.lemmas.List.{length-take-le}
use Rattle.std.proofs.lemmas.Bool.{and_parts, cond-false, eqb-true, ne_eqb}
use Rattle.network.specs.Offers.{first_of}
use Rattle.network.specs.Rows.{Row, dead, next_mask}
use Rattle.network.specs.Tree.{Node, shows}
use Rattle.network.proofs.SlotsFrom.{from_here}
use Rattle.listing.specs.Model.{done, plan, visited}
use Rattle.listing.specs.ToCome.{ComesFirst, models, past, rest_of, row_at, width}
use Rattle.listing.specs.Walked.{Visited, Walked, at, coming, ends, reached, stops}
use Rattle.listing.specs.declared.walk.Walk.{Walk}
use Rattle.listing.specs.declared.outcome.Outcome.TheVariants.{Done, Plan, Spent}
use Rattle.listing.proofs.Advance.{first_below}
use Rattle.listing.proofs.StackRows.{lawful_at}
use Rattle.listing.proofs.Stacking.{child_low, next_open}

-- after v visits of a walk over xs: what is to come makes up for the rest of it
pub record Walking (f : Row → Row) (n : ℕ) (xs : List Node) (budget : ℕ) (w : Walk) (v : ℕ) : Type 0 where
  pub wide : width (models w.rows) ≡ n
  pub under : v ≤ budget
  pub outcome : ends n budget xs ≡ ends n (budget - v) (coming f w)
  pub count : length (visited n budget xs) ≡ v + length (visited n (budget - v) (coming f w))
  pub stop : (last : List ℕ) → stops n budget last xs ≡ stops n (budget - v) (reached v last (take w.depth w.path)) (coming f w)

-- a visit is at another node
reached_more : (v : ℕ) (last path : List ℕ) → path ≡ reached (v + 1) last path
reached_more v last path = sym (cond-false (eqb (v + 1) 0) last path (ne_eqb (v + 1) 0 (omega arith)))

visited_none : (n b : ℕ) → visited n b [] ≡ []
visited_none n zero = refl
visited_none n (suc b) = refl

ends_none : (n b : ℕ) → ends n b [] ≡ done
ends_none n zero = refl
ends_none n (suc b) = refl

ends_shown : (n b : ℕ) (x : Node) (xs : List Node) → shows n x ≡ true → ends n (suc b) (x ∷ xs) ≡ plan
ends_shown n b x xs e = simp e

count_shown : (n b : ℕ) (x : Node) (xs : List Node) → shows n x ≡ true → length (visited n (suc b) (x ∷ xs)) ≡ 1
count_shown n b x xs e = simp e

stops_shown : (n b : ℕ) (last : List ℕ) (x : Node) (xs : List Node) → shows n x ≡ true → stops n (suc b) last (x ∷ xs) ≡ x.path
stops_shown n b last x xs e = simp e

ends_more : (n b : ℕ) (x : Node) (xs : List Node) → shows n x ≡ false → ends n (suc b) (x ∷ xs) ≡ ends n b xs
ends_more n b x xs e = simp e

count_more : (n b : ℕ) (x : Node) (xs : List Node) → shows n x ≡ false → length (visited n (suc b) (x ∷ xs)) ≡ suc (length (visited n b xs))
count_more n b x xs e = simp e

stops_more : (n b : ℕ) (last : List ℕ) (x : Node) (xs : List Node) → shows n x ≡ false → stops n (suc b) last (x ∷ xs) ≡ stops n b x.path xs
stops_more n b last x xs e = simp e

-- there is a node to come where there is a next child
some_left : (f : Row → Row) (w : Walk) (j s : ℕ) → ComesFirst (models w.rows) w.path w.depth w.from j s → (x : Node) × (ys : List Node) × (coming f w ≡ x ∷ ys)
some_left f w j s p =
    let rs = models w.rows in
    let n = width rs in
    let r : Row = row_at rs j in
    let lr = lawful_at w.rows j in
    let i : n - j ≡ suc (n - suc j) = omega (arith, child_low n rs w.depth j s lr w.stacked p.child) in (
      _,
      _,
      p.same f n ∙ ap (λ z. rest_of f z (take j w.path) r s ++ past f n rs w.path j) i
          ∙ ap (λ l. l ++ past f n rs w.path j)
          (first_below f (n - suc j) (take j w.path) r s s (next_open lr s p.child.offered).0 (omega (arith, p.child.slot)) (ap first_of (from_here (next_mask r) s p.child.slot p.child.offered))),
    )

module _ (f : Row → Row) (n : ℕ) (xs : List Node) (budget : ℕ) (w : Walk) (v : ℕ) (h : Walking f n xs budget w v) where
  pub finish_done : coming f w ≡ [] → Walked n xs budget w Done v
  finish_done e = record {
    wide = h.wide;
    outcome = sym (h.outcome ∙ ap (ends n (budget - v)) e ∙ ends_none n (budget - v));
    visits = sym (h.count ∙ ap (λ z. v + length (visited n (budget - v) z)) e ∙ ap (λ z. v + length z) (visited_none n (budget - v)) ∙ add-zero v);
    stop = λ last. h.stop last ∙ ap (stops n (budget - v) (reached v last (take w.depth w.path))) e ∙ ap (fold (λ _ x. x.path) (reached v last (take w.depth w.path))) (visited_none n (budget - v));
    whole = λ p. cc;
  }

  pub finish_spent : v ≡ budget → (j s : ℕ) → ComesFirst (models w.rows) w.path w.depth w.from j s → Walked n xs budget w Spent v
  finish_spent e j s c =
      let p = some_left f w j s c in
      let z : budget - v ≡ 0 = omega arith in
      record {
        wide = h.wide;
        outcome = sym (h.outcome ∙ ap (ends n (budget - v)) p.2 ∙ ap (λ b. ends n b (p.0 ∷ p.1)) z);
        visits = sym (h.count ∙ ap (λ b. v + length (visited n b (coming f w))) z ∙ add-zero v);
        stop = λ last. h.stop last ∙ ap (λ b. stops n b (reached v last (take w.depth w.path)) (coming f w)) z;
        whole = λ q. cc;
      }

  module _ (u : v ≢ budget) (t : Walk) (b : Bool) (k : Visited f w t b) where
    left : budget - v ≡ suc (budget - (v + 1))
    left = let p : v < budget = omega (arith, h.under, u) in omega arith

    same_width : width (models t.rows) ≡ n
    same_width = k.wide ∙ h.wide

    shown : b ≡ shows n (at t)
    shown = k.shown ∙ ap (λ i. shows i (at t)) same_width

    -- the walk's last node, if its path is told
    abbrev here : List ℕ → List ℕ
    here last = reached v last (take w.depth w.path)

    pub finish_plan : b ≡ true → Walked n xs budget t Plan (v + 1)
    finish_plan e₁ =
        let e : shows n (at t) ≡ true = sym shown ∙ e₁ in
        record {
          wide = same_width;
          outcome = sym (h.outcome ∙ ap (ends n (budget - v)) k.came ∙ ap (λ i. ends n i (at t ∷ coming f t)) left ∙ ends_shown n (budget - (v + 1)) (at t) (coming f t) e);
          visits = sym (h.count ∙ ap (λ z. v + length (visited n (budget - v) z)) k.came ∙ ap (λ i. v + length (visited n i (at t ∷ coming f t))) left
              ∙ ap (λ i. v + i) (count_shown n (budget - (v + 1)) (at t) (coming f t) e));
          stop = λ last. h.stop last ∙ ap (stops n (budget - v) (here last)) k.came ∙ ap (λ i. stops n i (here last) (at t ∷ coming f t)) left
              ∙ stops_shown n (budget - (v + 1)) (here last) (at t) (coming f t) e ∙ reached_more v last (take t.depth t.path);
          whole = λ _. (sym (length-take-le t.depth t.path t.room) ∙ eqb-true (length (take t.depth t.path)) n (and_parts (eqb (length (take t.depth t.path)) n) (not (dead (at t).row)) e).0, λ z. omega arith);
        }

    pub walk_on : b ≡ false → Walking f n xs budget t (v + 1)
    walk_on e₀ =
        let e : shows n (at t) ≡ false = sym shown ∙ e₀ in
        record {
          wide = same_width;
          under = omega (arith, h.under, u);
          outcome = h.outcome ∙ ap (ends n (budget - v)) k.came ∙ ap (λ i. ends n i (at t ∷ coming f t)) left ∙ ends_more n (budget - (v + 1)) (at t) (coming f t) e;
          count = h.count ∙ ap (λ z. v + length (visited n (budget - v) z)) k.came ∙ ap (λ i. v + length (visited n i (at t ∷ coming f t))) left
              ∙ ap (λ i. v + i) (count_more n (budget - (v + 1)) (at t) (coming f t) e) ∙ omega arith;
          stop = λ last. h.stop last ∙ ap (stops n (budget - v) (here last)) k.came ∙ ap (λ i. stops n i (here last) (at t ∷ coming f t)) left
              ∙ stops_more n (budget - (v + 1)) (here last) (at t) (coming f t) e ∙ ap (λ z. stops n (budget - (v + 1)) z (coming f t)) (reached_more v last (take t.depth t.path));
        }
