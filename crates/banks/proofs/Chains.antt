-- What a chain of iterators answers, from the list that it gives.
use Rattle.std.proofs.Common.{◌≡◌, ℕ, suc, ◌+◌, ◌/◌, ◌<◌, Bool, true, false, ◌&&◌, List, [], ◌∷◌, ◌++◌, length, get_or, take, drop, Option, Some, None, sym, ap, ap₂, ◌∙◌, subst, inl, inr, add-one, arith, length-append}
use denote.Param.Members.{Mut}
use denote.Ref.{Bor}
use Rattle.std.specs.Fn.{CalledAtTwo}
use Rattle.std.specs.Iterator.{AlwaysYields, Yields}
use Rattle.std.specs.Iterator.Order.{ChecksNeighbours, OrderTurn}
use Rattle.std.specs.List.{enumerate_from, FoldsTo}
use Rattle.std.specs.Option.{MatchOption}
use Rattle.std.specs.declared.iter.Enumerate.{Enumerate}
use Rattle.std.specs.Iterator.Adapters.{enumerate_count, enumerate_source, enumerate_steps}
use Rattle.std.proofs.lemmas.Iterator.{YieldsList}
use Rattle.std.proofs.lemmas.Iterator.Consumers.{YieldsList-at, YieldsList-from_enumerate}
use Rattle.std.proofs.lemmas.Iterator.Splits.{YieldsList-from_shown_while}
use Rattle.std.specs.Slice.Iter.{chunks_exact_rest, chunks_exact_size, chunks_exact_steps}
use Rattle.std.specs.declared.slice.ChunksExact.{ChunksExact}
use Rattle.std.proofs.Math.Seq.{drop-append_seam, take-append_seam}
use Rattle.std.proofs.Math.Nat.{add-div_left, div-eq_of_lt}
use Rattle.std.proofs.lemmas.List.FromFn.{get_or-enumerate_from, length-enumerate_from}
use Rattle.std.proofs.lemmas.List.{get_or_default}
use Rattle.network.specs.Tree.{precedes}
use Rattle.banks.specs.Tables.{climbs, climbs_from, cut, tuples_in}
use Rattle.banks.proofs.Tupled.{length_tuples}
use Rattle.std.proofs.lemmas.Bool.{and_left}

-- `is_sorted_by`, where the closure says whether a tuple comes before another
module _ {S A F : Type 0} (steps : S → Option A → S → Type 0) (v : A → List ℕ) {g : Mut F (Bor A × (Bor A × Unit {0})) Bool} (f : F)
    (answers : (x y : A) (b : Bool) (q : F) → CalledAtTwo g f x y b q → (q ≡ f) × (b ≡ precedes (v x) (v y))) where
  after : (all : List (List ℕ)) (s t u : S) (x : A) (xs : List A) (o : Option A) (q : F × A) (r : Bool) → AlwaysYields steps v s all → Yields steps s xs t → steps t o u →
      FoldsTo {P = F × A} (OrderTurn g) (f, x) xs q → MatchOption o (r ≡ true) (λ y. (r ≡ false) × ((h : F) × CalledAtTwo g q.0 q.1 y false h)) → r ≡ climbs_from (v x) all
  after [] s t u x [] None q r a y z w m = m
  after [] s t u x [] (Some i) q r a y z w m = absurd (a i u (subst (λ k. steps k (Some i) u) (sym y) z))
  after [] s t u x (i ∷ xs) o q r a y z w m = absurd (a i y.0 y.1)
  after (b ∷ bs) s t u x [] None q r a y z w m = absurd (a.0 u (subst (λ k. steps k None u) (sym y) z))
  after (b ∷ bs) s t u x [] (Some i) q r a y z w m =
      let e : v i ≡ b = (a.1 i u (subst (λ k. steps k (Some i) u) (sym y) z)).0 in
      let k : CalledAtTwo g f x i false m.1.0 = subst (λ (p : F × A). CalledAtTwo g p.0 p.1 i false m.1.0) (sym w) m.1.1 in
      m.0 ∙ sym (and_left (precedes (v x) b) (climbs_from b bs) (ap (precedes (v x)) (sym e) ∙ sym (answers x i false m.1.0 k).1))
  after (b ∷ bs) s t u x (i ∷ xs) o q r a y z w m =
      let n = a.1 i y.0 y.1 in
      let k = answers x i true w.0.0 w.1.0 in
      let j : w.0 ≡ (f, i) = λ p. (k.0 p, w.1.1 p) in
      after bs y.0 t u i xs o q r n.1 y.2 z (subst (λ (p : F × A). FoldsTo {P = F × A} (OrderTurn g) p xs q) j w.2) m
      ∙ ap (λ c. climbs_from c bs) n.0 ∙ ap (λ c. c && climbs_from b bs) (k.1 ∙ ap (precedes (v x)) n.0)

  pub sorted_answers : (all : List (List ℕ)) (s : S) (r : Bool) → ChecksNeighbours g steps s f r → YieldsList steps v s all → r ≡ climbs all
  sorted_answers all s r ran road = go all ran road.runs
    where
      go : (all : List (List ℕ)) → ChecksNeighbours g steps s f r → AlwaysYields steps v s all → r ≡ climbs all
      go [] (inl h) a = h.1
      go (b ∷ bs) (inl h) a = absurd (a.0 h.0.0 (subst (λ k. steps k None h.0.0) (sym h.0.1.1) h.0.1.2))
      go [] (inr h) a = absurd (a h.0 h.5.1.0 h.5.1.1)
      go (b ∷ bs) (inr h) a =
          let n = a.1 h.0 h.5.1.0 h.5.1.1 in
          after bs h.5.1.0 h.5.0 h.3 h.0 h.1 h.2 h.4 r n.1 h.5.1.2 h.5.2 h.6 h.7 ∙ ap (λ c. climbs_from c bs) n.0

-- `chunks_exact` gives the tuples
pub chunks_road : {s : ChunksExact ℕ} (a : ℕ) (xs : List ℕ) → 0 < a → chunks_exact_rest s ≡ xs → chunks_exact_size s ≡ a → YieldsList (chunks_exact_steps {A = ℕ}) (λ y. y.now) s (cut a xs)
chunks_road {s} a xs l e k = subst (YieldsList (chunks_exact_steps {A = ℕ}) (λ y. y.now) s) (ap₂ cut k e)
    (YieldsList-from_shown_while (chunks_exact_steps {A = ℕ}) (λ y. y.now) (λ t. cut (chunks_exact_size t) (chunks_exact_rest t)) (λ t. 0 < chunks_exact_size t) none some s (subst (λ n. 0 < n) (sym k) l))
  where
    none : (s t : ChunksExact ℕ) → 0 < chunks_exact_size s → chunks_exact_steps s None t → length (cut (chunks_exact_size s) (chunks_exact_rest s)) ≡ 0
    none s t p h = length_tuples (chunks_exact_size s) (length (chunks_exact_rest s) / chunks_exact_size s) (chunks_exact_rest s) ∙ div-eq_of_lt h.1.0

    one : (a : ℕ) (x r whole : List ℕ) → 0 < a → whole ≡ x ++ r → length x ≡ a → cut a whole ≡ x ∷ cut a r
    one a x r whole p e k =
        let n : length whole / a ≡ suc (length r / a) = ap (λ m. m / a) (ap length e ∙ length-append x r ∙ ap (λ m. m + length r) k) ∙ add-div_left (length r) p ∙ add-one (length r / a) in
        ap₂ (tuples_in a) n e ∙ ap₂ (λ t u. t ∷ tuples_in a (length r / a) u) (ap (λ m. take m (x ++ r)) (sym k) ∙ take-append_seam x r) (ap (λ m. drop m (x ++ r)) (sym k) ∙ drop-append_seam x r)

    some : (s : ChunksExact ℕ) (x : Bor (List ℕ)) (t : ChunksExact ℕ) → 0 < chunks_exact_size s → chunks_exact_steps s (Some x) t →
        (0 < chunks_exact_size t) × (cut (chunks_exact_size s) (chunks_exact_rest s) ≡ x.now ∷ cut (chunks_exact_size t) (chunks_exact_rest t))
    some s x t p h = (
      subst (λ n. 0 < n) (sym h.0) p,
      one (chunks_exact_size s) x.now (chunks_exact_rest t) (chunks_exact_rest s) p h.1.0 h.1.1 ∙ ap (λ n. x.now ∷ cut n (chunks_exact_rest t)) (sym h.0),
    )

pub numbered_road : {s : Enumerate (ChunksExact ℕ)} {t : ChunksExact ℕ} (a : ℕ) (xs : List ℕ) → 0 < a → enumerate_source s ≡ t → enumerate_count s ≡ 0 → chunks_exact_rest t ≡ xs → chunks_exact_size t ≡ a →
    YieldsList {B = ℕ × List ℕ} (enumerate_steps (chunks_exact_steps {A = ℕ})) (λ p. (p.0, p.1.now)) s (enumerate_from 0 (cut a xs))
numbered_road a xs l of zero e k = YieldsList-from_enumerate (YieldsList-at of (chunks_road a xs l e k)) zero

-- a turn of a `for` over numbered tuples
pub numbered : (ts : List (List ℕ)) (n : ℕ) (x : ℕ × Bor (List ℕ)) → (n < length (enumerate_from 0 ts)) × (◌≡◌ {A = ℕ × List ℕ} (x.0, x.1.now) (get_or (enumerate_from 0 ts) n (x.0, x.1.now))) →
    (n < length ts) × (x.0 ≡ n) × (x.1.now ≡ get_or ts n [])
numbered ts n x h =
    let l : n < length ts = subst (λ k. n < k) (length-enumerate_from 0 ts) h.0 in
    let e = h.1 ∙ get_or-enumerate_from 0 ts n (x.0, x.1.now) l in
    (l, ap (λ (p : ℕ × List ℕ). p.0) e ∙ omega arith, ap (λ (p : ℕ × List ℕ). p.1) e ∙ get_or_default ts n x.1.now [] l)
