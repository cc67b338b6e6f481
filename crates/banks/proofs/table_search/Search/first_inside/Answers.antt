use Rattle.std.proofs.Common.{◌≡◌, ℕ, ◌<◌, Bool, true, false, ◌&&◌, ◌||◌, List, [], ◌∷◌, length, get_or, take, sym, ap, ap₂, subst, length-append, ◌∙◌, arith, rules}
use Rattle.std.specs.List.{list_all, zip}
use Rattle.std.proofs.lemmas.List.{take_all, take_more}
use Rattle.std.proofs.lemmas.List.Folds.{list_all_at, list_all_more}
use Rattle.std.proofs.lemmas.List.FromFn.{length-enumerate_from}
use Rattle.std.proofs.lemmas.Slice.Zip.{length-zip}
use Rattle.network.proofs.Members.{in_at, some_from}
use Rattle.banks.proofs.SomePass.{some_append}
use Rattle.banks.proofs.Tupled.{cut_long}
use Rattle.std.proofs.lemmas.Iterator.Consumers.{YieldsList-at, YieldsList-end, YieldsList-turn}
use Rattle.network.specs.Sheets.{some_pass}
use Rattle.banks.specs.Tables.{FirstPass, cut, in_mask, inside}
use Rattle.banks.proofs.Chains.{numbered, numbered_road}
use Rattle.banks.proofs.Counting.{inside_pairs, pair_at}
use Rattle.banks.proofs.table_search.Search.first_inside.Goals as goal
use Rattle.banks.proofs.table_search.Search.first_inside.Goals.{In-Some}

-- the tuple of a turn of the outer loop
tuple_at : (c : In-Some) → let ts = cut (length c.args.self.now.masks.now) c.args.self.now.cells.now in
    (length c.tuples.yielded < length ts) × (c.in-Some.i ≡ length c.tuples.yielded) × (c.in-Some.tuple.now ≡ get_or ts (length c.tuples.yielded) [])
tuple_at c =
    let a = length c.args.self.now.masks.now in
    let road = numbered_road a c.args.self.now.cells.now c.args.self.now.low c.enumerate-i-items.ensures.source c.enumerate-i-items.ensures.count c.chunks_exact.ensures.rest c.chunks_exact.ensures.size in
    numbered (cut a c.args.self.now.cells.now) (length c.tuples.yielded) (c.in-Some.i, c.in-Some.tuple)
    (YieldsList-turn (YieldsList-at c.into_iter-i-iterator.ensures.into_iter_gives road) c.tuples.yielded _ c.tuples.yielded_by _ _ (c.in-Some.i, c.in-Some.tuple) c.in-Some.is c.next.ensures.steps)

-- a tuple is inside the masks where all pairs pass
told : (ms cells t : List ℕ) (n : ℕ) (b : Bool) → n < length (cut (length ms) cells) → t ≡ get_or (cut (length ms) cells) n [] → list_all in_mask (zip ms t) ≡ b →
    inside ms (get_or (cut (length ms) cells) n []) ≡ b
told ms cells t n b l e h =
    let ts = cut (length ms) cells in
    let long : length t ≡ length ms = ap length e ∙ cut_long (length ms) cells (get_or ts n []) (in_at ts n [] l) in
    ap (inside ms) (sym e) ∙ inside_pairs ms t long ∙ h

pub tuples-preserved : goal.tuples-preserved
tuples-preserved c =
    let ms = c.args.self.now.masks.now in
    let ts = cut (length ms) c.args.self.now.cells.now in
    let n = length c.tuples.yielded in
    let t = tuple_at (goal.at.tuples-preserved c).In-Some in
    let ps = zip ms c.in-Some.tuple.now in
    let p = pair_at ms c.in-Some.tuple.now c.loop-q.q c.min-q-end.result c.min-q-end.ensures c.loop-q-test.true in
    let here : in_mask (get_or ms c.loop-q.q 0, get_or c.in-Some.tuple.now c.loop-q.q 0) ≡ false = search (c.if-not-has_slot.ensures, rules) in
    let no : list_all in_mask ps ≡ false = list_all_at in_mask ps c.loop-q.q (0, 0) p.0 (ap in_mask p.1 ∙ here) in
    let out : inside ms (get_or ts n []) ≡ false = told ms c.args.self.now.cells.now c.in-Some.tuple.now n false t.0 t.2 no in
    ap (λ k. some_pass (inside ms) (take k ts)) (length-append c.tuples.yielded ((c.in-Some.i, c.in-Some.tuple) ∷ [])) ∙ ap (some_pass (inside ms)) (take_more ts n [] t.0)
    ∙ some_append (inside ms) (take n ts) (get_or ts n [] ∷ []) ∙ ap₂ (λ x y. x || (y || false)) c.tuples.invariant out

pub loop-q-preserved : goal.loop-q-preserved
loop-q-preserved c =
    let ms = c.args.self.now.masks.now in
    let ps = zip ms c.in-Some.tuple.now in
    let p = pair_at ms c.in-Some.tuple.now c.loop-q.q c.min-q-end.result c.min-q-end.ensures c.loop-q-test.true in
    let here : in_mask (get_or ms c.loop-q.q 0, get_or c.in-Some.tuple.now c.loop-q.q 0) ≡ true = search (c.if-not-has_slot.ensures, rules) in
    list_all_more in_mask ps c.loop-q.q (0, 0) p.0 ∙ ap₂ (λ x y. x && y) c.loop-q.invariant (ap in_mask p.1 ∙ here)

pub returns-after-loop-q : goal.returns-after-loop-q
returns-after-loop-q c =
    let ms = c.args.self.now.masks.now in
    let ts = cut (length ms) c.args.self.now.cells.now in
    let n = length c.tuples.yielded in
    let t = tuple_at (goal.at.returns-after-loop-q c).In-Some in
    let ps = zip ms c.in-Some.tuple.now in
    let all : list_all in_mask ps ≡ true = ap (list_all in_mask) (sym (take_all c.loop-q.q ps (omega (arith, c.min-q-end.ensures, c.loop-q-test.false, length-zip ms c.in-Some.tuple.now)))) ∙ c.loop-q.invariant in
    let within : inside ms (get_or ts n []) ≡ true = told ms c.args.self.now.cells.now c.in-Some.tuple.now n true t.0 t.2 all in
    record {
      some = sym (some_from (inside ms) ts (get_or ts n []) (in_at ts n [] t.0) within);
      first = subst (FirstPass (inside ms) ts) (sym t.1) (record { there = t.0; passes = within; none_before = c.tuples.invariant });
    }

pub returns-in-None : goal.returns-in-None
returns-in-None c =
    let ms = c.args.self.now.masks.now in
    let ts = cut (length ms) c.args.self.now.cells.now in
    let road = numbered_road (length ms) c.args.self.now.cells.now c.args.self.now.low c.enumerate-i-items.ensures.source c.enumerate-i-items.ensures.count c.chunks_exact.ensures.rest c.chunks_exact.ensures.size in
    let end = YieldsList-end (YieldsList-at c.into_iter-i-iterator.ensures.into_iter_gives road) c.tuples.yielded _ c.tuples.yielded_by _ _ c.in-None.is c.next.ensures.steps in
    record {
      some = sym c.tuples.invariant ∙ ap (some_pass (inside ms)) (take_all (length c.tuples.yielded) ts (omega (arith, end.1, length-enumerate_from 0 ts)));
      first = tt;
    }
