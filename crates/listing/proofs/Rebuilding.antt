-- What the loop keeps that takes up a walk along a path.
use Rattle.std.proofs.Common.{◌≡◌, ℕ, suc, ◌+◌, ◌<◌, ◌≤◌, true, false, List, [], ◌∷◌, ◌++◌, length, get_or, take, set, sym, ap, ◌∙◌, subst, add-one, arith}
use Rattle.std.proofs.lemmas.List.{length-map, take_more, take_more_set}
use Rattle.network.specs.Sheets.{has}
use Rattle.network.specs.Rows.{Row, decide, next_mask}
use Rattle.network.specs.RowModel.{model}
use Rattle.network.specs.Tree.{below}
use Rattle.listing.specs.Model.{left_after}
use Rattle.listing.specs.ToCome.{models, row_at, to_come, width}
use Rattle.listing.specs.Walked.{coming, coming_from}
use Rattle.listing.specs.declared.walk.Walk.{Walk}
use Rattle.listing.proofs.Rebuild.{left_at, rebuilt_all, rebuilt_more, rebuilt_part, same_start}
use Rattle.listing.proofs.StackRows.{lawful_at}
use Rattle.listing.proofs.Stacking.{next_open, wide_more}

-- the walk w is taken up along the first slots of a path, as many as it is deep
pub record Rebuilding (f : Row → Row) (root : Row) (path : List ℕ) (w : Walk) : Type 0 where
  pub wide : width (models w.rows) ≡ length root.opened
  pub along : take w.depth w.path ≡ take w.depth path
  pub left : left_after path (below f (length root.opened) [] root) ≡ left_at f (length root.opened) (models w.rows) path w.depth

module _ (f : Row → Row) (root : Row) (path : List ℕ) (w : Walk) (v : Rebuilding f root path w) (long : length path ≤ length root.opened) where
  at_width : (a : ℕ) → to_come f (length root.opened) (models w.rows) path w.depth a ≡ coming_from f w a
  at_width a = sym (ap (λ n. to_come f n (models w.rows) w.path w.depth a) v.wide ∙ same_start f (length root.opened) (models w.rows) path w.path w.depth a v.along)

  -- along the whole path
  pub stop_all : w.depth ≡ length path → w.from ≡ 0 → coming f w ≡ left_after path (below f (length root.opened) [] root)
  stop_all e z = sym (v.left ∙ rebuilt_all f (length root.opened) (models w.rows) path w.depth e ∙ at_width 0 ∙ ap (coming_from f w) (sym z))

  module _ (l : w.depth < length path) (s : ℕ) (is : s ≡ get_or path w.depth 0) (small : s < 32) where
    -- up to a row that lacks the slot
    pub stop_part : has (next_mask (row_at (models w.rows) w.depth)) s ≡ false → coming_from f w (s + 1) ≡ left_after path (below f (length root.opened) [] root)
    stop_part e =
        let t = get_or path w.depth 0 in
        sym (v.left ∙ rebuilt_part f (length root.opened) (models w.rows) path w.depth l long (omega (arith, is, small)) (subst (λ z. has (next_mask (row_at (models w.rows) w.depth)) z ≡ false) is e)
        ∙ at_width (suc t) ∙ ap (λ z. coming_from f w (suc z)) (sym is) ∙ ap (coming_from f w) (sym (add-one s)))

    -- one row more
    pub go_on : suc w.depth < length w.rows → w.depth < length w.path → has (next_mask (row_at (models w.rows) w.depth)) s ≡ true →
        (t : Walk) → models t.rows ≡ set (models w.rows) (suc w.depth) (f (decide (row_at (models w.rows) w.depth) s)) → t.path ≡ set w.path w.depth s → t.depth ≡ suc w.depth → Rebuilding f root path t
    go_on room inside e t rows way deep =
        let rs = models w.rows in
        let k = w.depth in
        let n = length root.opened in
        let u = get_or path k 0 in
        record {
          wide = ap width rows ∙ wide_more rs k (f (decide (row_at rs k) s)) ∙ v.wide;
          along = ap (λ i. take i t.path) (deep ∙ sym (add-one k)) ∙ ap (take (k + 1)) way ∙ take_more_set w.path k s inside ∙ ap (λ z. z ++ (s ∷ [])) v.along ∙ ap (λ z. take k path ++ (z ∷ [])) is
              ∙ sym (take_more path k 0 l) ∙ ap (λ i. take i path) (add-one k ∙ sym deep);
          left = v.left
              ∙ rebuilt_more f n rs path k (omega (arith, length-map w.rows model)) l long (omega (arith, is, small)) (next_open (lawful_at w.rows k) s e).0 (subst (λ z. has (next_mask (row_at rs k)) z ≡ true) is e)
              ∙ ap (λ z. left_at f n (set rs (suc k) (f (decide (row_at rs k) z))) path (suc k)) (sym is)
              ∙ ap (λ z. left_at f n z path (suc k)) (sym rows) ∙ ap (left_at f n (models t.rows) path) (sym deep);
        }
