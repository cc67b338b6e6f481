-- What a visit of the next child does to a walk.
use Rattle.std.proofs.Common.{◌≡◌, ℕ, suc, ◌<◌, Bool, not, ◌&&◌, eqb, ◌∷◌, length, take, set, sym, ap, ◌∙◌, arith}
use Rattle.std.proofs.lemmas.List.{length-set, length-take-le}
use Rattle.network.specs.Offers.{first_of}
use Rattle.network.specs.Rows.{Row, dead, decide, next_mask}
use Rattle.network.proofs.SlotsFrom.{from_here}
use Rattle.listing.specs.ToCome.{ComesFirst, models, node_at, row_at, to_come, width}
use Rattle.listing.specs.Walked.{Visited, at, coming}
use Rattle.listing.specs.declared.walk.Walk.{Walk}
use Rattle.listing.proofs.Advance.{visit}
use Rattle.listing.proofs.StackRows.{lawful_at}
use Rattle.listing.proofs.Stacking.{child_low, next_open, wide_more}

module _
    (f : Row → Row) (w v : Walk) (j s : ℕ) (p : ComesFirst (models w.rows) w.path w.depth w.from j s) (room : suc j < length (models v.rows)) (inside : j < length w.path)
    (rows : models v.rows ≡ set (models w.rows) (suc j) (f (decide (row_at (models w.rows) j) s))) (path : v.path ≡ set w.path j s) (depth : v.depth ≡ suc j) (from : v.from ≡ 0)
  where
    same_width : width (models v.rows) ≡ width (models w.rows)
    same_width = ap width rows ∙ wide_more (models w.rows) j (f (decide (row_at (models w.rows) j) s))

    came : coming f w ≡ at v ∷ coming f v
    came =
        let rs = models w.rows in
        let n = width rs in
        let new = set rs (suc j) (f (decide (row_at rs j) s)) in
        let way = set w.path j s in
        let lr = lawful_at w.rows j in
        p.same f n
        ∙ visit f n rs w.path j s (omega (arith, room, ap length rows, length-set rs (suc j) (f (decide (row_at rs j) s)))) inside s (child_low n rs w.depth j s lr w.stacked p.child) (next_open lr s p.child.offered).0 (omega (arith, p.child.slot))
        (ap first_of (from_here (next_mask (row_at rs j)) s p.child.slot p.child.offered))
        ∙ ap (λ i. node_at new way (suc j) ∷ to_come f i new way (suc j) 0) (sym same_width)
        ∙ ap (λ z. node_at z way (suc j) ∷ to_come f (width (models v.rows)) z way (suc j) 0) (sym rows)
        ∙ ap (λ z. node_at (models v.rows) z (suc j) ∷ to_come f (width (models v.rows)) (models v.rows) z (suc j) 0) (sym path)
        ∙ ap (λ i. node_at (models v.rows) v.path i ∷ to_come f (width (models v.rows)) (models v.rows) v.path i 0) (sym depth)
        ∙ ap (λ i. at v ∷ to_come f (width (models v.rows)) (models v.rows) v.path v.depth i) (sym from)

    pub visited : (b : Bool) → b ≡ (eqb (row_at (models v.rows) v.depth).decided (length (row_at (models v.rows) v.depth).opened) && not (dead (row_at (models v.rows) v.depth))) → Visited f w v b
    visited b t =
        let r : Row = row_at (models v.rows) v.depth in
        let q = v.stacked v.depth (omega arith) in
        record {
          wide = same_width;
          came = came;
          shown =
              t ∙ ap (λ i. eqb i (length r.opened) && not (dead r)) (q.0 ∙ sym (length-take-le v.depth v.path v.room))
              ∙ ap (λ i. eqb (length (take v.depth v.path)) i && not (dead r)) q.1;
        }
