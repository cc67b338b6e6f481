-- The nodes left after a position, as a stack that is rebuilt along its path stands for them.
use Rattle.std.proofs.Common.{◌≡◌, ℕ, zero, suc, ◌+◌, ◌-◌, ◌<◌, ◌≤◌, true, false, List, [], ◌∷◌, ◌++◌, length, get_or, take, drop, set, refl, sym, ap, ◌∙◌, subst, ⊎_elim, add-one, arith}
use Rattle.std.proofs.lemmas.List.{append_assoc, get_or-set_same, set-get_or, take_all, take-append-drop, take-take, take_more, drop_more, get_or-take}
use Rattle.std.proofs.lemmas.Bool.{cond-false, cases_Bool}
use Rattle.std.specs.List.{flat_map}
use Rattle.network.specs.Sheets.{In, has}
use Rattle.network.specs.Offers.{slots_from}
use Rattle.network.specs.Rows.{Row, dead, decide, next_mask}
use Rattle.network.specs.Tree.{Node, precedes, below}
use Rattle.listing.specs.Model.{left_after}
use Rattle.network.proofs.Members.{false_unless}
use Rattle.network.proofs.Lists.{joined_same, kept_all, kept_joined, kept_none}
use Rattle.network.proofs.Order.{precedes_asym, precedes_irrefl, by_first, same_start as after_start, before_extension}
use Rattle.network.proofs.SlotsFrom.{from_here, from_next, of_from}
use Rattle.network.proofs.TreeOrder.{below_extends, branch_extends}
use Rattle.listing.specs.ToCome.{row_at, branch, rest_of, past, to_come}
use Rattle.listing.proofs.Advance.{below_is, deeper, past_same}

module _ (f : Row → Row) (w : ℕ) (p : List ℕ) (r : Row) (s : ℕ) (q : List ℕ) where
  abbrev last : List ℕ
  last = p ++ (s ∷ q)

  extends : (t : ℕ) (x : Node) → In x (branch f w p r t) → (u : List ℕ) × (x.path ≡ p ++ (t ∷ u))
  extends t x i = branch_extends f w p r t x i

  -- branches at earlier slots are past, and those at later slots are left
  earlier_none : (t : ℕ) → t < s → left_after last (branch f w p r t) ≡ []
  earlier_none t l =
      kept_none (λ x. precedes last x.path) (branch f w p r t)
      (λ x i. let c = extends t x i in false_unless (precedes last x.path) (λ e. precedes_asym last x.path e (rw c.1 (after_start p (t ∷ c.0) (s ∷ q) (by_first t s c.0 q l)))))

  later_all : (t : ℕ) → s < t → left_after last (branch f w p r t) ≡ branch f w p r t
  later_all t l =
      kept_all (λ x. precedes last x.path) (branch f w p r t)
      (λ x i. let c = extends t x i in rw c.1 (after_start p (s ∷ q) (t ∷ c.0) (by_first s t q c.0 l)))

  own : (u : List ℕ) → precedes (p ++ (s ∷ u)) (p ++ (s ∷ [])) ≡ false
  own [] = false_unless (precedes (p ++ (s ∷ [])) (p ++ (s ∷ []))) (precedes_irrefl (p ++ (s ∷ [])))
  own (x ∷ u) =
      false_unless (precedes (p ++ (s ∷ x ∷ u)) (p ++ (s ∷ [])))
      (λ e. precedes_asym (p ++ (s ∷ x ∷ u)) (p ++ (s ∷ [])) e (subst (λ z. precedes (p ++ (s ∷ [])) z ≡ true) (append_assoc p (s ∷ []) (x ∷ u)) (before_extension (p ++ (s ∷ [])) x u)))

  own_branch : left_after last (branch f w p r s) ≡ left_after last (below f w (p ++ (s ∷ [])) (f (decide r s)))
  own_branch =
      let x : Node = record { path = p ++ (s ∷ []); row = f (decide r s) } in
      let xs : List Node = below f w (p ++ (s ∷ [])) (f (decide r s)) in
      cond-false (precedes last (p ++ (s ∷ []))) (x ∷ left_after last xs) (left_after last xs) (own q)

  abbrev kept : ℕ → List Node
  kept t = left_after last (branch f w p r t)

  skip : (m d a : ℕ) → a + d ≡ s → s < 32 → flat_map kept (slots_from m a) ≡ flat_map kept (slots_from m s)
  skip m zero a e l = ap (λ i. flat_map kept (slots_from m i)) (omega arith)
  skip m (suc d) a e l =
      ⊎_elim
      (λ (b : has m a ≡ true). ap (flat_map kept) (from_here m a (omega arith) b) ∙ ap (λ z. z ++ flat_map kept (slots_from m (suc a))) (earlier_none a (omega arith)))
      (λ (b : has m a ≡ false). ap (flat_map kept) (from_next m a (omega arith) b))
      (cases_Bool (has m a))
      ∙ skip m d (suc a) (omega arith) l

  later : (m : ℕ) → flat_map kept (slots_from m (suc s)) ≡ flat_map (branch f w p r) (slots_from m (suc s))
  later m = joined_same kept (branch f w p r) (slots_from m (suc s)) (λ t i. later_all t (omega (arith, (of_from m (suc s) t i).0)))

  from_slot : (m : ℕ) → s < 32 → left_after last (flat_map (branch f w p r) (slots_from m 0)) ≡ flat_map kept (slots_from m s)
  from_slot m l = kept_joined (λ x. precedes last x.path) (branch f w p r) (slots_from m 0) ∙ skip m s 0 (omega arith) l

  -- at a slot that the row has
  pub kept_at :
      dead r ≡ false → s < 32 → has (next_mask r) s ≡ true →
      left_after (p ++ (s ∷ q)) (below f (suc w) p r) ≡ left_after (p ++ (s ∷ q)) (below f w (p ++ (s ∷ [])) (f (decide r s))) ++ rest_of f (suc w) p r (suc s)
  kept_at d l e =
      let m : ℕ = next_mask r in
      ap (left_after last) (below_is f (suc w) p r ∙ cond-false (dead r) [] (flat_map (branch f w p r) (slots_from m 0)) d)
      ∙ from_slot m l ∙ ap (flat_map kept) (from_here m s l e)
      ∙ ap (λ z. z ++ flat_map kept (slots_from m (suc s))) own_branch
      ∙ ap (λ z. left_after last (below f w (p ++ (s ∷ [])) (f (decide r s))) ++ z)
      (later m ∙ sym (cond-false (dead r) [] (flat_map (branch f w p r) (slots_from m (suc s))) d))

  -- at a slot that the row has not
  pub kept_off : s < 32 → has (next_mask r) s ≡ false → left_after (p ++ (s ∷ q)) (below f (suc w) p r) ≡ rest_of f (suc w) p r (suc s)
  kept_off l e =
      let m : ℕ = next_mask r in
      ap (left_after last) (below_is f (suc w) p r)
      ∙ ⊎_elim
      (λ (d : dead r ≡ true). simp d)
      (λ (d : dead r ≡ false). simp d (from_slot m l ∙ ap (flat_map kept) (from_next m s l e) ∙ later m))
      (cases_Bool (dead r))

-- below the position itself all are left
pub kept_below : (f : Row → Row) (w : ℕ) (p : List ℕ) (r : Row) → left_after p (below f w p r) ≡ rest_of f w p r 0
kept_below f w p r =
    kept_all (λ x. precedes p x.path) (below f w p r) (λ x i. let b = below_extends f w p r x i in rw b.2 (before_extension p b.0 b.1))
    ∙ below_is f w p r

-- a path at one of its slots
split_path : (path : List ℕ) (k : ℕ) → k < length path → path ≡ take k path ++ (get_or path k 0 ∷ drop (k + 1) path)
split_path path k l = sym (take-append-drop k path) ∙ ap (λ z. take k path ++ z) (drop_more path k 0 l)

module _ (f : Row → Row) (n : ℕ) (rs : List Row) (path : List ℕ) (k : ℕ) where
  -- what is left after a path, with the stack built along it to row k
  abbrev pub left_at : List Node
  left_at = left_after path (below f (n - k) (take k path) (row_at rs k)) ++ past f n rs path k

  pub rebuilt_all : k ≡ length path → left_at ≡ to_come f n rs path k 0
  rebuilt_all e =
      ap (λ z. left_after z (below f (n - k) (take k path) (row_at rs k)) ++ past f n rs path k) (sym (take_all k path (omega arith)))
      ∙ ap (λ z. z ++ past f n rs path k) (kept_below f (n - k) (take k path) (row_at rs k))

  pub rebuilt_part : k < length path → length path ≤ n → get_or path k 0 < 32 → has (next_mask (row_at rs k)) (get_or path k 0) ≡ false → left_at ≡ to_come f n rs path k (suc (get_or path k 0))
  rebuilt_part l u v e =
      let s : ℕ = get_or path k 0 in
      let w : n - k ≡ suc (n - suc k) = omega arith in
      ap (λ z. z ++ past f n rs path k) (
      ap (λ z. left_after z (below f (n - k) (take k path) (row_at rs k))) (split_path path k l)
      ∙ subst (λ i. left_after (take k path ++ (s ∷ drop (k + 1) path)) (below f i (take k path) (row_at rs k)) ≡ rest_of f i (take k path) (row_at rs k) (suc s)) (sym w)
      (kept_off f (n - suc k) (take k path) (row_at rs k) s (drop (k + 1) path) v e))

  -- one more row of the stack
  pub rebuilt_more :
      suc k < length rs → k < length path → length path ≤ n → get_or path k 0 < 32 → dead (row_at rs k) ≡ false → has (next_mask (row_at rs k)) (get_or path k 0) ≡ true →
      left_at ≡ left_after path (below f (n - suc k) (take (suc k) path) (row_at (set rs (suc k) (f (decide (row_at rs k) (get_or path k 0)))) (suc k)))
      ++ past f n (set rs (suc k) (f (decide (row_at rs k) (get_or path k 0)))) path (suc k)
  rebuilt_more room l u v h e =
      let s : ℕ = get_or path k 0 in
      let r : Row = row_at rs k in
      let qs : List Row = set rs (suc k) (f (decide r s)) in
      let w : n - k ≡ suc (n - suc k) = omega arith in
      let last : List ℕ = take k path ++ (s ∷ drop (k + 1) path) in
      let same : path ≡ last = split_path path k l in
      let step : left_after last (below f (n - k) (take k path) r) ≡ left_after last (below f (n - suc k) (take k path ++ (s ∷ [])) (f (decide r s))) ++ rest_of f (n - k) (take k path) r (suc s) =
      subst (λ i. left_after last (below f i (take k path) r) ≡ left_after last (below f (n - suc k) (take k path ++ (s ∷ [])) (f (decide r s))) ++ rest_of f i (take k path) r (suc s)) (sym w)
      (kept_at f (n - suc k) (take k path) r s (drop (k + 1) path) h v e) in
      let p : take (suc k) path ≡ take k path ++ (s ∷ []) = ap (λ i. take i path) (sym (add-one k)) ∙ take_more path k 0 l in
      let q : row_at qs (suc k) ≡ f (decide r s) = get_or-set_same rs (suc k) (f (decide r s)) (record { opened = []; present = []; decided = 0 }) room in
      let t : past f n qs path (suc k) ≡ rest_of f (n - k) (take k path) r (suc s) ++ past f n rs path k =
      ap (λ z. past f n qs z (suc k)) (sym (set-get_or path k 0)) ∙ deeper f n rs path k s room l in
      ap (λ z. left_after z (below f (n - k) (take k path) r) ++ past f n rs path k) same
      ∙ ap (λ z. z ++ past f n rs path k) step
      ∙ append_assoc (left_after last (below f (n - suc k) (take k path ++ (s ∷ [])) (f (decide r s)))) (rest_of f (n - k) (take k path) r (suc s)) (past f n rs path k)
      ∙ ap (λ z. left_after last (below f (n - suc k) (take k path ++ (s ∷ [])) (f (decide r s))) ++ z) (sym t)
      ∙ ap (λ z. left_after last (below f (n - suc k) z (f (decide r s))) ++ past f n qs path (suc k)) (sym p)
      ∙ ap (λ z. left_after last (below f (n - suc k) (take (suc k) path) z) ++ past f n qs path (suc k)) (sym q)
      ∙ ap (λ z. left_after z (below f (n - suc k) (take (suc k) path) (row_at qs (suc k))) ++ past f n qs path (suc k)) (sym same)

-- what is to come depends on the path's first slots alone
pub same_start : (f : Row → Row) (n : ℕ) (rs : List Row) (path way : List ℕ) (k a : ℕ) → take k way ≡ take k path → to_come f n rs way k a ≡ to_come f n rs path k a
same_start f n rs path way k a e =
    ap (λ z. rest_of f (n - k) z (row_at rs k) a ++ past f n rs way k) e
    ∙ ap (λ z. rest_of f (n - k) (take k path) (row_at rs k) a ++ z)
    (past_same f n rs rs path way k (λ j l. (
      refl,
      sym (get_or-take k way j 0 l) ∙ ap (λ z. get_or z j 0) e ∙ get_or-take k path j 0 l,
      sym (take-take j k way (omega arith)) ∙ ap (take j) e ∙ take-take j k path (omega arith),
    )))
