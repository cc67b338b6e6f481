-- One entry more in memory, written where what is filled ends.
use Rattle.std.proofs.Common.{◌≡◌, ℕ, ◌+◌, ◌-◌, ◌<◌, List, [], ◌∷◌, ◌++◌, length, get_or, drop, set, sym, ap, ◌∙◌, subst, ap₂, append_assoc, arith, length-append, length-drop}
use Rattle.std.proofs.lemmas.List.{drop_more, length_push, set_at}
use Rattle.banks.specs.declared.rule.Rule.{Rule}
use Rattle.banks.specs.declared.rule.RuleRecord.{RuleRecord}
use Rattle.banks.specs.declared.table.Kind.{Kind}
use Rattle.banks.specs.declared.table.TableRecord.{TableRecord}
use Rattle.card.specs.declared.entry.Entry.{Entry}
use Rattle.card.specs.declared.entry.Entry.TheVariants.{Mask, Rule as RuleEntry, Table}
use Rattle.card.specs.declared.list.NumberList.{NumberList}
use Rattle.card.specs.declared.sizes.Sizes.{Sizes}
use Rattle.card.specs.Filling.{added, HasRoom}
use Rattle.card.specs.Layout.{Memory, over, sizes_of, written}

module _ {A : Type 0} (xs ys : List A) where
  length_written : length (written xs ys) ≡ length xs + (length ys - length xs)
  length_written = omega (arith, length-append xs (drop (length xs) ys), length-drop (length xs) ys)

  written_push : (n : ℕ) (v : A) → n ≡ length xs → n < length (written xs ys) → set (written xs ys) n v ≡ written (xs ++ (v ∷ [])) ys
  written_push n v is room =
      let l : length xs < length ys = omega (arith, length_written) in
      let rest = drop (length xs + 1) ys in
      ap (λ zs. set (xs ++ zs) n v) (drop_more ys (length xs) v l) ∙ set_at xs (get_or ys (length xs) v) rest v n (sym is)
      ∙ sym (append_assoc xs (v ∷ []) rest) ∙ ap (λ k. (xs ++ (v ∷ [])) ++ drop k ys) (sym (length_push xs v))

module _ (m old now : Memory) (filled : Sizes) (is : filled ≡ sizes_of m) (held : now ≡ over m old) (self : Entry) (room : HasRoom self filled (sizes_of now)) where
  -- the same of the entry that it is
  told : (x : Entry) (w : Memory) → self ≡ x → (HasRoom x filled (sizes_of now) → w ≡ over (added x m) old) → w ≡ over (added self m) old
  told x w e put = put (subst (λ (y : Entry). HasRoom y filled (sizes_of now)) e room) ∙ ap (λ (y : Entry). over (added y m) old) (sym e)

  pub put_mask : (v : ℕ) → self ≡ Mask v → record { masks = set now.masks filled.masks v; tables = now.tables; cells = now.cells; rules = now.rules } ≡ over (added self m) old
  put_mask v e =
      let n_is : filled.masks ≡ length m.masks = ap (λ (s : Sizes). s.masks) is in
      let build : Memory → List ℕ → Memory = λ w xs. record { masks = xs; tables = w.tables; cells = w.cells; rules = w.rules } in
      told (Mask v) _ e (λ here.
      ap₂ build held (ap (λ (w : Memory). set w.masks filled.masks v) held
      ∙ written_push m.masks old.masks filled.masks v n_is (subst (λ (w : Memory). filled.masks < length w.masks) held here)))

  pub put_table : (kind : Kind) (scope : NumberList) (n : ℕ) → self ≡ Table kind scope n →
      record { masks = now.masks; tables = set now.tables filled.tables (record { kind = kind; arity = scope.count; blocks = scope.numbers; first = filled.cells; tuples = n }); cells = now.cells; rules = now.rules }
      ≡ over (added self m) old
  put_table kind scope n e =
      let n_is : filled.tables ≡ length m.tables = ap (λ (s : Sizes). s.tables) is in
      let line : ℕ → TableRecord = λ first. record { kind = kind; arity = scope.count; blocks = scope.numbers; first = first; tuples = n } in
      let build : Memory → List TableRecord → Memory = λ w xs. record { masks = w.masks; tables = xs; cells = w.cells; rules = w.rules } in
      told (Table kind scope n) _ e (λ here.
      ap₂ build held (ap₂ (λ (w : Memory) first. set w.tables filled.tables (line first)) held (ap (λ (s : Sizes). s.cells) is)
      ∙ written_push m.tables old.tables filled.tables (line (length m.cells)) n_is (subst (λ (w : Memory). filled.tables < length w.tables) held here)))

  pub put_rule : (rule : Rule) (scope : NumberList) → self ≡ RuleEntry rule scope →
      record { masks = now.masks; tables = now.tables; cells = now.cells; rules = set now.rules filled.rules (record { rule = rule; arity = scope.count; blocks = scope.numbers }) }
      ≡ over (added self m) old
  put_rule rule scope e =
      let n_is : filled.rules ≡ length m.rules = ap (λ (s : Sizes). s.rules) is in
      let line : RuleRecord = record { rule = rule; arity = scope.count; blocks = scope.numbers } in
      let build : Memory → List RuleRecord → Memory = λ w xs. record { masks = w.masks; tables = w.tables; cells = w.cells; rules = xs } in
      told (RuleEntry rule scope) _ e (λ here.
      ap₂ build held (ap (λ (w : Memory). set w.rules filled.rules line) held
      ∙ written_push m.rules old.rules filled.rules line n_is (subst (λ (w : Memory). filled.rules < length w.rules) held here)))
