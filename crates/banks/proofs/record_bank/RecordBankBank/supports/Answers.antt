use Rattle.std.proofs.Common.{◌≡◌, ◌-◌, ◌^◌, ◌≤◌, false, ltb, [], map, length, take, set, sym, ap, ap₂, ◌∙◌, subst, ⊎_elim, arith, length-set}
use Rattle.std.proofs.lemmas.Bool.{cond-true, lt-ltb}
use Rattle.std.proofs.lemmas.List.{length-take-le}
use Rattle.network.specs.Sheets.{Sheet, choices, sheet_at, some_pass, supported}
use Rattle.network.proofs.Supports.{bank_decides}
use Rattle.banks.specs.Accepted.{records_lawful}
use Rattle.banks.specs.Rules.{Alone}
use Rattle.banks.specs.SheetAt.{unsupported}
use Rattle.banks.proofs.Recorded.{accepted_got, scope_few, scope_got, sheet_got}
use Rattle.banks.specs.SheetAt.{sheet_map_past}
use Rattle.banks.proofs.Seeking.{no_slot, supported_is, tried_alone}
use Rattle.banks.proofs.record_bank.RecordBankBank.supports.Goals as goal

pub returns-in_default : goal.returns-in_default
returns-in_default g c =
    let R = g.R.Record in
    let b = c.args.self.now in
    let ms = c.args.masks.now in
    let e : false ≡ supported (sheet_at (map (R.sheet b.cells.now) b.records.now) c.args.c) ms c.args.p c.args.s =
    sym (ap (λ (sh : Sheet). supported sh ms c.args.p c.args.s) (sheet_map_past (R.sheet b.cells.now) b.records.now c.args.c c.in_default.ensures.lookup.3)
    ∙ unsupported (sheet_at [] c.args.c) ms c.args.p c.args.s (omega arith)) in
    record {
      test = e;
      support = bank_decides (map (R.sheet b.cells.now) b.records.now) (records_lawful (R.verdict b.cells.now) (R.sheet b.cells.now) (R.lawful b.cells.now) b.records.now b.ok) c.args.c ms (omega arith) c.args.p c.args.s e;
    }

pub scope-arity-requires : goal.scope-arity-requires
scope-arity-requires g c =
    let R = g.R.Record in
    let b = c.args.self.now in
    let k = c.in-Some.ensures.lookup in
    scope_few (R.verdict b.cells.now) (R.sheet b.cells.now) R.scope (R.same_scope b.cells.now) (R.lawful b.cells.now) b.records.now b.ok c.args.c c.in-Some.line.now k.3.0 k.1

pub returns-then-p-arity : goal.returns-then-p-arity
returns-then-p-arity g c =
    let R = g.R.Record in
    let b = c.args.self.now in
    let k = c.in-Some.ensures.lookup in
    let ms = c.args.masks.now in
    let sh = sheet_at (map (R.sheet b.cells.now) b.records.now) c.args.c in
    let n : length c.scope-arity.result.now ≡ length sh.scope = ap length (c.scope-arity.ensures.value ∙ sym (scope_got (R.verdict b.cells.now) (R.sheet b.cells.now) R.scope (R.same_scope b.cells.now) (R.lawful b.cells.now) b.records.now b.ok c.args.c c.in-Some.line.now k.3.0 k.1)) in
    let e : false ≡ supported sh ms c.args.p c.args.s =
    sym (⊎_elim (λ h. unsupported sh ms c.args.p c.args.s (subst (λ m. m ≤ c.args.p) n h)) (λ h. no_slot sh ms c.args.p c.args.s h.1) c.then-p-arity.either) in
    record {
      test = e;
      support = bank_decides (map (R.sheet b.cells.now) b.records.now) (records_lawful (R.verdict b.cells.now) (R.sheet b.cells.now) (R.lawful b.cells.now) b.records.now b.ok) c.args.c ms (omega arith) c.args.p c.args.s e;
    }

pub allows_some-requires : goal.allows_some-requires
allows_some-requires g c =
    let R = g.R.Record in
    let b = c.args.self.now in
    let k = c.in-Some.ensures.lookup in
    let ms = c.args.masks.now in
    let n = length c.scope-arity.result.now in
    let z : n ≡ n - 0 = omega arith in
    let one : 2 ^ c.args.s ≡ c.single.result = sym (c.single.ensures ∙ cond-true (ltb c.args.s 32) (2 ^ c.args.s) 0 (lt-ltb c.args.s 32 c.if-s-ge-SLOTS.false)) in
    record {
      accepted = accepted_got (R.verdict b.cells.now) (R.sheet b.cells.now) R.scope (R.same_scope b.cells.now) (R.lawful b.cells.now) b.records.now b.ok c.args.c c.in-Some.line.now k.3.0 k.1;
      sized = length-take-le (n - 0) (set ms c.args.p c.single.result) (omega (arith, length-set ms c.args.p c.single.result, c.scope-arity.ensures.few)) ∙ sym z ∙ ap length c.scope-arity.ensures.value;
      alone = subst (λ m. Alone (take m (set ms c.args.p c.single.result)) c.args.p) z
          (subst (λ x. Alone (take n (set ms c.args.p x)) c.args.p) one (tried_alone ms n c.args.p c.args.s c.if-p-arity.false (omega (arith, c.scope-arity.ensures.few)) c.if-s-ge-SLOTS.false));
    }

pub returns : goal.returns
returns g c =
    let R = g.R.Record in
    let b = c.args.self.now in
    let k = c.in-Some.ensures.lookup in
    let ms = c.args.masks.now in
    let n = length c.scope-arity.result.now in
    let line = c.in-Some.line.now in
    let sh = R.sheet b.cells.now line in
    let z : n - 0 ≡ n = omega arith in
    let one : c.single.result ≡ 2 ^ c.args.s = c.single.ensures ∙ cond-true (ltb c.args.s 32) (2 ^ c.args.s) 0 (lt-ltb c.args.s 32 c.if-s-ge-SLOTS.false) in
    let e : c.allows_some.result ≡ supported (sheet_at (map (R.sheet b.cells.now) b.records.now) c.args.c) ms c.args.p c.args.s =
    c.allows_some.ensures ∙ ap₂ (λ m x. some_pass sh.allows (choices (take m (set ms c.args.p x)))) z one
    ∙ sym (supported_is ms n c.args.p c.args.s c.if-p-arity.false sh (ap length (R.same_scope b.cells.now line ∙ sym c.scope-arity.ensures.value)) c.if-s-ge-SLOTS.false)
    ∙ ap (λ (sheet : Sheet). supported sheet ms c.args.p c.args.s) (sym (sheet_got (R.verdict b.cells.now) (R.sheet b.cells.now) R.scope (R.same_scope b.cells.now) (R.lawful b.cells.now) b.records.now b.ok c.args.c c.in-Some.line.now k.3.0 k.1)) in
    record {
      test = e;
      support = bank_decides (map (R.sheet b.cells.now) b.records.now) (records_lawful (R.verdict b.cells.now) (R.sheet b.cells.now) (R.lawful b.cells.now) b.records.now b.ok) c.args.c ms (omega arith) c.args.p c.args.s e;
    }
