use Rattle.std.proofs.Common.{◌<◌, ◌≤◌, length, get_or, sym, ap, ◌∙◌, arith}
use Rattle.network.specs.RowModel.{model}
use Rattle.network.specs.Rows.{dead, keep}
use Rattle.network.specs.Sheets.{sheet_at}
use Rattle.network.proofs.CodeKeeps.{lawful_code}
use Rattle.filters.proofs.Walked.{left_read, mask_read, walked_decided, walked_died, walked_end, walked_is, walked_more, walked_same, walked_start}
use Rattle.filters.proofs.narrowing.narrow.Goals as goal
use Rattle.filters.proofs.narrowing.narrow.Goals.{else-left-mask, then-left-mask+else-left-eq0}

pub loop-p-init : goal.loop-p-init
loop-p-init g c = walked_start (model c.args.row.now) (sheet_at (g.B.Bank.meaning c.args.bank.now) c.args.c) c.masks-masks.result (lawful_code c.args.row.now)

pub loop-p-preserved-then-block-decided : goal.loop-p-preserved-then-block-decided
loop-p-preserved-then-block-decided g c =
    walked_decided (g.B.Bank.meaning c.args.bank.now) (g.B.Bank.lawful c.args.bank.now) c.args.c c.masks-masks.result (model c.args.row.now)
    (lawful_code c.args.row.now) c.loop-p.p (omega (arith, c.arity-p-end.ensures, c.loop-p-test.true)) c.loop-p.invariant
    (omega (arith, c.block-block.ensures, c.decided.ensures))

pub returns-then-left-eq0 : goal.returns-then-left-eq0
returns-then-left-eq0 g c =
    let m = g.B.Bank.meaning c.args.bank.now in
    let sh = sheet_at m c.args.c in
    let n = c.loop-p.p in
    let q = model c.loop-p.row in
    let left = c.supported_slots-left.result in
    let d = walked_died m (g.B.Bank.lawful c.args.bank.now) c.args.c c.masks-masks.result (model c.args.row.now) (lawful_code c.args.row.now) n
    (omega (arith, c.arity-p-end.ensures, c.loop-p-test.true)) c.loop-p.invariant (omega (arith, c.block-block.ensures, c.decided.ensures)) left
    (left_read sh c.masks-masks.result q n c.block-block.result c.present_mask-mask.result left c.block-block.ensures c.present_mask-mask.ensures c.supported_slots-left.ensures)
    c.args.reading c.masks-masks.ensures c.requires.inside c.requires.future c.if-left-eq0.true in
    let e = c.keep.ensures ∙ ap (λ b. keep q b left) c.block-block.ensures in
    record { row = e ∙ d.0; told = ap dead e ∙ d.1 }

pub loop-p-preserved : goal.loop-p-preserved
loop-p-preserved g c =
    let m = g.B.Bank.meaning c.args.bank.now in
    let bank = g.B.Bank.lawful c.args.bank.now in
    let sh = sheet_at m c.args.c in
    let masks = c.masks-masks.result in
    let r = model c.args.row.now in
    let n = c.loop-p.p in
    let q = model c.loop-p.row in
    let left = c.supported_slots-left.result in
    let l : n < length sh.scope = omega (arith, c.arity-p-end.ensures, c.loop-p-test.true) in
    let u : q.decided ≤ get_or sh.scope n 255 = omega (arith, c.block-block.ensures, c.decided.ensures) in
    let e = left_read sh masks q n c.block-block.result c.present_mask-mask.result left c.block-block.ensures c.present_mask-mask.ensures c.supported_slots-left.ensures in
    let k = mask_read sh q n c.block-block.result c.present_mask-mask.result c.block-block.ensures c.present_mask-mask.ensures in
    elim c.if-left-mask.branch [
      | then-left-mask+else-left-eq0 w ↦
          walked_is (ap model w.row-is ∙ w.keep.ensures ∙ ap (λ b. keep q b left) c.block-block.ensures) w.effect-is
          (walked_more m bank c.args.c masks r (lawful_code c.args.row.now) n l c.loop-p.invariant u left e (λ h. w.if-left-mask.true (h ∙ sym k)))
      | else-left-mask w ↦
          walked_is (ap model w.row-is) w.effect-is
          (walked_same m bank c.args.c masks r (lawful_code c.args.row.now) n l c.loop-p.invariant u left e (w.if-left-mask.false ∙ k))
    ]

pub returns : goal.returns
returns g c = record {
  row = walked_end (model c.args.row.now) (sheet_at (g.B.Bank.meaning c.args.bank.now) c.args.c) c.masks-masks.result (lawful_code c.args.row.now) c.args.reading
      c.masks-masks.ensures c.requires.inside c.requires.future c.loop-p.invariant (omega (arith, c.arity-p-end.ensures, c.loop-p-test.false)) (omega (arith, c.arity-p-end.ensures, c.loop-p.auto.p-end));
  told = c.loop-p.invariant.told;
}
