use Rattle.std.proofs.Common.{◌≡◌, ◌+◌, ◌-◌, ◌≤◌, length, None, sym, subst, arith, length-drop, rules}
use Rattle.std.proofs.lemmas.List.{take_rest}
use Rattle.card.specs.Lists.{Listed}
use Rattle.card.proofs.Packing.{last_fails, last_more, Seen, seen_fails, seen_more}
use Rattle.card.proofs.list.NumberList.read.Goals as goal

pub returns-in_err-n : goal.returns-in_err-n
returns-in_err-n c =
    let none : c.from_residual.result ≡ None = search rules in
    subst (Listed c.args.value.now) (sym none) (seen_fails c.args.value.now c.loop-comma.rest.now c.loop-comma.list c.in-Some.comma c.in-Some.ensures c.in_err-n.ensures c.loop-comma.invariant.1)

pub loop-comma-preserved : goal.loop-comma-preserved
loop-comma-preserved c =
    let value = c.args.value.now in
    let rest = c.loop-comma.rest.now in
    let i = c.in-Some.comma in
    let t = sym (take_rest rest (i + 1)) in
    let s = seen_more value rest c.loop-comma.list c.push.new.self i c.in_ok-n.n c.in-Some.ensures c.in_ok-n.ensures c.push.ensures.held c.loop-comma.invariant.1 in
    let short : c.push.new.self.count + (length rest - (i + 1)) ≤ length value = omega (arith, c.in-Some.ensures) in (
      subst (λ bs. c.push.new.self.count + length bs ≤ length value) t (subst (λ k. c.push.new.self.count + k ≤ length value) (sym (length-drop (i + 1) rest)) short),
      subst (λ bs. Seen value bs c.push.new.self) t s,
    )

pub returns-in_err-last : goal.returns-in_err-last
returns-in_err-last c =
    let none : c.from_residual-in_err-last.result ≡ None = search rules in
    subst (Listed c.args.value.now) (sym none) (last_fails c.args.value.now c.loop-comma.rest.now c.loop-comma.list c.in_default.ensures c.in_err-last.ensures c.loop-comma.invariant.1)

pub returns : goal.returns
returns c = last_more c.args.value.now c.loop-comma.rest.now c.loop-comma.list c.push-2.new.self c.in_ok-last.last c.in_default.ensures c.in_ok-last.ensures c.push-2.ensures.held c.loop-comma.invariant.1
