use Rattle.std.proofs.Common.{◌≡◌, ◌++◌, ◌≤◌, ◌-◌, length, take, string_bytes, refl, ◌∙◌, ap, ap₂, subst, arith}
use Rattle.std.proofs.lemmas.Result.{on_ok_weaker}
use Rattle.listing.specs.Model.{blank, listing, next_call, pin_call, spent, step}
use Rattle.listing.specs.Represents.{Represents, blocks_of}
use Rattle.filters.specs.Nfcs.{filter_of}
use Rattle.script.specs.Printed.{pinned, text_of, walked}
use Rattle.script.specs.Transcript.{answer_lines}
use Rattle.script.proofs.Calls.{blocks_are, capped_pin, serves_on, stays_open}
use Rattle.script.proofs.lister.Lister.obey.Goals as goal

pub returns-in-Pin : goal.returns-in-Pin
returns-in-Pin g c f blank serves = absurd serves
returns-in-Pin g c f (listing l) serves =
    let r = c.args.self.now in
    let b = c.in-Pin.block in
    let s = c.in-Pin.slot in
    let few : length l.opened ≤ 32 = omega (arith, serves.wide, serves.few) in
    let same : step (listing l) (pin_call c.byte.result c.byte-in-Pin.result) ≡ step (listing l) (pin_call b s) =
    ap₂ (λ x y. step (listing l) (pin_call x y)) c.byte.ensures c.byte-in-Pin.ensures ∙ capped_pin l b s few in
    let meets = c.pin-answer.ensures.step (listing l) serves.session in
    let stands = subst (λ z. Represents c.pin-answer.new.self z.state) same meets.state in
    rw c.in-Pin.is
    (on_ok_weaker c.print_start.result (λ said. (
      serves_on r f l serves c.pin-answer.new.self r.filter _ stands (stays_open l (pin_call b s)) serves.filter,
      said ∙ ap (λ a. string_bytes c.args.out.now ++ text_of (answer_lines pinned a)) (meets.answer ∙ ap (λ z. z.answer) same),
    )) (c.print_start.ensures pinned refl))

pub returns-in-Next : goal.returns-in-Next
returns-in-Next g c f blank serves = absurd serves
returns-in-Next g c f (listing l) serves =
    let r = c.args.self.now in
    let m = g.B.Bank.meaning c.args.bank.now in
    let budget = c.in-Next.budget in
    let same : step (listing l) (next_call m (filter_of r.filter) budget 32) ≡ step (listing l) (next_call m f budget 32) = ap (λ h. step (listing l) (next_call m h budget 32)) serves.filter in
    let meets = c.next-answer.ensures.step (listing l) serves.session in
    let stands = subst (λ z. Represents c.next-answer.new.self z.state) same meets.state in
    let many : c.min.result - 0 ≡ blocks_of r.session = omega (arith, c.min.ensures, serves.few, serves.wide, blocks_are r.session l serves.session) in
    rw c.in-Next.is
    (on_ok_weaker c.print_walk.result (λ said. (
      serves_on r f l serves c.next-answer.new.self c.next-answer.new.filter _ stands (stays_open l (next_call m f budget 32)) (c.next-answer.ensures.meaning ∙ serves.filter),
      said ∙ ap (λ a. string_bytes c.args.out.now ++ text_of (answer_lines (walked spent) a)) (meets.answer ∙ ap (λ z. z.answer) same),
    )) (c.print_walk.ensures (walked spent) (blocks_of r.session) c.next-answer.new.place (ap (λ n. take n c.next-answer.new.place) many)))
