use Rattle.std.proofs.Common.{◌≡◌, Some, Ok, Option, Result, sym, ap, ◌∙◌, subst}
use Rattle.card.specs.declared.entry.Entry.{Entry}
use Rattle.card.specs.declared.refusal.CardRefusal.{CardRefusal}
use Rattle.card.specs.Filling.{ReadsOn}
use Rattle.card.specs.Layout.{layout, Memory, memory_in, over, sizes_of}
use Rattle.card.proofs.Filled.{fits_within, has_room, Within}
use Rattle.card.proofs.Turns.{later_counted, later_loans}
use Rattle.card.proofs.read.fill.Goals as goal

pub put-requires : goal.put-requires
put-requires c =
    let card = c.args.card.now in
    let r = c.loop-entry.reader in
    let s = c.next_entry.new.self in
    let (q, counted, _, same, _) = c.loop-entry.invariant in
    let (x, spells, fit) = c.requires.room in
    let is : c.next_entry.result ≡ Ok (Some c.in-Ok-Some.entry) = cc in
    let goes = subst (λ (o : Result (Option Entry) CardRefusal). ReadsOn card c.loop-entry.reader q s o) is (c.next_entry.ensures card q counted.stands) in
    let within = fits_within (sizes_of (layout x)) _ fit in
    let kept : Within (sizes_of (layout x)) (sizes_of (memory_in c.loop-entry.places)) =
    subst (Within (sizes_of (layout x))) (sym same) within in
    record { fit = goes.0; room = has_room x card spells r s q c.in-Ok-Some.entry c.loop-entry.filled _ goes counted.sizes kept }

pub loop-entry-preserved : goal.loop-entry-preserved
loop-entry-preserved c =
    let card = c.args.card.now in
    let s = c.next_entry.new.self in
    let (q, counted, held, same, lent) = c.loop-entry.invariant in
    let is : c.next_entry.result ≡ Ok (Some c.in-Ok-Some.entry) = cc in
    let goes = subst (λ (o : Result (Option Entry) CardRefusal). ReadsOn card c.loop-entry.reader q s o) is (c.next_entry.ensures card q counted.stands) in
    let old = memory_in c.args.places.now in (
      goes.2.0,
      later_counted counted s c.in-Ok-Some.entry c.with-filled.result goes c.with-filled.ensures.few c.with-filled.ensures.sizes,
      c.put.ensures.written _ old counted.sizes held ∙ ap (λ (m : Memory). over m old) (sym goes.2.2),
      c.put.ensures.sizes ∙ same,
      later_loans lent c.put.ensures.loans,
    )
