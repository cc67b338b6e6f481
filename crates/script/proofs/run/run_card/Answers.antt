use Rattle.std.proofs.Common.{◌++◌, string_bytes, ap, ◌∙◌}
use Rattle.std.proofs.lemmas.Result.{on_ok_weaker}
use Rattle.script.specs.Printed.{text_of}
use Rattle.script.specs.Rooms.{memory_of}
use Rattle.script.proofs.Carded.{can_open, prints}
use Rattle.script.proofs.run.run_card.Goals as goal

pub run_commands-requires-clause-opens : goal.run_commands-requires-clause-opens
run_commands-requires-clause-opens c = can_open c.args.card.now c.in-Ok.sizes (memory_of c.read.new.self) c.in-Ok.ensures.holds _ _ c.bank.ensures c.masks.ensures

pub returns-in-Ok : goal.returns-in-Ok
returns-in-Ok c =
    on_ok_weaker c.run_commands.result (λ said. said ∙ ap (λ ls. string_bytes c.args.out.now ++ text_of ls)
    (prints c.args.card.now c.in-Ok.sizes (memory_of c.read.new.self) c.in-Ok.ensures.holds _ _ c.bank.ensures c.masks.ensures c.args.commands.now)) c.run_commands.ensures
