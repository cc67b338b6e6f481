-- What memory for any card's network holds.
use Rattle.card.specs.Layout.{Memory, memory}
use Rattle.script.specs.declared.room.Room.{Room}

abbrev pub memory_of : Room → Memory
memory_of r = memory r.masks r.tables r.cells r.rules
