-- The example network's twelve rows and its node counts, computed from the definitions.
use Rattle.std.proofs.Common.{refl}
use Rattle.network.specs.Sheets.{mask_of, slots}
use Rattle.network.specs.Example.{ExampleNodes, ExampleRows}

pub example_rows : ExampleRows
unfolding slots mask_of
example_rows = refl

pub example_nodes : ExampleNodes
unfolding slots mask_of
example_nodes = refl
