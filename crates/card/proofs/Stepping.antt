-- A line is refused where its checks refuse its value, and otherwise leads on to the next stage.
use Rattle.std.proofs.Common.{◌≡◌, Bool, true, false, Ok, Err, refl}
use Rattle.network.specs.declared.refusal.Refusal.{Refusal}
use Rattle.card.specs.declared.entry.Entry.{Entry}
use Rattle.card.specs.Checks.{checked}
use Rattle.card.specs.Steps.{answer, step_of}
use Rattle.card.specs.Verdict.{judged, Reading}
use Rattle.card.proofs.Tests.{never}

-- the checks of a value, and those of its line
pub stops : {A : Type 0} (a b c d : Bool) (v : A) (p : Reading) (x : Entry) (e : Refusal) → Err e ≡ checked a b c d v → Err e ≡ answer (judged a b c d p) x
stops true true true true v p x e h = absurd (never cc)
stops true true true false v p x e h = cc
stops true true false d v p x e h = cc
stops true false c d v p x e h = cc
stops false b c d v p x e h = cc

pub goes : {A : Type 0} (a b c d : Bool) (v : A) (p : Reading) (x : Entry) (w : A) → Ok w ≡ checked a b c d v → (w ≡ v) × (answer (judged a b c d p) x ≡ Ok (step_of p x))
goes true true true true v p x w h = (cc, refl)
goes true true true false v p x w h = absurd (never cc)
goes true true false d v p x w h = absurd (never cc)
goes true false c d v p x w h = absurd (never cc)
goes false b c d v p x w h = absurd (never cc)
