-- What a walk over the nodes that are left answers, and where it stops.
use Rattle.std.specs.Prelude.{◌≡◌, ℕ, Bool, Some, None, Option, cond, List, [], ◌∷◌, length, take, drop, fold, ◌==◌, ◌≢◌}
use Rattle.network.specs.Rows.{Row}
use Rattle.network.specs.Tree.{Node, shows}
use Rattle.listing.specs.Model.{Outcome, done, outcome_of, plan, spent, visited}
use Rattle.listing.specs.ToCome.{ComesFirst, models, node_at, to_come, width}
use Rattle.listing.specs.declared.walk.Child.{Child}
use Rattle.listing.specs.declared.walk.Walk.{Walk}
use Rattle.listing.specs.declared.outcome.Outcome.{Outcome as CodeOutcome}
use Rattle.listing.specs.declared.outcome.Outcome.TheVariants.{Done, Plan, Spent}

abbrev pub outcome_named : CodeOutcome → Outcome
outcome_named Plan = plan
outcome_named Done = done
outcome_named Spent = spent

-- how a walk over nodes ends, and where it stops if it begins after the node `last`
abbrev pub ends : ℕ → ℕ → List Node → Outcome
ends n b xs = outcome_of n (visited n b xs) (drop (length (visited n b xs)) xs)

abbrev pub stops : ℕ → ℕ → List ℕ → List Node → List ℕ
stops n b last xs = fold (λ _ x. x.path) last (visited n b xs)

-- after v visits: still at the node `last`, or at another
abbrev pub reached : ℕ → List ℕ → List ℕ → List ℕ
reached v last path = cond (v == 0) last path

-- the node that a walk is at
abbrev pub at : Walk → Node
at w = node_at (models w.rows) w.path w.depth

-- the nodes that are still to come from slot a of a walk's deepest row, and from the slot that it goes on from
abbrev pub coming_from : (Row → Row) → Walk → ℕ → List Node
coming_from f w a = to_come f (width (models w.rows)) (models w.rows) w.path w.depth a

abbrev pub coming : (Row → Row) → Walk → List Node
coming f w = coming_from f w w.from

-- the child that comes next in a walk, if one does
abbrev pub NextChild : Walk → Option Child → Type 0
NextChild w None = (f : Row → Row) → coming f w ≡ []
NextChild w (Some p) = ComesFirst (models w.rows) w.path w.depth w.from p.depth p.slot

-- a visit takes a walk to its next node, which shows a plan or not
pub record Visited (f : Row → Row) (w v : Walk) (plan : Bool) : Type 0 where
  pub wide : width (models v.rows) ≡ width (models w.rows)
  pub came : coming f w ≡ at v ∷ coming f v
  pub shown : plan ≡ shows (width (models v.rows)) (at v)

-- a walk over xs with that budget ends at w after v visits
pub record Walked (n : ℕ) (xs : List Node) (budget : ℕ) (w : Walk) (o : CodeOutcome) (v : ℕ) : Type 0 where
  pub wide : width (models w.rows) ≡ n
  pub outcome : outcome_named o ≡ ends n budget xs
  pub visits : v ≡ length (visited n budget xs)
  pub stop : (last : List ℕ) → stops n budget last xs ≡ reached v last (take w.depth w.path)
  pub whole : outcome_named o ≡ plan → (w.depth ≡ n) × (v ≢ 0)
