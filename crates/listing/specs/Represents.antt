-- Which state of the model a session stands for, and what its calls owe.
use Rattle.std.specs.Prelude.{◌≡◌, ℕ, Some, None, List, [], ◌∷◌, ◌++◌, length, take, drop, Ok, Err, Option, Result}
use Rattle.network.specs.Sheets.{Sheet}
use Rattle.network.specs.Filters.{Filtering}
use Rattle.network.specs.Tree.{Node, tree}
use Rattle.network.specs.Refusals.{number_of}
use Rattle.network.specs.declared.refusal.Refusal.{Refusal}
use Rattle.listing.specs.Model.{Answer, Call, Listing, Outcome, State, Step, accepted, after as after_calls, blank, done, if_plan, listing, outcome, plan, refused, spent, step, stop, walk, walked}
use Rattle.listing.specs.Runs.{AllFair, Upholds, WalksOn}
use Rattle.listing.specs.Records.{masks_of, pins_of}
use Rattle.listing.specs.Walked.{outcome_named}
use Rattle.listing.specs.declared.record.BlockRecord.{BlockRecord}
use Rattle.listing.specs.declared.outcome.Outcome.{Outcome as CodeOutcome}
use Rattle.listing.specs.declared.listing.Listing.{Listing as CodeListing}
use Rattle.listing.specs.declared.session.Session.{Session}

-- the records of a listing's blocks, their open masks and pins, and the node visited last
abbrev pub records_of : CodeListing → List BlockRecord
records_of s = take s.blocks s.records

abbrev pub opened_of : CodeListing → List ℕ
opened_of s = masks_of (records_of s)

abbrev pub pinned_of : CodeListing → List (Option ℕ)
pinned_of s = pins_of (records_of s)

abbrev pub last_of : CodeListing → List ℕ
last_of s = take s.depth s.path

-- a listing that stands for one of the model
pub record Keeps (s : CodeListing) (l : Listing) : Type 0 where
  pub opened : l.opened ≡ opened_of s
  pub pins : l.pins ≡ pinned_of s
  pub last : l.last ≡ last_of s

-- a session with no listing is blank, one with a listing is opened
abbrev pub Stands : Option CodeListing → State → Type 0
Stands None blank = Unit {0}
Stands None (listing l) = ⊥
Stands (Some s) blank = ⊥
Stands (Some s) (listing l) = Keeps s l

abbrev pub Represents : Session → State → Type 0
Represents s st = Stands s.listing st

-- how many blocks a session has, and the node that it visited last: none where it is blank
abbrev pub blocks_in : Option CodeListing → ℕ
blocks_in None = 0
blocks_in (Some s) = s.blocks

abbrev pub blocks_of : Session → ℕ
blocks_of s = blocks_in s.listing

abbrev pub node_in : Option CodeListing → List ℕ
node_in None = []
node_in (Some s) = last_of s

abbrev pub node_of : Session → List ℕ
node_of s = node_in s.listing

-- a call that leaves s and answers a, as a step of the model says
pub record Meets (s : Option CodeListing) (a : Answer) (e : Step) : Type 0 where
  pub state : Stands s e.state
  pub answer : a ≡ e.answer

-- a call c takes the listing s to t and answers a, whatever listing of the model s stands for
abbrev pub Leads : CodeListing → CodeListing → Call → Answer → Type 0
Leads s t c a = (l : Listing) → Keeps s l → Meets (Some t) a (step (listing l) c)

-- a call c takes the session s to t and answers a, whatever state s stands for
abbrev pub Takes : Session → Session → Call → Answer → Type 0
Takes s t c a = (st : State) → Represents s st → Meets t.listing a (step st c)

-- the same on every list of fair calls, over the sheets m, that led to s: the law over runs holds of the call
abbrev pub Runs : List Sheet → Session → Session → Call → Answer → Type 0
Runs m s t c a = (cs : List Call) → AllFair m (c ∷ cs) → Represents s (after_calls cs) → Represents t (after_calls (c ∷ cs)) × Upholds m cs c a

-- the answer of a call that only starts
abbrev pub done_of : Result Unit Refusal → Answer
done_of (Ok v) = accepted
done_of (Err e) = refused (number_of e)

-- the answer of a Next, at n blocks, with what the plan place holds
abbrev pub walked_of : ℕ → List ℕ → Result (CodeOutcome × ℕ) Refusal → Answer
walked_of n place (Ok r) = walked (outcome_named r.0) r.1 (if_plan (outcome_named r.0) (take n place) [])
walked_of n place (Err e) = refused (number_of e)

-- what an outcome leaves in the plan place, at n blocks: a plan fills its first n bytes, and all else stays
abbrev pub PlaceAt : Outcome → ℕ → List ℕ → List ℕ → List ℕ → Type 0
PlaceAt plan n node before after = after ≡ node ++ drop n before
PlaceAt done n node before after = after ≡ before
PlaceAt spent n node before after = after ≡ before

abbrev pub PlaceAfter : ℕ → List ℕ → List ℕ → List ℕ → Result (CodeOutcome × ℕ) Refusal → Type 0
PlaceAfter n node before after (Ok r) = PlaceAt (outcome_named r.0) n node before after
PlaceAfter n node before after (Err e) = after ≡ before

-- the nodes of a filter's tree in a listing
abbrev pub nodes_of : CodeListing → List Sheet → Filtering → List Node
nodes_of s m f = tree f m (opened_of s) (pinned_of s)

-- a walk goes on over the filter's nodes, from the last node of the one listing to that of the other
abbrev pub GoesOn : Option CodeListing → Option CodeListing → List Sheet → Filtering → ℕ → Outcome → ℕ → List ℕ → Type 0
GoesOn None t m f budget o v p = ⊥
GoesOn (Some s) None m f budget o v p = ⊥
GoesOn (Some s) (Some t) m f budget o v p = WalksOn s.blocks budget (nodes_of s m f) (last_of s) (last_of t) o v p

-- an answer of a Next that took the session s to t: it walked on
abbrev pub WalksAlong : Session → Session → List Sheet → Filtering → ℕ → Answer → Type 0
WalksAlong s t m f budget (refused k) = Unit {0}
WalksAlong s t m f budget accepted = Unit {0}
WalksAlong s t m f budget (walked o v p) = GoesOn s.listing t.listing m f budget o v p

-- a walk takes the listing s to t
pub record Continued (s t : CodeListing) (m : List Sheet) (f : Filtering) (budget : ℕ) (o : CodeOutcome) (v : ℕ) : Type 0 where
  pub blocks : t.blocks ≡ s.blocks
  pub records : t.records ≡ s.records
  pub outcome : outcome_named o ≡ outcome s.blocks budget (last_of s) (nodes_of s m f)
  pub visits : v ≡ length (walk s.blocks budget (last_of s) (nodes_of s m f))
  pub stop : last_of t ≡ stop s.blocks budget (last_of s) (nodes_of s m f)
  pub whole : outcome_named o ≡ plan → t.depth ≡ s.blocks
