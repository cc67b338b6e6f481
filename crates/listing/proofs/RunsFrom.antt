-- What holds of every list of calls follows from what holds of one step.
use Rattle.std.proofs.Common.{ℕ, List, sym, refl, subst}
use Rattle.network.specs.Sheets.{Sheet}
use Rattle.network.specs.Filters.{Filtering}
use Rattle.network.specs.Laws.{LawfulBank}
use Rattle.network.proofs.Nested.{nested}
use Rattle.listing.specs.Model.{Answer, Call, Listing, State, after, blank, listing, next_call, open_call, rewind_call, step}
use Rattle.listing.specs.Runs.{AtDone, ShowsFirst, Upholds}
use Rattle.listing.specs.Represents.{Runs, Takes}
use Rattle.listing.specs.declared.session.Session.{Session}
use Rattle.listing.proofs.Theorem.{upholds}

-- a rewind starts over, or finds a blank session
rewind_first : (m : List Sheet) (st : State) → ShowsFirst m (step st rewind_call).state
rewind_first m blank = tt
rewind_first m (listing l) = refl

rewind_done : (P : Listing → Type 0) (st : State) → AtDone P (step st rewind_call).state (step st rewind_call).answer
rewind_done P blank = tt
rewind_done P (listing l) = tt

module _ (s t : Session) (a : Answer) where
  pub runs_from : (c : Call) → Takes s t c a → (m : List Sheet) → LawfulBank m → Runs m s t c a
  runs_from c h m bank cs fair r = let k = h (after cs) r in (k.state, subst (Upholds m cs c) (sym k.answer) (upholds bank cs c fair))

  -- a call that has a bank brings the law
  pub open_runs : (n : List Sheet) (ms : List ℕ) → LawfulBank n → Takes s t (open_call n ms) a → (m : List Sheet) → Runs m s t (open_call n ms) a
  open_runs n ms bank h m cs fair = runs_from (open_call n ms) h m (subst LawfulBank fair.0.0 bank) cs fair

  pub next_runs : (n : List Sheet) (f : Filtering) (budget room : ℕ) → LawfulBank n → Takes s t (next_call n f budget room) a →
      (m : List Sheet) → Runs m s t (next_call n f budget room) a
  next_runs n f budget room bank h m cs fair = runs_from (next_call n f budget room) h m (subst LawfulBank fair.0.0 bank) cs fair

  -- a rewind needs none
  pub rewind_runs : Takes s t rewind_call a → (m : List Sheet) → Runs m s t rewind_call a
  rewind_runs h m cs fair r =
      let k = h (after cs) r in (
        k.state,
        subst (Upholds m cs rewind_call) (sym k.answer) (record {
          answer = refl;
          first = rewind_first m (after cs);
          last = rewind_done _ (after cs);
          counted = rewind_done _ (after cs);
          nested = nested;
        }),
      )
