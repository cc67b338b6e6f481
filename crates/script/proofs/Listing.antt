-- The plans that a transcript shows are the first ones of all, and at a "done" they are all, after any number of its commands.
use Rattle.std.proofs.Common.{◌≡◌, ℕ, ◌≤◌, cond, ◌&&◌, ◌||◌, eqb, ltb, List, [], ◌∷◌, ◌++◌, length, get_or, take, set, Ok, Err, None, Some, Option, Result, sym, refl, ap, ◌∙◌, ap₂, map, subst, append_assoc}
use Rattle.std.specs.List.{fold}
use Rattle.std.proofs.lemmas.Bool.{cond_both, le-ltb}
use Rattle.std.proofs.lemmas.List.Sums.{fold-append}
use Rattle.network.specs.Filters.{Filtering}
use Rattle.network.specs.Sheets.{Sheet, has}
use Rattle.network.specs.Tree.{pin_at, tree}
use Rattle.network.specs.declared.refusal.Refusal.{Refusal}
use Rattle.filters.specs.NfcLaws.{filter_law}
use Rattle.filters.specs.Nfcs.{filter_of}
use Rattle.filters.specs.declared.nfc.Nfc.{Nfc}
use Rattle.listing.specs.Model.{Answer, Call, Listing, Outcome, State, Step, accepted, after, answer_to, blank, done, if_plan, is_pinned, listing, misfits, moved, next_step, open_call, plan, plans, refuse, refused, spent, started, step, tree_of, walked as has_walked}
use Rattle.listing.specs.Runs.{AllFair, AtDone, counted_on, Fair, OneFilter, Served, ShownAll, ShowsFirst, visits_since_start}
use Rattle.listing.proofs.RunsHold.{runs_counted, runs_first, runs_last}
use Rattle.card.specs.Sheets.{sheets_of}
use Rattle.card.specs.Spelling.{Network, Within}
use Rattle.card.specs.Verdict.{Verdict, lines, spelled, verdict}
use Rattle.card.proofs.Theorem.{accepted_spells}
use Rattle.script.specs.Commands.{command_read, filter_read}
use Rattle.script.specs.Listed.{ListsAlong, ListsPlans, latest_with, pinned_by, pinned_on, pinned_with, printed_on, shown_with, visits_with}
use Rattle.script.specs.Printed.{End, Line, text_of, walked}
use Rattle.script.specs.Transcript.{answer_lines, call_of, command_lines, end_of, obeyed, opened, printed, printed_by, state_after, taken, Taken, transcript, unended}
use Rattle.script.specs.declared.command.Command.{Command}
use Rattle.script.specs.declared.command.Command.TheVariants.{Next, Pin, Rewind}
use Rattle.script.proofs.Taking.{text_append}
use Rattle.script.proofs.Bank.{bank_lawful, masks_bounded, opens, starts}

module _ (m : List Sheet) (f : Filtering) where
  -- what commands after others print
  printed_append : (st : State) (before after : List (List ℕ)) → printed_by m f st (before ++ after) ≡ printed_by m f st before ++ printed_by m f (state_after m f st before) after
  printed_append st [] after = refl
  printed_append st (l ∷ ls) after =
      let one : Taken = taken m f st l in
      ap (λ t. one.printed ++ t) (printed_append one.state ls after)
      ∙ sym (append_assoc one.printed (printed_by m f one.state ls) (printed_by m f (state_after m f one.state ls) after))

-- what the law reads in printed lines: the plans shown, the visits, the latest end, and the pins accepted
record Seen : Type 0 where
  shown : List (List ℕ)
  visits : ℕ
  latest : Option End
  pins : List (Option ℕ)

-- after more lines, which leave these pins
abbrev seen_with : Seen → List Line → List (Option ℕ) → Seen
seen_with s ls ps = record { shown = fold shown_with s.shown ls; visits = fold visits_with s.visits ls; latest = fold latest_with s.latest ls; pins = ps }

-- a fact that is owed at a "done" follows from another
at_done_by : {P Q : Listing → Type 0} (st : State) (a : Answer) → ((l : Listing) → P l → Q l) → AtDone P st a → AtDone Q st a
at_done_by blank a g h = tt
at_done_by (listing l) (refused k) g h = tt
at_done_by (listing l) accepted g h = tt
at_done_by (listing l) (has_walked plan v t) g h = tt
at_done_by (listing l) (has_walked spent v t) g h = tt
at_done_by (listing l) (has_walked done v t) g h = g l h

module _ (m : List Sheet) (ms : List ℕ) (f : Filtering) where
  -- what a session shows is what was printed, and after a "done" that is all
  record ShowsListing (l : Listing) (s : Seen) : Type 0 where
    opened : l.opened ≡ ms
    shown : l.shown ≡ s.shown
    pins : l.pins ≡ s.pins
    all : s.latest ≡ Some (walked done) → (s.shown ≡ plans m ms s.pins) × (s.visits ≡ length (tree f m ms s.pins))

  abbrev Shows : State → Seen → Type 0
  Shows blank s = ⊥
  Shows (listing l) s = ShowsListing l s

  module _ (l : Listing) (s : Seen) (h : ShowsListing l s) where
    -- a command leaves what it prints, with its visits counted on
    abbrev Leaves : Command → Step → Type 0
    Leaves c st =
        AtDone (ShownAll m) st.state st.answer → AtDone (λ q. counted_on st.answer s.visits ≡ length (tree_of q m f)) st.state st.answer →
        Shows st.state (seen_with s (answer_lines (end_of c) st.answer) (pinned_with s.pins (Ok c) (answer_lines (end_of c) st.answer)))
        × (fold visits_with s.visits (answer_lines (end_of c) st.answer) ≡ counted_on st.answer s.visits)

    refused_leaves : (c : Command) (k : ℕ) → Leaves c (refuse (listing l) k)
    refused_leaves (Pin b t) k _ _ = (h, refl)
    refused_leaves Rewind k _ _ = (h, refl)
    refused_leaves (Next b) k _ _ = (h, refl)

    -- a walk of any outcome
    walk_leaves : (b : ℕ) (o : Outcome) (last : List ℕ) (v : ℕ) → Leaves (Next b) (record { state = listing (moved l o last); answer = has_walked o v (if_plan o last []) })
    walk_leaves b plan last v d k = (record { opened = h.opened; shown = ap (λ z. z ++ (last ∷ [])) h.shown; pins = h.pins; all = λ q. absurd (cc) }, refl)
    walk_leaves b done last v d k = (
      record {
        opened = h.opened;
        shown = h.shown;
        pins = h.pins;
        all = λ _. (sym h.shown ∙ d ∙ ap₂ (λ z p. plans m z p) h.opened h.pins, k ∙ ap₂ (λ z p. length (tree f m z p)) h.opened h.pins);
      },
      refl,
    )
    walk_leaves b spent last v d k = (record { opened = h.opened; shown = h.shown; pins = h.pins; all = λ q. absurd (cc) }, refl)

    command_leaves : (c : Command) → Leaves c (step (listing l) (call_of m f c))
    command_leaves (Pin b t) =
        let pin : Step = started l.opened (set l.pins b (Some t)) in
        let free : Step = cond (is_pinned (pin_at l.pins b)) (refuse (listing l) 8) pin in
        cond_both (ltb b (length l.opened) && (ltb t 32 && has (get_or l.opened b 0) t)) free (refuse (listing l) 7) (Leaves (Pin b t))
        (λ _. cond_both (is_pinned (pin_at l.pins b)) (refuse (listing l) 8) pin (Leaves (Pin b t)) (λ _. refused_leaves (Pin b t) 8)
        (λ _ _ _. (record { opened = h.opened; shown = refl; pins = ap (λ p. set p b (Some t)) h.pins; all = λ q. absurd (cc) }, refl)))
        (λ _. refused_leaves (Pin b t) 7)
    command_leaves Rewind = λ _ _. (record { opened = h.opened; shown = refl; pins = h.pins; all = λ q. absurd (cc) }, refl)
    command_leaves (Next b) =
        let fits : Step = cond (misfits (length l.opened) m) (refuse (listing l) 7) (next_step l m f b) in
        let long : Step = cond (ltb 32 (length l.opened)) (refuse (listing l) 4) fits in
        cond_both (eqb b 0 || ltb 1000000 b) (refuse (listing l) 9) long (Leaves (Next b)) (λ _. refused_leaves (Next b) 9)
        (λ _. cond_both (ltb 32 (length l.opened)) (refuse (listing l) 4) fits (Leaves (Next b)) (λ _. refused_leaves (Next b) 4)
        (λ _. cond_both (misfits (length l.opened) m) (refuse (listing l) 7) (next_step l m f b) (Leaves (Next b)) (λ _. refused_leaves (Next b) 7) (λ _. walk_leaves b _ _ _)))

  call_leaves : (c : Command) (st : State) (s : Seen) → Shows st s → let d : Step = step st (call_of m f c) in
      AtDone (ShownAll m) d.state d.answer → AtDone (λ q. counted_on d.answer s.visits ≡ length (tree_of q m f)) d.state d.answer →
      Shows d.state (seen_with s (answer_lines (end_of c) d.answer) (pinned_with s.pins (Ok c) (answer_lines (end_of c) d.answer)))
      × (fold visits_with s.visits (answer_lines (end_of c) d.answer) ≡ counted_on d.answer s.visits)
  call_leaves c blank s h = absurd h
  call_leaves c (listing l) s h = command_leaves l s h c

  -- f serves each command
  serves : (c : Command) (a : Answer) (P : Type 0) → P → Served f (call_of m f c) a P
  serves c (refused k) P p = p
  serves c accepted P p = tt
  serves (Pin b t) (has_walked o v u) P p = (tt, p)
  serves Rewind (has_walked o v u) P p = (tt, p)
  serves (Next b) (has_walked o v u) P p = (refl, p)

  serves_open : (a : Answer) → Served f (open_call m ms) a (Unit {0})
  serves_open (refused k) = tt
  serves_open accepted = tt
  serves_open (has_walked o v u) = (tt, tt)

module _ (x : Network) (within : Within x) (nfc : Nfc) where
  abbrev m : List Sheet
  m = sheets_of x

  abbrev f : Filtering
  f = filter_of nfc

  -- what is owed of what has been printed
  abbrev Ends : Seen → Type 0
  Ends s =
      (s.shown ≡ take (length s.shown) (plans m x.masks s.pins))
      × (s.latest ≡ Some (walked done) → (s.shown ≡ plans m x.masks s.pins) × (s.visits ≡ length (tree f m x.masks s.pins)))

  -- it holds of what a session shows
  shows_ends : (st : State) (s : Seen) → ShowsFirst m st → Shows m x.masks f st s → Ends s
  shows_ends blank s first h = absurd h
  shows_ends (listing l) s first h =
      let e : plans m l.opened l.pins ≡ plans m x.masks s.pins = ap₂ (λ z p. plans m z p) h.opened h.pins in
      (sym h.shown ∙ first ∙ ap₂ (λ z t. take (length z) t) h.shown e, h.all)

  call_fair : (c : Command) → Fair m (call_of m f c)
  call_fair (Pin b s) = tt
  call_fair Rewind = tt
  call_fair (Next b) = (refl, filter_law nfc)

  -- what has been printed after command lines
  abbrev seen_by : State → Seen → List (List ℕ) → Seen
  seen_by st s ls = seen_with s (printed_by m f st ls) (pinned_by m f st s.pins ls)

  -- command lines after calls, of which the latest comes first
  abbrev Along : List (List ℕ) → Type 0
  Along ls =
      (c : Call) (cs : List Call) → AllFair m (c ∷ cs) → OneFilter f (c ∷ cs) → (s : Seen) → s.visits ≡ visits_since_start (c ∷ cs) → Shows m x.masks f (after (c ∷ cs)) s →
      Ends (seen_by (after (c ∷ cs)) s ls)

  -- lines that are printed after others
  ends_append : (s : Seen) (ls ks : List Line) (ps qs : List (Option ℕ)) → Ends (seen_with (seen_with s ls ps) ks qs) → Ends (seen_with s (ls ++ ks) qs)
  ends_append s ls ks ps qs h = rw (fold-append shown_with s.shown ls ks, fold-append visits_with s.visits ls ks, fold-append latest_with s.latest ls ks) h

  -- one line more in front, by what it is read as
  line_along :
      (ls : List (List ℕ)) → Along ls → (r : Result Command Refusal) (c : Call) (cs : List Call) → AllFair m (c ∷ cs) → OneFilter f (c ∷ cs) →
      (s : Seen) → s.visits ≡ visits_since_start (c ∷ cs) → Shows m x.masks f (after (c ∷ cs)) s →
      let one = obeyed m f (after (c ∷ cs)) r in Ends (seen_with s (one.printed ++ printed_by m f one.state ls) (pinned_by m f one.state (pinned_with s.pins r one.printed) ls))
  line_along ls more (Err k) c cs fair filters s v h = more c cs fair filters s v h
  line_along ls more (Ok k) c cs fair filters s v h =
      let d : Call = call_of m f k in
      let all : AllFair m (d ∷ (c ∷ cs)) = (call_fair k, fair) in
      let a : Answer = answer_to (c ∷ cs) d in
      let st : State = after (d ∷ (c ∷ cs)) in
      let served : OneFilter f (d ∷ (c ∷ cs)) = serves m x.masks f k a (OneFilter f (c ∷ cs)) filters in
      let ls_one : List Line = answer_lines (end_of k) a in
      let ps : List (Option ℕ) = pinned_with s.pins (Ok k) ls_one in
      let lawful = bank_lawful x within in
      let counted : AtDone (λ q. counted_on a s.visits ≡ length (tree_of q m f)) st a =
      at_done_by st a (λ q g. ap (counted_on a) v ∙ g f served) (runs_counted lawful (c ∷ cs) d all) in
      let (shows, visits) = call_leaves m x.masks f k (after (c ∷ cs)) s h (runs_last lawful (c ∷ cs) d all) counted in
      ends_append s ls_one (printed_by m f st ls) ps (pinned_by m f st ps ls)
      (more d (c ∷ cs) all served (seen_with s ls_one ps) (visits ∙ ap (counted_on a) v) shows)

  along : (ls : List (List ℕ)) → Along ls
  along [] c cs fair filters s v h = shows_ends (after (c ∷ cs)) s (runs_first (bank_lawful x within) cs c fair) h
  along (l ∷ ls) c cs fair filters s v h = line_along ls (along ls) (command_read l) c cs fair filters s v h

  -- before the first command
  abbrev at_first : Seen
  at_first = record { shown = []; visits = 0; latest = None; pins = map (λ _. None) x.masks }

  begun : Shows m x.masks f (opened m x.masks) at_first
  begun = subst (λ st. Shows m x.masks f st at_first) (sym (opens x within)) (record { opened = refl; shown = refl; pins = refl; all = λ q. absurd (cc) })

  none_counted : 0 ≡ visits_since_start (open_call m x.masks ∷ [])
  none_counted = sym (ap (λ (t : Step). counted_on t.answer 0) (starts x within))

  pub plans_listed : (ls : List (List ℕ)) → ListsPlans x f (pinned_on x f ls) (printed_on x f ls)
  plans_listed ls =
      let h = along ls (open_call m x.masks) [] ((refl, masks_bounded x.masks within.masks), tt) (serves_open m x.masks f (answer_to [] (open_call m x.masks))) at_first none_counted begun in
      record { first = h.0; last = λ e. (h.1 e).0; counted = λ e. (h.1 e).1 }

-- what a command file prints on a network: the lines of its first commands, and the later ones
module _ (x : Network) (nfc : Nfc) (commands : List ℕ) (before after : List (List ℕ)) where
  abbrev start : State
  start = opened (sheets_of x) x.masks

  abbrev front : List Line
  front = printed_by (sheets_of x) (filter_of nfc) start before

  abbrev later : List Line
  later = printed_by (sheets_of x) (filter_of nfc) (state_after (sheets_of x) (filter_of nfc) start before) after ++ unended (lines commands).rest

  lines_parted :
      (chooses : List ℕ) → length commands ≤ 4096 → (lines commands).full ≡ chooses ∷ (before ++ after) → filter_read chooses ≡ Ok nfc →
      command_lines (sheets_of x) x.masks commands ≡ front ++ later
  lines_parted chooses short is chosen = simp (le-ltb 4096 (length commands) short, is, chosen, printed_append, append_assoc)

  text_parted : (v : Verdict) → v ≡ spelled x → command_lines (sheets_of x) x.masks commands ≡ front ++ later → text_of (printed v commands) ≡ text_of front ++ text_of later
  text_parted v is parted = ap (λ z. text_of (printed z commands)) is ∙ ap text_of parted ∙ text_append front later

-- a transcript's first part shows what is owed, for any number of its commands
pub lists_along : (card commands out : List ℕ) → out ≡ transcript card commands → ListsAlong card commands out
lists_along card commands out printed_is x chooses nfc before after v short is chosen = record {
  text = (
    later x nfc commands before after,
    printed_is ∙ text_parted x nfc commands before after (verdict card) v (lines_parted x nfc commands before after chooses short is chosen),
  );
  plans = plans_listed x (accepted_spells card x v).0 nfc before;
}
