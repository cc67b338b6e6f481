use Rattle.std.proofs.Common.{◌≡◌, ℕ, ◌<◌, ◌≤◌, false, ◌||◌, eqb, ltb, length, sym, refl, arith}
use Rattle.std.proofs.lemmas.Bool.{eqb-false, ltb-false, not-false, not-true, or_parts}
use Rattle.listing.proofs.Opening.{open_accepted, open_misfit, open_twice, open_uncounted}
use Rattle.listing.proofs.Sessions.{none_of}
use Rattle.listing.proofs.RunsFrom.{open_runs}
use Rattle.listing.proofs.session.Session.open.Goals as goal

-- what the count of blocks says once it is judged
counted : (n : ℕ) → (eqb n 0 || ltb 32 n) ≡ false → (0 < n) × (n ≤ 32)
counted n e = let p = or_parts (eqb n 0) (ltb 32 n) e in (omega (arith, eqb-false n 0 p.0), ltb-false 32 n p.1)

pub returns-then-is_some : goal.returns-then-is_some
returns-then-is_some g c =
    let s = c.args.self.now in
    let m = g.B.Bank.meaning c.args.bank.now in
    let e = open_twice s m c.args.masks.now (sym c.if-is_some.ensures) in
    record { step = e; runs = open_runs s s _ m c.args.masks.now (g.B.Bank.lawful c.args.bank.now) e; refused = refl }

pub returns-then-not-is_block_count : goal.returns-then-not-is_block_count
returns-then-not-is_block_count g c =
    let s = c.args.self.now in
    let m = g.B.Bank.meaning c.args.bank.now in
    let n = length c.args.masks.now in
    let e = open_uncounted s m c.args.masks.now (none_of s.listing (sym c.if-is_some.ensures)) (not-false (eqb n 0 || ltb 32 n) (sym c.if-not-is_block_count.ensures)) in
    record { step = e; runs = open_runs s s _ m c.args.masks.now (g.B.Bank.lawful c.args.bank.now) e; refused = refl }

pub returns-then-has_misfit : goal.returns-then-has_misfit
returns-then-has_misfit g c =
    let s = c.args.self.now in
    let m = g.B.Bank.meaning c.args.bank.now in
    let ms = c.args.masks.now in
    let k = counted (length ms) (not-true (eqb (length ms) 0 || ltb 32 (length ms)) (sym c.if-not-is_block_count.ensures)) in
    let e = open_misfit s m ms (none_of s.listing (sym c.if-is_some.ensures)) k.0 k.1 (sym c.if-has_misfit.ensures) in
    record { step = e; runs = open_runs s s _ m ms (g.B.Bank.lawful c.args.bank.now) e; refused = refl }

pub returns : goal.returns
returns g c =
    let s = c.args.self.now in
    let m = g.B.Bank.meaning c.args.bank.now in
    let ms = c.args.masks.now in
    let k = counted (length ms) (not-true (eqb (length ms) 0 || ltb 32 (length ms)) (sym c.if-not-is_block_count.ensures)) in
    let e = open_accepted s m ms (none_of s.listing (sym c.if-is_some.ensures)) k.0 k.1 (sym c.if-has_misfit.ensures) _ c.new.result refl c.new.ensures.records c.new.ensures.depth in
    record { step = e; runs = open_runs s _ _ m ms (g.B.Bank.lawful c.args.bank.now) e; refused = tt }
