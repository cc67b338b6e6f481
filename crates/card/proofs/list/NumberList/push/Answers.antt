use Rattle.std.proofs.Common.{◌+◌, [], ◌∷◌, ◌++◌, sym, ap, subst, arith}
use Rattle.card.specs.declared.list.NumberList.{NumberList}
use Rattle.card.specs.Lists.{Holds}
use Rattle.card.proofs.Packing.{pushed_in, pushed_past}
use Rattle.card.proofs.list.NumberList.push.Goals as goal
use Rattle.card.proofs.list.NumberList.push.Goals.{then-self-lt6, else-self-lt6}

pub returns : goal.returns
returns c = record {
  counted = elim c.if-self-lt6.branch [ then-self-lt6 w ↦ ap (λ (l : NumberList). l.count + 1) w.self-is | else-self-lt6 w ↦ ap (λ (l : NumberList). l.count + 1) w.self-is ];
  held = λ xs v h is.
      elim c.if-self-lt6.branch [
        | then-self-lt6 w ↦
            subst (λ (l : NumberList). Holds (record { count = l.count + 1; numbers = l.numbers }) (xs ++ (v ∷ []))) (sym w.self-is)
            (pushed_in c.args.self.now c.args.n w.min.result (omega arith) w.min.ensures xs v h is)
        | else-self-lt6 w ↦
            subst (λ (l : NumberList). Holds (record { count = l.count + 1; numbers = l.numbers }) (xs ++ (v ∷ []))) (sym w.self-is)
            (pushed_past c.args.self.now (omega arith) xs v h)
      ];
}
