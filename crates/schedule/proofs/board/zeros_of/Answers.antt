use Rattle.std.proofs.Common.{◌≡◌, ◌<◌, ◌↔◌, ◌+◌, ◌++◌, ◌∷◌, [], List, ℕ, length, get_or, sym, ap, subst, ◌∙◌, arith}
use Rattle.std.specs.List.{Contains}
use Rattle.std.specs.List.Sorted.{IsStrictlyIncreasing}
use Rattle.schedule.proofs.Lists.{rising_push, zeros_more, zeros_same}
use Rattle.schedule.proofs.board.zeros_of.Goals as goal
use Rattle.schedule.proofs.board.zeros_of.Goals.{then-count-eq0+in_ok-push, else-count-eq0}

pub loop-number-preserved : goal.loop-number-preserved
loop-number-preserved g c =
    let Rises : List ℕ → Type 0 = λ xs. IsStrictlyIncreasing xs in
    let n = c.loop-number.number in
    elim c.if-count-eq0.branch [
      | then-count-eq0+in_ok-push w ↦
          let step : c.if-count-eq0.list.items ≡ c.loop-number.list.items ++ n ∷ [] = ap (λ v. v.items) w.list-is ∙ w.in_ok-push.ensures.items in (
            subst Rises (sym step) (rising_push c.loop-number.list.items n c.loop-number.invariant.0 (λ j k. ((c.loop-number.invariant.1 j).0 k).0)),
            λ k. subst (λ xs. Contains xs k ↔ ((k < n + 1) × (get_or c.args.counts.now k 0 ≡ 0))) (sym step) (zeros_more c.args.counts.now c.loop-number.list.items n w.if-count-eq0.true c.loop-number.invariant.1 k),
          )
      | else-count-eq0 w ↦
          let step : c.if-count-eq0.list.items ≡ c.loop-number.list.items = ap (λ v. v.items) w.list-is in (
            subst Rises (sym step) c.loop-number.invariant.0,
            λ k. subst (λ xs. Contains xs k ↔ ((k < n + 1) × (get_or c.args.counts.now k 0 ≡ 0))) (sym step) (zeros_same c.args.counts.now c.loop-number.list.items n w.if-count-eq0.false c.loop-number.invariant.1 k),
          )
    ]

pub returns-clause-exact : goal.returns-clause-exact
returns-clause-exact g c =
    let all : c.loop-number.number ≡ length c.args.counts.now = omega (arith, c.loop-number-test.false, c.loop-number.auto.number-end) in
    subst (λ m. (n : ℕ) → Contains c.loop-number.list.items n ↔ ((n < m) × (get_or c.args.counts.now n 0 ≡ 0))) all c.loop-number.invariant.1
