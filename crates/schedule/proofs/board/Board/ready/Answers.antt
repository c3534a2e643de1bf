use Rattle.std.proofs.Common.{◌↔◌, ◌<◌, ℕ, List, length, ap, subst, sym}
use Rattle.std.specs.List.{Contains}
use Rattle.std.specs.List.Sorted.{IsStrictlyIncreasing}
use Rattle.spec_ledger.specs.declared.Entry.{Entry}
use Rattle.spec_block.specs.Schedule.{IsEdge}
use Rattle.schedule.proofs.board.Board.ready.Goals as goal

pub returns-clause-rising : goal.returns-clause-rising
returns-clause-rising g c =
    let Rises : List ℕ → Type 0 = λ xs. IsStrictlyIncreasing xs in
    subst Rises (sym c.deref.ensures.value) c.self.invariant.ready_rises

pub returns-clause-exact : goal.returns-clause-exact
returns-clause-exact g c =
    let AreFirst : List ℕ → List (List Entry) → Type 0 = λ xs profiles. (j : ℕ) → Contains xs j ↔ ((j < length profiles) × ((i : ℕ) → ¬ (IsEdge profiles i j))) in
    subst (AreFirst c.deref.result.now) (ap (λ p. p.profiles) c.self.view_is)
    (subst (λ xs. AreFirst xs c.self.inside.profiles.items) (sym c.deref.ensures.value) c.self.invariant.ready_exact)
