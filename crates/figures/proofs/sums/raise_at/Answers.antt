use Rattle.std.proofs.Common.{◌≡◌, ℕ, ◌≤◌, cond, Some, None, sym, ◌∙◌, subst, arith}
use Rattle.std.specs.declared.cmp.Ordering.{Ordering}
use Rattle.std.specs.BTreeMap.{get}
use Rattle.std.specs.Ordering.{eq_by_cmp}
use Rattle.lock_profile.specs.declared.lock_turn.LockTurn.{LockTurn}
use Rattle.lock_profile.specs.LockTurns.{turn_cmp}
use Rattle.lock_profile.proofs.Places.{derived_is}
use Rattle.figures.proofs.Profiles.{some_is}
use Rattle.figures.proofs.Steps.{raised_at}
use Rattle.figures.proofs.sums.raise_at.Goals as goal
use Rattle.figures.proofs.sums.raise_at.Goals.{in-Some+else-sum-old, in_default}

pub returns : goal.returns
returns c =
    let low : (w : ℕ) → get turn_cmp c.args.sums.now c.args.at ≡ Some w → w ≤ c.args.sum =
    elim c.match-sum_at.branch [
      | in-Some+else-sum-old b ↦ λ w is. let one : w ≡ b.in-Some.old = some_is w b.in-Some.old (sym is ∙ sym b.in-Some.ensures) in let lt = b.if-sum-old.false in omega (arith, one, lt)
      | in_default b ↦ λ w is. absurd (let no : None ≡ Some w = b.in_default.ensures ∙ is in cc no)
    ] in
    let Put : (LockTurn → LockTurn → Ordering) → Type 0 = λ R. (q : LockTurn) → get R c.insert.new.self q ≡ cond (eq_by_cmp R c.args.at q) (Some c.args.sum) (get R c.args.sums.now q) in
    raised_at c.args.at c.args.sum (get turn_cmp c.args.sums.now) (get turn_cmp c.insert.new.self) low (subst Put derived_is c.in_ok-insert.ensures.updates.0)
