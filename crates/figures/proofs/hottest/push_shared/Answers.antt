use Rattle.std.proofs.Common.{◌≡◌, ◌↔◌, ◌⊎◌, ◌<◌, ◌≤◌, ℕ, inl, inr, List, [], ◌∷◌, ◌++◌, get_or, ap, subst, ◌∙◌, arith}
use Rattle.std.specs.BTreeMap.{get}
use Rattle.std.specs.List.{Contains}
use Rattle.std.proofs.lemmas.List.{take_all}
use Rattle.spec_ledger.specs.declared.Kind.TheVariants.{Map}
use Rattle.spec_ledger.specs.declared.Mode.TheVariants.{Read}
use Rattle.spec_ledger.specs.declared.Entry.{Entry}
use Rattle.spec_ledger.specs.Cells.{lock_cmp}
use Rattle.figures.specs.declared.hottest.SharedLock.{SharedLock}
use Rattle.figures.specs.Counting.{number_at, IsTold}
use Rattle.figures.proofs.Hot.{told_more}
use Rattle.figures.proofs.hottest.push_shared.Goals as goal
use Rattle.figures.proofs.hottest.push_shared.Goals.{then-positions-ge2+in_ok-push, else-positions-ge2}

pub loop-entry-preserved : goal.loop-entry-preserved
loop-entry-preserved c = λ s.
    let none : Entry = record { lock = record { contract = 0; kind = Map; key = 0 }; mode = Read; turn = 0 } in
    let e : Entry = get_or c.args.entries.now c.loop-entry.entry-index none in
    let number = number_at (get lock_cmp c.args.counts.now) in
    let mid : List SharedLock = c.loop-entry.shared.items in
    let new : List SharedLock = c.if-positions-ge2.shared.items in
    let How : ℕ → Type 0 = λ n. ((2 ≤ n) × (new ≡ mid ++ (record { lock = e.lock; positions = n }) ∷ [])) ⊎ ((n < 2) × (new ≡ mid)) in
    told_more number c.args.entries.now c.loop-entry.entry-index none c.args.shared.now.items mid new s c.loop-entry-test.true (c.loop-entry.invariant s)
    (subst How c.number_of-positions.ensures (elim c.if-positions-ge2.branch [
      | then-positions-ge2+in_ok-push w ↦ inl (w.if-positions-ge2.true, ap (λ v. v.items) w.shared-is ∙ w.in_ok-push.ensures.items)
      | else-positions-ge2 w ↦ inr ((let few = w.if-positions-ge2.false in omega (arith, few)), ap (λ v. v.items) w.shared-is)
    ]))

pub returns : goal.returns
returns c = λ s. subst (λ (xs : List Entry). Contains c.loop-entry.shared.items s ↔ (Contains c.args.shared.now.items s ⊎ IsTold (number_at (get lock_cmp c.args.counts.now)) xs s)) (take_all c.loop-entry.entry-index c.args.entries.now c.loop-entry-test.false) (c.loop-entry.invariant s)
