use Rattle.std.proofs.Common.{◌≡◌, ◌⊎◌, ◌↔◌, inl, inr, ap, subst, refl, arith}
use Rattle.std.proofs.lemmas.List.{take_all}
use Rattle.std.specs.List.{Contains}
use Rattle.std.specs.BTreeMap.{get}
use Rattle.lock_profile.specs.LockTurns.{turn_cmp}
use Rattle.schedule.specs.Turns.{behind_turn, IsAt}
use Rattle.schedule.proofs.Numbered.{profile_more, came_before, below_turn, more_positions}
use Rattle.schedule.proofs.gates.put_profile.Goals as goal

pub put-requires-clause-after : goal.put-requires-clause-after
put-requires-clause-after g c = λ j k.
    came_before c.args.entries.now c.requires.profile c.loop-entry.entry-index _ c.loop-entry-test.true _ _ c.args.position j (c.loop-entry.invariant.1 _ j)
    (below_turn (get turn_cmp c.args.numbers.now) c.args.behind.now.items c.args.position c.requires.numbered _ j) k

pub loop-entry-preserved : goal.loop-entry-preserved
loop-entry-preserved g c = (
  c.in_ok-put.ensures.numbered,
  λ q p.
      profile_more q _ c.args.position p c.args.entries.now c.loop-entry.entry-index _ (behind_turn (get turn_cmp c.args.numbers.now) c.args.behind.now.items q) (behind_turn (get turn_cmp c.loop-entry.numbers) c.loop-entry.behind.items q) _
      (behind_turn (get turn_cmp c.put.new.numbers) c.put.new.behind.items q)
      c.loop-entry-test.true refl (λ same. ap (λ x. behind_turn (get turn_cmp c.loop-entry.numbers) c.loop-entry.behind.items x) same) (c.in_ok-put.ensures.put q) (c.loop-entry.invariant.1 q p),
)

pub returns-clause-put : goal.returns-clause-put
returns-clause-put g c = λ q p. subst (λ xs. Contains (behind_turn (get turn_cmp c.loop-entry.numbers) c.loop-entry.behind.items q) p ↔ (Contains (behind_turn (get turn_cmp c.args.numbers.now) c.args.behind.now.items q) p ⊎ ((p ≡ c.args.position) × IsAt q xs))) (take_all c.loop-entry.entry-index c.args.entries.now (omega (arith, c.loop-entry-test.false))) (c.loop-entry.invariant.1 q p)

pub loop-entry-init : goal.loop-entry-init
loop-entry-init g c = (
  more_positions (get turn_cmp c.args.numbers.now) c.args.behind.now.items c.args.position c.requires.numbered,
  λ q p. (λ k. inl k, λ k. elim k [ inl h ↦ h | inr r ↦ absurd (let lt = r.1.1.1 in omega (arith, lt)) ]),
)
