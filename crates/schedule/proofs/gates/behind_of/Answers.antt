use Rattle.std.proofs.Common.{◌≡◌, ◌<◌, ◌↔◌, length, subst, arith}
use Rattle.std.specs.List.{Contains}
use Rattle.std.specs.BTreeMap.{get}
use Rattle.std.proofs.lemmas.Option.{slice_get_within}
use Rattle.lock_profile.specs.LockTurns.{turn_cmp}
use Rattle.schedule.specs.Turns.{behind_turn, AreNumbered, IsHolder}
use Rattle.schedule.proofs.Numbered.{profile_there, profile_of, holders_more}
use Rattle.schedule.proofs.gates.behind_of.Goals as goal

pub put_profile-requires-clause-profile : goal.put_profile-requires-clause-profile
put_profile-requires-clause-profile g c = profile_of _ c.entries.result.now c.use_invariant.ensures c.entries.ensures

pub loop-position-preserved : goal.loop-position-preserved
loop-position-preserved g c =
    let there = profile_there c.args.profiles.now c.loop-position.position _ c.entries.result.now c.loop-position-test.true c.index-profiles-position.is c.entries.ensures in
    let profile = profile_of _ c.entries.result.now c.use_invariant.ensures c.entries.ensures in (
      c.in_ok-put_profile.ensures.numbered,
      λ q p.
          holders_more c.args.profiles.now c.loop-position.position q p (behind_turn (get turn_cmp c.loop-position.numbers) c.loop-position.behind.items q) (behind_turn (get turn_cmp c.put_profile.new.numbers) c.put_profile.new.behind.items q) c.entries.result.now there profile
          (c.loop-position.invariant.1 q p) (c.in_ok-put_profile.ensures.put q p),
    )

pub returns-clause-numbered : goal.returns-clause-numbered
returns-clause-numbered g c =
    let all : c.loop-position.position ≡ length c.args.profiles.now = omega (arith, c.loop-position-test.false, c.loop-position.auto.position-end) in
    subst (AreNumbered (get turn_cmp c.loop-position.numbers) c.loop-position.behind.items) all c.loop-position.invariant.0

pub returns-clause-holders : goal.returns-clause-holders
returns-clause-holders g c = λ q p.
    let all : c.loop-position.position ≡ length c.args.profiles.now = omega (arith, c.loop-position-test.false, c.loop-position.auto.position-end) in
    let both = subst (λ n. Contains (behind_turn (get turn_cmp c.loop-position.numbers) c.loop-position.behind.items q) p ↔ ((p < n) × IsHolder c.args.profiles.now q p)) all (c.loop-position.invariant.1 q p) in
    (λ k. (both.0 k).1, λ h. both.1 (slice_get_within c.args.profiles.now p h.1.profile h.1.there, h))
