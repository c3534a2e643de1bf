use Rattle.std.proofs.Common.{◌≡◌, ◌++◌, ◌∷◌, [], ◌∙◌, length, ap, subst, arith}
use Rattle.std.specs.BTreeMap.{get}
use Rattle.lock_profile.specs.LockTurns.{turn_cmp}
use Rattle.schedule.specs.Turns.{AreHeld}
use Rattle.schedule.proofs.Turns.{small_turns}
use Rattle.schedule.proofs.Numbered.{profile_there, profile_of, held_more}
use Rattle.schedule.proofs.gates.holds_of.Goals as goal

pub next_gates-requires : goal.next_gates-requires
next_gates-requires g c =
    let there = profile_there c.args.profiles.now c.loop-profile.profile-index _ c.entries.result.now c.loop-profile-test.true c.profile-item.is c.entries.ensures in
    λ e k. small_turns c.args.profiles.now c.requires.turns c.requires.few c.loop-profile.profile-index c.entries.result.now there e k

pub loop-profile-preserved : goal.loop-profile-preserved
loop-profile-preserved g c =
    let there = profile_there c.args.profiles.now c.loop-profile.profile-index _ c.entries.result.now c.loop-profile-test.true c.profile-item.is c.entries.ensures in
    let profile = profile_of _ c.entries.result.now c.use_invariant.ensures c.entries.ensures in
    held_more c.args.profiles.now (get turn_cmp c.args.numbers.now) c.loop-profile.profile-index c.entries.result.now c.loop-profile.holds.items c.push.new.self.items c.rising.result.items there profile
    (c.in_ok-push.ensures.items ∙ ap (λ x. c.loop-profile.holds.items ++ x ∷ []) c.from_list.ensures) c.rising.ensures.rises
    (λ gate. (λ k. (c.in_ok-gates.ensures gate).0 ((c.rising.ensures.same gate).0 k), λ h. (c.rising.ensures.same gate).1 ((c.in_ok-gates.ensures gate).1 h)))
    c.loop-profile.invariant

pub returns : goal.returns
returns g c =
    let all : c.loop-profile.profile-index ≡ length c.args.profiles.now = omega (arith, c.loop-profile-test.false, c.loop-profile.auto.profile-index-end) in
    subst (AreHeld c.args.profiles.now (get turn_cmp c.args.numbers.now) c.loop-profile.holds.items) all c.loop-profile.invariant
