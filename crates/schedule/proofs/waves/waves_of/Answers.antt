use Rattle.std.proofs.Common.{◌<◌, ℕ, ap, arith}
use Rattle.std.specs.BTreeMap.{get, is_at}
use Rattle.std.specs.Map.{lookup}
use Rattle.spec_block.specs.Schedule.{IsEdge}
use Rattle.lock_profile.specs.LockTurns.{turn_cmp}
use Rattle.schedule.specs.Waves.{or_none, least_of}
use Rattle.schedule.proofs.Turns.{forward, small_turns}
use Rattle.schedule.proofs.Numbered.{profile_there, profile_of}
use Rattle.schedule.proofs.Least.{least_of_none, top_of_edges, few_left, least_more}
use Rattle.schedule.proofs.WaveSteps.{waves_more, none_so_far}
use Rattle.schedule.proofs.waves.waves_of.Goals as goal

pub loop-profile-init : goal.loop-profile-init
loop-profile-init g c = (none_so_far c.args.profiles.now _ c.new-waves.ensures.items, least_of_none c.args.profiles.now _ _ (λ q. ap (λ es. or_none (lookup (is_at (turn_cmp q)) es)) c.new-least.ensures.empty))

pub overflow_add-wave : goal.overflow_add-wave
overflow_add-wave g c =
    let low = few_left c.args.profiles.now c.loop-profile.waves.items c.loop-profile.profile-index _ _ c.wave_of-wave.result c.loop-profile.invariant.0 c.loop-profile.invariant.1 c.wave_of-wave.ensures in
    omega (arith, low, c.loop-profile-test.true, c.requires.few)

pub raise-requires : goal.raise-requires
raise-requires g c =
    let there = profile_there c.args.profiles.now c.loop-profile.profile-index _ c.entries-entries.result.now c.loop-profile-test.true c.profile-item.is c.entries-entries.ensures in
    λ e k. small_turns c.args.profiles.now c.requires.turns c.requires.few c.loop-profile.profile-index c.entries-entries.result.now there e k

pub loop-profile-preserved : goal.loop-profile-preserved
loop-profile-preserved g c =
    let n = c.loop-profile.profile-index in
    let there = profile_there c.args.profiles.now n _ c.entries-entries.result.now c.loop-profile-test.true c.profile-item.is c.entries-entries.ensures in
    let profile = profile_of _ c.entries-entries.result.now c.use_invariant.ensures c.entries-entries.ensures in
    let before : (k : ℕ) → IsEdge c.args.profiles.now k n → k < n = λ k e. forward c.args.profiles.now c.requires.turns k n e in
    let top = top_of_edges c.args.profiles.now c.loop-profile.waves.items n c.entries-entries.result.now (least_of (get turn_cmp c.loop-profile.least)) c.wave_of-wave.result there profile before c.loop-profile.invariant.1 c.wave_of-wave.ensures in (
      waves_more c.args.profiles.now n c.loop-profile.waves.items c.push.new.self.items c.wave_of-wave.result c.in_ok-push.ensures.items before top c.loop-profile.invariant.0,
      least_more c.args.profiles.now n c.entries-entries.result.now c.loop-profile.waves.items c.push.new.self.items c.wave_of-wave.result (least_of (get turn_cmp c.loop-profile.least)) (least_of (get turn_cmp c.raise.new.least)) there profile
          c.in_ok-push.ensures.items c.loop-profile.invariant.0.each c.loop-profile.invariant.1 c.in_ok-raise.ensures,
    )
