use Rattle.std.proofs.Common.{◌≡◌, ◌+◌, None, length, drop, get_or, [], arith, ap, sym, ◌∙◌, below_more}
use Rattle.std.proofs.lemmas.List.{get_or_read, length_push, length-map, get_or_append_left, get_or_push, drop-drop}
use Rattle.std.specs.FinMap as finite
use Rattle.lock_profile.specs.Turns.{profile_at}
use Rattle.lock_profile.specs.Groups.{all_held, with_turns, pair_of}
use Rattle.lock_profile.proofs.Dealt.{length-turns_from}
use Rattle.lock_profile.proofs.Orders.{profile_written, rest_left, held_left}
use Rattle.lock_profile.proofs.turns.Goals as goal

pub loop-one-init : goal.loop-one-init
loop-one-init g c =
    let l = ap length c.in_ok-turns.ensures ∙ length-turns_from (λ _. None) (all_held c.args.touched.now) in
    (ap length c.new-profiles.ensures.items, λ p h. absurd (omega (arith, h)), omega (arith, l), c.in_ok-turns.ensures)

pub profile_with-requires : goal.profile_with-requires
profile_with-requires g c =
    let i = c.loop-one.one-index in
    let item = get_or_read c.args.touched.now i c.one-item.result c.loop-one-test.true c.one-item.is finite.empty in
    let here = held_left c.args.touched.now i c.loop-one-test.true _ c.loop-one.invariant.3 in
    let same = ap (λ m. length (finite.entries m)) item in
    let fits = c.loop-one.invariant.2 in
    let all = ap length c.deref.ensures.value in
    omega (arith, here, same, fits, all)

pub loop-one-preserved : goal.loop-one-preserved
loop-one-preserved g c =
    let i = c.loop-one.one-index in
    let item = get_or_read c.args.touched.now i c.one-item.result c.loop-one-test.true c.one-item.is finite.empty in
    let len : length c.loop-one.profiles.items ≡ c.loop-one.one-index = c.loop-one.invariant.0 in
    let here = held_left c.args.touched.now i c.loop-one-test.true _ c.loop-one.invariant.3 in
    let fits = c.loop-one.invariant.2 in
    let held = sym (length-map c.lock_modes.result.now pair_of) ∙ ap length c.lock_modes.ensures ∙ ap (λ m. length (finite.entries m)) item in (
      ap length c.in_ok-push.ensures.items ∙ length_push c.loop-one.profiles.items c.in_ok-profile.profile ∙ ap (λ n. n + 1) len,
      below_more (λ p. get_or c.push.new.self.items p [] ≡ profile_at c.args.touched.now p) _
          (λ p h. ap (λ ps. get_or ps p []) c.in_ok-push.ensures.items ∙ get_or_append_left c.loop-one.profiles.items _ [] p (omega (arith, h, len)) ∙ c.loop-one.invariant.1 p h)
          (ap (λ ps. get_or ps c.loop-one.one-index []) c.in_ok-push.ensures.items ∙ get_or_push c.loop-one.profiles.items c.in_ok-profile.profile [] c.loop-one.one-index len
          ∙ c.in_ok-profile.ensures
          ∙ ap (λ m. with_turns (finite.entries m) (drop c.loop-one.start c.deref.result.now)) item
          ∙ ap (λ ts. with_turns (finite.entries (get_or c.args.touched.now c.loop-one.one-index finite.empty)) (drop c.loop-one.start ts)) c.deref.ensures.value
          ∙ profile_written c.args.touched.now c.loop-one.one-index c.loop-one-test.true _ c.loop-one.invariant.3),
      omega (arith, here, fits, held),
      sym (drop-drop (length c.lock_modes.result.now) c.loop-one.start c.in_ok-turns.turns.items)
          ∙ ap (λ n. drop n (drop c.loop-one.start c.in_ok-turns.turns.items)) held
          ∙ rest_left c.args.touched.now c.loop-one.one-index c.loop-one-test.true _ c.loop-one.invariant.3,
    )
