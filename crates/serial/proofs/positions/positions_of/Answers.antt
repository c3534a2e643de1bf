use Rattle.std.proofs.Common.{◌≡◌, ◌+◌, ◌<◌, ◌++◌, ◌∙◌, None, [], length, ap, sym, arith, get_or}
use Rattle.std.proofs.lemmas.List.{length_push, get_or_read}
use Rattle.std.proofs.lemmas.Iterator.Adapters.{YieldsList-from_vec}
use Rattle.std.proofs.lemmas.Iterator.Consumers.{YieldsList-turn}
use Rattle.std.specs.FinMap.{empty}
use Rattle.spec_ledger.specs.declared.Outcome.TheVariants.{Returned}
use Rattle.spec_ledger.specs.declared.Receipt.{Receipt}
use Rattle.spec_block.specs.Blocks.{positions, positions_from, profile_at}
use Rattle.serial.specs.Positions.{results_of}
use Rattle.serial.proofs.BlocksOrders.{all_touched_is, left_from, one_made}
use Rattle.serial.proofs.positions.positions_of.Goals as goal

pub loop-profile-init : goal.loop-profile-init
loop-profile-init g c =
    let all = c.args.touched.now in
    let order = c.args.order.now in
    let receipts = c.args.receipts.now in (
      (tt, tt),
      ap length c.new-made.ensures.items,
      ap (λ xs. xs ++ left_from all order receipts all (length xs)) c.new-made.ensures.items
          ∙ sym (ap (λ ms. positions_from ms 0 order (results_of receipts all)) (all_touched_is receipts all (c.requires.receipts ∙ sym c.requires.touched))),
    )

pub loop-profile-preserved : goal.loop-profile-preserved
loop-profile-preserved g c =
    let all = c.args.touched.now in
    let order = c.args.order.now in
    let receipts = c.args.receipts.now in
    let made = c.loop-profile.made.items in
    let n = length made in
    let gives = c.into_iter-profile-iterator.ensures.into_iter_gives in
    let profiles = c.in_ok-profiles.profiles.items in
    let counted : c.into_iter-profile-iterator.result.rest.len ≡ length profiles = omega (arith, gives.1, c.in_ok-profiles.profiles.ok.0) in
    let road = YieldsList-from_vec profiles gives.0 counted in
    let turn = YieldsList-turn road c.loop-profile.yielded c.loop-profile.profile-iterator c.loop-profile.yielded_by c.next.result c.next.new.self c.in-Some.profile c.in-Some.is c.next.ensures.steps in
    let below : length c.loop-profile.yielded < length all = omega (arith, turn.0, c.in_ok-profiles.ensures.0) in
    let even = c.loop-profile.invariant.1 in
    let profile_is : c.in-Some.profile ≡ profile_at all n (get_or all n empty) =
    get_or_read profiles (length c.loop-profile.yielded) c.in-Some.profile turn.0 turn.1 [] ∙ (c.in_ok-profiles.ensures.1 (length c.loop-profile.yielded) below ∙ sym (ap (λ k. profile_at all k (get_or all k empty)) even)) in
    let len : length c.push.new.self.items ≡ n + 1 = ap length c.in_ok-push.ensures.items ∙ length_push made c.in_ok-position.position in
    let place : c.len-place.result ≡ n = omega (arith, c.len-place.ensures, c.loop-profile.made.ok.0) in
    let nothing : Receipt = record { outcome = Returned None; used = 0; asks = 0 } in
    let is : c.in_ok-position.position ≡ record { call = get_or order n 0; receipt = get_or receipts n nothing; profile = profile_at all n (get_or all n empty) } =
    c.in_ok-position.ensures ∙ (λ k. record { call = get_or order (place k) 0; receipt = get_or receipts (place k) nothing; profile = profile_is k }) in (
      (tt, tt),
      len ∙ (ap (λ k. k + 1) even ∙ sym (length_push c.loop-profile.yielded c.in-Some.profile)),
      ap (λ k. c.push.new.self.items ++ left_from all order receipts all k) len
          ∙ one_made all order receipts all n 0 nothing made c.push.new.self.items c.in_ok-position.position (positions order (results_of receipts all)) (omega (arith, below, even, c.requires.touched))
          (omega (arith, below, even, c.requires.touched, c.requires.receipts)) (omega (arith, below, even)) is c.in_ok-push.ensures.items c.loop-profile.invariant.2,
    )
