use Rattle.std.proofs.Common.{rules, ◌≡◌, ◌<◌, ◌^◌, None, [], length, arith, ap, sym, ◌∙◌, subst}
use Rattle.std.proofs.lemmas.List.{take_at}
use Rattle.std.proofs.lemmas.List.Sorted.{answers_always}
use Rattle.std.specs.List.{AllByRecursion}
use Rattle.std.specs.List.Sorted.{IsPermutation, IsSortedByKey, IsStableByKey}
use Rattle.spec_ledger.specs.Cells.{lock_cmp}
use Rattle.lock_profile.specs.declared.Holder.{Holder}
use Rattle.lock_profile.specs.Groups.{all_held, numbered, AllFit, turns_after, turns_from}
use Rattle.lock_profile.proofs.Dealt.{dealt, dealt_fit, length-numbered, length-turns_from}
use Rattle.lock_profile.proofs.Orders.{turns_small}
use Rattle.lock_profile.proofs.turns_in_order.Goals as goal

pub write_turns-requires : goal.write_turns-requires
write_turns-requires g c =
    let es = all_held c.args.touched.now in
    let sorted = c.sort_by_key.new.self.items in
    let moved : IsPermutation (numbered 0 es) sorted = subst (λ hs. IsPermutation hs sorted) c.in_ok-holders.ensures c.sort_by_key.ensures.permutation in
    let rise : IsSortedByKey (λ (h : Holder). h.lock) lock_cmp sorted = c.in_ok-sort_by_key.ensures.sorted (λ h. h.lock) (answers_always _ (λ a r. r ≡ a.0.now.lock) _ (λ f a r q k. search rules)) in
    let stable : IsStableByKey (λ (h : Holder). h.lock) lock_cmp (numbered 0 es) sorted =
    subst (λ hs. IsStableByKey (λ (h : Holder). h.lock) lock_cmp hs sorted) c.in_ok-holders.ensures (c.sort_by_key.ensures.stable (λ h. h.lock) (answers_always _ (λ a r. r ≡ a.0.now.lock) _ (λ f a r q k. search rules))) in
    let n : length c.in_ok-holders.holders.items ≡ length es = ap length c.in_ok-holders.ensures ∙ length-numbered 0 es in
    let m : length c.deref_mut.result.now ≡ length c.in_ok-holders.holders.items = search rules in
    let small : AllByRecursion (λ t. t < 2 ^ 32) (turns_from (λ _. None) es) = turns_small [] c.args.touched.now (omega (arith, c.requires)) in
    subst (λ hs. AllFit None hs (length c.deref_mut.result.now)) (sym c.deref.ensures.value)
    (subst (λ k. AllFit None sorted k) (sym (m ∙ n)) (dealt_fit es sorted moved rise stable small))

pub returns : goal.returns
returns g c =
    let es = all_held c.args.touched.now in
    let sorted = c.sort_by_key.new.self.items in
    let moved : IsPermutation (numbered 0 es) sorted = subst (λ hs. IsPermutation hs sorted) c.in_ok-holders.ensures c.sort_by_key.ensures.permutation in
    let rise : IsSortedByKey (λ (h : Holder). h.lock) lock_cmp sorted = c.in_ok-sort_by_key.ensures.sorted (λ h. h.lock) (answers_always _ (λ a r. r ≡ a.0.now.lock) _ (λ f a r q k. search rules)) in
    let stable : IsStableByKey (λ (h : Holder). h.lock) lock_cmp (numbered 0 es) sorted =
    subst (λ hs. IsStableByKey (λ (h : Holder). h.lock) lock_cmp hs sorted) c.in_ok-holders.ensures (c.sort_by_key.ensures.stable (λ h. h.lock) (answers_always _ (λ a r. r ≡ a.0.now.lock) _ (λ f a r q k. search rules))) in
    let n : length c.in_ok-holders.holders.items ≡ length es = ap length c.in_ok-holders.ensures ∙ length-numbered 0 es in
    let m : length c.deref_mut.result.now ≡ length c.in_ok-holders.holders.items = search rules in
    let made : c.write_turns.new.turns ≡ turns_from (λ _. None) es =
    c.write_turns.ensures ∙ ap (λ hs. turns_after None hs c.deref_mut.result.now) c.deref.ensures.value ∙ dealt es sorted moved rise stable c.deref_mut.result.now (m ∙ n) in
    let long : length c.write_turns.new.turns ≡ c.in_ok-turns.turns.len = ap length made ∙ length-turns_from (λ _. None) es ∙ sym (m ∙ n) ∙ c.deref_mut.ensures.len in
    take_at c.write_turns.new.turns _ c.in_ok-turns.turns.len long ∙ made
