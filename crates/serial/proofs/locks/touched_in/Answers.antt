use Rattle.std.proofs.Common.{rules, ◌≡◌, sym, ◌∙◌, ap, subst}
use Rattle.std.proofs.lemmas.List.Sorted.{answers_always}
use Rattle.std.specs.List.Sorted.{IsSortedByKey, IsStableByKey}
use Rattle.std.specs.FinMap.{empty}
use Rattle.spec_ledger.specs.Cells.{lock_cmp}
use Rattle.lock_profile.specs.declared.Held.{Held}
use Rattle.lock_profile.specs.Groups.{pairs}
use Rattle.serial.specs.Asking.{asked_all, DoNotFall}
use Rattle.serial.proofs.Modes.{asks_are, is_true}
use Rattle.serial.proofs.Joining.{do_not_fall, sorted_same}
use Rattle.serial.proofs.locks.touched_in.Goals as goal

pub joined-requires : goal.joined-requires
joined-requires g c =
    let sorted = c.sort_by_key.new.self.items in
    let rise : IsSortedByKey (λ (h : Held). h.lock) lock_cmp sorted = c.in_ok-sort_by_key.ensures.sorted (λ h. h.lock) (answers_always _ (λ a r. r ≡ a.0.now.lock) _ (λ f a r q k. search rules)) in
    subst DoNotFall (sym c.as_slice.ensures.value) (do_not_fall sorted rise)

pub map_of-requires : goal.map_of-requires
map_of-requires g c = is_true _ c.in_ok-held.ensures.rises

pub returns : goal.returns
returns g c =
    let asked = c.ask_all.new.asked.items in
    let sorted = c.sort_by_key.new.self.items in
    let stable : IsStableByKey (λ (h : Held). h.lock) lock_cmp asked sorted = c.sort_by_key.ensures.stable (λ h. h.lock) (answers_always _ (λ a r. r ≡ a.0.now.lock) _ (λ f a r q k. search rules)) in
    c.map_of.ensures ∙ c.in_ok-held.ensures.modes ∙ ap (λ hs. asked_all empty (pairs hs)) c.as_slice.ensures.value
    ∙ sorted_same asked sorted stable empty ∙ ap (asked_all empty) c.in_ok-ask_all.ensures ∙ asks_are c.args.trace.now
