use Rattle.std.proofs.Common.{◌≡◌, ◌++◌, ◌∷◌, [], ◌∙◌, ap, map, true, false}
use Rattle.std.specs.FinMap.{is_sorted}
use Rattle.spec_ledger.specs.Cells.{lock_cmp}
use Rattle.lock_profile.specs.Groups.{pairs}
use Rattle.serial.specs.Touches.{access_of}
use Rattle.serial.proofs.Accesses.{accesses_are, held_more, mode_at, modes_listed, none_more, one_more, sorted_modes}
use Rattle.serial.proofs.listing.list.Goals as goal

pub loop-lock-init : goal.loop-lock-init
loop-lock-init g c = record {
  held = (λ k. pairs (c.new-held.ensures.items k) ++ map mode_at (c.into_iter-lock-iterator.ensures.into_iter_gives.0 k));
  accesses = ap (λ es. c.args.accesses.now.items ++ map (access_of c.args.stand) es) c.into_iter-lock-iterator.ensures.into_iter_gives.0;
}

pub loop-lock-preserved : goal.loop-lock-preserved
loop-lock-preserved g c =
    let l = c.loop-lock in
    record {
      held = one_more mode_at (pairs l.held.items) _ (c.in-Some.lock, c.in-Some.touch) l.lock-iterator c.next.new.self _ l.invariant.held c.in-Some.ensures.steps (held_more l.held.items _ c.in-Some.lock c.in-Some.touch c.in_ok-push-2.ensures.items);
      accesses = one_more (access_of c.args.stand) l.accesses.items _ (c.in-Some.lock, c.in-Some.touch) l.lock-iterator c.next.new.self _ l.invariant.accesses c.in-Some.ensures.steps (c.in_ok-push.ensures.items ∙ ap (λ a. l.accesses.items ++ a ∷ []) c.access.ensures);
    }

pub unreachable-requires : goal.unreachable-requires
unreachable-requires g c =
    let l = c.loop-lock in
    let all = none_more mode_at (pairs l.held.items) l.lock-iterator (map mode_at c.args.touches.entries) l.invariant.held c.in-None.ensures.steps.0 in
    let no : false ≡ true = c.in-None-from_sorted.ensures.there.1 (ap (is_sorted lock_cmp) all ∙ sorted_modes c.args.touches.entries c.into_iter-lock-iterator.ensures.into_iter_gives.5) in
    cc

pub returns-clause-touched : goal.returns-clause-touched
returns-clause-touched g c =
    let l = c.loop-lock in
    let all = none_more mode_at (pairs l.held.items) l.lock-iterator (map mode_at c.args.touches.entries) l.invariant.held c.in-None.ensures.steps.0 in
    modes_listed c.in-Some-from_sorted.touched c.args.touches.entries (c.in-Some-from_sorted.ensures.entries ∙ all)

pub returns-clause-accesses : goal.returns-clause-accesses
returns-clause-accesses g c =
    let l = c.loop-lock in
    let es = c.args.touches.entries in
    let all = none_more mode_at (pairs l.held.items) l.lock-iterator (map mode_at es) l.invariant.held c.in-None.ensures.steps.0 in
    none_more (access_of c.args.stand) l.accesses.items l.lock-iterator (c.args.accesses.now.items ++ map (access_of c.args.stand) es) l.invariant.accesses c.in-None.ensures.steps.0
    ∙ ap (λ more. c.args.accesses.now.items ++ more) (accesses_are c.args.stand es _ c.into_iter-lock-iterator.ensures.into_iter_gives.5 (c.in-Some-from_sorted.ensures.entries ∙ all))
