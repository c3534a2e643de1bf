use Rattle.std.proofs.Common.{T, sym, ◌∙◌, ap, subst}
use Rattle.std.specs.FinMap.{is_sorted}
use Rattle.spec_ledger.specs.Cells.{lock_cmp}
use Rattle.lock_profile.specs.Groups.{pairs}
use Rattle.serial.specs.Asking.{modes_in, with_last, DoNotFall}
use Rattle.serial.proofs.Joining.{pairs_more, modes_begin, nothing_held}
use Rattle.serial.proofs.locks.joined.Goals as goal

pub returns-in_default-clause-modes : goal.returns-in_default-clause-modes
returns-in_default-clause-modes g c = nothing_held c.new-held.result.items c.args.asked.now c.new-held.ensures.items c.in_default.ensures.cases

pub returns-in_default-clause-rises : goal.returns-in_default-clause-rises
returns-in_default-clause-rises g c = subst (λ hs. T (is_sorted lock_cmp (pairs hs))) (sym c.new-held.ensures.items) tt

pub hold_all-requires-clause-rises : goal.hold_all-requires-clause-rises
hold_all-requires-clause-rises g c = subst (λ hs. T (is_sorted lock_cmp (with_last hs c.in-Some.first.now))) (sym c.new-held.ensures.items) tt

pub hold_all-requires-clause-behind : goal.hold_all-requires-clause-behind
hold_all-requires-clause-behind g c = subst DoNotFall c.in-Some.ensures.cases.0 c.requires

pub returns-clause-modes : goal.returns-clause-modes
returns-clause-modes g c =
    ap modes_in (pairs_more c.hold_all.new.held.items c.push.new.self.items c.in_ok-last.last c.in_ok-push.ensures.items) ∙ c.in_ok-last.ensures.modes
    ∙ modes_begin c.new-held.result.items c.args.asked.now c.in-Some.rest.now c.in-Some.first.now c.new-held.ensures.items c.in-Some.ensures.cases.0

pub returns-clause-rises : goal.returns-clause-rises
returns-clause-rises g c =
    subst (λ es. T (is_sorted lock_cmp es)) (sym (pairs_more c.hold_all.new.held.items c.push.new.self.items c.in_ok-last.last c.in_ok-push.ensures.items)) c.in_ok-last.ensures.rises
