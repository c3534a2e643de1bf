use Rattle.std.proofs.Common.{◌≡◌, ◌∷◌, [], ◌++◌, T, false, sym, ◌∙◌, ap, subst}
use Rattle.std.specs.declared.cmp.Ordering.TheVariants.{Less}
use Rattle.std.specs.FinMap.{is_sorted}
use Rattle.spec_ledger.specs.declared.Mode.{Mode}
use Rattle.spec_ledger.specs.Cells.{lock_cmp}
use Rattle.spec_ledger.proofs.Maps.{lock_cmp_total, lock_cmp-IsAntisymmetric, is_key}
use Rattle.lock_profile.specs.Groups.{pair_of, pairs}
use Rattle.serial.specs.Asking.{modes_in, with_last}
use Rattle.serial.proofs.Joining.{above, rises_still, rises_more, modes_more, modes_joined, pairs_more}
use Rattle.serial.proofs.locks.hold.Goals as goal

pub returns-then-is_same_lock-clause-modes : goal.returns-then-is_same_lock-clause-modes
returns-then-is_same_lock-clause-modes g c =
    let held = c.args.held.now.items in
    let last = c.args.last in
    let same : last.lock ≡ c.args.one.lock = is_key lock_cmp_total lock_cmp-IsAntisymmetric last.lock c.args.one.lock (sym c.is_same_lock.ensures ∙ c.if-is_same_lock.true) in
    ap (λ (m : Mode). modes_in (pairs held ++ (last.lock, m) ∷ [])) c.join_to.ensures
    ∙ modes_joined (pairs held) last.lock c.args.one.lock last.mode c.args.one.mode same c.requires.rises

pub returns-then-is_same_lock-clause-rises : goal.returns-then-is_same_lock-clause-rises
returns-then-is_same_lock-clause-rises g c = rises_still (pairs c.args.held.now.items) c.args.last.lock c.args.last.mode c.join_to.result c.requires.rises

pub returns-then-is_same_lock-clause-lock : goal.returns-then-is_same_lock-clause-lock
returns-then-is_same_lock-clause-lock g c = is_key lock_cmp_total lock_cmp-IsAntisymmetric c.args.last.lock c.args.one.lock (sym c.is_same_lock.ensures ∙ c.if-is_same_lock.true)

pub returns-clause-modes : goal.returns-clause-modes
returns-clause-modes g c =
    let held = c.args.held.now.items in
    let last = c.args.last in
    let one = c.args.one in
    let under : lock_cmp last.lock one.lock ≡ Less = above last.lock one.lock c.requires.behind (sym c.is_same_lock.ensures ∙ c.if-is_same_lock.false) in
    ap (λ es. modes_in (es ++ pair_of one ∷ [])) (pairs_more held c.push.new.self.items last c.in_ok-push.ensures.items)
    ∙ modes_more (with_last held last) one.lock one.mode (rises_more (pairs held) last.lock one.lock last.mode one.mode c.requires.rises under)

pub returns-clause-rises : goal.returns-clause-rises
returns-clause-rises g c =
    let held = c.args.held.now.items in
    let last = c.args.last in
    let one = c.args.one in
    let under : lock_cmp last.lock one.lock ≡ Less = above last.lock one.lock c.requires.behind (sym c.is_same_lock.ensures ∙ c.if-is_same_lock.false) in
    subst (λ es. T (is_sorted lock_cmp (es ++ pair_of one ∷ []))) (sym (pairs_more held c.push.new.self.items last c.in_ok-push.ensures.items))
    (rises_more (pairs held) last.lock one.lock last.mode one.mode c.requires.rises under)
