use Rattle.std.proofs.Common.{◌≡◌, List, true, false, T, sym, ap, subst, ◌∙◌}
use Rattle.std.specs.FinMap.{is_sorted}
use Rattle.spec_ledger.specs.declared.Lock.{Lock}
use Rattle.spec_ledger.specs.declared.Mode.{Mode}
use Rattle.spec_ledger.specs.Cells.{lock_cmp}
use Rattle.spec_block.specs.Worlds.{held_in}
use Rattle.lock_profile.specs.Groups.{pairs}
use Rattle.wblock_picture.proofs.Rising.{modes_rise, from_test}
use Rattle.wblock_picture.proofs.turns.taken_by.Goals as goal

pub unreachable-requires : goal.unreachable-requires
unreachable-requires c =
    let held : pairs c.in_ok-held.held.items ≡ held_in c.profile-profile.result.now = c.in_ok-held.ensures ∙ ap held_in c.entries.ensures in
    let rises : T (is_sorted lock_cmp (pairs c.in_ok-held.held.items)) = subst (λ (hs : List (Lock × Mode)). T (is_sorted lock_cmp hs)) (sym held) (modes_rise c.profile-profile.result.now c.use_invariant.ensures) in
    let never : false ≡ true = c.in_default.ensures.there.1 (from_test _ rises) in
    absurd (cc never)
