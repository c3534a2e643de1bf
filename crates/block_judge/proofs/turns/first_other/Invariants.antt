use Rattle.std.proofs.Common.{◌≡◌, ℕ, ◌<◌, List, Some, None, take, slice_get}
use Rattle.std.specs.BTreeMap.{get}
use Rattle.std.specs.List.{AllByRecursion}
use Rattle.spec_ledger.specs.declared.Lock.{Lock}
use Rattle.spec_ledger.specs.declared.Entry.{Entry}
use Rattle.spec_ledger.specs.Cells.{lock_cmp}
use Rattle.spec_ledger.specs.Order.{holders}
use Rattle.lock_profile.specs.Groups.{last_group}
use Rattle.spec_block.specs.Verdicts.{mode_in, HasTurn}
use Rattle.spec_block.specs.Worlds.{profiles_in}
use Rattle.block_judge.proofs.turns.first_other.Given as goal

-- the positions so far have their turns, and the groups are the last of their holders
abbrev pub invariant-loop-at : goal.invariant-loop-at
invariant-loop-at g l = record {
  turns : (m : ℕ) (p : List Entry) → m < l.at → slice_get (profiles_in l.positions) m ≡ Some p → AllByRecursion (HasTurn (profiles_in l.positions) m) p;
  groups : (q : Lock) → get lock_cmp l.groups q ≡ last_group None (holders (mode_in q) (take l.at (profiles_in l.positions)));
}
