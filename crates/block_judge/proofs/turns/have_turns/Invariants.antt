use Rattle.std.proofs.Common.{◌≡◌, ℕ, ◌<◌, take, get_or}
use Rattle.std.specs.BTreeMap.{get}
use Rattle.spec_ledger.specs.declared.Lock.{Lock}
use Rattle.spec_ledger.specs.declared.Entry.{Entry}
use Rattle.spec_ledger.specs.Cells.{lock_cmp}
use Rattle.lock_profile.specs.Groups.{turn_next}
use Rattle.block_judge.specs.Latest.{latest}
use Rattle.block_judge.proofs.turns.have_turns.Given as goal

-- so far each entry has its turn after the groups that were there, and the groups are those that the entries are in
abbrev pub invariant-loop-entry : goal.invariant-loop-entry
invariant-loop-entry g l = record {
  turns : (k : ℕ) (d : Entry) → k < l.entry-index → (get_or l.entries k d).turn ≡ turn_next (get lock_cmp l.initial.groups (get_or l.entries k d).lock) (get_or l.entries k d).mode;
  groups : (q : Lock) → get lock_cmp l.groups q ≡ latest q (take l.entry-index l.entries) (get lock_cmp l.initial.groups q);
}
