use Rattle.std.proofs.Common.{◌≡◌, take}
use Rattle.spec_block.specs.Worlds.{held_in}
use Rattle.lock_profile.specs.Groups.{pairs}
use Rattle.wblock_picture.proofs.turns.held_of.Given as goal

abbrev pub invariant-loop-entry : goal.invariant-loop-entry
invariant-loop-entry l = pairs l.held.items ≡ held_in (take l.entry-index l.entries)
