use Rattle.std.proofs.Common.{length, ◌-◌, ◌≤◌, take}
use Rattle.wblock_calls.specs.Words.{texts}
use Rattle.wblock_usage.specs.Words.{Spell}
use Rattle.wblock_usage.proofs.debugging.commands_of.Given as goal

abbrev pub invariant-loop-at : goal.invariant-loop-at
invariant-loop-at l = record {
  within : l.at ≤ length l.words;
  read : Spell (texts (take l.at l.words)) l.commands.items;
}

abbrev pub decreases-loop-at : goal.decreases-loop-at
decreases-loop-at l = length l.words - l.at
