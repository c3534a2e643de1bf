use Rattle.std.proofs.Common.{◌≡◌, length, drop, None}
use Rattle.lock_profile.specs.Groups.{turns_after, AllFit}
use Rattle.lock_profile.proofs.write_turns.Given as goal

abbrev pub invariant-loop-holder : goal.invariant-loop-holder
invariant-loop-holder l =
    AllFit l.before (drop l.holder-index l.holders) (length l.turns) × (turns_after l.before (drop l.holder-index l.holders) l.turns ≡ turns_after None l.holders l.initial.turns)
