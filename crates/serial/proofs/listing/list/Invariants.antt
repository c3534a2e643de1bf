use Rattle.std.proofs.Common.{◌≡◌, ◌++◌, map}
use Rattle.lock_profile.specs.Groups.{pairs}
use Rattle.serial.specs.Touches.{access_of}
use Rattle.serial.proofs.Accesses.{mode_at}
use Rattle.serial.proofs.listing.list.Given as goal

abbrev pub invariant-loop-lock : goal.invariant-loop-lock
invariant-loop-lock g l = record {
  held : pairs l.held.items ++ map mode_at l.lock-iterator ≡ map mode_at l.fn.touches.entries;
  accesses : l.accesses.items ++ map (access_of l.stand) l.lock-iterator ≡ l.fn.accesses.items ++ map (access_of l.stand) l.fn.touches.entries;
}
