use Rattle.std.proofs.Common.{◌≡◌, ℕ, ◌<◌, length, get_or}
use Rattle.spec_ledger.specs.declared.Entry.{Entry}
use Rattle.lock_profile.specs.declared.Held.{Held}
use Rattle.validator.proofs.Agreeing.{held_of}
use Rattle.validator.proofs.compare.are_held.Given as goal

abbrev pub invariant-loop-at : goal.invariant-loop-at
invariant-loop-at l = (m : ℕ) (d : Entry) (h : Held) → m < l.at → m < length l.entries → get_or l.held m h ≡ held_of (get_or l.entries m d)
