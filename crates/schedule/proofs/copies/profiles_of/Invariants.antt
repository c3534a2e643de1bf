use Rattle.std.proofs.Common.{◌≡◌, take}
use Rattle.schedule.proofs.copies.profiles_of.Given as goal

abbrev pub invariant-loop-profile : goal.invariant-loop-profile
invariant-loop-profile g l = l.copy.items ≡ take l.profile-index l.profiles
