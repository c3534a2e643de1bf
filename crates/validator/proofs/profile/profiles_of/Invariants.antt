use Rattle.std.proofs.Common.{◌≡◌, take}
use Rattle.spec_block.specs.Worlds.{profiles_in}
use Rattle.validator.proofs.profile.profiles_of.Given as goal

abbrev pub invariant-loop-position : goal.invariant-loop-position
invariant-loop-position g l = l.copy.items ≡ profiles_in (take l.position-index l.positions)
