use Rattle.std.proofs.Common.{◌≡◌, true, false}
use Rattle.lock_profile.specs.Groups.{pairs}
use Rattle.serial.proofs.Modes.{listed_is}
use Rattle.serial.proofs.locks.map_of.Goals as goal

pub unreachable-requires : goal.unreachable-requires
unreachable-requires g c = let no : false ≡ true = c.in-None.ensures.there.1 c.requires in cc

pub returns : goal.returns
returns g c = listed_is (pairs c.args.held.items) c.in-Some.touched c.in-Some.ensures.entries
