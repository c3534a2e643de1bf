-- Not checked: the names of the goals are guessed; `rt check --start bytes_of_instance` tells them.
use Rattle.std.proofs.Common.{arith}
use Rattle.interp.proofs.readers.bytes_of_instance.Goals as goal

pub returns-in-Ok : goal.returns-in-Ok
returns-in-Ok g c = (omega (arith, c.len-length.ensures, c.if-from-length.false, c.if-count-length.false), c.in-Ok.ensures)

pub returns-in-Err : goal.returns-in-Err
returns-in-Err g c = omega (arith, c.len-length.ensures, c.if-from-length.false, c.if-count-length.false)
