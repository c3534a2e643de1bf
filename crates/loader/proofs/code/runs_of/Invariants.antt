use Rattle.std.proofs.Common.{◌≡◌, ◌+◌, ◌-◌, ◌≤◌, length}
use Rattle.spec_modules.specs.Profile.{local_limit}
use Rattle.laws_modules.specs.ReadingModules.{runs_at}
use Rattle.expr_reader.proofs.Steps.{front}
use Rattle.loader.proofs.code.runs_of.Given as goal

abbrev pub invariant-loop-i : goal.invariant-loop-i
invariant-loop-i g l =
    (front l.locals.items (runs_at l.room (l.runs - l._i) l.rest) ≡ runs_at local_limit l.runs l.bytes)
    × (length l.rest ≤ length l.bytes) × (length l.locals.items + l.room ≡ local_limit)
