-- What a call found, and what the view that it ran over may have answered.
use Rattle.std.specs.Prelude.{ℕ, Option}
use Rattle.spec_ledger.specs.declared.Lock.{Lock}
use Rattle.spec_execution.specs.declared.footprints.Access.{Access}
use Rattle.spec_execution.specs.declared.footprints.Access.TheVariants.{Read, Added, Replaced}

-- What an access found may be read at its lock. An access that only added keeps nothing that it found.
abbrev pub IsFoundBy : (Lock → Option ℕ → Type 0) → Access → Type 0
IsFoundBy may_read (Read lock found) = may_read lock found
IsFoundBy may_read (Added place amount) = Unit {0}
IsFoundBy may_read (Replaced lock found later) = may_read lock found
