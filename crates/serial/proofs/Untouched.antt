-- A cell whose lock a call did not ask for is as it was.
use Rattle.std.proofs.Common.{◌≡◌, Option, None, IfSome, map, subst, sym}
use Rattle.std.specs.FinMap.{entries, get}
use Rattle.spec_ledger.specs.declared.Lock.{Lock}
use Rattle.spec_ledger.specs.declared.Mode.{Mode}
use Rattle.spec_ledger.specs.declared.Mode.TheVariants.{Read as Reading}
use Rattle.spec_ledger.specs.Cells.{Cells}
use Rattle.spec_ledger.specs.Modes.{Modes}
use Rattle.spec_execution.specs.ReadWriteSets.{access_at, all_left}

pub untouched : (before later : Cells) (locks : Modes) (lock : Lock) → all_left (map (access_at before later) (entries locks)) before ≡ later
    → (IfSome (get locks lock) (λ mode. mode ≡ Reading) → get (all_left (map (access_at before later) (entries locks)) before) lock ≡ get before lock) → get locks lock ≡ None → get later lock ≡ get before lock
untouched before later locks lock left kept none = subst (λ (cells : Cells). get cells lock ≡ get before lock) left (kept (subst (λ (mode : Option Mode). IfSome mode (λ m. m ≡ Reading)) (sym none) tt))
