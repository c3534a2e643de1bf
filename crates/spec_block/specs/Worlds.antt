-- Worlds, calls and blocks as plain values.
use Rattle.std.specs.Prelude.{ℕ, List, map}
use Rattle.spec_ledger.specs.declared.Version.{Version}
use Rattle.spec_ledger.specs.declared.Lock.{Lock}
use Rattle.spec_ledger.specs.declared.Mode.{Mode}
use Rattle.spec_ledger.specs.declared.Receipt.{Receipt}
use Rattle.spec_ledger.specs.declared.Entry.{Entry}
use Rattle.spec_ledger.specs.Cells.{Cells}
pub use Rattle.spec_execution.specs.Configuration.{Deployed as Contract}
pub use Rattle.spec_execution.specs.Run.{ContractCall as Call}

pub record World : Type 0 where
  pub contracts : List Contract
  pub cells : Cells

-- what a block says at a position
pub record Position : Type 0 where
  pub call : ℕ
  pub receipt : Receipt
  pub profile : List Entry

pub record Block : Type 0 where
  pub version : Version
  pub before : List ℕ
  pub calls : List ℕ
  pub positions : List Position
  pub fuel : ℕ
  pub after : List ℕ

abbrev pub order_of : Block → List ℕ
order_of b = map (λ (p : Position). p.call) b.positions

abbrev pub profiles_in : List Position → List (List Entry)
profiles_in positions = map (λ (p : Position). p.profile) positions

abbrev pub profiles_of : Block → List (List Entry)
profiles_of b = profiles_in b.positions

abbrev pub limits : List Call → List ℕ
limits calls = map (λ (c : Call). c.fuel) calls

-- the locks of a profile with their modes, in the profile's order
abbrev pub held_in : List Entry → List (Lock × Mode)
held_in profile = map (λ (e : Entry). (e.lock, e.mode)) profile
