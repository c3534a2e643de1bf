-- The state of an instance.
use Rattle.std.specs.Prelude.{◌≡◌}
use Rattle.spec_ledger.specs.declared.Version.{Version}
use Rattle.spec_modules.specs.Syntax.{Module}
use Rattle.spec_execution.specs.Configuration.{State, fresh}
use Rattle.spec_execution.specs.Reduction.{most_pages}
use Rattle.instance.specs.declared.Instance.{Instance}

-- a state with what the instance has; the rest is the state's own
abbrev pub based : {A : Type 0} → State → Instance A → State
based b i = record b { globals = i.globals; memory = i.memory.bytes; table = i.table.now }

-- it is a fresh instance of the module, by the rules of this version
pub record IsFresh {A : Type 0} (version : Version) (i : Instance A) (m : Module) : Type 0 where
  pub globals : i.globals ≡ (fresh m).globals
  pub memory : i.memory.bytes ≡ (fresh m).memory
  pub table : i.table.now ≡ (fresh m).table
  pub max : i.memory.max ≡ most_pages version m.memories
