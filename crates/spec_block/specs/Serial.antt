-- Serial execution in a world.
use Rattle.std.specs.Prelude.{ℕ, List}
use Rattle.spec_ledger.specs.declared.Version.{Version}
use Rattle.spec_ledger.specs.Cells.{Cells}
use Rattle.spec_execution.specs.Configuration.{Setting}
use Rattle.spec_execution.specs.Exec.{Executes}
use Rattle.spec_execution.specs.Serial.{CallResult, Serial as SerialOver}
use Rattle.spec_block.specs.Worlds.{Call, World}

-- what the calls of a block of this version run over
abbrev pub setting_of : Version → World → Setting
setting_of version world = record { contracts = world.contracts; version = version }

-- a call over these cells leaves those
abbrev pub Executed : Version → World → Call → Cells → CallResult → Cells → Type 0
Executed version world call cells ran left = Executes (setting_of version world) call cells left ran.receipt ran.touched

-- the calls of an order, one after another
abbrev pub Serial : Version → World → List Call → List ℕ → Cells → List CallResult → Cells → Type 0
Serial version world calls order cells ran last = SerialOver (setting_of version world) calls order cells ran last
