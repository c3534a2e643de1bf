-- When a world is deployed.
use Rattle.std.specs.Prelude.{◌≡◌, ℕ, ◌⊎◌, true, List, None, IsSome}
use Rattle.wblock_io.specs.Holding.{Holding}
use Rattle.wblock_line.specs.Answers.{Upshot}
use Rattle.wblock_modules.specs.Deploys.{Deploys, IsOld, IsNextDeployed}
use Rattle.wblock_commands.specs.declared.command.Deploying.{Deploying}
use Rattle.wblock_calls.specs.Words.{texts}

-- the line asks that the file of the world be written over: by `--force`, or since it is OLD, too
abbrev pub MayReplace : Deploying → Type 0
MayReplace d = (d.forced ≡ true) ⊎ IsOld d.onto d.world.now

-- the file of the world is there, and is not to be written over
pub record IsTaken (d : Deploying) (holds : Holding) : Type 0 where
  pub unasked : ¬ MayReplace d
  pub there : IsSome (holds d.world.now)

-- the file of the world is not there, or may be written over
abbrev pub IsFree : Deploying → Holding → Type 0
IsFree d holds = (holds d.world.now ≡ None) ⊎ MayReplace d

-- the world of the modules, which takes no file's place unasked
pub record DeploysFree (d : Deploying) (holds : Holding) (u : Upshot) : Type 0 where
  pub free : IsFree d holds
  pub deploys : Deploys d.json holds d.world.now d.onto (texts d.modules.now) u

-- neither OLD nor a module is read where the file of the world is there unasked
pub record IsNextToDeploy (d : Deploying) (holds : Holding) (name : List ℕ) : Type 0 where
  pub free : IsFree d holds
  pub next : IsNextDeployed holds d.onto (texts d.modules.now) name
