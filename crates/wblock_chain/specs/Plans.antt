-- What a command over a session's world is to do, before anything is written.
use Rattle.std.specs.Prelude.{◌≡◌, ℕ, ◌+◌, ◌≤◌, ◌⊎◌, List, [], Option, Some, None, length, vec_len}
use Rattle.wblock_calls.specs.Words.{texts}
use Rattle.wblock_io.specs.Holding.{Holding}
use Rattle.wblock_line.specs.Answers.{EndsLine}
use Rattle.wblock_line.specs.Inputs.{HoldsWorld}
use Rattle.wblock_line.specs.Transitions.{leaving, note_in}
use Rattle.wblock_line.specs.declared.transition.Transition.{Transition}
use Rattle.wblock_line.specs.declared.transition.Transition.TheVariants as transition
use Rattle.wblock_line.specs.Words.{Line, split}
use Rattle.wblock_modules.specs.Deploys.{IsReadBehind}
use Rattle.wblock_modules.specs.declared.deploy.Modules.TheVariants as modules
use Rattle.spec_block.specs.Worlds.{World}
use Rattle.wblock_commands.specs.declared.command.Command.{Command}
use Rattle.wblock_commands.specs.declared.command.Command.TheVariants.{Deploy, Mine}
use Rattle.wblock_commands.specs.declared.command.Deploying.{Deploying}
use Rattle.wblock_chain.specs.declared.asked.SessionCommand.{SessionCommand}
use Rattle.wblock_chain.specs.declared.asked.SessionCommand.TheVariants.{Single, Save, Digest, Quit}
use Rattle.wblock_chain.specs.Sessions.{ComesTo}
use Rattle.wblock_chain.specs.Words.{IsAsked}
use Rattle.wblock_chain.specs.declared.plan.Plan.{Plan}
use Rattle.wblock_chain.specs.declared.plan.Plan.TheVariants.{Made, Linked}

abbrev pub OfDeploy : (Deploying → Type 0) → Command → Type 0
OfDeploy Is (Deploy task) = Is task
OfDeploy Is c = ⊥

-- what the command comes to over the files that stand; or the contracts that its modules are, behind those of the world
abbrev pub IsPlan : Command → Holding → World → Plan → Type 0
IsPlan c holds world (Made t) = ComesTo c holds (leaving t)
IsPlan c holds world (Linked contracts json) = OfDeploy (λ task. (json ≡ task.json) × HoldsWorld holds task.world.now world × IsReadBehind json holds world (texts task.modules.now) (modules.Linked contracts)) c

-- it is planned, and this is true of what is to be done
abbrev pub IsPlanned : (Transition → Type 0) → Plan → Type 0
IsPlanned Is (Made t) = Is t
IsPlanned Is (Linked contracts json) = ⊥

-- so many files at most a command writes beside the world: `mine` a block
abbrev pub most_beside : Command → ℕ
most_beside (Mine task) = 1
most_beside c = 0

-- it is planned to write no more of them
abbrev pub FitsBeside : Command → Plan → Type 0
FitsBeside c (Made (transition.Done change)) = vec_len change.writes ≤ most_beside c
FitsBeside c (Made (transition.Refused line why)) = Unit {0}
FitsBeside c (Linked contracts json) = Unit {0}

-- one at most
abbrev pub FitsOne : Transition → Type 0
FitsOne (transition.Done change) = vec_len change.writes ≤ 1
FitsOne (transition.Refused line why) = Unit {0}

-- what is said of it is nothing, or ends with a newline
abbrev pub IsNoted : Plan → Type 0
IsNoted (Made t) = (note_in t ≡ []) ⊎ EndsLine (note_in t)
IsNoted (Linked contracts json) = Unit {0}

-- the contracts fit behind those of the world
abbrev pub FitsWorld : World → Plan → Type 0
FitsWorld world (Made t) = Unit {0}
FitsWorld world (Linked contracts json) = length world.contracts + vec_len contracts ≤ 1024

-- no calls stand behind a line that deploys
abbrev pub IsLone : Command → Option (List ℕ) → Type 0
IsLone (Deploy task) behind = behind ≡ None
IsLone c behind = Unit {0}

abbrev pub IsLoneAsked : SessionCommand → Option (List ℕ) → Type 0
IsLoneAsked (Single c) behind = IsLone c behind
IsLoneAsked (Save file) behind = Unit {0}
IsLoneAsked Digest behind = Unit {0}
IsLoneAsked Quit behind = Unit {0}

-- of whatever the line asks for
abbrev pub IsLoneLine : (name : List ℕ) → Line → (behind : Option (List ℕ)) → Type 0
IsLoneLine name line behind = (c : SessionCommand) → IsAsked name line c → IsLoneAsked c behind

-- of the line that the words are
abbrev pub AreLoneWords : (name : List ℕ) (words : List (List ℕ)) (behind : Option (List ℕ)) → Type 0
AreLoneWords name words behind = (line : Line) → split words ≡ Some line → IsLoneLine name line behind
