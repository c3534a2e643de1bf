-- A line that asks for none of the commands asks for nothing.
use Rattle.std.proofs.Common.{◌≡◌, ℕ, Bool, List, [], ◌∷◌, Bor, Option, codes}
use Rattle.wblock_line.specs.Words.{Line}
use Rattle.wblock_commands.specs.declared.command.Command.{Command}
use Rattle.wblock_commands.specs.declared.command.Command.TheVariants.{Stored, Help, Version, Asm, Text, Check, Deploy, Mine, Validate, Call, Debug, Show}
use Rattle.wblock_commands.specs.declared.command.Deploying.{Deploying}
use Rattle.wblock_show.specs.declared.file.Showing.{Showing}
use Rattle.wblock_commands.specs.Words.{AsksStored, AsksAsm, AsksText, AsksCheck, AsksDeploy, AsksShow, AsksNoTask, AsksHelp, IsTold, IsLineOf}

pub nothing_asked : (l : Line) → ¬ AsksStored l → ((text target : List ℕ) (json : Bool) → ¬ AsksAsm l text target json) → ((source target : List ℕ) (unchecked json : Bool) → ¬ AsksText l source target unchecked json)
    → ((target : List ℕ) (heap : Option ℕ) (json : Bool) → ¬ AsksCheck l target heap json) → ((d : Deploying) → ¬ AsksDeploy l d)
    → ((s : Showing) → ¬ AsksShow l s) → AsksNoTask l → (c : Command) → IsLineOf l c → ⊥
nothing_asked l s a w k d h t Stored x = s x
nothing_asked l s a w k d h t (Help words) x = x
nothing_asked l s a w k d h t Version x = x
nothing_asked l s a w k d h t (Asm text target json) x = a text.now target.now json x
nothing_asked l s a w k d h t (Text source target unchecked json) x = w source.now target.now unchecked json x
nothing_asked l s a w k d h t (Check target heap json) x = k target.now heap json x
nothing_asked l s a w k d h t (Deploy task) x = d task x
nothing_asked l s a w k d h t (Mine task) x = t.mining task x
nothing_asked l s a w k d h t (Validate task) x = t.validation task x
nothing_asked l s a w k d h t (Call task) x = t.calling task x
nothing_asked l s a w k d h t (Debug task) x = t.debugging task x
nothing_asked l s a w k d h t (Show task) x = h task x

pub nothing_told : (words : List (List ℕ)) → ¬ AsksHelp words → ¬ (words ≡ codes "--version" ∷ []) → (c : Command) → IsTold words c → ⊥
nothing_told words h v Stored x = x
nothing_told words h v (Help asked) x = h x
nothing_told words h v Version x = v x
nothing_told words h v (Asm text target json) x = x
nothing_told words h v (Text source target unchecked json) x = x
nothing_told words h v (Check target heap json) x = x
nothing_told words h v (Deploy task) x = x
nothing_told words h v (Mine task) x = x
nothing_told words h v (Validate task) x = x
nothing_told words h v (Call task) x = x
nothing_told words h v (Debug task) x = x
nothing_told words h v (Show task) x = x

-- words of which nothing is told do not ask for help
pub no_help : (words : List (List ℕ)) (asked : Bor (List (Bor (List ℕ)))) → ((c : Command) → ¬ IsTold words c) → ¬ AsksHelp words
no_help words asked none = none (Help asked)
