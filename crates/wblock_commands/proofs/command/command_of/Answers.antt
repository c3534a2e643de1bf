use Rattle.std.proofs.Common.{rules, ℕ, Bool, List, Option, subst}
use Rattle.std.proofs.lemmas.Option.{MatchOption-at_none}
use Rattle.wblock_calls.specs.Words.{texts}
use Rattle.wblock_line.specs.Words.{choices, line_of}
use Rattle.wblock_show.specs.declared.file.Showing.{Showing}
use Rattle.wblock_commands.specs.declared.command.Deploying.{Deploying}
use Rattle.wblock_commands.specs.Words.{AsksStored, AsksAsm, AsksText, AsksCheck, AsksDeploy, AsksShow, AsksNoTask}
use Rattle.wblock_commands.proofs.Asked.{nothing_asked}
use Rattle.wblock_commands.proofs.command.command_of.Goals as goal

pub returns-in-None : goal.returns-in-None
returns-in-None c =
    let stored : ¬ AsksStored (line_of c.args.line.now) = search rules in
    let assembled : (text target : List ℕ) (json : Bool) → ¬ AsksAsm (line_of c.args.line.now) text target json = search rules in
    let written : (source target : List ℕ) (unchecked json : Bool) → ¬ AsksText (line_of c.args.line.now) source target unchecked json =
    subst (λ o. (source target : List ℕ) (unchecked json : Bool) → ¬ AsksText (record { words = texts c.args.line.now.words.items; options = choices o }) source target unchecked json) c.as_slice-options.ensures.value
    (subst (λ w. (source target : List ℕ) (unchecked json : Bool) → ¬ AsksText (record { words = texts w; options = choices c.as_slice-options.result.now }) source target unchecked json) c.as_slice-words.ensures.value
    (MatchOption-at_none _ _ c.in_default-2.is c.in_ok-source.ensures)) in
    let checked : (target : List ℕ) (heap : Option ℕ) (json : Bool) → ¬ AsksCheck (line_of c.args.line.now) target heap json =
    subst (λ o. (target : List ℕ) (heap : Option ℕ) (json : Bool) → ¬ AsksCheck (record { words = texts c.args.line.now.words.items; options = choices o }) target heap json) c.as_slice-options.ensures.value
    (subst (λ w. (target : List ℕ) (heap : Option ℕ) (json : Bool) → ¬ AsksCheck (record { words = texts w; options = choices c.as_slice-options.result.now }) target heap json) c.as_slice-words.ensures.value
    (MatchOption-at_none _ _ c.in_default-3.is c.in_ok-target.ensures)) in
    let deployed : (d : Deploying) → ¬ AsksDeploy (line_of c.args.line.now) d = search rules in
    let shown : (s : Showing) → ¬ AsksShow (line_of c.args.line.now) s = search rules in
    let task : AsksNoTask (line_of c.args.line.now) = search rules in
    nothing_asked (line_of c.args.line.now) stored assembled written checked deployed shown task
