use Rattle.std.proofs.Common.{rules, ◌≡◌, ℕ, Bool, List, MatchOption, codes, subst}
use Rattle.wblock_commands.specs.Options.{values_in, IsSwitch}
use Rattle.wblock_calls.specs.Words.{texts}
use Rattle.wblock_line.specs.Words.{choices}
use Rattle.wblock_commands.proofs.options.json_in.Goals as goal

pub returns : goal.returns
returns c =
    let e : texts c.as_slice.result.now ≡ values_in (codes "--json") (choices c.args.options.now) = search rules in
    subst (λ (vs : List (List ℕ)). MatchOption c.switch_of.result ((given : Bool) → ¬ (IsSwitch vs given)) (IsSwitch vs)) e c.switch_of.ensures
