use Rattle.std.proofs.Common.{rules, ◌≡◌, ℕ, List, Option, MatchOption, Bor, codes, subst}
use Rattle.wblock_commands.specs.Options.{values_in, IsNameOrNone}
use Rattle.wblock_calls.specs.Words.{texts}
use Rattle.wblock_line.specs.Words.{choices}
use Rattle.wblock_commands.proofs.options.next_in.Goals as goal

pub returns : goal.returns
returns c =
    let e : texts c.as_slice.result.now ≡ values_in (codes "--next") (choices c.args.options.now) = search rules in
    subst (λ (vs : List (List ℕ)). MatchOption c.only_name.result ((next : Option (Bor (List ℕ))) → ¬ (IsNameOrNone vs next)) (IsNameOrNone vs)) e c.only_name.ensures
