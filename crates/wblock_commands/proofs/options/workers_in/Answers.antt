use Rattle.std.proofs.Common.{rules, ◌≡◌, ℕ, List, IfOk, MatchOption, codes, subst}
use Rattle.wblock_commands.specs.Options.{values_in, IsNumberOr}
use Rattle.wblock_calls.specs.Words.{texts}
use Rattle.wblock_line.specs.Words.{choices}
use Rattle.wblock_commands.proofs.options.workers_in.Goals as goal

pub returns : goal.returns
returns c =
    let e : texts c.as_slice.result.now ≡ values_in (codes "--workers") (choices c.args.options.now) = search rules in
    subst (λ (vs : List (List ℕ)). IfOk c.count_in.result (λ found. MatchOption found ((n : ℕ) → ¬ (IsNumberOr 4 vs 1 64 n)) (IsNumberOr 4 vs 1 64))) e c.count_in.ensures
