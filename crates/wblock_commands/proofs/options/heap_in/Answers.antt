use Rattle.std.proofs.Common.{rules, ◌≡◌, ℕ, List, Option, IfOk, MatchOption, codes, subst}
use Rattle.wblock_commands.specs.Options.{values_in, IsHeap}
use Rattle.wblock_calls.specs.Words.{texts}
use Rattle.wblock_line.specs.Words.{choices}
use Rattle.wblock_commands.proofs.options.heap_in.Goals as goal

pub returns : goal.returns
returns c =
    let e : texts c.as_slice.result.now ≡ values_in (codes "--heap") (choices c.args.options.now) = search rules in
    subst (λ (vs : List (List ℕ)). IfOk c.heap_of.result (λ found. MatchOption found ((heap : Option ℕ) → ¬ (IsHeap vs heap)) (IsHeap vs))) e c.heap_of.ensures
