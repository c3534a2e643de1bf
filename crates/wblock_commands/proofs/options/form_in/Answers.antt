use Rattle.std.proofs.Common.{rules, ◌≡◌, ℕ, List, MatchOption, codes, subst}
use Rattle.wblock_show.specs.declared.file.Form.{Form}
use Rattle.wblock_commands.specs.Options.{values_in, IsForm}
use Rattle.wblock_calls.specs.Words.{texts}
use Rattle.wblock_line.specs.Words.{choices}
use Rattle.wblock_commands.proofs.options.form_in.Goals as goal

pub returns : goal.returns
returns c =
    let e : texts c.as_slice.result.now ≡ values_in (codes "--json") (choices c.args.options.now) = search rules in
    let f : texts c.as_slice-2.result.now ≡ values_in (codes "--svg") (choices c.args.options.now) = search rules in
    subst (λ (vs : List (List ℕ)). MatchOption c.form_of.result ((form : Form) → ¬ (IsForm (values_in (codes "--json") (choices c.args.options.now)) vs form)) (IsForm (values_in (codes "--json") (choices c.args.options.now)) vs)) f
    (subst (λ (vs : List (List ℕ)). MatchOption c.form_of.result ((form : Form) → ¬ (IsForm vs (texts c.as_slice-2.result.now) form)) (IsForm vs (texts c.as_slice-2.result.now))) e c.form_of.ensures)
