use Rattle.std.proofs.Common.{◌≡◌, ◌∙◌, Bool, List, MatchOption, ap, filter, subst}
use Rattle.wblock_line.specs.Words.{AsksAlone, Choice, choices}
use Rattle.wblock_call.specs.Styles.{is_named}
use Rattle.wblock_call.proofs.style.switch_in.Goals as goal

pub returns : goal.returns
returns c =
    let name = c.args.name.now in
    let is : choices c.as_slice.result.now ≡ filter (is_named name) (choices c.args.options.now) = ap choices c.as_slice.ensures.value ∙ c.in_ok-switches.ensures in
    subst (λ (os : List Choice). MatchOption c.switch_alone.result ((given : Bool) → ¬ AsksAlone name os given) (AsksAlone name os)) is c.switch_alone.ensures
