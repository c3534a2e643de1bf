use Rattle.std.proofs.Common.{◌≡◌, ◌∙◌, ℕ, List, Option, Bor, ap, filter, subst, sym}
use Rattle.wblock_line.specs.Words.{Choice, line_of}
use Rattle.wblock_calls.specs.Words.{texts}
use Rattle.wblock_line.specs.Words.{choices}
use Rattle.wblock_call.specs.Styles.{AsksStyle, is_other}
use Rattle.wblock_call.specs.declared.style.Style.{Style}
use Rattle.wblock_debug.specs.Asks.{AsksBlock}
use Rattle.wblock_usage.proofs.Colons.{at_none, at_some}
use Rattle.wblock_debug.proofs.Options.{no_block, by_words}
use Rattle.wblock_debug.proofs.asked.debugging_of.Goals as goal

pub returns-in_default : goal.returns-in_default
returns-in_default c =
    let is : choices c.as_slice-options.result.now ≡ (line_of c.args.line.now).options = ap choices c.as_slice-options.ensures.value in
    λ d a. subst (λ (os : List Choice). (style : Style) → ¬ AsksStyle os style) is (at_none _ _ _ c.in_default.is c.in_ok-style.ensures) d.style a.style

pub returns-in_default-2 : goal.returns-in_default-2
returns-in_default-2 c =
    let is : choices c.as_slice.result.now ≡ filter is_other (line_of c.args.line.now).options =
    ap choices c.as_slice.ensures.value ∙ (c.in_ok-others.ensures ∙ ap (λ os. filter is_other (choices os)) c.as_slice-options.ensures.value) in
    no_block (line_of c.args.line.now)
    (subst (λ (os : List Choice). (block : Option (Bor (List ℕ))) (fuel : Option ℕ) → ¬ AsksBlock os block fuel) is (at_none _ _ _ c.in_default-2.is c.in_ok-block.ensures))

pub returns : goal.returns
returns c =
    let style = c.in-Some.style in
    let block = c.in-Some-2.block in
    let fuel = c.in-Some-2.fuel in
    let options : choices c.as_slice-options.result.now ≡ (line_of c.args.line.now).options = ap choices c.as_slice-options.ensures.value in
    let others : choices c.as_slice.result.now ≡ filter is_other (line_of c.args.line.now).options =
    ap choices c.as_slice.ensures.value ∙ (c.in_ok-others.ensures ∙ ap (λ os. filter is_other (choices os)) c.as_slice-options.ensures.value) in
    by_words c.asked_by.result (texts c.as_slice-words.result.now) (line_of c.args.line.now) block fuel style (ap texts (sym c.as_slice-words.ensures.value))
    (subst (λ (os : List Choice). AsksBlock os block fuel) others (at_some _ _ _ (block, fuel) c.in-Some-2.is c.in_ok-block.ensures))
    (subst (λ (os : List Choice). AsksStyle os style) options (at_some _ _ _ style c.in-Some.is c.in_ok-style.ensures))
    c.asked_by.ensures.words c.asked_by.ensures.block c.asked_by.ensures.fuel c.asked_by.ensures.style
