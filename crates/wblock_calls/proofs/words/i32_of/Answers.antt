use Rattle.std.proofs.Common.{◌∙◌, ap, FitsSigned, rules}
use Rattle.std.proofs.lemmas.Int.{to_z-of_z}
use Rattle.std.specs.Int.{w32}
use Rattle.std.specs.Fmt.{signed_decimal}
use Rattle.wblock_calls.proofs.TextLemmas.{no_signed, no_other_signed, mag_w32}
use Rattle.wblock_calls.proofs.words.i32_of.Goals as goal

pub returns-in_default : goal.returns-in_default
returns-in_default c = λ z fits. no_signed w32 c.args.word.now _ _ c.parse.ensures.value.0 c.in_default.is z fits (mag_w32 z fits)

pub returns : goal.returns
returns c =
    let fits_n : FitsSigned w32 c.in-Ok.n = search rules in
    let written = c.as_str.ensures.value ∙ (c.in_ok-again.ensures.ok ∙ ap signed_decimal (to_z-of_z w32 c.in-Ok.n fits_n)) in
    λ z fits. no_other_signed w32 c.args.word.now _ _ c.in-Ok.n c.parse.ensures.value.0 c.in-Ok.is written c.if-eq.ensures z fits (mag_w32 z fits)
