use Rattle.std.proofs.Common.{◌≡◌, ◌-◌, ◌∷◌, false, length, arith, ap, ◌∙◌}
use Rattle.std.specs.Prelude.{◌==◌}
use Rattle.std.proofs.lemmas.Bool.Decides.{nat_tests}
use Rattle.std.proofs.lemmas.Result.{err_from_is_err_and}
use Rattle.laws_modules.specs.ReadingModules.{sized_at, name_at, skip}
use Rattle.expr_reader.proofs.Turns.{hand_on}
use Rattle.loader.proofs.Customs.{skip_more, skip_unsized, skip_unnamed, skip_other, skip_empty}
use Rattle.loader.proofs.Refused.{handed_on}
use Rattle.loader.proofs.sections.skip_customs.Goals as goal

pub returns-then-first-ne0-clause-value : goal.returns-then-first-ne0-clause-value
returns-then-first-ne0-clause-value c =
    let l = c.loop-first in
    let b = c.in-Some.first.now in
    let is : l.rest.now ≡ b ∷ c.in-Some.after.now = grind arith in
    let other : (b == 0) ≡ false = grind (arith, nat_tests) in
    l.invariant.3 ∙ skip_other l.invariant.0 b l.rest.now c.in-Some.after.now is other

pub returns-in_err-content-clause-value : goal.returns-in_err-content-clause-value
returns-in_err-content-clause-value c =
    let l = c.loop-first in
    let after = c.in-Some.after.now in
    let is : l.rest.now ≡ 0 ∷ after = grind arith in
    let p = err_from_is_err_and c.from_residual.result c.from_residual.ensures.1 in
    rw (p.1, p.2) (hand_on c.in_err-content.field-0.0 (sized_at after) (skip c.args.bytes.now)
    (λ none. l.invariant.3 ∙ skip_unsized l.invariant.0 l.rest.now after is l.invariant.1 none)
    c.in_err-content.ensures.value)

pub returns-in-Err-clause-value : goal.returns-in-Err-clause-value
returns-in-Err-clause-value c =
    let l = c.loop-first in
    let after = c.in-Some.after.now in
    let s = c.in_ok-content in
    let is : l.rest.now ≡ 0 ∷ after = grind arith in
    handed_on c.in-Err.unread c.with_more.result (name_at s.content.now) (skip c.args.bytes.now) c.with_more.ensures
    (λ none. l.invariant.3 ∙ skip_unnamed l.invariant.0 l.rest.now after s.content.now s.following.now is l.invariant.1 s.ensures.value none)
    c.in-Err.ensures.value

pub loop-first-preserved : goal.loop-first-preserved
loop-first-preserved c =
    let l = c.loop-first in
    let after = c.in-Some.after.now in
    let s = c.in_ok-content in
    let t = c.in_default-text_of in
    let is : l.rest.now ≡ 0 ∷ after = grind arith in (
      l.invariant.0 - 1,
      omega (arith, ap length is, l.invariant.1, s.ensures.shorter),
      omega (arith, ap length is, l.invariant.2, s.ensures.shorter),
      l.invariant.3 ∙ skip_more l.invariant.0 l.rest.now after s.content.now s.following.now (t.field-0.0.now, t.field-0.1.now) is l.invariant.1 s.ensures.value t.ensures.value,
    )

pub returns-clause-value : goal.returns-clause-value
returns-clause-value c =
    let l = c.loop-first in
    l.invariant.3 ∙ skip_empty l.invariant.0 l.rest.now c.in_default.ensures.cases
