use Rattle.std.proofs.Common.{◌≡◌, get_or, unwrap_or, sym, ◌∙◌, ap, subst, arith}
use Rattle.std.proofs.lemmas.Option.{unwrap_or-slice_get}
use Rattle.std.specs.declared.result.Result.TheVariants.{Err}
use Rattle.spec_ledger.specs.Events.{BeginDone}
use Rattle.boost.specs.declared.book.BeginAsRefusal.TheVariants.{Passed}
use Rattle.boost.proofs.Numbered.{BeginDone-as}
use Rattle.boost.proofs.book.Book.begin.Goals as goal

pub unreachable-requires : goal.unreachable-requires
unreachable-requires g c =
    let count : c.unwrap_or-number.result ≡ get_or c.args.self.now.begun c.args.call 0 = c.unwrap_or-number.ensures ∙ ap (λ o. unwrap_or o 0) c.begun_of.ensures ∙ unwrap_or-slice_get c.args.self.now.begun c.args.call 0 in
    let is : c.begin_as.result ≡ Err Passed = cc in
    let h = c.begin_as.ensures.passed.0 is in
    omega (arith, h.passed, count)

pub returns-in-Ok-clause-ok : goal.returns-in-Ok-clause-ok
returns-in-Ok-clause-ok g c =
    let count : c.unwrap_or-number.result ≡ get_or c.args.self.now.begun c.args.call 0 = c.unwrap_or-number.ensures ∙ ap (λ o. unwrap_or o 0) c.begun_of.ensures ∙ unwrap_or-slice_get c.args.self.now.begun c.args.call 0 in (
      c.in-Ok.ensures.ok.0,
      subst (λ n. BeginDone c.args.self.now c.begin_as.new.self c.args.call n) (sym c.in-Ok.ensures.ok.1)
          (BeginDone-as c.args.self.now c.begin_as.new.self c.args.call c.unwrap_or-number.result count c.in-Ok.ensures.ok.2),
    )
