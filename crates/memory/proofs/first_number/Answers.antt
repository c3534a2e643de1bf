use Rattle.std.proofs.Common.{◌≡◌, ◌∙◌, sym, subst, rules}
use Rattle.std.specs.Prelude.{Some, IfSome, IsTrue, option_copied}
use Rattle.std.proofs.lemmas.Option.{IfSome_then}
use Rattle.memory.specs.Pieces.{byte_in, number_in}
use Rattle.memory.specs.Start.{begins}
use Rattle.memory.proofs.Copies.{number_unmade}
use Rattle.memory.proofs.first_number.Goals as goal

pub returns-in-Some-clause-value : goal.returns-in-Some-clause-value
returns-in-Some-clause-value g c =
    let ps = c.args.pieces.now.items in
    let unmade : IsTrue c.is_unmade.result = search rules in
    subst (λ o. IfSome c.number.result (λ number. number ≡ number_in (byte_in ps (begins (option_copied o))) c.args.at c.args.width)) (sym c.in-Some.is)
    (IfSome_then c.number.result c.number.ensures.value (λ number h. h ∙ number_unmade ps (begins (option_copied (Some c.in-Some.start))) c.args.at c.args.width (c.is_unmade.ensures unmade)))
