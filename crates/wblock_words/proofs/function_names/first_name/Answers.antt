use Rattle.std.proofs.Common.{◌≡◌, ◌+◌, ◌≤◌, ◌∷◌, sym, ap, ◌∙◌, subst, arith}
use Rattle.wblock_words.specs.Names.{IsFrom, Rises, name_among, named_of, names_in}
use Rattle.wblock_words.proofs.Named.{from_less, from_on, name_here, no_name}
use Rattle.wblock_words.proofs.function_names.first_name.Goals as goal

pub returns-then-first-number : goal.returns-then-first-number
returns-then-first-number c =
    let first = c.in-Some.first.now in
    let rest = names_in c.in-Some._rest.now in
    let is : names_in c.args.names.now ≡ named_of first ∷ rest = ap names_in c.in-Some.ensures.cases.0 in
    sym (ap (λ ns. name_among ns c.args.number) is ∙ name_here (named_of first) rest c.args.number (omega (arith, c.if-first-number.true)))

pub returns-else-first-number : goal.returns-else-first-number
returns-else-first-number c =
    let first = c.in-Some.first.now in
    let rest = names_in c.in-Some._rest.now in
    let is : names_in c.args.names.now ≡ named_of first ∷ rest = ap names_in c.in-Some.ensures.cases.0 in
    let least : c.args.number ≤ first.number = (subst (IsFrom c.args.number) is c.requires.from).0 in
    let above : c.args.number + 1 ≤ first.number = omega (arith, least, c.if-first-number.false) in
    let from : IsFrom (c.args.number + 1) (names_in c.args.names.now) = subst (IsFrom (c.args.number + 1)) (sym is) (above, from_less (c.args.number + 1) (first.number + 1) rest (omega (arith, above)) (from_on (named_of first) rest (subst Rises is c.requires.rises))) in
    sym (no_name (c.args.number + 1) c.args.number (names_in c.args.names.now) from (omega arith))
