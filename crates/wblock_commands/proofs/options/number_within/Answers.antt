use Rattle.std.proofs.Common.{rules, ◌≡◌, ◌<◌, ◌^◌, decimal, sym, ◌∙◌, arith}
use Rattle.std.proofs.lemmas.Fmt.{decimal_injective}
use Rattle.wblock_commands.proofs.options.number_within.Goals as goal

pub returns-then-number-least-clause-none : goal.returns-then-number-least-clause-none
returns-then-number-least-clause-none c = λ n enough few spelled.
    let small = c.if-number-least.true in
    let told : c.args.word.now ≡ decimal c.in-Some.number = search rules in
    let fits : c.args.most < 2 ^ 64 = search (arith, rules) in
    let same = decimal_injective c.in-Some.number n (omega (arith, small)) (omega (arith, few)) (sym told ∙ spelled) in
    absurd (omega (arith, same, small, enough))

pub returns-then-number-most-clause-none : goal.returns-then-number-most-clause-none
returns-then-number-most-clause-none c = λ n enough few spelled.
    let great = c.if-number-most.true in
    let told : c.args.word.now ≡ decimal c.in-Some.number = search rules in
    let fits : c.in-Some.number < 2 ^ 64 = search (arith, rules) in
    let same = decimal_injective c.in-Some.number n fits (omega (arith, few)) (sym told ∙ spelled) in
    absurd (omega (arith, same, great, few))
