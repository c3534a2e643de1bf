use Rattle.std.proofs.Common.{◌≡◌, ◌++◌, ℕ, List, [], drop, sym, ap, ◌∙◌, arith}
use Rattle.std.proofs.lemmas.List.{append-nil, drop_all}
use Rattle.lexer.specs.Strings.{decode, decoded}
use Rattle.lexer.proofs.Decoding.{string_is_decoded}
use Rattle.lexer.proofs.strings.put_string.Goals as goal

pub returns-clause-stands : goal.returns-clause-stands
returns-clause-stands g c = λ bytes s.
    let all : drop c.loop-b.b-index c.args.body.now ≡ [] = drop_all c.loop-b.b-index c.args.body.now (omega arith) in
    let added : c.loop-b.found.items ≡ c.args.found.now.items ++ decoded c.args.body.now =
    sym (append-nil c.loop-b.found.items) ∙ ap (λ (xs : List ℕ). c.loop-b.found.items ++ decode c.loop-b.state xs) (sym all) ∙ c.loop-b.invariant.same in
    added ∙ ap (λ (xs : List ℕ). c.args.found.now.items ++ xs) (string_is_decoded s)
