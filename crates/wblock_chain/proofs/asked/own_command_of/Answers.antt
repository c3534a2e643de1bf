use Rattle.std.proofs.Common.{rules, ◌≡◌, [], ◌∷◌, List, ℕ, codes}
use Rattle.wblock_line.specs.Words.{line_of}
use Rattle.wblock_chain.proofs.Asking.{has_options, nothing_own}
use Rattle.wblock_chain.proofs.asked.own_command_of.Goals as goal

pub returns-then-not-is_empty : goal.returns-then-not-is_empty
returns-then-not-is_empty c =
    let some = has_options c.args.line.now.options c.is_empty.result c.is_empty.ensures c.if-not-is_empty.true in
    nothing_own (line_of c.args.line.now) (λ file words options. some options) (λ words options. some options) (λ words options. some options)

pub returns-in-None : goal.returns-in-None
returns-in-None c =
    let words = (line_of c.args.line.now).words in
    let saved : (file : List ℕ) → ¬ (words ≡ codes "save" ∷ file ∷ []) = search rules in
    let digest : ¬ (words ≡ codes "digest" ∷ []) = search rules in
    let quit : ¬ (words ≡ codes "quit" ∷ []) = search rules in
    nothing_own (line_of c.args.line.now) (λ file words options. saved file words) (λ words options. digest words) (λ words options. quit words)
