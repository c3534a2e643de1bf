-- What a text that was written begins with.
use Rattle.std.proofs.Common.{◌≡◌, ℕ, List, ◌++◌, ◌∙◌, arith, Result, Ok, Err, IfOk}
use Rattle.std.proofs.lemmas.Grind.{common_steps}
use Rattle.wblock_calls.specs.Sentences.{Begins}

pub begins : {X E : Type 0} (f : X → List ℕ) (front back rest : List ℕ) (r : Result X E) → IfOk r (λ x. f x ≡ front ++ (back ++ rest)) → IfOk r (λ x. Begins (front ++ back) (f x))
begins f front back rest (Ok x) is =
    let parts : front ++ (back ++ rest) ≡ (front ++ back) ++ rest = grind (arith, common_steps) in
    record { rest = rest; is = is ∙ parts }
begins f front back rest (Err e) is = tt
