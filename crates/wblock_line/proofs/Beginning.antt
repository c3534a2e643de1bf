-- What a text begins with when more is written behind it.
use Rattle.std.proofs.Common.{◌≡◌, ℕ, List, ◌++◌, ap, ◌∙◌, append_assoc}
use Rattle.wblock_calls.specs.Sentences.{Begins}

pub goes_on : (words front back sentence : List ℕ) → Begins words front → sentence ≡ front ++ back → Begins words sentence
goes_on words front back sentence b is = record { rest = b.rest ++ back; is = is ∙ (ap (λ (x : List ℕ). x ++ back) b.is ∙ append_assoc words b.rest back) }
