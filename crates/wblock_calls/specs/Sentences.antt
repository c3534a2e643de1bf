-- What a sentence begins with.
use Rattle.std.specs.Prelude.{◌≡◌, ℕ, List, ◌++◌}

-- the sentence begins with these words
pub record Begins (words sentence : List ℕ) : Type 0 where
  pub rest : List ℕ
  pub is : sentence ≡ words ++ rest
