-- What contracts see of tokens.
use Rattle.std.specs.Prelude.{◌<◌, ◌≤◌, ℕ, List, [], ◌∷◌, map, slice_range}
use Rattle.spec_text.specs.Lexical as T
use Rattle.lexer.specs.declared.list.Token.{Token}

-- a token with its bytes, which are the slice of its span
abbrev pub view : List ℕ → Token → T.Token
view text t = record { kind = t.kind; from = t.from; text = slice_range text t.from t.upto }

abbrev pub views : List ℕ → List Token → List T.Token
views text ts = map (view text) ts

-- Each span begins at `at` or later and where the one before it ends or later, none is empty, and the last ends by `limit`.
abbrev pub SpansRise : ℕ → List Token → ℕ → Type 0
SpansRise at [] limit = at ≤ limit
SpansRise at (t ∷ ts) limit = (at ≤ t.from) × (t.from < t.upto) × SpansRise t.upto ts limit
