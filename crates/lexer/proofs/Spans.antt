-- The spans so far, and one more.
use Rattle.std.proofs.Common.{◌<◌, ◌≤◌, ℕ, List, [], ◌∷◌, ◌++◌, arith}
use Rattle.lexer.specs.declared.list.Token.{Token}
use Rattle.lexer.specs.Views.{SpansRise}

pub spans_wider : (at : ℕ) (ts : List Token) (mid limit : ℕ) → SpansRise at ts mid → mid ≤ limit → SpansRise at ts limit
spans_wider at [] mid limit h l = omega arith
spans_wider at (t ∷ ts) mid limit h l = (h.0, h.1, spans_wider t.upto ts mid limit h.2 l)

pub spans_push : (at : ℕ) (ts : List Token) (mid : ℕ) (t : Token) → SpansRise at ts mid → mid ≤ t.from → t.from < t.upto → SpansRise at (ts ++ t ∷ []) t.upto
spans_push at [] mid t h l m = (omega arith, m, omega arith)
spans_push at (u ∷ ts) mid t h l m = (h.0, h.1, spans_push u.upto ts mid t h.2 l m)
