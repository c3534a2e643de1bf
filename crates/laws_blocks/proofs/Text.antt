-- A closing bracket alone names no module: a module begins with an opening bracket.
use Rattle.std.proofs.Common.{◌≡◌, ◌<◌, ℕ, true, List, [], ◌∷◌, ◌++◌, refl, sym, ap, ◌∙◌, subst, arith, IsUtf8}
use Rattle.std.specs.Prelude.{codes}
use Rattle.std.proofs.lemmas.Str.{IsUtf8-encode, encode_ascii}
use lib.Utf8.{low_scalar}
use Rattle.spec_modules.specs.Syntax.{Module}
use Rattle.spec_text.specs.declared.TokenKind.{TokenKind}
use Rattle.spec_text.specs.declared.TokenKind.TheVariants as kind
use Rattle.spec_text.specs.Lexical as L
use Rattle.spec_text.specs.Lexical.{Token, Lexes, LexesFrom, IsBlank, IsToken, is_white}
use Rattle.spec_text.specs.Words as W
use Rattle.spec_text.specs.Words.{Word, AreWords, IsWord, LeftBracket}
use Rattle.spec_text.specs.FieldsOfPlaces.{Field}
use Rattle.spec_text.specs.Grammar.{IsModule, module_is}
use Rattle.spec_text.specs.Names.{Names}

small : 41 < 128
small = omega arith

pub one_token : Lexes (codes ")") (record { kind = kind.Close; from = 0; text = codes ")" } ∷ [])
one_token = record { utf8 = subst IsUtf8 (encode_ascii 41 small) (IsUtf8-encode 41 (low_scalar 41 (omega arith))); pieces = L.token {piece = codes ")"} {rest = []} refl L.close_bracket L.end }

abbrev first_byte : List ℕ → ℕ
first_byte [] = 0
first_byte (b ∷ bs) = b

no_blank : (piece rest : List ℕ) → codes ")" ≡ piece ++ rest → IsBlank piece rest → ⊥
no_blank piece rest e (L.white {b = b} w) = let no : is_white 41 ≡ true = subst (λ (b : ℕ). is_white b ≡ true) (sym (ap first_byte e)) w in cc
no_blank piece rest e (L.line longest) = omega (arith, ap first_byte e)
no_blank piece rest e (L.block comment) = omega (arith, ap first_byte e)

not_open : (k : TokenKind) (piece rest : List ℕ) → k ≡ kind.Open → codes ")" ≡ piece ++ rest → IsToken k piece rest → ⊥
not_open k piece rest is e (L.open_bracket stops) = omega (arith, ap first_byte e)
not_open k piece rest is e L.close_bracket = cc
not_open k piece rest is e (L.keyword lower longest) = cc
not_open k piece rest is e (L.name longest) = cc
not_open k piece rest is e (L.integer number longest) = cc
not_open k piece rest is e (L.string body) = cc

not_first : (at : ℕ) (text : List ℕ) (t : Token) (ts : List Token) → codes ")" ≡ text → t.kind ≡ kind.Open → LexesFrom at text (t ∷ ts) → ⊥
not_first at text t ts e is (L.blank {piece = piece} {rest = rest} split blank more) = no_blank piece rest (e ∙ split) blank
not_first at text t ts e is (L.token {piece = piece} {rest = rest} {kind = k} split token more) = not_open k piece rest is (e ∙ split) token

opens : (t : Token) → IsWord t LeftBracket → t.kind ≡ kind.Open
opens t W.left = refl

first_word : (tokens : List Token) (ws : List Word) → Lexes (codes ")") tokens → AreWords tokens (LeftBracket ∷ ws) → ⊥
first_word tokens ws l (W.words {t = t} {ts = ts} is more) = not_first 0 (codes ")") t ts refl (opens t is) l.pieces

no_module : (tokens : List Token) (ws : List Word) (fs : List Field) → Lexes (codes ")") tokens → AreWords tokens ws → IsModule ws fs → ⊥
no_module tokens ws fs l a (module_is id fields) = first_word tokens _ l a

pub names_nothing : (m : Module) → Names (codes ")") m → ⊥
names_nothing m n = let s = n.spelled in no_module s.tokens s.words s.fields s.lexes s.are_words s.grammar
