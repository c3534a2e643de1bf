-- The word of a token, as it is read.
use Rattle.std.specs.Prelude.{◌≡◌, ℕ, ◌-◌, ◌&&◌, nat_le, nat_lt, List, length, take, drop, Option, Some, None, cond, codes, slice_range}
use Rattle.std.specs.Str.{bytes_eq}
use Rattle.spec_text.specs.Lexical.{Token}
use Rattle.spec_text.specs.Words.{Placed, Word, LeftBracket, RightBracket, Key, Op, OffsetIs, AlignIs, Id, Number, Str, beside, AreWords}
use Rattle.spec_text.specs.declared.TokenKind.{TokenKind}
use Rattle.spec_text.specs.declared.TokenKind.TheVariants as kind
use Rattle.spec_text.specs.declared.KeyWord.{KeyWord}
use Rattle.spec_text.specs.declared.Operator.{Operator}
use Rattle.spec_text.specs.declared.TheConstants.{KEY_WORDS, OPERATORS}
use Rattle.lexer.specs.Reading.{is_integer}
use Rattle.lexer.specs.declared.word.Word as code
use Rattle.lexer.specs.Strings.{decoded}
use Rattle.lexer.specs.WordsViews.{view}

-- what is left of the text behind this beginning
abbrev pub behind : List ℕ → List ℕ → Option (List ℕ)
behind beginning text = cond (nat_le (length beginning) (length text) && bytes_eq (take (length beginning) text) beginning) (Some (drop (length beginning) text)) None

-- with an integer behind it
abbrev pub with_integer : (List ℕ → Word) → Option (List ℕ) → Option Word → Option Word
with_integer make None next = next
with_integer make (Some text) next = cond (is_integer text) (Some (make text)) None

-- a part of the text at a place
abbrev pub placed_at : ℕ → List ℕ → Placed
placed_at at text = record { at = at; text = text }

abbrev pub memarg_at : ℕ → List ℕ → Option Word
memarg_at at text =
    with_integer (λ number. OffsetIs (placed_at at number)) (behind (codes "offset=") text) (with_integer (λ number. AlignIs (placed_at at number)) (behind (codes "align=") text) None)

abbrev pub by_key : Option KeyWord → Option Word → Option Word
by_key None next = next
by_key (Some key) next = Some (Key key)

abbrev pub by_operator : Option Operator → Option Word → Option Word
by_operator None next = next
by_operator (Some op) next = Some (Op op)

abbrev pub keyword_at : ℕ → List ℕ → Option Word
keyword_at at text = by_key (beside (λ r. r.now) text KEY_WORDS) (by_operator (beside (λ r. r.now) text OPERATORS) (memarg_at at text))

-- between the quotes
abbrev pub string_at : List ℕ → Option Word
string_at text = cond (nat_lt (length text) 2) None (Some (Str (decoded (slice_range text 1 (length text - 1)))))

abbrev pub of_kind : TokenKind → ℕ → List ℕ → Option Word
of_kind kind.Open at text = Some LeftBracket
of_kind kind.Close at text = Some RightBracket
of_kind kind.Keyword at text = keyword_at at text
of_kind kind.Name at text = Some (Id (placed_at at text))
of_kind kind.Integer at text = Some (Number (placed_at at text))
of_kind kind.Text at text = string_at text

abbrev pub word_at : Token → Option Word
word_at t = of_kind t.kind t.from t.text

-- ---- what the functions return, behind their references

abbrev pub left : {R : Type 0} → (R → List ℕ) → Option R → Option (List ℕ)
left now None = None
left now (Some rest) = Some (now rest)

abbrev pub seen : Option code.Word → Option Word
seen None = None
seen (Some w) = Some (view w)

-- no tokens are two lists of words
abbrev pub WordsAreOne : Type 0
WordsAreOne = (ts : List Token) (us ws : List Word) → AreWords ts us → AreWords ts ws → us ≡ ws
