-- Worked examples: a text and the module that it names; a folded instruction and its flat list; the characters.
use Rattle.std.proofs.Common.{◌≡◌, ◌<◌, ℕ, Bool, true, ◌&&◌, nat_lt, List, [], ◌∷◌, None, refl, subst, arith, ltb-true, IsUtf8}
use Rattle.std.proofs.lemmas.Bool.{and_parts}
use Rattle.std.proofs.lemmas.Str.{IsUtf8-append, IsUtf8-nil, IsUtf8-encode, encode_ascii}
use lib.Utf8.{low_scalar}
use Rattle.std.specs.Prelude.{codes}
use Rattle.wtypes.specs.declared.ValType.TheVariants as T
use Rattle.wtypes.specs.declared.BinOp.TheVariants as B
use Rattle.wtypes.specs.declared.PlainInstr.TheVariants as P
use Rattle.spec_modules.specs.Syntax as S
use Rattle.spec_modules.specs.Syntax.{Module, FuncType}
use Rattle.spec_text.specs.declared.TokenKind.TheVariants as kind
use Rattle.spec_text.specs.declared.KeyWord.TheVariants as k
use Rattle.spec_text.specs.declared.Operator.TheVariants as o
use Rattle.spec_text.specs.Characters as ascii
use Rattle.spec_text.specs.Lexical as L
use Rattle.spec_text.specs.Lexical.{Token, Lexes, LexesFrom, IsLongest, is_idchar}
use Rattle.spec_text.specs.Words as W
use Rattle.spec_text.specs.Words.{Word, AreWords, LeftBracket, RightBracket, Key, Op, Number}
use Rattle.spec_text.specs.FieldsOfPlaces as N
use Rattle.spec_text.specs.Grammar as G
use Rattle.spec_text.specs.Spaces as X
use Rattle.spec_text.specs.TypeUses as U
use Rattle.spec_text.specs.Instructions as I
use Rattle.spec_text.specs.Fields as F
use Rattle.spec_text.specs.Names.{Spelled}

text : List ℕ
text = codes "(module (func nop))"

abbrev no_type : FuncType
no_type = record { params = []; results = [] }

abbrev made : Module
made = record {
  types = no_type ∷ [];
  imports = [];
  funcs = record { type_index = 0; locals = []; body = S.seq (S.Plain P.Nop) S.nothing } ∷ [];
  tables = [];
  memories = [];
  globals = [];
  exports = [];
  start = None;
  elements = [];
  datas = [];
}

abbrev tokens : List Token
tokens =
    record { kind = kind.Open; from = 0; text = codes "(" } ∷ record { kind = kind.Keyword; from = 1; text = codes "module" } ∷ record { kind = kind.Open; from = 8; text = codes "(" }
    ∷ record { kind = kind.Keyword; from = 9; text = codes "func" } ∷ record { kind = kind.Keyword; from = 14; text = codes "nop" } ∷ record { kind = kind.Close; from = 17; text = codes ")" }
    ∷ record { kind = kind.Close; from = 18; text = codes ")" } ∷ []

ascii_then : (x : ℕ) (xs : List ℕ) → x < 128 → IsUtf8 xs → IsUtf8 (x ∷ xs)
ascii_then x xs small u = IsUtf8-append (x ∷ []) xs (subst IsUtf8 (encode_ascii x small) (IsUtf8-encode x (low_scalar x (omega arith)))) u

abbrev are_ascii : List ℕ → Bool
are_ascii [] = true
are_ascii (x ∷ xs) = nat_lt x 128 && are_ascii xs

utf8_from_ascii : (xs : List ℕ) → are_ascii xs ≡ true → IsUtf8 xs
utf8_from_ascii [] e = IsUtf8-nil
utf8_from_ascii (x ∷ xs) e = let p = and_parts _ _ e in ascii_then x xs (ltb-true _ _ p.0) (utf8_from_ascii xs p.1)

lexed : LexesFrom 0 (codes "(module (func nop))") tokens
lexed =
    L.token {piece = codes "("} {rest = codes "module (func nop))"} refl (L.open_bracket refl)
    (L.token {piece = codes "module"} {rest = codes " (func nop))"} refl (L.keyword refl (record { each = (refl, (refl, (refl, (refl, (refl, (refl, tt)))))); stops = refl }))
    (L.blank {piece = codes " "} {rest = codes "(func nop))"} refl (L.white refl)
    (L.token {piece = codes "("} {rest = codes "func nop))"} refl (L.open_bracket refl)
    (L.token {piece = codes "func"} {rest = codes " nop))"} refl (L.keyword refl (record { each = (refl, (refl, (refl, (refl, tt)))); stops = refl }))
    (L.blank {piece = codes " "} {rest = codes "nop))"} refl (L.white refl)
    (L.token {piece = codes "nop"} {rest = codes "))"} refl (L.keyword refl (record { each = (refl, (refl, (refl, tt))); stops = refl }))
    (L.token {piece = codes ")"} {rest = codes ")"} refl L.close_bracket
    (L.token {piece = codes ")"} {rest = []} refl L.close_bracket
    L.end))))))))

abbrev words : List Word
words = LeftBracket ∷ Key k.Module ∷ LeftBracket ∷ Key k.Func ∷ Op o.Nop ∷ RightBracket ∷ RightBracket ∷ []

worded : AreWords tokens words
worded = W.words W.left (W.words (W.key refl) (W.words W.left (W.words (W.key refl) (W.words (W.op refl) (W.words W.right (W.words W.right W.no_word))))))

abbrev fields : List N.Field
fields = N.FuncField None [] (record { index = None; params = []; results = [] }) [] (N.Simple o.Nop ∷ []) ∷ []

parsed : G.IsModule words fields
parsed =
    G.module_is (G.no_id (λ id rest e. cc))
    (G.field (G.func_field (G.no_id (λ id rest e. cc)) (G.no_export (λ rest e. cc)) (G.by_type (λ rest e. cc) (G.no_binding (λ rest e. cc)) (G.no_results (λ rest e. cc))) (G.no_binding (λ rest e. cc)) (G.then (G.plain (G.simply refl)) G.none)) G.no_field)

abbrev spaces : X.Spaces
spaces = record { types = no_type ∷ []; type_names = []; funcs = None ∷ []; tables = []; memories = []; globals = [] }

none_there : (i : ℕ) → U.FirstType no_type [] i → ⊥
none_there i h = elim h [ ]

resolved : F.Resolves (N.without_places fields) made
resolved = (
  spaces,
  record {
    types = U.is_new none_there U.all_added;
    type_names = (refl, X.no_names);
    funcs = (refl, X.unnamed X.no_names);
    tables = (refl, X.no_names);
    memories = (refl, X.no_names);
    globals = (refl, X.no_names);
  },
  F.func refl (U.inline (U.this_type refl)) X.no_names (I.plain (I.simply refl) I.nothing) F.end,
)

pub spelled : Spelled (codes "(module (func nop))") made
spelled = record { tokens = tokens; words = words; fields = fields; lexes = record { utf8 = utf8_from_ascii (codes "(module (func nop))") refl; pieces = lexed }; are_words = worded; grammar = parsed; resolves = resolved }

-- ---- a folded instruction and its flat list

abbrev zero_there : N.Placed
zero_there = record { at = 22; text = codes "0" }

abbrev two_there : N.Placed
two_there = record { at = 38; text = codes "2" }

-- ( i32.add ( local.get 0 ) ( i32.const 2 ) ) stands for local.get 0, i32.const 2, i32.add
pub folded_sum : G.Folded
    (LeftBracket ∷ Op (o.Binary (B.Add T.I32)) ∷ LeftBracket ∷ Op o.LocalGet ∷ Number zero_there ∷ RightBracket ∷ LeftBracket ∷ Op (o.Const T.I32) ∷ Number two_there ∷ RightBracket ∷ RightBracket ∷ []) []
    (N.Indexed o.LocalGet (N.Numbered zero_there) ∷ N.Const T.I32 two_there ∷ N.Simple (o.Binary (B.Add T.I32)) ∷ []) []
folded_sum = G.operator (G.simply refl) (G.folded_then (G.operator (G.with_index refl G.number_index) G.no_folded) (G.folded_then (G.operator G.const G.no_folded) G.no_folded))

-- ---- the characters by name

pub characters_are : (ascii.tab ∷ ascii.newline ∷ ascii.carriage_return ∷ ascii.space ∷ ascii.exclamation_mark ∷ ascii.double_quote ∷ ascii.hash ∷ ascii.dollar ∷ ascii.single_quote ∷ ascii.left_parenthesis
    ∷ ascii.right_parenthesis ∷ ascii.asterisk ∷ ascii.plus ∷ ascii.minus ∷ ascii.slash ∷ ascii.digit_0 ∷ ascii.digit_9 ∷ ascii.colon ∷ ascii.semicolon ∷ ascii.less_than
    ∷ ascii.at_sign ∷ ascii.upper_a ∷ ascii.upper_f ∷ ascii.upper_z ∷ ascii.backslash ∷ ascii.caret ∷ ascii.underscore ∷ ascii.backquote ∷ ascii.lower_a ∷ ascii.lower_f
    ∷ ascii.lower_n ∷ ascii.lower_r ∷ ascii.lower_t ∷ ascii.lower_u ∷ ascii.lower_x ∷ ascii.lower_z ∷ ascii.left_brace ∷ ascii.bar ∷ ascii.right_brace ∷ ascii.tilde ∷ [])
    ≡ codes "\t\n\r !\"#$'()*+-/09:;<@AFZ\\^_`afnrtuxz{|}~"
characters_are = refl
