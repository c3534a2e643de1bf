-- Lines are read one after another.
use Rattle.std.proofs.Common.{◌≡◌, ◌≢◌, ℕ, ◌<◌, ◌≤◌, ◌↔◌, List, [], ◌∷◌, ◌++◌, ◌==◌, Bool, true, false, Option, Some, None, IsSome, IfSome, IsUtf8, All, Vec, vec_len, length, option_map, string_bytes, String, refl, sym, ap, subst, ◌∙◌, inl, inr, arith, append_assoc, append-nil, if◌then◌else◌}
use Rattle.std.proofs.Common.{flat_map, Global}
use Rattle.std.proofs.lemmas.Bool.{both_ways, eqb-true, false≢true}
use Rattle.std.proofs.lemmas.List.{drop_at, flat_map_more, nil_from_length, take_at}
use Rattle.std.proofs.lemmas.Str.{IsUtf8-string_bytes}
use Rattle.std.proofs.lemmas.List.Elements.{All-drop, All-head, All-nil, All-push, All-take}
use Rattle.wblock_chain.specs.declared.request.CallsRead.TheVariants as read
use Rattle.wblock_chain.specs.declared.request.Request.TheVariants.{Text, TooLong, NotUtf8}
use Rattle.wblock_chain.specs.Requests.{AreShort, IsAskedLine, IsCallsRead, IsRequest}
use Rattle.wblock_chain.specs.Sessions.{AreFull, IsUnfinished}
use Rattle.wblock_chain.specs.Words.{AsksCalls, takes_calls}
use Rattle.wblock_calls.specs.Texts.{words_of}

-- ---- calls

abbrev pub ended : List ℕ → List ℕ
ended line = line ++ 10 ∷ []

-- the text is that of the calls, or one of them is too long
abbrev pub Fits : Bool → List ℕ → List (List ℕ) → Type 0
Fits true text calls = AreShort calls × (text ≡ flat_map ended calls)
Fits false text calls = ¬ AreShort calls

-- so far these calls were read, none of which is empty
pub record AreRead (fits : Bool) (text : List ℕ) (old new : List (List ℕ)) : Type 0 where
  pub calls : List (List ℕ)
  pub lines_are : old ≡ calls ++ new
  pub full : AreFull calls
  pub fit : Fits fits text calls

pub none_read : (text : List ℕ) (lines : List (List ℕ)) → text ≡ [] → AreRead true text lines lines
none_read text lines e = record { calls = []; lines_are = refl; full = All-nil (λ line. line ≢ []); fit = (All-nil (λ line. length line ≤ 1048576), e) }

-- one line more
behind_calls : (calls : List (List ℕ)) (line : List ℕ) (old mid new : List (List ℕ)) → old ≡ calls ++ mid → mid ≡ line ∷ new → old ≡ (calls ++ line ∷ []) ++ new
behind_calls calls line old mid new e m = e ∙ ap (λ (ls : List (List ℕ)). calls ++ ls) m ∙ sym (append_assoc calls (line ∷ []) new)

one_read : (text line : List ℕ) (old mid new : List (List ℕ)) → AreRead true text old mid → mid ≡ line ∷ new → line ≢ [] → length line ≤ 1048576 → AreRead true (text ++ line ++ 10 ∷ []) old new
one_read text line old mid new are m some short = record {
  calls = are.calls ++ line ∷ [];
  lines_are = behind_calls are.calls line old mid new are.lines_are m;
  full = All-push (λ line. line ≢ []) are.calls line are.full some;
  fit = (
    All-push (λ line. length line ≤ 1048576) are.calls line are.fit.0 short,
    append_assoc text line (10 ∷ []) ∙ (ap (λ (t : List ℕ). t ++ ended line) are.fit.1 ∙ flat_map_more ended [] are.calls line),
  );
}

-- where one of the calls is too long, one line more changes nothing
one_passed : (text line : List ℕ) (old mid new : List (List ℕ)) → AreRead false text old mid → mid ≡ line ∷ new → line ≢ [] → AreRead false text old new
one_passed text line old mid new are m some = record {
  calls = are.calls ++ line ∷ [];
  lines_are = behind_calls are.calls line old mid new are.lines_are m;
  full = All-push (λ line. line ≢ []) are.calls line are.full some;
  fit = λ all. are.fit (subst AreShort (take_at are.calls (line ∷ []) (length are.calls) refl) (All-take (λ line. length line ≤ 1048576) (length are.calls) (are.calls ++ line ∷ []) all));
}

-- a line that is too long
pub long_read : (fits : Bool) (text line : List ℕ) (old mid new : List (List ℕ)) → AreRead fits text old mid → mid ≡ line ∷ new → 1048576 < length line → AreRead false text old new
long_read fits text line old mid new are m long = record {
  calls = are.calls ++ line ∷ [];
  lines_are = behind_calls are.calls line old mid new are.lines_are m;
  full = All-push (λ line. line ≢ []) are.calls line are.full (λ e. let none = ap (λ (b : List ℕ). length b) e in absurd (omega (arith, none, long)));
  fit = λ all.
      let last : AreShort (line ∷ []) = subst AreShort (drop_at are.calls (line ∷ []) (length are.calls) refl) (All-drop (λ line. length line ≤ 1048576) (length are.calls) (are.calls ++ line ∷ []) all) in
      let short = All-head (λ line. length line ≤ 1048576) line [] last in
      absurd (omega (arith, short, long));
}

-- one line more, kept or not
pub line_read : (fits : Bool) (text more line : List ℕ) (old mid new : List (List ℕ)) → AreRead fits text old mid → mid ≡ line ∷ new → line ≢ [] → length line ≤ 1048576 → more ≡ (if fits then text ++ line ++ 10 ∷ [] else text) → AreRead fits more old new
line_read true text more line old mid new are m some short is = subst (λ (t : List ℕ). AreRead true t old new) (sym is) (one_read text line old mid new are m some short)
line_read false text more line old mid new are m some short is = subst (λ (t : List ℕ). AreRead false t old new) (sym is) (one_passed text line old mid new are m some)

pub kept_line : (fits : Bool) (text more lent : List ℕ) (line : Vec ℕ Global) (old mid new : List (List ℕ)) → AreRead fits text old mid → mid ≡ line.items ∷ new → line.items ≢ [] → length line.items ≤ 1048576 → lent ≡ line.items
    → more ≡ (if fits then text ++ lent ++ 10 ∷ [] else text) → AreRead fits more old new
kept_line fits text more lent line old mid new are m some short same is =
    line_read fits text more line.items old mid new are m some short (subst (λ (b : List ℕ). more ≡ (if fits then text ++ b ++ 10 ∷ [] else text)) same is)

-- a line is empty or not
pub was_empty : (b : Bool) (line : Vec ℕ Global) → b ≡ (vec_len line == 0) → b ≡ true → line.items ≡ []
was_empty b line is e =
    let size = line.ok.0 in
    let none = eqb-true (vec_len line) 0 (sym is ∙ e) in
    nil_from_length line.items (omega (arith, size, none))

pub not_empty : (b : Bool) (line : Vec ℕ Global) → b ≡ (vec_len line == 0) → b ≡ false → line.items ≢ []
not_empty b line is e none =
    let size = line.ok.0 in
    let count = ap (λ (bytes : List ℕ). length bytes) none in
    let zeros : vec_len line ≡ 0 = omega (arith, size, count) in
    let never : (0 == 0) ≡ false = subst (λ (n : ℕ). (n == 0) ≡ false) zeros (sym is ∙ e) in cc

-- an empty line ends the calls
ended_at : (calls : List (List ℕ)) (line : List ℕ) (old mid new : List (List ℕ)) → old ≡ calls ++ mid → mid ≡ line ∷ new → line ≡ [] → old ≡ calls ++ [] ∷ new
ended_at calls line old mid new e m none = e ∙ ap (λ (ls : List (List ℕ)). calls ++ ls) (m ∙ ap (λ (l : List ℕ). l ∷ new) none)

pub all_read : (fits : Bool) (text : Vec ℕ Global) (line : List ℕ) (old mid new : List (List ℕ)) → AreRead fits text.items old mid → mid ≡ line ∷ new → line ≡ [] → IsCallsRead old (if fits then read.Text text else read.TooLong) new
all_read true text line old mid new are m none = (are.calls, ended_at are.calls line old mid new are.lines_are m none, are.full, are.fit.0, ap Some are.fit.1)
all_read false text line old mid new are m none = (are.calls, ended_at are.calls line old mid new are.lines_are m none, are.full, are.fit)

-- no line is left
pub never_ended : (fits : Bool) (text : List ℕ) (old mid new : List (List ℕ)) → AreRead fits text old mid → mid ≡ [] → new ≡ [] → IsCallsRead old read.Unfinished new
never_ended fits text old mid new are m none = (subst AreFull (sym (are.lines_are ∙ (ap (λ (ls : List (List ℕ)). are.calls ++ ls) m ∙ append-nil are.calls))) are.full, none)

-- ---- a line and the calls behind it

pub asks_none : (line : List ℕ) (old new : List (List ℕ)) → ¬ AsksCalls line → old ≡ line ∷ new → IsAskedLine line None old new
asks_none line old new never e = record { lines_are = e; full = tt; asked = (λ some. absurd (false≢true some), λ asks. absurd (never asks)) }

asks_some : (line : List ℕ) (calls old mid new : List (List ℕ)) → AsksCalls line → old ≡ line ∷ mid → mid ≡ calls ++ [] ∷ new → AreFull calls → IsAskedLine line (Some calls) old new
asks_some line calls old mid new asks e m full = record {
  lines_are = e ∙ ap (λ (ls : List (List ℕ)). line ∷ ls) (m ∙ sym (append_assoc calls ([] ∷ []) new));
  full = full;
  asked = (λ some. asks, λ a. refl);
}

pub read_none : (old new : List (List ℕ)) → old ≡ [] → new ≡ [] → IsRequest old None new
read_none old new e none = (subst IsUnfinished (sym e) tt, none)

pub read_long : (line : List ℕ) (old new : List (List ℕ)) → old ≡ line ∷ new → 1048576 < length line → IsRequest old (Some TooLong) new
read_long line old new e long = (line, None, asks_none line old new (λ asks. let short = asks.short in absurd (omega (arith, short, long))) e, inl long)

pub read_no_text : (line : List ℕ) (old new : List (List ℕ)) → old ≡ line ∷ new → ¬ IsUtf8 line → IsRequest old (Some NotUtf8) new
read_no_text line old new e never = (line, asks_none line old new (λ asks. never asks.utf8) e, never)

pub read_text : (line : String Global) (old new : List (List ℕ)) → old ≡ string_bytes line ∷ new → length (string_bytes line) ≤ 1048576 → ¬ AsksCalls (string_bytes line) → IsRequest old (Some (Text line None)) new
read_text line old new e short never = (None, asks_none (string_bytes line) old new never e, short, tt, refl)

pub read_asking : (line : String Global) (text : Vec ℕ Global) (old mid new : List (List ℕ)) → old ≡ string_bytes line ∷ mid → length (string_bytes line) ≤ 1048576 → AsksCalls (string_bytes line) → IsCallsRead mid (read.Text text) new → IsRequest old (Some (Text line (Some text))) new
read_asking line text old mid new e short asks is = (Some is.0, asks_some (string_bytes line) is.0 old mid new asks e is.1 is.2, short, is.3, is.4)

pub read_too_long : (line : List ℕ) (old mid new : List (List ℕ)) → old ≡ line ∷ mid → AsksCalls line → IsCallsRead mid read.TooLong new → IsRequest old (Some TooLong) new
read_too_long line old mid new e asks is = (line, Some is.0, asks_some line is.0 old mid new asks e is.1 is.2, inr is.3)

pub read_unended : (line : List ℕ) (old mid new : List (List ℕ)) → old ≡ line ∷ mid → AsksCalls line → IsCallsRead mid read.Unfinished new → IsRequest old None new
read_unended line old mid new e asks is = (subst IsUnfinished (sym e) (asks, is.0), is.1)

-- ---- a line that is a text

pub record IsTextLine (text : String Global) (asks : Bool) (old mid : List (List ℕ)) : Type 0 where
  pub lines_are : old ≡ string_bytes text ∷ mid
  pub short : length (string_bytes text) ≤ 1048576
  pub asks_is : asks ≡ takes_calls (words_of (string_bytes text))

pub text_line : (text : String Global) (line : Vec ℕ Global) (lent : List ℕ) (asks : Bool) (old mid : List (List ℕ)) → string_bytes text ≡ line.items → lent ≡ string_bytes text → (old ≡ line.items ∷ mid) × (length line.items ≤ 1048576) → asks ≡ takes_calls (words_of lent)
    → IsTextLine text asks old mid
text_line text line lent asks old mid bytes same found is = record {
  lines_are = found.0 ∙ ap (λ (b : List ℕ). b ∷ mid) (sym bytes);
  short = subst (λ (b : List ℕ). length b ≤ 1048576) (sym bytes) found.1;
  asks_is = is ∙ ap (λ (b : List ℕ). takes_calls (words_of b)) same;
}

does_ask : (text : String Global) (asks : Bool) (old mid : List (List ℕ)) → IsTextLine text asks old mid → asks ≡ true → AsksCalls (string_bytes text)
does_ask text asks old mid line sure = record { utf8 = IsUtf8-string_bytes text; short = line.short; takes = sym line.asks_is ∙ sure }

pub text_alone : (text : String Global) (asks : Bool) (old mid : List (List ℕ)) → IsTextLine text asks old mid → asks ≡ false → IsRequest old (Some (Text text None)) mid
text_alone text asks old mid line never = read_text text old mid line.lines_are line.short (λ does. both_ways asks never (line.asks_is ∙ does.takes))

pub text_asking : (text : String Global) (calls : Vec ℕ Global) (asks : Bool) (old mid new : List (List ℕ)) → IsTextLine text asks old mid → asks ≡ true → IsCallsRead mid (read.Text calls) new → IsRequest old (Some (Text text (Some calls))) new
text_asking text calls asks old mid new line sure is = read_asking text calls old mid new line.lines_are line.short (does_ask text asks old mid line sure) is

pub text_too_long : (text : String Global) (asks : Bool) (old mid new : List (List ℕ)) → IsTextLine text asks old mid → asks ≡ true → IsCallsRead mid read.TooLong new → IsRequest old (Some TooLong) new
text_too_long text asks old mid new line sure is = read_too_long (string_bytes text) old mid new line.lines_are (does_ask text asks old mid line sure) is

pub text_unended : (text : String Global) (asks : Bool) (old mid new : List (List ℕ)) → IsTextLine text asks old mid → asks ≡ true → IsCallsRead mid read.Unfinished new → IsRequest old None new
text_unended text asks old mid new line sure is = read_unended (string_bytes text) old mid new line.lines_are (does_ask text asks old mid line sure) is
