-- A line of a session as it is read.
use Rattle.std.specs.Prelude.{◌≡◌, ℕ, ◌<◌, ◌≤◌, ◌⊎◌, List, [], ◌∷◌, ◌++◌, true, Option, Some, None, IfSome, IsSome, IsUtf8, ◌↔◌, length, option_map, string_bytes}
use Rattle.std.specs.List.{All}
use Rattle.wblock_chain.specs.declared.request.CallsRead.{CallsRead}
use Rattle.wblock_chain.specs.declared.request.CallsRead.TheVariants as read
use Rattle.wblock_chain.specs.declared.request.Request.{Request}
use Rattle.wblock_chain.specs.declared.request.Request.TheVariants.{Text, TooLong, NotUtf8}
use Rattle.wblock_chain.specs.Sessions.{AreFull, behind, text_of_calls, IsUnfinished}
use Rattle.wblock_calls.specs.Texts.{words_of}
use Rattle.wblock_chain.specs.Words.{AsksCalls, takes_calls}

abbrev pub AreShort : List (List ℕ) → Type 0
AreShort calls = All (λ line. length line ≤ 1048576) calls

-- the lines up to an empty one were read
abbrev pub IsCallsRead : (old : List (List ℕ)) → CallsRead → (new : List (List ℕ)) → Type 0
IsCallsRead old (read.Text text) new = (calls : List (List ℕ)) × (old ≡ calls ++ [] ∷ new) × AreFull calls × AreShort calls × (Some text.items ≡ text_of_calls (Some calls))
IsCallsRead old read.TooLong new = (calls : List (List ℕ)) × (old ≡ calls ++ [] ∷ new) × AreFull calls × (¬ AreShort calls)
IsCallsRead old read.Unfinished new = AreFull old × (new ≡ [])

-- a line and the calls behind it
pub record IsAskedLine (line : List ℕ) (calls : Option (List (List ℕ))) (old new : List (List ℕ)) : Type 0 where
  pub lines_are : old ≡ line ∷ behind calls ++ new
  pub full : IfSome calls AreFull
  pub asked : IsSome calls ↔ AsksCalls line

abbrev pub IsRequest : (old : List (List ℕ)) → Option Request → (new : List (List ℕ)) → Type 0
IsRequest old None new = IsUnfinished old × (new ≡ [])
IsRequest old (Some (Text line text)) new =
    (calls : Option (List (List ℕ))) × IsAskedLine (string_bytes line) calls old new × (length (string_bytes line) ≤ 1048576) × IfSome calls AreShort × (option_map (λ t. t.items) text ≡ text_of_calls calls)
IsRequest old (Some TooLong) new = (line : List ℕ) × (calls : Option (List (List ℕ))) × IsAskedLine line calls old new × ((1048576 < length line) ⊎ ¬ IfSome calls AreShort)
IsRequest old (Some NotUtf8) new = (line : List ℕ) × IsAskedLine line None old new × ¬ IsUtf8 line

-- calls stand behind a text where it asks for them alone
abbrev pub AreAsked : (text : List ℕ) (behind : Option (List ℕ)) → Type 0
AreAsked text behind = IfSome behind (λ calls. takes_calls (words_of text) ≡ true)

abbrev pub TakesCalls : Request → Type 0
TakesCalls (Text line calls) = AreAsked (string_bytes line) (option_map (λ text. text.items) calls)
TakesCalls TooLong = Unit {0}
TakesCalls NotUtf8 = Unit {0}
