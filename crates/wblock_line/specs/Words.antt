-- The words of a line, with its options taken out.
use Rattle.std.specs.Prelude.{◌≡◌, ℕ, List, [], ◌∷◌, ◌++◌, Option, Some, None, Bool, true, false, ◌==◌, ◌||◌, nat_lt, codes, length, map, drop, option_map, slice_index, if◌then◌else◌}
use Rattle.std.specs.Borrow.{Bor}
use Rattle.std.specs.Str.{bytes_eq}
use Rattle.std.specs.List.{position_or_len, before_first, after_first}
use Rattle.wblock_line.specs.declared.words.Line.{Line as TheLine}

-- an option is its name and its value
abbrev pub Choice : Type 0
Choice = List ℕ × List ℕ

abbrev pub choices : List (Bor (List ℕ) × Bor (List ℕ)) → List Choice
choices options = map (λ o. (o.0.now, o.1.now)) options

pub record Line : Type 0 where
  pub words : List (List ℕ)
  pub options : List Choice

abbrev pub is_equals : ℕ → Bool
is_equals b = b == 0x3D

-- an option begins with a hyphen
abbrev pub is_option : List ℕ → Bool
is_option word = slice_index word 0 == 0x2D

-- a switch is an option that has no value; it is taken as one with an empty value
abbrev pub is_switch : List ℕ → Bool
is_switch word =
    bytes_eq word (codes "--json")
    || bytes_eq word (codes "--force")
    || bytes_eq word (codes "--boosted")
    || bytes_eq word (codes "--signed")
    || bytes_eq word (codes "--unchecked")

-- nothing more is wanted of the next word: `NAME=VALUE`, or a switch
abbrev pub has_value : List ℕ → Bool
has_value word = is_switch word || nat_lt (position_or_len is_equals word) (length word)

abbrev pub halves : List ℕ → Choice
halves word = (before_first is_equals word, after_first is_equals word)

-- the switch of this name alone and without a value, or nothing
abbrev pub AsksAlone : (name : List ℕ) → List Choice → Bool → Type 0
AsksAlone name options true = options ≡ (name, []) ∷ []
AsksAlone name options false = options ≡ []

-- words and options that stand before others
abbrev pub with_front : List (List ℕ) → List Choice → Option Line → Option Line
with_front words options line = option_map (λ (l : Line). record { words = words ++ l.words; options = options ++ l.options }) line

-- An option stands anywhere, as `NAME=VALUE` or as `NAME VALUE`, and a switch as `NAME`. There is no line whose last word is an option without its value.
unfoldable pub split : List (List ℕ) → Option Line
split [] = Some (record { words = []; options = [] })
split (w ∷ []) =
    if is_option w then (if has_value w then Some (record { words = []; options = halves w ∷ [] }) else None)
    else Some (record { words = w ∷ []; options = [] })
split (w ∷ v ∷ ws) =
    if is_option w then (if has_value w then with_front [] (halves w ∷ []) (split (v ∷ ws)) else with_front [] ((w, v) ∷ []) (split ws))
    else with_front (w ∷ []) [] (split (v ∷ ws))

-- so many words were taken into a line: what is left adds what all of them added before
abbrev pub IsTaken : Line → List (List ℕ) → Line → Option ℕ → Type 0
IsTaken old words new (Some n) = with_front new.words new.options (split (drop n words)) ≡ with_front old.words old.options (split words)
IsTaken old words new None = split words ≡ None

abbrev pub line_of : TheLine → Line
line_of l = record { words = map (λ w. w.now) l.words.items; options = map (λ o. (o.0.now, o.1.now)) l.options.items }
