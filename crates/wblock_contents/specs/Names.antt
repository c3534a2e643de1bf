-- Names as the text format writes them.
use Rattle.std.specs.Prelude.{ℕ, Bool, List, [], ◌∷◌, ◌++◌, ◌==◌, ◌&&◌, not, nat_le, if◌then◌else◌}
use Rattle.std.specs.List.{flat_map}
use Rattle.hex.specs.Hex.{encode_lower}

-- a visible character of ASCII, or a space, that is neither a quote nor a backslash
abbrev pub is_plain : ℕ → Bool
is_plain b = nat_le 32 b && nat_le b 126 && not (b == 34) && not (b == 92)

-- such a byte as it is, any other as `\hh`
abbrev pub byte_text : ℕ → List ℕ
byte_text b = if is_plain b then b ∷ [] else 92 ∷ encode_lower (b ∷ [])

-- a name between quotes, byte by byte
abbrev pub name_text : List ℕ → List ℕ
name_text name = 34 ∷ flat_map byte_text name ++ 34 ∷ []
