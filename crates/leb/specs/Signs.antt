-- A signed number by its sign: n itself, or -n - 1.
use Rattle.std.specs.Prelude.{ℕ, ◌-◌, ◌%◌, ℤ, pos, negsuc, Bool, true, false}

abbrev pub signed_part : Bool → ℕ → ℤ
signed_part false n = pos n
signed_part true n = negsuc n

-- its lowest seven bits
abbrev pub low_bits : Bool → ℕ → ℕ
low_bits false n = n % 128
low_bits true n = 127 - n % 128
