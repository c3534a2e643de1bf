-- The values of globals: lent before the first write, and then their own.
use Rattle.std.specs.Prelude.{◌≡◌, ◌≤◌, List, [], ◌∷◌, Vec, length, vec_capacity}
use Rattle.wtypes.specs.declared.Value.{Value}

abbrev pub Values : Type 0
Values = List Value

-- their own values, where there are such, and else those that are lent
abbrev pub standing : Values → Values → Values
standing [] lent = lent
standing (v ∷ vs) lent = v ∷ vs

-- there is room for all of them, as long as none is their own
abbrev pub HasRoom : {A : Type 0} → Vec Value A → Values → Type 0
HasRoom own lent = own.items ≡ [] → length lent ≤ vec_capacity own
