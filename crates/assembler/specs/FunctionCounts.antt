-- The functions of fields.
use Rattle.std.specs.Prelude.{ℕ, ◌+◌, List, [], ◌∷◌}
use Rattle.spec_text.specs.FieldsOfBytes as N
use Rattle.spec_text.specs.Fields.{imported_funcs}

-- 1 for a field that defines a function
abbrev pub defined_funcs : N.Field → ℕ
defined_funcs (N.FuncField name exports w locals body) = 1
defined_funcs f = 0

-- 1 for a field that defines or imports a function
abbrev pub has_func : N.Field → ℕ
has_func f = imported_funcs f + defined_funcs f

abbrev pub count_funcs : List N.Field → ℕ
count_funcs [] = 0
count_funcs (f ∷ fs) = has_func f + count_funcs fs

abbrev pub count_defined : List N.Field → ℕ
count_defined [] = 0
count_defined (f ∷ fs) = defined_funcs f + count_defined fs
