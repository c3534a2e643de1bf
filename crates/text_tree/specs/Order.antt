-- The rules on the order of fields: imports stand before all functions, tables, memories and globals; start stands at
-- most once.
use Rattle.std.specs.Prelude.{Bool, true, false, ◌&&◌, List, [], ◌∷◌, cond}
use Rattle.spec_text.specs.Forms as N

abbrev pub is_import : {T : Type 0} → N.Field T → Bool
is_import (N.ImportField m item name desc) = true
is_import f = false

abbrev pub is_start : {T : Type 0} → N.Field T → Bool
is_start (N.StartField i) = true
is_start f = false

-- a function, a table, a memory or a global
abbrev pub defines : {T : Type 0} → N.Field T → Bool
defines (N.FuncField name exports w locals body) = true
defines (N.TableField name b) = true
defines (N.MemoryField name b) = true
defines (N.GlobalField name t init) = true
defines f = false

-- it is so of no field
abbrev pub none : {T : Type 0} → (N.Field T → Bool) → List (N.Field T) → Bool
none p [] = true
none p (f ∷ fs) = cond (p f) false (none p fs)

-- behind a field that defines something there is no import
abbrev pub imports_first : {T : Type 0} → List (N.Field T) → Bool
imports_first [] = true
imports_first (f ∷ fs) = cond (defines f) (none is_import fs) (imports_first fs)

-- behind a start there is no other
abbrev pub one_start : {T : Type 0} → List (N.Field T) → Bool
one_start [] = true
one_start (f ∷ fs) = cond (is_start f) (none is_start fs) (one_start fs)

abbrev pub in_order : {T : Type 0} → List (N.Field T) → Bool
in_order fs = imports_first fs && one_start fs
