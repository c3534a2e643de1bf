-- Fields that make a module stand in the order of the rules.
use Rattle.std.proofs.Common.{◌≡◌, ℕ, true, List, [], None, refl, sym}
use Rattle.std.proofs.lemmas.Option.{none-some}
use Rattle.spec_modules.specs.Syntax as S
use Rattle.spec_modules.specs.Limits.{both}
use Rattle.spec_text.specs.FieldsOfBytes as N
use Rattle.spec_text.specs.Spaces.{Spaces}
use Rattle.spec_text.specs.Fields.{Makes}
use Rattle.text_tree.specs.Order.{is_import, is_start, none, imports_first, one_start, in_order}

no_import_behind : {s : Spaces} {fs : List N.Field} {f : ℕ} {m : S.Module} → Makes s fs f m → m.imports ≡ [] → none is_import fs ≡ true
no_import_behind Makes.end e = refl
no_import_behind (Makes.type mk) e = no_import_behind mk e
no_import_behind (Makes.import is mk) e = absurd (cc)
no_import_behind (Makes.func free u d b mk) e = no_import_behind mk e
no_import_behind (Makes.table free is mk) e = no_import_behind mk e
no_import_behind (Makes.memory free is mk) e = no_import_behind mk e
no_import_behind (Makes.global free b mk) e = no_import_behind mk e
no_import_behind (Makes.export is mk) e = no_import_behind mk e
no_import_behind (Makes.start free st mk) e = no_import_behind mk e
no_import_behind (Makes.elem st b sts mk) e = no_import_behind mk e
no_import_behind (Makes.data_segment st b mk) e = no_import_behind mk e

imports_are_first : {s : Spaces} {fs : List N.Field} {f : ℕ} {m : S.Module} → Makes s fs f m → imports_first fs ≡ true
imports_are_first Makes.end = refl
imports_are_first (Makes.type mk) = imports_are_first mk
imports_are_first (Makes.import is mk) = imports_are_first mk
imports_are_first (Makes.func free u d b mk) = no_import_behind mk free
imports_are_first (Makes.table free is mk) = no_import_behind mk free
imports_are_first (Makes.memory free is mk) = no_import_behind mk free
imports_are_first (Makes.global free b mk) = no_import_behind mk free
imports_are_first (Makes.export is mk) = imports_are_first mk
imports_are_first (Makes.start free st mk) = imports_are_first mk
imports_are_first (Makes.elem st b sts mk) = imports_are_first mk
imports_are_first (Makes.data_segment st b mk) = imports_are_first mk

no_start_behind : {s : Spaces} {fs : List N.Field} {f : ℕ} {m : S.Module} → Makes s fs f m → m.start ≡ None → none is_start fs ≡ true
no_start_behind Makes.end e = refl
no_start_behind (Makes.type mk) e = no_start_behind mk e
no_start_behind (Makes.import is mk) e = no_start_behind mk e
no_start_behind (Makes.func free u d b mk) e = no_start_behind mk e
no_start_behind (Makes.table free is mk) e = no_start_behind mk e
no_start_behind (Makes.memory free is mk) e = no_start_behind mk e
no_start_behind (Makes.global free b mk) e = no_start_behind mk e
no_start_behind (Makes.export is mk) e = no_start_behind mk e
no_start_behind (Makes.start {n = n} free st mk) e = absurd (none-some n (sym e))
no_start_behind (Makes.elem st b sts mk) e = no_start_behind mk e
no_start_behind (Makes.data_segment st b mk) e = no_start_behind mk e

start_is_one : {s : Spaces} {fs : List N.Field} {f : ℕ} {m : S.Module} → Makes s fs f m → one_start fs ≡ true
start_is_one Makes.end = refl
start_is_one (Makes.type mk) = start_is_one mk
start_is_one (Makes.import is mk) = start_is_one mk
start_is_one (Makes.func free u d b mk) = start_is_one mk
start_is_one (Makes.table free is mk) = start_is_one mk
start_is_one (Makes.memory free is mk) = start_is_one mk
start_is_one (Makes.global free b mk) = start_is_one mk
start_is_one (Makes.export is mk) = start_is_one mk
start_is_one (Makes.start free st mk) = no_start_behind mk free
start_is_one (Makes.elem st b sts mk) = start_is_one mk
start_is_one (Makes.data_segment st b mk) = start_is_one mk

pub made_in_order : {s : Spaces} {fs : List N.Field} {f : ℕ} {m : S.Module} → Makes s fs f m → in_order fs ≡ true
made_in_order {fs = fs} mk = both (imports_first fs) (one_start fs) (imports_are_first mk) (start_is_one mk)
