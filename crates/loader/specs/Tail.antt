-- The end of a module.
use Rattle.std.specs.Prelude.{ℕ, List, [], Option, None, length, ◌==◌, if◌then◌else◌}
use Rattle.spec_modules.specs.Syntax.{Func, DataSegment}
use Rattle.spec_modules.specs.Reading.{◌>>=◌}
use Rattle.laws_modules.specs.ReadingModules.{if_empty, slot_at, list_at, entries_at, data_at}

-- the functions of these type indices and the data segments, behind which nothing is left
unfoldable pub tail_at : List ℕ → List ℕ → Option (List Func × List DataSegment)
tail_at is bs =
    slot_at 10 (entries_at is) [] bs >>= λ funcs. list_at 11 data_at funcs.1
    >>= λ datas. if length funcs.0 == length is then if_empty (funcs.0, datas.0) datas.1 else None
