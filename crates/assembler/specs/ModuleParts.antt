-- The parts of a module that the fields of a text make, field by field from the last.
use Rattle.std.specs.Prelude.{◌≡◌, ℕ, suc, List, [], ◌∷◌, ◌++◌, Option, Some, None, is_none, option_and_then, cond}
use Rattle.std.specs.List.{All}
use Rattle.spec_modules.specs.Syntax as S
use Rattle.spec_modules.specs.Spells.{ExpressionFits}
use Rattle.spec_text.specs.FieldsOfBytes as N
use Rattle.spec_text.specs.Spaces.{Spaces}
use Rattle.spec_text.specs.Fields.{Makes}
use Rattle.text_resolve.specs.Types.{is_empty}
use Rattle.text_fields.specs.Parts.{FieldPart, NoPart, ImportPart, FuncPart, TablePart, MemoryPart, GlobalPart, ExportPart, StartPart, ElementPart, DataPart, part_at}

-- a module of these types alone
abbrev pub only_types : List S.FuncType → S.Module
only_types types = record { types = types; imports = []; funcs = []; tables = []; memories = []; globals = []; exports = []; start = None; elements = []; datas = [] }

-- a function, a table, a memory or a global stands before all imports
abbrev pub unless_imports : S.Module → S.Module → Option S.Module
unless_imports m n = cond (is_empty m.imports) (Some n) None

-- a module with one more part in front
abbrev pub put_in : FieldPart → S.Module → Option S.Module
put_in NoPart m = Some m
put_in (ImportPart i) m = Some (record m { imports = i ∷ m.imports })
put_in (FuncPart g exports) m = unless_imports m (record m { funcs = g ∷ m.funcs; exports = exports ++ m.exports })
put_in (TablePart l) m = unless_imports m (record m { tables = l ∷ m.tables })
put_in (MemoryPart l) m = unless_imports m (record m { memories = l ∷ m.memories })
put_in (GlobalPart g) m = unless_imports m (record m { globals = g ∷ m.globals })
put_in (ExportPart e) m = Some (record m { exports = e ∷ m.exports })
put_in (StartPart n) m = cond (is_none m.start) (Some (record m { start = Some n })) None
put_in (ElementPart e) m = Some (record m { elements = e ∷ m.elements })
put_in (DataPart d) m = Some (record m { datas = d ∷ m.datas })

-- the number of the next defined function behind a field
abbrev pub next_func : N.Field → ℕ → ℕ
next_func (N.FuncField name exports w locals body) f = suc f
next_func x f = f

-- what fields make, where the first defined function has the number f
abbrev pub make_at : Spaces → List N.Field → ℕ → Option S.Module
make_at s [] f = Some (only_types s.types)
make_at s (x ∷ xs) f = option_and_then (λ m. option_and_then (λ p. put_in p m) (part_at s f x)) (make_at s xs (next_func x f))

-- the expressions of a module are within the limits on nesting and labels
pub record ExpressionsFit (m : S.Module) : Type 0 where
  pub bodies : All (λ (f : S.Func). ExpressionFits f.body) m.funcs
  pub globals : All (λ (g : S.Global). ExpressionFits g.init) m.globals
  pub elements : All (λ (e : S.Element). ExpressionFits e.offset) m.elements
  pub datas : All (λ (d : S.DataSegment). ExpressionFits d.offset) m.datas

-- The reading gives the module that the fields make, and nothing where they make none whose expressions are within the limits.
abbrev pub ReadingIsExact : Type 0
ReadingIsExact = (s : Spaces) (fs : List N.Field) (f : ℕ) (m : S.Module) → (Makes s fs f m → ExpressionsFit m → make_at s fs f ≡ Some m) × (make_at s fs f ≡ Some m → Makes s fs f m × ExpressionsFit m)

-- no fields make two modules whose expressions are within the limits
abbrev pub ModulesAreOne : Type 0
ModulesAreOne = (s : Spaces) (fs : List N.Field) (f : ℕ) (m n : S.Module) → Makes s fs f m → ExpressionsFit m → Makes s fs f n → ExpressionsFit n → m ≡ n
