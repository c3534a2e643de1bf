-- What a call of the checker says.
use Rattle.std.specs.Prelude.{◌≡◌, ◌++◌, List, Option, Some, None, Result, Ok, Err, map, reverse}
use Rattle.wtypes.specs.declared.ValType.{ValType}
use Rattle.wtypes.specs.declared.FuncType.{FuncType}
use Rattle.spec_typing.specs.Typing.{Context}
use Rattle.spec_typing.specs.Modules as modules
use Rattle.spec_typing.specs.Modules.{type_at, is_not_empty}
use Rattle.spec_typing.specs.Principal.{Stack}
use Rattle.module_tree.specs.ModuleView.{func_type_view, limits_view, global_type_view}
use Rattle.body_typing.specs.declared.spaces.Spaces.{Spaces}
use Rattle.body_typing.specs.declared.scope.Scope.{Scope}
use Rattle.body_typing.specs.declared.scope.TypeRefusal.{TypeRefusal}
use Rattle.body_typing.specs.declared.scope.TypeRefusal.TheVariants.{At, NoMemory}

-- what bodies may name, as the module's index spaces have it
abbrev pub spaces_view : {A W : _} → List (FuncType A) → Spaces W → modules.Spaces
spaces_view types s = record {
  types = map func_type_view types;
  funcs = s.funcs.items;
  has_table = is_not_empty (map limits_view s.tables.items);
  has_memory = is_not_empty (map limits_view s.memories.items);
  globals = map global_type_view s.globals.items;
}

-- the context in blocks with these labels, the innermost last
abbrev pub context_at : {A W : _} → Scope A W → List (Option ValType) → Context
context_at scope labels = record {
  types = map func_type_view scope.types.now.items;
  funcs = map (type_at (map func_type_view scope.types.now.items)) scope.spaces.now.funcs.items;
  has_table = is_not_empty (map limits_view scope.spaces.now.tables.items);
  has_memory = is_not_empty (map limits_view scope.spaces.now.memories.items);
  globals = map global_type_view scope.spaces.now.globals.items;
  locals = scope.own.now.params.items ++ scope.locals.now.items;
  labels = reverse labels;
  result = scope.result;
}

-- where a call passes, this is the stack after, and where it refuses there is none
abbrev pub Meets : {T : Type 0} → Result T TypeRefusal → Stack → Option Stack → Type 0
Meets (Ok x) after expected = expected ≡ Some after
Meets (Err (At func ordinal rule)) after expected = expected ≡ None
Meets (Err NoMemory) after expected = Unit {0}

-- where a call gives something, that is what is expected, and where it refuses nothing is
abbrev pub Gives : {T X : Type 0} → (T → X) → Result T TypeRefusal → Option X → Type 0
Gives view (Ok x) expected = expected ≡ Some (view x)
Gives view (Err (At func ordinal rule)) expected = expected ≡ None
Gives view (Err NoMemory) expected = Unit {0}

-- where a call passes, this holds, and where it refuses it does not
abbrev pub Tells : {T : Type 0} → Result T TypeRefusal → Type 0 → Type 0
Tells (Ok x) P = P
Tells (Err (At func ordinal rule)) P = P → ⊥
Tells (Err NoMemory) P = Unit {0}
