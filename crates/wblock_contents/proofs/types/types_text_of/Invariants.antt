use Rattle.std.proofs.Common.{◌≡◌, ◌++◌, drop, string_bytes}
use Rattle.wblock_contents.specs.ModuleText.{types_text}
use Rattle.wblock_contents.proofs.types.types_text_of.Given as goal

abbrev pub invariant-loop-value_type : goal.invariant-loop-value_type
invariant-loop-value_type l = string_bytes l.text ++ types_text (drop l.value_type-index l.types) ≡ types_text l.types
