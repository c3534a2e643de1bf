-- The numbers of the limits of the profile.
use Rattle.std.specs.Prelude.{ℕ}
use Rattle.module_tree.specs.declared.limit.Limit.{Limit}
use Rattle.module_tree.specs.declared.limit.Limit.TheVariants.{Bytes, Functions, Locals, Nesting, Labels}

abbrev pub number_of : Limit → ℕ
number_of Bytes = 1
number_of Functions = 2
number_of Locals = 3
number_of Nesting = 4
number_of Labels = 5
