-- What a typed module holds.
use Rattle.module_tree.specs.declared.module.Module.{Module}
use Rattle.typing.specs.declared.valid.Valid.{Valid}

-- the module in memory
abbrev pub tree_of : {A : Type 0} → Valid A → Module A
tree_of v = v.tree
