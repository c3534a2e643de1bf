-- The abstract syntax that a module in memory stands for.
use Rattle.spec_modules.specs.Syntax as syntax
use Rattle.module_tree.specs.declared.module.Module.{Module}
use Rattle.module_tree.specs.ModuleView.{module_of}

abbrev pub module_view : {A : Type 0} → Module A → syntax.Module
module_view m = module_of m.types.items m.imports.items m.funcs.items m.tables.items m.memories.items m.globals.items m.exports.items m.start m.elements.items m.datas.items
