use Rattle.std.proofs.Common.{◌≡◌, get_or, sym, arith, rules}
use Rattle.module_tree.specs.ModuleView.{import_view}
use Rattle.module_tree.specs.Modules.{module_view}
use Rattle.link.specs.Tests.{is_call}
use Rattle.link.proofs.Faults.{none_fails}
use Rattle.link.proofs.Linked.{view_at, unknown_import, import_type}
use Rattle.link.proofs.deploy.import_refusal.Goals as goal

pub returns-in-None-clause-passes : goal.returns-in-None-clause-passes
returns-in-None-clause-passes g c = λ _. let m = module_view c.args.tree.now in none_fails (is_call m.types) 0 m.imports (sym c.in-None.ensures.first)

pub returns-in-None-call_named-clause-says : goal.returns-in-None-call_named-clause-says
returns-in-None-call_named-clause-says g c =
    let m = module_view c.args.tree.now in
    let is = c.args.tree.now.imports.items in
    let x = c.index.result.now in
    let at : x ≡ get_or is c.in-Some.place x = search rules in
    let same : c.in-Some-number_at.number ≡ c.in-Some.place = omega (arith, c.in-Some-number_at.ensures) in
    unknown_import m c.in-Some.place c.in-Some-number_at.number (import_view x) same (view_at import_view is c.in-Some.place x c.in-Some.ensures.there at) (sym c.in-Some.ensures.first) (sym c.in-None-call_named.ensures)

pub returns-in-Some-call_named-clause-says : goal.returns-in-Some-call_named-clause-says
returns-in-Some-call_named-clause-says g c =
    let m = module_view c.args.tree.now in
    let is = c.args.tree.now.imports.items in
    let x = c.index.result.now in
    let at : x ≡ get_or is c.in-Some.place x = search rules in
    let same : c.in-Some-number_at.number ≡ c.in-Some.place = omega (arith, c.in-Some-number_at.ensures) in
    import_type m c.in-Some.place c.in-Some-number_at.number (import_view x) c.in-Some-call_named.field-0 same (view_at import_view is c.in-Some.place x c.in-Some.ensures.there at) (sym c.in-Some.ensures.first) (sym c.in-Some-call_named.ensures)
