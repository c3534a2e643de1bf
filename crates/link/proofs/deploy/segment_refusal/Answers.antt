use Rattle.std.proofs.Common.{◌≡◌, ◌+◌, length, sym, ap, ◌∙◌, arith, rules}
use Rattle.module_tree.specs.ModuleView.{element_view}
use Rattle.module_tree.specs.Modules.{module_view}
use Rattle.link.proofs.Linked.{all_in_range, element_range, data_range}
use Rattle.link.proofs.Calls.{resolved}
use Rattle.link.proofs.Told.{told, passed, map_length}
use Rattle.link.proofs.deploy.segment_refusal.Goals as goal

pub returns-in-Some-clause-says : goal.returns-in-Some-clause-says
returns-in-Some-clause-says g c =
    let m = module_view c.args.tree.now in
    told m c.out_of_range.result (0 + c.in-Some.place) c.out_of_range.ensures (λ n same. element_range m c.requires.calls c.requires.typed c.in-Some.place n (omega (arith, same)) (sym c.in-Some.ensures))

pub returns-in-Some-data_fault-clause-says : goal.returns-in-Some-data_fault-clause-says
returns-in-Some-data_fault-clause-says g c =
    let m = module_view c.args.tree.now in
    let es = c.args.tree.now.elements.items in
    let long : c.len.result ≡ length es = search rules in
    let before : c.len.result ≡ length m.elements = long ∙ sym (map_length element_view es) in
    told m c.out_of_range-in-Some-data_fault.result (c.len.result + c.in-Some-data_fault.place) c.out_of_range-in-Some-data_fault.ensures
    (λ n same. data_range m c.requires.calls c.requires.typed c.in-Some-data_fault.place n (same ∙ ap (λ k. k + c.in-Some-data_fault.place) before) (sym c.in-None.ensures) (sym c.in-Some-data_fault.ensures))

pub returns-in-None-data_fault-clause-passes : goal.returns-in-None-data_fault-clause-passes
returns-in-None-data_fault-clause-passes g c = λ _. all_in_range (module_view c.args.tree.now) c.requires.calls (sym c.in-None.ensures) (sym c.in-None-data_fault.ensures)

pub returns-in-Some-clause-passed : goal.returns-in-Some-clause-passed
returns-in-Some-clause-passed g c =
    let m = module_view c.args.tree.now in
    passed m c.out_of_range.result (0 + c.in-Some.place) c.out_of_range.ensures (resolved m c.requires.calls)

pub returns-in-Some-data_fault-clause-passed : goal.returns-in-Some-data_fault-clause-passed
returns-in-Some-data_fault-clause-passed g c =
    let m = module_view c.args.tree.now in
    passed m c.out_of_range-in-Some-data_fault.result (c.len.result + c.in-Some-data_fault.place) c.out_of_range-in-Some-data_fault.ensures (resolved m c.requires.calls)
