use Rattle.std.proofs.Common.{[], map, Some, ap, ◌∙◌}
use Rattle.module_tree.specs.ModuleView.{func_type_view}
use Rattle.body_typing.proofs.Leaves.{func_at, type_some, type_none}
use Rattle.typing.proofs.Stacks.{call_at}
use Rattle.typing.proofs.takes.call.Goals as goal

pub returns-in-Some-type_at : goal.returns-in-Some-type_at
returns-in-Some-type_at g c =
    let all = c.args.scope.now.types.now.items in
    let types = map func_type_view all in
    let funcs = c.args.scope.now.spaces.now.funcs.items in
    let i = c.in-Some.index in
    let type = c.in-Some-type_at.t.now in
    call_at c.types_of.result types funcs c.args.func (func_type_view type) (func_at types funcs c.args.func i c.in-Some.ensures ∙ ap Some (type_some all i type c.in-Some-type_at.ensures))
    (rw c.deref.ensures.value at c.types_of.ensures.arrow)

pub returns-in-None : goal.returns-in-None
returns-in-None g c =
    let all = c.args.scope.now.types.now.items in
    let types = map func_type_view all in
    let funcs = c.args.scope.now.spaces.now.funcs.items in
    let i = c.in-Some.index in
    call_at c.types_of-in-None.result types funcs c.args.func (record { params = []; results = [] }) (func_at types funcs c.args.func i c.in-Some.ensures ∙ ap Some (type_none all i c.in-None.ensures))
    c.types_of-in-None.ensures.arrow
