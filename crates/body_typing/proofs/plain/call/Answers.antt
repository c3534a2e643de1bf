use Rattle.std.proofs.Common.{[], map}
use Rattle.module_tree.specs.ModuleView.{func_type_view}
use Rattle.body_typing.proofs.Leaves.{call_meets, type_some, type_none}
use Rattle.body_typing.proofs.plain.call.Goals as goal

pub returns-in-Some-type_at : goal.returns-in-Some-type_at
returns-in-Some-type_at g c = call_meets c.apply.result c.apply.new.ops c.args.ops.now (map func_type_view c.args.scope.now.types.now.items) c.args.scope.now.spaces.now.funcs.items c.args.func c.in-Some.index (func_type_view c.in-Some-type_at.t.now)
    c.in-Some.ensures (type_some c.args.scope.now.types.now.items c.in-Some.index c.in-Some-type_at.t.now c.in-Some-type_at.ensures) (rw (c.deref-in-Some-type_at.ensures.value, c.deref.ensures.value) at c.apply.ensures)

pub returns-in-None : goal.returns-in-None
returns-in-None g c = call_meets c.apply-in-None.result c.apply-in-None.new.ops c.args.ops.now (map func_type_view c.args.scope.now.types.now.items) c.args.scope.now.spaces.now.funcs.items c.args.func c.in-Some.index (record { params = []; results = [] })
    c.in-Some.ensures (type_none c.args.scope.now.types.now.items c.in-Some.index c.in-None.ensures) c.apply-in-None.ensures
