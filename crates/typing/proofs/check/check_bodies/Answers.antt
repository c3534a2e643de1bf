use Rattle.std.proofs.Common.{◌≡◌, ◌<◌, length, get_or, arith, rules}
use Rattle.body_typing.specs.CheckResults.{spaces_view}
use Rattle.typing.proofs.Bodies.{type_of_func, passed_at, refused_at}
use Rattle.typing.proofs.check.check_bodies.Goals as goal

pub check_func-requires : goal.check_func-requires
check_func-requires g c =
    let funcs = c.args.tree.now.funcs.items in
    let i = c.loop-f.f-index in
    let f = c.f-item.result in
    let lt : i < length funcs = omega arith in
    let at : f ≡ get_or funcs i f = search rules in
    type_of_func (length c.args.tree.now.types.items) funcs i f c.requires lt at

pub returns-in-Err : goal.returns-in-Err
returns-in-Err g c =
    let funcs = c.args.tree.now.funcs.items in
    let i = c.loop-f.f-index in
    let f = c.f-item.result in
    let lt : i < length funcs = omega arith in
    let at : f ≡ get_or funcs i f = search rules in
    refused_at (spaces_view c.args.tree.now.types.items c.args.spaces.now) funcs i f lt at (Unit {0}) (Unit {0}) c.in-Err.refusal c.loop-f.invariant c.in-Err.ensures

pub loop-f-preserved : goal.loop-f-preserved
loop-f-preserved g c =
    let funcs = c.args.tree.now.funcs.items in
    let i = c.loop-f.f-index in
    let f = c.f-item.result in
    let lt : i < length funcs = omega arith in
    let at : f ≡ get_or funcs i f = search rules in
    passed_at (spaces_view c.args.tree.now.types.items c.args.spaces.now) funcs i f lt at c.loop-f.invariant c.in-Ok.ensures
