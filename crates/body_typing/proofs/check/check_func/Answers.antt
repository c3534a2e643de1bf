use Rattle.std.proofs.Common.{map, ◌++◌, [], List, Option, Err, ap, sym, ◌∙◌}
use Rattle.wtypes.specs.declared.ValType.{ValType}
use Rattle.spec_modules.specs.Syntax.{FuncType}
use Rattle.spec_typing.specs.Typing.{Context, Typed, of}
use Rattle.spec_typing.specs.Modules.{type_at, result_of}
use Rattle.module_tree.specs.View.{instrs_view}
use Rattle.body_typing.specs.CheckResults.{spaces_view, Tells}
use Rattle.module_tree.specs.ModuleView.{func_type_view}
use Rattle.body_typing.proofs.Blocks.{told, body_refused, body_ends, body_fails}
use Rattle.body_typing.proofs.check.check_func.Goals as goal

abbrev params_of : FuncType → List ValType
params_of t = t.params

abbrev one_result_of : FuncType → Option ValType
one_result_of t = result_of t.results

pub returns-in-Err : goal.returns-in-Err
returns-in-Err g c =
    let f = c.args.func.now in
    let body = instrs_view f.body.items in
    let type = type_at (map func_type_view c.args.types.now.items) f.type_index in
    let all = c.own_type-own.result.now.params.items ++ f.locals.items in
    let params = ap (λ ps. ps ++ f.locals.items) (ap params_of (sym c.own_type-own.ensures)) in
    let same = c.result_type-wanted.ensures ∙ ap one_result_of (sym c.own_type-own.ensures) in
    let T : Context → Option ValType → Type 0 = λ c' r. Tells {T = Unit {0}} (Err c.in-Err.refusal) (Typed c' body [] (of r)) in
    told T (spaces_view c.args.types.now.items c.args.spaces.now) type f.locals.items all c.result_type-wanted.result c.new-labels.result.items c.new-labels.ensures.items params same
    (body_refused (Unit {0}) _ (λ left. left) c.in-Err.refusal _ c.result_type-wanted.result body c.in-Err.ensures.gives)

pub returns-then-is_result : goal.returns-then-is_result
returns-then-is_result g c =
    let f = c.args.func.now in
    let body = instrs_view f.body.items in
    let type = type_at (map func_type_view c.args.types.now.items) f.type_index in
    let all = c.own_type-own.result.now.params.items ++ f.locals.items in
    let params = ap (λ ps. ps ++ f.locals.items) (ap params_of (sym c.own_type-own.ensures)) in
    let same = c.result_type-wanted.ensures ∙ ap one_result_of (sym c.own_type-own.ensures) in
    let T : Context → Option ValType → Type 0 = λ c' r. Typed c' body [] (of r) in
    told T (spaces_view c.args.types.now.items c.args.spaces.now) type f.locals.items all c.result_type-wanted.result c.new-labels.result.items c.new-labels.ensures.items params same
    (body_ends _ c.result_type-wanted.result body c.in-Ok.left c.in-Ok.ensures.gives (sym c.is_result.ensures ∙ c.if-is_result.true))

pub returns : goal.returns
returns g c =
    let f = c.args.func.now in
    let body = instrs_view f.body.items in
    let type = type_at (map func_type_view c.args.types.now.items) f.type_index in
    let all = c.own_type-own.result.now.params.items ++ f.locals.items in
    let params = ap (λ ps. ps ++ f.locals.items) (ap params_of (sym c.own_type-own.ensures)) in
    let same = c.result_type-wanted.ensures ∙ ap one_result_of (sym c.own_type-own.ensures) in
    let T : Context → Option ValType → Type 0 = λ c' r. Typed c' body [] (of r) → ⊥ in
    let no = told T (spaces_view c.args.types.now.items c.args.spaces.now) type f.locals.items all c.result_type-wanted.result c.new-labels.result.items c.new-labels.ensures.items params same
    (body_fails _ c.result_type-wanted.result body c.in-Ok.left c.in-Ok.ensures.gives (sym c.is_result.ensures ∙ c.if-is_result.false)) in
    rw c.refused.ensures no
