use Rattle.std.proofs.Common.{◌≡◌, ◌+◌, ◌<◌, ◌∷◌, ◌++◌, [], map, drop, get_or, drop-cons, add-one, length, length-drop, arith, rules}
use Rattle.std.proofs.lemmas.Result.{err_from_is_err_and}
use Rattle.spec_modules.specs.Limits.{counts_from}
use Rattle.laws_modules.specs.ReadingModules.{codes_at}
use Rattle.module_tree.specs.declared.module.Func.{Func}
use Rattle.module_tree.specs.View.{instrs_view}
use Rattle.module_tree.specs.ModuleView.{func_view, func_ordinals}
use Rattle.expr_reader.proofs.Turns.{hand_on}
use Rattle.loader.proofs.Codes.{one_code, code_more, code_none, codes_done}
use Rattle.loader.proofs.OneMore.{one_more_view, one_more_keeps}
use Rattle.loader.proofs.code.codes_of.Goals as goal

pub returns-in_err-code-clause-value : goal.returns-in_err-code-clause-value
returns-in_err-code-clause-value g c =
    let l = c.loop-index in
    let is = c.args.indices.now in
    let k = l.index-index in
    let whole = codes_at is c.args.bytes.now in
    let below : k < length is = omega arith in
    let here : drop k is ≡ get_or is k 0 ∷ drop (k + 1) is = rw (add-one, drop-cons is k 0) in
    let p = err_from_is_err_and c.from_residual-in_err-code.result c.from_residual-in_err-code.ensures.1 in
    rw (p.1, p.2) (hand_on c.in_err-code.field-0.0 (one_code l.rest.now) whole
    (code_none whole (map func_view l.funcs.items) (drop k is) l.rest.now l.invariant.0 (get_or is k 0) (drop (k + 1) is) here)
    c.in_err-code.ensures.value)

pub loop-index-preserved : goal.loop-index-preserved
loop-index-preserved g c =
    let l = c.loop-index in
    let is = c.args.indices.now in
    let k = l.index-index in
    let code = c.in_ok-code.code in
    let whole = codes_at is c.args.bytes.now in
    let below : k < length is = omega arith in
    let here : drop k is ≡ get_or is k 0 ∷ drop (k + 1) is = rw (add-one, drop-cons is k 0) in
    let func : Func g.row.A.Denot = record { type_index = get_or is k 0; locals = code.0; body = code.1 } in
    let put : c.push.new.self.items ≡ l.funcs.items ++ func ∷ [] = search rules in (
      code_more whole (map func_view l.funcs.items) (drop k is) l.rest.now l.invariant.0 (get_or is k 0) (drop (k + 1) is)
          (code.0.items, instrs_view code.1.items) c.in_ok-code.after.now (map func_view c.push.new.self.items) here c.in_ok-code.ensures.value
          (one_more_view func_view l.funcs.items c.push.new.self.items func put),
      omega (arith, l.invariant.1, c.in_ok-code.ensures.shorter),
      one_more_keeps (λ f. counts_from 0 (func_ordinals f)) l.funcs.items c.push.new.self.items func put l.invariant.2 c.in_ok-code.ensures.numbered,
    )

pub returns-clause-value : goal.returns-clause-value
returns-clause-value g c =
    let l = c.loop-index in
    let is = c.args.indices.now in
    codes_done (codes_at is c.args.bytes.now) (map func_view l.funcs.items) (drop l.index-index is) l.rest.now l.invariant.0 (omega (arith, length-drop l.index-index is))
