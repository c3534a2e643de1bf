use Rattle.std.proofs.Common.{◌≡◌, ℕ, List, [], ◌∷◌, ◌++◌, Some, codes, decimal, length, map, option_map, string_bytes, sym, ap, ◌∙◌, Global}
use Rattle.wtypes.specs.declared.FuncType.{FuncType}
use Rattle.spec_modules.specs.Syntax.{Func}
use Rattle.spec_modules.specs.Shape.{size}
use Rattle.spec_typing.specs.Modules.{type_at}
use Rattle.wblock_words.specs.Names.{name_among}
use Rattle.module_tree.specs.ModuleView.{func_type_view, func_view}
use Rattle.module_tree.specs.Modules.{module_view}
use Rattle.wblock_contents.specs.ModuleText.{func_type_text, amounts_text, called_text}
use Rattle.wblock_contents.proofs.defined.func_line_of.Goals as goal

pub returns : goal.returns
returns c =
    let types = (module_view c.args.tree.now).types in
    let f = func_view c.args.func.now in
    let type_is : string_bytes c.in_ok-func_type.func_type ≡ func_type_text (type_at types f.type_index) =
    c.in_ok-func_type.ensures ∙ ap (λ (ts : List (FuncType Global)). func_type_text (type_at (map func_type_view ts) c.args.func.now.type_index)) c.deref.ensures.value in
    let locals : c.len.result ≡ length f.locals = c.len.ensures ∙ c.args.func.now.locals.ok.0 in
    let found : Some (size f.body) ≡ Some c.size.result = ap (option_map (λ (g : Func). size g.body)) (sym c.requires) ∙ c.size.ensures in
    let instructions : c.size.result ≡ size f.body = cc in
    let amounts_are : string_bytes c.in_ok-amounts.amounts ≡ amounts_text (length f.locals) (size f.body) =
    c.in_ok-amounts.ensures ∙ (ap (λ n. amounts_text n c.size.result) locals ∙ ap (amounts_text (length f.locals)) instructions) in
    λ names named.
    let called_is : string_bytes c.in_ok-called.called ≡ called_text (name_among names c.args.number) = c.in_ok-called.ensures ∙ ap called_text named in
    c.in_ok-line.ensures.ok
    ∙ (ap (λ (t : List ℕ). codes "function " ++ (decimal c.args.number ++ (t ++ (string_bytes c.in_ok-amounts.amounts ++ (string_bytes c.in_ok-called.called ++ 10 ∷ []))))) type_is
    ∙ ap (λ (t : List ℕ). codes "function " ++ (decimal c.args.number ++ (func_type_text (type_at types f.type_index) ++ (t ++ (string_bytes c.in_ok-called.called ++ 10 ∷ []))))) amounts_are
    ∙ ap (λ (t : List ℕ). codes "function " ++ (decimal c.args.number ++ (func_type_text (type_at types f.type_index) ++ (amounts_text (length f.locals) (size f.body) ++ (t ++ 10 ∷ []))))) called_is)
