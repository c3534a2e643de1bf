use Rattle.std.proofs.Common.{◌≡◌, ℕ, Some, sym, ap, ◌∙◌, option_map}
use Rattle.interp_state.specs.declared.parts.Kind.{Kind}
use Rattle.laws_reduction.specs.Branches.{in_call}
use Rattle.module_tree.specs.View.{ordinal_of}
use Rattle.interp_state.specs.Views.{opens_of, scope_of, open_of}
use Rattle.interp_state.specs.Innermost.{innermost, function_in, function_of}
use Rattle.interp_state.proofs.Placing.{place_at, place_nowhere, function_there, no_function, no_frame}
use Rattle.interp_state.proofs.places.place_in_code.Goals as goal

pub returns-in_default : goal.returns-in_default
returns-in_default g c =
    let p = c.args.parts.now in
    sym (place_nowhere _ p.code.now (no_function (in_call (opens_of p.entries.items)) (c.in_default.ensures' ∙ ap (λ es. innermost (in_call (opens_of es))) c.deref.ensures.value)))

pub returns-in-Frame : goal.returns-in-Frame
returns-in-Frame g c =
    let p = c.args.parts.now in
    let there : function_in (in_call (opens_of p.entries.items)) ≡ Some c.in-Frame.func =
    function_there (in_call (opens_of p.entries.items)) (open_of c.in-Some-Some.entry.now) (c.in-Some-Some.ensures' ∙ ap (λ es. innermost (in_call (opens_of es))) c.deref.ensures.value)
    ∙ ap (λ (k : Kind _). function_of (scope_of k)) c.in-Frame.is in
    ap (λ (n : ℕ). Some (c.in-Frame.func, n)) c.ordinal.ensures
    ∙ sym (place_at _ p.code.now c.in-Some-Some.instr.now c.in-Some-Some.ensures.value ∙ ap (option_map (λ x. (x, ordinal_of c.in-Some-Some.instr.now))) there)

pub returns-in-Block : goal.returns-in-Block
returns-in-Block g c =
    let p = c.args.parts.now in
    sym (place_nowhere _ p.code.now (function_there (in_call (opens_of p.entries.items)) (open_of c.in-Some-Some.entry.now) (c.in-Some-Some.ensures' ∙ ap (λ es. innermost (in_call (opens_of es))) c.deref.ensures.value)
    ∙ no_frame c.in-Some-Some.entry.now.kind c.in-Block.is))

pub returns-in-Block-2 : goal.returns-in-Block-2
returns-in-Block-2 g c =
    let p = c.args.parts.now in
    sym (place_nowhere _ p.code.now (function_there (in_call (opens_of p.entries.items)) (open_of c.in-Some-Some.entry.now) (c.in-Some-Some.ensures' ∙ ap (λ es. innermost (in_call (opens_of es))) c.deref.ensures.value)
    ∙ no_frame c.in-Some-Some.entry.now.kind c.in-Block.is))
