use Rattle.std.proofs.Common.{◌∷◌, ◌++◌, [], sym, ap, ◌∙◌}
use Rattle.std.specs.Prelude.{reverse}
use Rattle.std.proofs.lemmas.List.{reverse-append}
use Rattle.interp_state.specs.declared.parts.Kind.{Kind}
use Rattle.interp_state.specs.Views.{items_of, scope_of}
use Rattle.interp_state.specs.ViewLaws.{behind_is}
use Rattle.interp_state.specs.Frames.{first_of}
use Rattle.interp_state.specs.Innermost.{first_ordinal}
use Rattle.interp_state.specs.Unwinding.{frame_at, next_out}
use Rattle.interp_state.proofs.frames.leave.Goals as goal

pub returns-in-Loop-clause-next : goal.returns-in-Loop-clause-next
returns-in-Loop-clause-next g c =
    let from = c.args.entry.now.from.now in
    c.first_of-in-Loop.ensures ∙ ap (first_of c.args.next) (c.next_ordinal-in-Loop.ensures ∙ ap first_ordinal (behind_is from c.behind.result.now c.behind.ensures))
    ∙ ap (λ (k : Kind _). next_out (scope_of k) (items_of from) c.args.next) (sym c.in-Loop.is)

pub returns-in_ok-push-in-Frame-clause-frames : goal.returns-in_ok-push-in-Frame-clause-frames
returns-in_ok-push-in-Frame-clause-frames g c =
    let before = c.args.frames.now.items in
    ap reverse c.in_ok-push-in-Frame.ensures.items ∙ reverse-append before ((c.in-Frame.func, c.args.next) ∷ [])
    ∙ ap (λ (k : Kind _). frame_at (scope_of k) c.args.next ++ reverse before) (sym c.in-Frame.is)
