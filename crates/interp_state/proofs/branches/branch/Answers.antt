use Rattle.std.proofs.Common.{◌-◌, subst, sym, ap, ◌∙◌, arith, take, List}
use Rattle.interp_state.specs.Views.{opens_of}
use Rattle.laws_reduction.specs.Meaning.{Open}
use Rattle.laws_reduction.specs.Branches.{IsTarget}
use Rattle.interp_state.specs.Branches.{Jumps}
use Rattle.interp_state.proofs.Jumping.{label_within, opens_left}
use Rattle.interp_state.proofs.branches.branch.Goals as goal

pub overflow_sub-left : goal.overflow_sub-left
overflow_sub-left g c =
    let es = c.args.parts.now.entries in
    omega (arith, label_within c.args.label es.items _ _ c.requires.target.there, es.ok.0, c.len.ensures)

pub jump-requires-clause-target : goal.jump-requires-clause-target
jump-requires-clause-target g c =
    let es = c.args.parts.now.entries in
    subst (λ (t : List Open). IsTarget (opens_of es.items) c.args.parts.now.stack.items t)
    (sym (ap (λ n. opens_of (take (n - c.args.label) es.items)) (c.len.ensures ∙ es.ok.0) ∙ opens_left c.args.label es.items (label_within c.args.label es.items _ _ c.requires.target.there))) c.requires.target

pub returns-clause-jumps : goal.returns-clause-jumps
returns-clause-jumps g c =
    let es = c.args.parts.now.entries in
    subst (λ (t : List Open). Jumps c.args.parts.now t c.jump.new.parts)
    (ap (λ n. opens_of (take (n - c.args.label) es.items)) (c.len.ensures ∙ es.ok.0) ∙ opens_left c.args.label es.items (label_within c.args.label es.items _ _ c.requires.target.there)) c.jump.ensures.jumps
