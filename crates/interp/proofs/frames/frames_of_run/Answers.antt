use Rattle.std.proofs.Common.{◌+◌, ◌<◌, ◌∷◌, ◌++◌, List, ℕ, length, drop, sym, ap, ap₂, ◌∙◌, arith, append-nil}
use Rattle.std.proofs.lemmas.List.{drop_all, drop_more}
use Rattle.interp_state.specs.Frames.{in_level}
use Rattle.interp.specs.Chains.{waiting_frames}
use Rattle.interp.proofs.Chaining.{chain_is, waiting_more}
use Rattle.interp.proofs.frames.frames_of_run.Goals as goal

pub loop-level-preserved : goal.loop-level-preserved
loop-level-preserved g c =
    let ls = c.args.run.now.outer.items in
    let n = c.loop-level.level in
    let l = c.index-waiting.result.now in
    let before = c.loop-level.chain.items in
    let lt : n < length ls = omega (arith, c.loop-level-test.true, c.args.run.now.outer.ok.0) in
    let split = drop_more ls n l lt ∙ ap (λ x. x ∷ drop (n + 1) ls) (sym c.index-waiting.ensures) in
    ap (λ fs. fs ++ waiting_frames (n + 1) (drop (n + 1) ls)) (c.in_ok-add_frames.ensures ∙ ap (λ fs. before ++ in_level n l.lent.number fs) (c.deref.ensures.value ∙ c.in_ok-frames.ensures))
    ∙ waiting_more (drop n ls) n l (drop (n + 1) ls) before split
    ∙ c.loop-level.invariant

pub returns : goal.returns
returns g c goes =
    let r = c.args.run.now in
    let before = c.loop-level.chain.items in
    let n = c.loop-level.level in
    let none = drop_all n r.outer.items (omega (arith, c.loop-level-test.false, c.len-level-end.ensures, r.outer.ok.0)) in
    let told = sym (append-nil before) ∙ ap (λ ls. before ++ waiting_frames n ls) (sym none) ∙ c.loop-level.invariant in
    c.in_ok-add_frames-2.ensures
    ∙ ap₂ (λ (fs more : List _). fs ++ more) told (ap (λ (k : ℕ). in_level k r.lent.number c.deref-2.result.now) (omega (arith, c.len.ensures, r.outer.ok.0)))
    ∙ chain_is r c.deref-2.result.now (c.deref-2.ensures.value ∙ c.in_ok-inner.ensures goes)
