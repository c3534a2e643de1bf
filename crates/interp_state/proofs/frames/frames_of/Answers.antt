use Rattle.std.proofs.Common.{ℕ, ◌+◌, ◌-◌, ◌≡◌, take, sym, ap, ap₂, ◌∙◌, arith}
use Rattle.std.specs.Prelude.{reverse}
use Rattle.interp_state.specs.Unwinding.{frames_from}
use Rattle.interp_state.specs.Views.{opens_of}
use Rattle.interp_state.proofs.Unwinding.{outward}
use Rattle.interp_state.proofs.frames.frames_of.Goals as goal

pub loop-left-preserved : goal.loop-left-preserved
loop-left-preserved g c =
    let es = c.args.parts.now.entries.items in
    let left : ℕ = c.loop-left.left - 1 in
    let more : left + 1 ≡ c.loop-left.left = omega (arith, c.loop-left-test.true) in
    let outside = c.in_ok-outside.ensures in
    let outer = outward es left c.index.result.now c.loop-left.next (reverse c.loop-left.frames.items) (omega (arith, c.loop-left-test.true, c.loop-left.invariant.within)) c.index.ensures in
    record {
      within = omega (arith, c.loop-left.invariant.within);
      same = ap₂ (λ n fs. frames_from (opens_of (take left es)) n fs) outside.next outside.frames
          ∙ sym outer
          ∙ ap (λ (n : ℕ). frames_from (opens_of (take n es)) c.loop-left.next (reverse c.loop-left.frames.items)) more
          ∙ c.loop-left.invariant.same;
    }
