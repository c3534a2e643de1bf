use Rattle.std.proofs.Common.{◌≡◌, ◌+◌, ◌-◌, ◌∙◌, arith, subst, length, ◌≤◌, take, drop}
use Rattle.memory.specs.Pieces.{IsPut}
use Rattle.memory.proofs.Lists.{put_more}
use Rattle.memory.proofs.put_all.Goals as goal

pub loop-done-preserved : goal.loop-done-preserved
loop-done-preserved g c =
    let kept = c.loop-done.invariant in let done = c.loop-done.done in let part = c.in_piece-count.result in let bytes = c.args.bytes.now in
    let fits : done + part ≤ length bytes = omega (arith, kept.within, c.in_piece-count.ensures.most) in
    let less : done + part - done ≡ part = omega arith in
    let put = subst (λ n. IsPut c.loop-done.pieces.items (c.args.at + done) (take n (drop done bytes)) c.put.new.pieces.items) less c.put.ensures.put in
    record {
      whole = c.put.ensures.whole;
      len = c.put.ensures.len ∙ kept.len;
      made = λ k m. c.put.ensures.kept k (kept.made k m);
      within = fits;
      put = put_more c.args.pieces.now.items c.loop-done.pieces.items c.put.new.pieces.items c.args.at done part bytes fits kept.put put;
    }
