use Rattle.std.proofs.Common.{ℕ, List, arith, ◌∙◌, subst}
use Rattle.std.proofs.lemmas.List.{length-drop, take_rest}
use Rattle.byte_sinks.specs.Putting.{PutsSome}
use Rattle.byte_sinks.proofs.SinkLemmas.{beginning_more}
use Rattle.byte_sinks.proofs.sink.put_all.Goals as goal

pub loop-at-preserved : goal.loop-at-preserved
loop-at-preserved g c =
    let bytes = c.args.bytes.now in
    let i = c.loop-at.at in
    let P : List ℕ → Type 0 = λ s. PutsSome g.S.Sink.tells s c.in_ok-n.n (g.S.Sink.told c.loop-at.sink) (g.S.Sink.told c.put_some.new.self) in
    let put = subst P (take_rest bytes i) c.in_ok-n.ensures.put in
    let kept = c.loop-at.invariant in
    let within = put.within in
    let counted = length-drop i bytes in
    let below = kept.0 in (
      omega (arith, within, counted, below),
      (λ t. beginning_more bytes _ _ _ i c.in_ok-n.n (kept.1 t) (put.told t)),
      c.in_ok-n.ensures.calm ∙ kept.2,
    )
