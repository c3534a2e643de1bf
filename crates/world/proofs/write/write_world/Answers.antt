use Rattle.std.proofs.Common.{rules, ◌≡◌, ℕ, List, ◌∙◌, subst}
use Rattle.byte_sinks.specs.Putting.{IsCutShort}
use Rattle.spec_block.specs.Bytes.{world_bytes}
use Rattle.world.specs.Views.{world_view}
use Rattle.world.proofs.write.write_world.Goals as goal

pub returns-clause-cut_short : goal.returns-clause-cut_short
returns-clause-cut_short g c = λ _ tells.
    let made : c.append_world.new.out.items ≡ world_bytes (world_view c.args.world.now) = search rules in
    subst (λ (bytes : List ℕ). IsCutShort (g.S.Sink.told c.args.sink.now) (g.S.Sink.told c.put_all.new.sink) bytes) (c.deref.ensures.value ∙ made) (c.in-Err.ensures.cut_short tells)
