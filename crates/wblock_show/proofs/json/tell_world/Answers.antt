use Rattle.std.proofs.Common.{MatchResult, string_bytes, subst}
use Rattle.spec_block.specs.Bytes.{SpellsWorld}
use Rattle.world.specs.Views.{world_view}
use Rattle.wblock_line.specs.Worlds.{TellsNoWorld}
use Rattle.wblock_show.proofs.json.tell_world.Goals as goal

pub returns-in_ok-text-in-Ok : goal.returns-in_ok-text-in-Ok
returns-in_ok-text-in-Ok c = record {
  world = world_view c.in-Ok.world;
  spelled = subst (λ read. MatchResult read (λ world. SpellsWorld c.args.bytes.now (world_view world)) (λ told. TellsNoWorld c.args.bytes.now (string_bytes told.0))) c.in-Ok.is c.in_ok-world.ensures;
  text_is = c.in_ok-text-in-Ok.ensures;
}
