use Rattle.std.proofs.Common.{string_bytes, subst, sym}
use Rattle.serde_json.specs.Data.{Data}
use Rattle.wblock_json.specs.Json.{IsFlat, IsJson, IsLineOf}
use Rattle.world.specs.Views.{world_view}
use Rattle.wblock_blocks.proofs.FlatObjects.{accept_flat}
use Rattle.wblock_blocks.proofs.validate.accept_json_of.Goals as goal

pub value_line-requires : goal.value_line-requires
value_line-requires c = subst (IsFlat 127) (sym c.in_ok-value.ensures) (accept_flat (world_view c.args.next.now))

pub returns : goal.returns
returns c = subst (λ (d : Data). IsLineOf (IsJson d) (string_bytes c.in_ok-line.line)) c.in_ok-value.ensures c.in_ok-line.ensures
