use Rattle.std.proofs.Common.{string_bytes, subst, sym}
use Rattle.serde_json.specs.Data.{Data}
use Rattle.wblock_json.specs.Json.{IsFlat, IsJson, IsLineOf}
use Rattle.wblock_debug.proofs.FlatStates.{cells_flat}
use Rattle.wblock_debug.proofs.states_json.cells_json_of.Goals as goal

pub value_line-requires : goal.value_line-requires
value_line-requires c = subst (IsFlat 127) (sym c.in_ok-value.ensures.data) (cells_flat _ _)

pub returns-clause-text : goal.returns-clause-text
returns-clause-text c = subst (λ (d : Data). IsLineOf (IsJson d) (string_bytes c.in_ok-text.text)) c.in_ok-value.ensures.data c.in_ok-text.ensures
