use Rattle.std.proofs.Common.{◌-◌, ◌^◌, List, ap, map, min, ◌∙◌}
use Rattle.spec_ledger.specs.Order.{limits_of}
use Rattle.spec_block.specs.Worlds.{Block, Position, limits}
use Rattle.block_judge.specs.Meeting.{least_fuel}
use Rattle.wblock_debug.proofs.fuel.least_fuel_in.Goals as goal

pub returns-in-Ok : goal.returns-in-Ok
returns-in-Ok g c = λ b spelled.
    let calls = c.args.calls.now in
    c.limits_in.ensures
    ∙ (ap (λ (ps : List Position). min (limits_of (limits calls) (map (λ (p : Position). p.call) ps)) (2 ^ 64 - 1)) c.positions.ensures
    ∙ ap (λ (x : Block). least_fuel calls x) (c.one_block_a_spelling.ensures.one c.args.bytes.now c.in-Ok.block b c.in-Ok.ensures.spelled spelled))
