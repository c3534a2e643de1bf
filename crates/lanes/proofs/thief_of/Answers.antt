use Rattle.std.proofs.Common.{◌+◌, refl}
use Rattle.std.proofs.lemmas.List.{take_rest}
use Rattle.lanes.proofs.Others.{around}
use Rattle.lanes.proofs.thief_of.Goals as goal

pub returns-clause-ends : goal.returns-clause-ends
returns-clause-ends g c =
    around c.args.lanes.now c.args.me c.new-ways.result.items c.add_ways.new.ways.items c.add_ways-2.new.ways.items c.of.result _ _ (take_rest c.args.lanes.now (c.args.me + 1)) refl
    c.new-ways.ensures.items c.in_ok-add_ways.ensures.ends c.in_ok-add_ways-2.ensures.ends c.of.ensures
