use Rattle.std.proofs.Common.{◌≡◌, ◌++◌, ◌∷◌, [], arith, ◌∙◌, ap}
use Rattle.std.specs.Prelude.{option_to_list}
use Rattle.lanes.specs.Lanes.{HasNothing, IsNew}
use Rattle.lanes.proofs.Others.{all_front, pair_more}
use Rattle.lanes.proofs.paired.Goals as goal

pub loop-lane-preserved : goal.loop-lane-preserved
loop-lane-preserved g c =
    let lane : c.loop-lane.lanes.items ≡ c.pop.new.self.items ++ c.in-Some.lane ∷ [] = c.pop.ensures.items ∙ ap (λ o. c.pop.new.self.items ++ option_to_list o) c.in-Some.is in
    let thief : c.loop-lane.thieves.items ≡ c.pop-in-Some.new.self.items ++ c.in-Some-pop.thief ∷ [] = c.pop-in-Some.ensures.items ∙ ap (λ o. c.pop-in-Some.new.self.items ++ option_to_list o) c.in-Some-pop.is in
    record {
      lanes = all_front IsNew c.loop-lane.lanes.items c.pop.new.self.items (c.in-Some.lane ∷ []) lane c.loop-lane.invariant.lanes;
      thieves = all_front HasNothing c.loop-lane.thieves.items c.pop-in-Some.new.self.items (c.in-Some-pop.thief ∷ []) thief c.loop-lane.invariant.thieves;
      pairs = c.in_ok-push_pair.ensures.new;
      as_many = search (arith);
      lanes_are = pair_more (λ pair. pair.0) c.args.lanes.items c.loop-lane.lanes.items c.pop.new.self.items c.loop-lane.pairs.items c.push_pair.new.pairs.items (c.in-Some.lane, c.in-Some-pop.thief) c.loop-lane.invariant.lanes_are lane c.in_ok-push_pair.ensures.pushed;
      thieves_are = pair_more (λ pair. pair.1) c.args.thieves.items c.loop-lane.thieves.items c.pop-in-Some.new.self.items c.loop-lane.pairs.items c.push_pair.new.pairs.items (c.in-Some.lane, c.in-Some-pop.thief) c.loop-lane.invariant.thieves_are thief c.in_ok-push_pair.ensures.pushed;
    }
