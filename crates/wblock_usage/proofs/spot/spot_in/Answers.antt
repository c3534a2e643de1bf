use Rattle.std.proofs.Common.{rules, ◌∷◌, ◌++◌, decimal, refl, ap}
use Rattle.wblock_usage.proofs.Colons.{at_none, at_some}
use Rattle.wblock_usage.proofs.spot.spot_in.Goals as goal

pub returns-in-Some : goal.returns-in-Some
returns-in-Some c = record { text_is = ap (λ t. t ++ 58 ∷ decimal c.args.ordinal) (at_some _ _ _ _ c.in-Some.is c.in_ok-number.ensures); in_range = search rules }

pub returns-in-Some-2 : goal.returns-in-Some-2
returns-in-Some-2 c = record { text_is = ap (λ t. t ++ 58 ∷ decimal c.args.ordinal) (at_some _ _ _ _ c.in-Some-2.is c.in_ok-contract.ensures); in_range = search rules }

pub returns : goal.returns
returns c = record {
  text_is = refl;
  in_range = (search rules, record { not_one = at_none _ _ _ c.in_default.is c.in_ok-number.ensures; not_two = at_none _ _ _ c.in_default-2.is c.in_ok-contract.ensures });
}
