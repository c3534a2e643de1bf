use Rattle.std.proofs.Common.{List, ℕ, ◌∷◌, ◌++◌, sym, ap, ◌∙◌, subst}
use Rattle.wblock_usage.specs.Words.{SpellsSpot}
use Rattle.wblock_usage.proofs.Colons.{at_none, at_some}
use Rattle.wblock_usage.proofs.Spots.{no_spot, no_ordinal}
use Rattle.wblock_usage.proofs.spot.spot_of.Goals as goal

pub returns-in_default : goal.returns-in_default
returns-in_default c = no_spot c.args.text.now c.in_default.ensures

pub returns-in_default-2 : goal.returns-in_default-2
returns-in_default-2 c =
    let parts = c.in-Some.ensures in
    no_ordinal c.args.text.now c.in-Some.function.now c.in-Some.ordinal.now parts.0 parts.1 (at_none _ _ _ c.in_default-2.is c.in_ok-ordinal.ensures)

pub returns : goal.returns
returns c =
    let parts = c.in-Some.ensures in
    subst (λ (text : List ℕ). SpellsSpot text c.in_ok-spot.spot) (sym (parts.1 ∙ ap (λ d. c.in-Some.function.now ++ 58 ∷ d) (at_some _ _ _ _ c.in-Some-2.is c.in_ok-ordinal.ensures))) c.in_ok-spot.ensures
