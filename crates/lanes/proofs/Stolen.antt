-- What a thief has taken, with one position more.
use Rattle.std.proofs.Common.{◌≡◌, ℕ, ◌<◌, List, [], ◌∷◌, ◌++◌, length, get_or, set, Option, sym, ◌∙◌, ap}
use Rattle.std.proofs.lemmas.Option.{IfSome_then}
use Rattle.std.specs.Option.{IfSome}
use Rattle.lanes.specs.Lanes.{HasStolen, Path}

pub stolen : (old ways : List Path) (way : ℕ) (before after : Path) (r : Option ℕ) → ways ≡ old → before ≡ get_or ways way before → way < length old
    → IfSome r (λ position. after ≡ record before { taken = before.taken ++ position ∷ [] }) → IfSome r (HasStolen old (set ways way after))
stolen old ways way before after r ways_are read below one =
    IfSome_then r one (λ position is. record {
      way = way;
      path = before;
      within = below;
      path_is = sym (read ∙ ap (λ w. get_or w way before) ways_are);
      taken = λ i. set (ways_are i) way (is i);
    })
