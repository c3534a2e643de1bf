-- Items that are laid at the front of a list.
use Rattle.std.proofs.Common.{◌≡◌, ◌∙◌, ◌≤◌, List, ◌++◌, take, drop, length, ap}
use Rattle.std.proofs.lemmas.List.{append-nil, take_all, drop_all}
use Rattle.foshqarel_c.specs.Buffers.{laid}

module _ {X : Type 0} (items old : List X) where
  -- where they fit, all of them are
  pub all_fit : length items ≤ length old → laid items old ≡ items ++ drop (length items) old
  all_fit fit = ap (λ (xs : List X). xs ++ drop (length items) old) (take_all (length old) items fit)

  -- else as many as the list holds
  pub as_many : length old ≤ length items → laid items old ≡ take (length old) items
  as_many more = ap (λ (xs : List X). take (length old) items ++ xs) (drop_all (length items) old more) ∙ append-nil (take (length old) items)
