-- The last of some changes is taken back.
use Rattle.std.proofs.Common.{◌≡◌, List, [], ◌∷◌, ◌++◌, subst}
use Rattle.std.specs.List.{AllByRecursion}

last_apart : {X : Type 0} (P : X → Type 0) (xs : List X) (x : X) → AllByRecursion P (xs ++ x ∷ []) → AllByRecursion P xs × P x
last_apart P [] x h = (tt, h.0)
last_apart P (y ∷ ys) x h = let rest = last_apart P ys x h.1 in ((h.0, rest.0), rest.1)

pub popped : {X : Type 0} (P : X → Type 0) (all xs : List X) (x : X) → all ≡ xs ++ x ∷ [] → AllByRecursion P all → AllByRecursion P xs × P x
popped P all xs x e h = last_apart P xs x (subst (AllByRecursion P) e h)
