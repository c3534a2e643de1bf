-- Readings with items in front.
use Rattle.std.proofs.Common.{◌≡◌, List, ◌++◌, Some, None, refl, sym, ap, append_assoc}
use Rattle.std.specs.Prelude.{option_map}
use Rattle.spec_modules.specs.Reading.{Read}
use Rattle.expr_reader.proofs.Steps.{front}

pub front_append : {X : Type 0} (xs ys : List X) (r : Read (List X)) → front xs (option_map (λ s. (ys ++ s.0, s.1)) r) ≡ front (xs ++ ys) r
front_append xs ys None = refl
front_append xs ys (Some s) = ap (λ l. Some (l, s.1)) (sym (append_assoc xs ys s.0))
