-- What holds of each item of a list holds at each place; and version 2 can tell every receipt.
use Rattle.std.proofs.Common.{◌≡◌, ℕ, zero, suc, ◌<◌, List, [], ◌∷◌, length, get_or, sym, subst, arith}
use Rattle.std.specs.List.{AllByRecursion}
use Rattle.spec_ledger.specs.declared.Version.{Version}
use Rattle.spec_ledger.specs.declared.Version.TheVariants.{Two}
use Rattle.spec_block.specs.Worlds.{Position}
use Rattle.spec_block.specs.Bytes.{ForVersion}

pub at : {A : Type 0} (P : A → Type 0) (xs : List A) (i : ℕ) (d : A) → AllByRecursion P xs → i < length xs → P (get_or xs i d)
at P [] i d h lt = absurd (omega (arith, lt))
at P (x ∷ xs) zero d h lt = h.0
at P (x ∷ xs) (suc i) d h lt = at P xs i d h.1 (omega (arith, lt))

pub tells_all : (version : Version) (positions : List Position) → version ≡ Two → AllByRecursion (λ p. ForVersion version p.receipt) positions
tells_all version [] is = tt
tells_all version (p ∷ positions) is = (subst (λ (v : Version). ForVersion v p.receipt) (sym is) tt, tells_all version positions is)
