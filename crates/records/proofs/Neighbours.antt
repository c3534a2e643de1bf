-- A profile's locks rise from neighbour to neighbour, and entries that do are a profile.
use Rattle.std.proofs.Common.{◌≡◌, ◌↔◌, List, [], ◌∷◌}
use Rattle.std.specs.declared.cmp.Ordering.TheVariants.{Less}
use Rattle.spec_ledger.specs.declared.Entry.{Entry}
use Rattle.spec_ledger.specs.Cells.{lock_cmp}
use Rattle.lock_profile.specs.Turns.{IsProfile}
use Rattle.spec_block.specs.Bytes.{AreRising}

abbrev pub NeighboursDecide : Type 0
NeighboursDecide = (one next : Entry) (more : List Entry) → IsProfile (one ∷ next ∷ more) ↔ ((lock_cmp one.lock next.lock ≡ Less) × IsProfile (next ∷ more))

pub rising_from : NeighboursDecide → (es : List Entry) → IsProfile es → AreRising es
rising_from law [] h = tt
rising_from law (e ∷ []) h = tt
rising_from law (e ∷ f ∷ es) h = let both = (law e f es).0 h in (both.0, rising_from law (f ∷ es) both.1)

pub profile_from : NeighboursDecide → (es : List Entry) → AreRising es → IsProfile es
profile_from law [] h = tt
profile_from law (e ∷ []) h = tt
profile_from law (e ∷ f ∷ es) h = (law e f es).1 (h.0, profile_from law (f ∷ es) h.1)
