-- The locks of a profile rise, with their modes too.
use Rattle.std.proofs.Common.{◌≡◌, Bool, true, false, ◌&&◌, T, List, [], ◌∷◌, map, refl, ap, subst}
use Rattle.std.specs.FinMap.{is_sorted}
use Rattle.std.specs.FinMap.Entries.{below_all}
use Rattle.std.specs.Ordering.{is_lt}
use Rattle.spec_ledger.specs.declared.Lock.{Lock}
use Rattle.spec_ledger.specs.declared.Entry.{Entry}
use Rattle.spec_ledger.specs.Cells.{lock_cmp}
use Rattle.lock_profile.specs.Turns.{IsProfile}
use Rattle.spec_block.specs.Worlds.{held_in}

same_below : (q : Lock) (es : List Entry) → below_all lock_cmp q (map (λ (e : Entry). (e.lock, e)) es) ≡ below_all lock_cmp q (held_in es)
same_below q [] = refl
same_below q (e ∷ es) = ap (λ b. is_lt (lock_cmp q e.lock) && b) (same_below q es)

same_sorted : (es : List Entry) → is_sorted lock_cmp (map (λ (e : Entry). (e.lock, e)) es) ≡ is_sorted lock_cmp (held_in es)
same_sorted [] = refl
same_sorted (e ∷ es) = let a = same_below e.lock es in let b = same_sorted es in λ i. a i && b i

pub modes_rise : (es : List Entry) → IsProfile es → T (is_sorted lock_cmp (held_in es))
modes_rise es is = subst T (same_sorted es) is

pub from_test : (b : Bool) → T b → b ≡ true
from_test true t = refl
from_test false t = absurd t
