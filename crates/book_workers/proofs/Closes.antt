-- What the fuel that is left says of a list of seats, when one seat has taken in all of them.
use Rattle.std.proofs.Common.{◌≡◌, ℕ, ◌+◌, ◌<◌, List, [], sym, ◌∙◌, subst}
use mathlib.Core.Option.{some}
use lib.ListN.{get_elem?}
use Rattle.std.specs.List.{All, sum}
use Rattle.atomic_table.specs.Table.{Final, Seen}
use Rattle.book_workers.specs.declared.account.Account.{Account}
use Rattle.book_workers.specs.declared.account.Limits.{Limits}
use Rattle.book_workers.specs.declared.seat.Seat.{Seat}
use Rattle.book_workers.specs.Accounts.{IsEachBelow}
use Rattle.book_workers.specs.Fair.{Fair}
use Rattle.book_workers.specs.Seats.{granted_to, refused_to, IsEachOnce}
use Rattle.book_workers.proofs.Joins.{ends}
use Rattle.book_workers.proofs.Pools.{Pooled}

pub record Closed (k : Limits) (all : List Seat) (n : ℕ) : Type 0 where
  pub draws : IsEachOnce k all
  pub fuel : n + sum (granted_to all) ≡ k.block_fuel
  pub refused : All (λ asked. n < asked) (refused_to all)

pub closes : (k : Limits) (id : ℕ) (v : Account) (ws xs : List ℕ) (n : ℕ) (all left : List Seat) → Final (Seen (Fair k) id v) ws xs → v.parts ≡ k.seats → get_elem? ws 1 ≡ some n → left ≡ [] → Pooled all left v
    → Closed k all n
closes k id v ws xs n all left final parts at none p = let e = ends k id v ws xs n final parts at in record {
  draws = (e.draws.0, e.draws.1, subst (IsEachBelow e.draws.0) (sym q.drawn) e.draws.2, λ done. e.draws.3 (sym q.done ∙ done));
  fuel = subst (λ (ns : List ℕ). n + sum ns ≡ k.block_fuel) (sym q.granted) e.fuel;
  refused = subst (All (λ asked. n < asked)) (sym q.refused) e.refused;
}
  where
    q : Pooled all [] v
    q = subst (λ (l : List Seat). Pooled all l v) none p
