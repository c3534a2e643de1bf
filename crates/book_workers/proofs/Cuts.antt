-- The rule at the start, and when a seat is cut off the first.
use Rattle.std.proofs.Common.{◌≡◌, ◌≢◌, ℕ, ◌+◌, ◌-◌, ◌^◌, ◌<◌, ◌≤◌, List, [], ◌∷◌, ◌++◌, set, sym, refl, subst, ⊎_elim, arith}
use mathlib.Core.Option.{some, some-ne-none}
use lib.ListN.{get_elem?}
use Rattle.std.specs.List.{sum}
use Rattle.atomic_table.specs.Table.{Splits, opening}
use Rattle.atomic_table.proofs.Lists.{at_set, at_snoc}
use Rattle.book_workers.specs.declared.account.Account.{Account}
use Rattle.book_workers.specs.declared.account.Limits.{Limits}
use Rattle.book_workers.specs.Accounts.{newcomer, cut_off, cut_down, times}
use Rattle.book_workers.specs.Fair.{total, late, Sound, Kept, Fair}
use Rattle.book_workers.proofs.Totals.{total_set, total_snoc}

fresh : (k : Limits) (d f parts : ℕ) → f ≤ k.block_fuel → Sound k d f (newcomer k parts)
fresh k d f parts le = record {
  limits = λ _. refl;
  idle = λ _. (refl, refl, refl, refl);
  all_drawn = λ e. absurd (cc);
  least = λ _. le;
  too_much = λ i x inside. absurd (omega arith);
}

pub opens : (k : Limits) → k.calls < 2 ^ 32 → k.seats < 2 ^ 32 → Fair k (opening (0 ∷ k.block_fuel ∷ []) [] (newcomer k k.seats))
opens k calls seats = (
  refl,
  record {
    few = omega arith;
    whole = omega arith;
    reach = omega arith;
    once = λ n below call. absurd (omega arith);
    not_yet = λ n above. refl;
    no_more = λ n above. refl;
    spent = omega arith;
    each = λ id v at. ⊎_elim (λ e. absurd (some-ne-none v (sym e))) (λ e. subst (Sound k 0 k.block_fuel) e (fresh k 0 k.block_fuel k.seats (omega arith))) (at_snoc [] (newcomer k k.seats) v id at);
  },
)

cut : (k : Limits) (parts d f id : ℕ) (views : List Account) → 0 < parts → Kept k d f views → get_elem? views id ≡ some (newcomer k parts)
    → Kept k d f (set views id (newcomer k (parts - 1)) ++ newcomer k 1 ∷ [])
cut k parts d f id views some_part r at = record {
  few = r.few;
  whole = (let a = both (λ v. v.parts) in let h = r.whole in omega arith);
  reach = (let a = both late in let h = r.reach in omega arith);
  once = λ n below call. (let a = both (λ v. times n v.drawn) in let h = r.once n below call in omega arith);
  not_yet = λ n above. (let a = both (λ v. times n v.drawn) in let h = r.not_yet n above in omega arith);
  no_more = λ n above. (let a = both (λ v. times n v.drawn) in let h = r.no_more n above in omega arith);
  spent = (let a = both (λ v. sum v.granted) in let h = r.spent in omega arith);
  each = λ j u here. ⊎_elim
      (λ there. ⊎_elim (λ (t : (j ≡ id) × (newcomer k (parts - 1) ≡ u)). subst (Sound k d f) t.1 (fresh k d f (parts - 1) least)) (λ (t : (j ≢ id) × (get_elem? views j ≡ some u)). r.each j u t.1) (at_set views id j (newcomer k (parts - 1)) u there))
      (λ same. subst (Sound k d f) same (fresh k d f 1 least))
      (at_snoc (set views id (newcomer k (parts - 1))) (newcomer k 1) u j here);
}
  where
    least : f ≤ k.block_fuel
    least = let h = r.spent in omega arith

    both : (g : Account → ℕ) → total g (set views id (newcomer k (parts - 1)) ++ newcomer k 1 ∷ []) + g (newcomer k parts) ≡ total g views + g (newcomer k (parts - 1)) + g (newcomer k 1)
    both g = let a = total_set g views id (newcomer k parts) (newcomer k (parts - 1)) at in let b = total_snoc g (set views id (newcomer k (parts - 1))) (newcomer k 1) in omega arith

pub cuts : (k : Limits) (id : ℕ) (v : Account) → v ≡ newcomer k v.parts → 0 < v.parts → Splits (Fair k) id v (cut_down v) (cut_off v)
cuts k id v e some_part s r at = subst (λ (w : Account). Fair k (record { words = s.words; homes = s.homes; views = set s.views id (cut_down w) ++ cut_off w ∷ [] })) (sym e)
    (r.0, cut k v.parts _ _ id s.views some_part r.1 (subst (λ (w : Account). get_elem? s.views id ≡ some w) e at))
