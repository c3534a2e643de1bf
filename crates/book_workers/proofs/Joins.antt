-- The rule when a seat takes in another, and what it says of a seat that took in all others.
use Rattle.std.proofs.Common.{◌≡◌, ◌≢◌, ℕ, ◌+◌, ◌<◌, ◌≤◌, Bool, true, false, ◌||◌, List, [], ◌∷◌, ◌++◌, get_or, set, sym, refl, ap, ◌∙◌, subst, ⊎_elim, arith}
use mathlib.Core.Logic.{dite}
use mathlib.Core.Option.{some, some-injective, some-ne-none}
use native.Mathlib.Decide.{dec_le}
use lib.ListN.{get_elem?}
use Rattle.std.specs.List.{All, sum}
use Rattle.std.proofs.lemmas.List.Elements.{All-append}
use Rattle.std.proofs.lemmas.List.Sums.{sum_by-append}
use Rattle.atomic_table.specs.Table.{Joins, Final, Seen}
use Rattle.atomic_table.proofs.Lists.{at_set, set_else}
use Rattle.book_workers.specs.declared.account.Account.{Account}
use Rattle.book_workers.specs.declared.account.Limits.{Limits}
use Rattle.book_workers.specs.Accounts.{merged, gone, times, IsEachBelow}
use Rattle.book_workers.specs.Fair.{total, late, late_of, Sound, Kept, Fair}
use Rattle.book_workers.proofs.Totals.{total_set, total_alone}

late_merged : (a b : Bool) (m n : ℕ) → late_of a m + late_of b n ≤ late_of (b || a) (m + n)
late_merged true true m n = omega arith
late_merged true false m n = omega arith
late_merged false true m n = omega arith
late_merged false false m n = omega arith

some_done : (a b : Bool) (P : Type 0) → (a ≡ true → P) → (b ≡ true → P) → (a || b) ≡ true → P
some_done true b P f g e = f refl
some_done false b P f g e = g e

times_merged : (n : ℕ) (xs ys : List ℕ) → times n (xs ++ ys) ≡ times n xs + times n ys
times_merged n xs ys = sum_by-append _ xs ys

join : (k : Limits) (d f id other : ℕ) (views : List Account) (v w : Account) → Kept k d f views → get_elem? views id ≡ some v → 0 < v.parts → v.limits ≡ k → get_elem? views other ≡ some w
    → other ≢ id → Kept k d f (set (set views id (merged v w)) other gone)
join k d f id other views v w r at some_part same at' apart = record {
  few = r.few;
  whole = (let a = both (λ u. u.parts) in let h = r.whole in omega arith);
  reach = (let a = both late in let h = r.reach in omega (arith, late_merged v.is_done w.is_done v.parts w.parts));
  once = λ n below call. (let a = both (λ u. times n u.drawn) in let h = r.once n below call in omega (arith, times_merged n w.drawn v.drawn));
  not_yet = λ n above. (let a = both (λ u. times n u.drawn) in let h = r.not_yet n above in omega (arith, times_merged n w.drawn v.drawn));
  no_more = λ n above. (let a = both (λ u. times n u.drawn) in let h = r.no_more n above in omega (arith, times_merged n w.drawn v.drawn));
  spent = (let a = both (λ u. sum u.granted) in let h = r.spent in omega (arith, sum_by-append (λ (n : ℕ). n) w.granted v.granted));
  each = λ j u here. ⊎_elim (λ (t : (j ≡ other) × (gone ≡ u)). subst (Sound k d f) t.1 nobody)
      (λ (t : (j ≢ other) × (get_elem? (set views id (merged v w)) j ≡ some u)). ⊎_elim (λ (t' : (j ≡ id) × (merged v w ≡ u)). subst (Sound k d f) t'.1 sound) (λ (t' : (j ≢ id) × (get_elem? views j ≡ some u)). r.each j u t'.1)
      (at_set views id j (merged v w) u t.1))
      (at_set (set views id (merged v w)) other j gone u here);
}
  where
    both : (g : Account → ℕ) → total g (set (set views id (merged v w)) other gone) + g v + g w ≡ total g views + g (merged v w) + g gone
    both g = let a = total_set g views id v (merged v w) at in let b = total_set g (set views id (merged v w)) other w gone (set_else views id other (merged v w) apart ∙ at') in omega arith

    nobody : Sound k d f gone
    nobody = record { limits = λ none. absurd (omega arith); idle = λ _. (refl, refl, refl, refl); all_drawn = λ e. absurd (cc); least = λ none. absurd (omega arith); too_much = λ i x inside. absurd (omega arith) }

    sound : Sound k d f (merged v w)
    sound = let a = r.each id v at in let b = r.each other w at' in record {
      limits = λ _. same;
      idle = λ none. absurd (omega arith);
      all_drawn = λ e. some_done w.is_done v.is_done (k.calls ≤ d) b.all_drawn a.all_drawn e;
      least = λ _. a.least some_part;
      too_much = All-append (λ (n : ℕ). f < n) w.refused v.refused b.too_much a.too_much;
    }

pub joins : (k : Limits) (id other : ℕ) (v w : Account) → 0 < v.parts → v.limits ≡ k → Joins (Fair k) id v other w (merged v w) gone
joins k id other v w some_part same s r at apart at' = (r.0, join k _ _ id other s.views v w r.1 at some_part same (sym (set_else s.views id other (merged v w) apart) ∙ at') apart)

-- what is known once one seat has all parts, and the fuel left is n
pub record Ended (k : Limits) (v : Account) (n : ℕ) : Type 0 where
  pub draws : (m : ℕ) × (m ≤ k.calls) × IsEachBelow m v.drawn × (v.is_done ≡ true → m ≡ k.calls)
  pub fuel : n + sum v.granted ≡ k.block_fuel
  pub refused : All (λ asked. n < asked) v.refused

ended : (k : Limits) (d f id : ℕ) (views : List Account) (v : Account) → Kept k d f views → get_elem? views id ≡ some v → v.parts ≡ k.seats → Ended k v f
ended k d f id views v r at all = record {
  draws = dite (dec_le d k.calls)
      (λ within. (d, within, (λ n. ((λ below. let a = alone n in let h = r.once n below (omega arith) in omega arith), (λ above. let a = alone n in let h = r.not_yet n above in omega arith))), (λ e. let h = s.all_drawn e in omega arith)))
      (λ past. (k.calls, omega arith, (λ n. ((λ below. let a = alone n in let h = r.once n (omega arith) below in omega arith), (λ above. let a = alone n in let h = r.no_more n above in omega arith))), (λ _. refl)));
  fuel = (let a = total_alone (λ u. sum u.granted) (λ u. u.parts) views id v at whole (λ j u here none. ap (λ (ns : List ℕ). sum ns) (((r.each j u here).idle none).1)) in let h = r.spent in omega arith);
  refused = s.too_much;
}
  where
    s : Sound k d f v
    s = r.each id v at

    whole : total (λ u. u.parts) views ≡ v.parts
    whole = r.whole ∙ sym all

    alone : (n : ℕ) → total (λ u. times n u.drawn) views ≡ times n v.drawn
    alone n = total_alone (λ u. times n u.drawn) (λ u. u.parts) views id v at whole (λ j u here none. ap (λ (ns : List ℕ). times n ns) (((r.each j u here).idle none).0))

second : (ws : List ℕ) (n : ℕ) → get_elem? ws 1 ≡ some n → get_or ws 1 0 ≡ n
second [] n e = absurd (some-ne-none n (sym e))
second (x ∷ []) n e = absurd (some-ne-none n (sym e))
second (x ∷ y ∷ ws) n e = some-injective y n e

pub ends : (k : Limits) (id : ℕ) (v : Account) (ws xs : List ℕ) (n : ℕ) → Final (Seen (Fair k) id v) ws xs → v.parts ≡ k.seats → get_elem? ws 1 ≡ some n → Ended k v n
ends k id v ws xs n t all e = subst (Ended k v) (ap (λ (l : List ℕ). get_or l 1 0) t.2 ∙ second ws n e) (ended k _ _ id t.0.views v t.1.0.1 t.1.1 all)
