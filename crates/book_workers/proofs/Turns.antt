-- The rule stays when one view changes.
use Rattle.std.proofs.Common.{◌≡◌, ◌≢◌, ℕ, ◌+◌, ◌<◌, ◌≤◌, Bool, true, false, eqb, cond, List, [], ◌∷◌, ◌++◌, set, sym, refl, ap, ◌∙◌, subst, ⊎_elim, arith, eq-eqb, ne_eqb}
use mathlib.Core.Option.{some}
use mathlib.Core.Logic.{dite}
use native.Mathlib.Decide.{ℕ_discrete}
use Rattle.std.proofs.Math.Numerals.{lt_of_le_of_ne}
use lib.ListN.{get_elem?}
use Rattle.std.specs.List.{sum}
use Rattle.std.proofs.lemmas.List.Sums.{sum_by_push}
use Rattle.atomic_table.proofs.Lists.{at_set}
use Rattle.book_workers.specs.declared.account.Account.{Account}
use Rattle.book_workers.specs.declared.account.Limits.{Limits}
use Rattle.book_workers.specs.Accounts.{times, drew}
use Rattle.book_workers.specs.Fair.{total, late, late_of, Sound, Kept}
use Rattle.book_workers.proofs.Totals.{total_set}

pub times_here : (n : ℕ) (ns : List ℕ) → times n (ns ++ n ∷ []) ≡ times n ns + 1
times_here n ns = sum_by_push (λ m. cond (eqb m n) 1 0) ns n ∙ ap (λ b. times n ns + cond b 1 0) (eq-eqb n n refl)

pub times_other : (n m : ℕ) (ns : List ℕ) → m ≢ n → times n (ns ++ m ∷ []) ≡ times n ns
times_other n m ns ne = sum_by_push (λ k. cond (eqb k n) 1 0) ns m ∙ (ap (λ b. times n ns + cond b 1 0) (ne_eqb m n ne) ∙ omega arith)

pub late_le : (b : Bool) (parts : ℕ) → late_of b parts ≤ parts
late_le true parts = omega arith
late_le false parts = omega arith

-- a seat's facts last while the numbers rise and the fuel falls
pub later : (k : Limits) (d d' f f' : ℕ) (v : Account) → Sound k d f v → d ≤ d' → f' ≤ f → Sound k d' f' v
later k d d' f f' v s up down = record {
  limits = s.limits;
  idle = s.idle;
  all_drawn = λ e. let h = s.all_drawn e in omega arith;
  least = λ some_part. let h = s.least some_part in omega arith;
  too_much = λ i x inside. let h = s.too_much i x inside in omega arith;
}

each_turned : (k : Limits) (d d' f f' id : ℕ) (views : List Account) (w : Account) → Kept k d f views → d ≤ d' → f' ≤ f → Sound k d' f' w
    → (j : ℕ) (u : Account) → get_elem? (set views id w) j ≡ some u → Sound k d' f' u
each_turned k d d' f f' id views w r up down sound j u at = ⊎_elim (λ (t : (j ≡ id) × (w ≡ u)). subst (Sound k d' f') t.1 sound) (λ (t : (j ≢ id) × (get_elem? views j ≡ some u)). later k d d' f f' u (r.each j u t.1) up down)
    (at_set views id j w u at)

-- one seat's view changes, and what it drew stays
pub turned_same : (k : Limits) (d d' f f' id : ℕ) (views : List Account) (v w : Account) → Kept k d f views → get_elem? views id ≡ some v
    → d ≤ d' → ((n : ℕ) → n < d' → n < k.calls → n < d) → f' ≤ f → w.drawn ≡ v.drawn → w.parts ≡ v.parts → d' + late v ≤ d + late w → f' + sum w.granted ≡ f + sum v.granted → Sound k d' f' w
    → Kept k d' f' (set views id w)
turned_same k d d' f f' id views v w r at up when down same parts reach fuel sound = record {
  few = r.few;
  whole = (let t = total_set (λ u. u.parts) views id v w at in let h = r.whole in omega arith);
  reach = (let t = total_set late views id v w at in let h = r.reach in omega arith);
  once = λ n below call. (let s = drawn n in let h = r.once n (when n below call) call in omega arith);
  not_yet = λ n above. (let s = drawn n in let h = r.not_yet n (omega arith) in omega arith);
  no_more = λ n above. (let s = drawn n in let h = r.no_more n above in omega arith);
  spent = (let t = total_set (λ u. sum u.granted) views id v w at in let h = r.spent in omega arith);
  each = each_turned k d d' f f' id views w r up down sound;
}
  where
    drawn : (n : ℕ) → total (λ u. times n u.drawn) (set views id w) ≡ total (λ u. times n u.drawn) views
    drawn n = let t = total_set (λ u. times n u.drawn) views id v w at in let s : times n w.drawn ≡ times n v.drawn = ap (times n) same in omega arith

lower : (d n : ℕ) → n < d + 1 → d ≢ n → n < d
lower d n h ne = lt_of_le_of_ne (omega arith) (λ e. ne (sym e))

-- one seat draws the next number
pub turned_drew : (k : Limits) (d f id : ℕ) (views : List Account) (v : Account) → Kept k d f views → get_elem? views id ≡ some v → 0 < v.parts → v.is_done ≡ false → d < k.calls → Kept k (d + 1) f (set views id (drew v d))
turned_drew k d f id views v r at some_part not_done room = record {
  few = r.few;
  whole = (let t = total_set (λ u. u.parts) views id v (drew v d) at in let h = r.whole in omega arith);
  reach = omega arith;
  once = λ n below call. dite (ℕ_discrete d n)
      (λ e. let s = drawn_now n e in let h = r.not_yet n (omega arith) in omega arith)
      (λ ne. let s = drawn n ne in let h = r.once n (lower d n below ne) call in omega arith);
  not_yet = λ n above. (let s = drawn n (λ e. absurd (omega arith)) in let h = r.not_yet n (omega arith) in omega arith);
  no_more = λ n above. (let s = drawn n (λ e. absurd (omega arith)) in let h = r.no_more n above in omega arith);
  spent = (let t = total_set (λ u. sum u.granted) views id v (drew v d) at in let h = r.spent in omega arith);
  each = each_turned k d (d + 1) f f id views (drew v d) r (omega arith) (omega arith) sound;
}
  where
    drawn_now : (n : ℕ) → d ≡ n → total (λ u. times n u.drawn) (set views id (drew v d)) ≡ total (λ u. times n u.drawn) views + 1
    drawn_now n e = let t = total_set (λ u. times n u.drawn) views id v (drew v d) at in
        let s : times n (v.drawn ++ d ∷ []) ≡ times n v.drawn + 1 = subst (λ (m : ℕ). times n (v.drawn ++ m ∷ []) ≡ times n v.drawn + 1) (sym e) (times_here n v.drawn) in omega arith

    drawn : (n : ℕ) → d ≢ n → total (λ u. times n u.drawn) (set views id (drew v d)) ≡ total (λ u. times n u.drawn) views
    drawn n ne = let t = total_set (λ u. times n u.drawn) views id v (drew v d) at in let s : times n (v.drawn ++ d ∷ []) ≡ times n v.drawn = times_other n d v.drawn ne in omega arith

    was : Sound k d f v
    was = r.each id v at

    sound : Sound k (d + 1) f (drew v d)
    sound = record {
      limits = was.limits;
      idle = λ none. absurd (omega arith);
      all_drawn = λ e. let h = was.all_drawn e in omega arith;
      least = was.least;
      too_much = was.too_much;
    }
