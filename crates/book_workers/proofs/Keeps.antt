-- Each step keeps the rule, and tells its seat what its name says.
use Rattle.std.proofs.Common.{◌≡◌, ℕ, zero, suc, ◌+◌, ◌%◌, ◌^◌, ◌<◌, ◌≤◌, false, List, [], ◌∷◌, length, get_or, set, sym, refl, ap, subst, cond, eqb, eq-eqb, arith, mod-eq_of_lt}
use mathlib.Core.Logic.{dite}
use mathlib.Core.Option.{none, some}
use native.Mathlib.Decide.{dec_lt, ℕ_discrete}
use lib.ListN.{get_elem?}
use Rattle.std.specs.List.{All, sum}
use Rattle.std.proofs.lemmas.List.Sums.{get_or-le-sum_by, sum_by_push}
use Rattle.std.proofs.lemmas.List.Elements.{All-append}
use Rattle.std.proofs.lemmas.Bool.{false_from_ne_true}
use Rattle.atomic_table.specs.Table.{Me, step, keeps, Allows}
use Rattle.atomic_table.proofs.Lists.{set_again, exchanged}
use prog.Atomic.{either}
use Rattle.book_workers.specs.declared.account.Account.{Account}
use Rattle.book_workers.specs.declared.account.Limits.{Limits}
use Rattle.book_workers.specs.Accounts.{drew, told_done, saw, grant, refuse, times}
use Rattle.book_workers.specs.Fair.{late, late_of, Sound, Kept, OfWords, Fair, looked, took, peeked, asked}
use Rattle.book_workers.proofs.Totals.{total_at, total_le}
use Rattle.book_workers.proofs.Turns.{late_le, turned_same, turned_drew}

-- the first word becomes n
at_next : (k : Limits) (words : List ℕ) (n : ℕ) (views : List Account) → length words ≡ 2 → Kept k n (get_or words 1 0) views → OfWords k (set words 0 n) views
at_next k [] n views e r = absurd (omega arith)
at_next k (x ∷ []) n views e r = absurd (omega arith)
at_next k (x ∷ y ∷ ws) n views e r = (e, r)

-- the second word becomes n
at_fuel : (k : Limits) (words : List ℕ) (n : ℕ) (views : List Account) → length words ≡ 2 → Kept k (get_or words 0 0) n views → OfWords k (set words 1 n) views
at_fuel k [] n views e r = absurd (omega arith)
at_fuel k (x ∷ []) n views e r = absurd (omega arith)
at_fuel k (x ∷ y ∷ ws) n views e r = (e, r)

unmoved : (k : Limits) (d f id : ℕ) (views : List Account) (v : Account) → Kept k d f views → get_elem? views id ≡ some v → Kept k d f (set views id v)
unmoved k d f id views v r at = subst (Kept k d f) (sym (set_again views id v at)) r

-- a seat is told that all is drawn, by a load or after it added one
tells : (k : Limits) (d d' f id : ℕ) (views : List Account) (v : Account) → Kept k d f views → get_elem? views id ≡ some v → 0 < v.parts → k.calls ≤ d → d ≤ d' → d' + late v ≤ d + v.parts
    → Kept k d' f (set views id (told_done v))
tells k d d' f id views v r at some_part all up reach = let was = r.each id v at in
    turned_same k d d' f f id views v (told_done v) r at up (λ n below call. omega arith) (omega arith) refl refl reach (omega arith)
    (record { limits = was.limits; idle = λ e. absurd (omega arith); all_drawn = λ e. omega arith; least = was.least; too_much = was.too_much })

-- a seat that was told so cannot see a number that is left
undone : (k : Limits) (d f : ℕ) (v : Account) → Sound k d f v → d < k.calls → v.is_done ≡ false
undone k d f v s room = false_from_ne_true v.is_done (λ e. let h = s.all_drawn e in absurd (omega arith))

pub looks : (k : Limits) (slots id : ℕ) (me : Me ℕ Account) → 0 < me.0.parts → me.0.limits ≡ k → Allows (Fair k) slots id me 0 (λ n. n) (looked (step slots 0 0 0 none) me)
looks k slots id me some_part same s r _ at _ = let d : ℕ = get_or s.words 0 0 in let f : ℕ = get_or s.words 1 0 in
    let calls : me.0.limits.calls ≡ k.calls = ap (λ (l : Limits). l.calls) same in
    dite (dec_lt d me.0.limits.calls)
    (λ room. (
      me.0,
      keeps,
      tt,
      at_next k s.words d (set s.views id me.0) r.0 (unmoved k d f id s.views me.0 r.1 at),
      (refl, (λ _. (refl, undone k d f me.0 (r.1.each id me.0 at) (omega arith))), (λ all. absurd (omega arith))),
    ))
    (λ full. (
      told_done me.0,
      keeps,
      tt,
      at_next k s.words d (set s.views id (told_done me.0)) r.0 (tells k d d f id s.views me.0 r.1 at some_part (omega arith) (omega arith) (omega (arith, late_le me.0.is_done me.0.parts))),
      (refl, (λ room. absurd (full room)), (λ _. refl)),
    ))

stands : (ns : List ℕ) (i x : ℕ) → i < length ns → 1 ≤ times (get_or ns i x) ns
stands ns i x inside = let n : ℕ = get_or ns i x in let h = get_or-le-sum_by (λ m. cond (eqb m n) 1 0) ns i x inside in let one : cond (eqb n n) 1 0 ≡ 1 = ap (λ b. cond b 1 0) (eq-eqb n n refl) in
    subst (λ (a : ℕ). a ≤ times n ns) one h

drawn_below : (k : Limits) (d f id : ℕ) (views : List Account) (v : Account) → Kept k d f views → get_elem? views id ≡ some v → All (λ n. n < d) v.drawn
drawn_below k d f id views v r at i x inside = let n : ℕ = get_or v.drawn i x in
    dite (dec_lt n d) (λ below. below) (λ above. let some_time = stands v.drawn i x inside in let most = total_at (λ u. times n u.drawn) views id v at in let none = r.not_yet n (omega arith) in absurd (omega arith))

-- the next number stays far below 2^64
small : (k : Limits) (d f : ℕ) (views : List Account) → Kept k d f views → (d + 1) % 2 ^ 64 ≡ d + 1
small k d f views r = let a = r.few in let b = r.reach in let c = r.whole in let h = total_le late (λ v. v.parts) (λ v. late_le v.is_done v.parts) views in mod-eq_of_lt (omega arith)

pub takes : (k : Limits) (slots id : ℕ) (me : Me ℕ Account) → 0 < me.0.parts → me.0.limits ≡ k → me.0.is_done ≡ false
    → Allows (Fair k) slots id me 0 (λ n. (n + 1) % 2 ^ 64) (took (step slots 0 1 0 none) me)
takes k slots id me some_part same not_done s r _ at _ = let d : ℕ = get_or s.words 0 0 in let f : ℕ = get_or s.words 1 0 in
    let calls : me.0.limits.calls ≡ k.calls = ap (λ (l : Limits). l.calls) same in
    let small : (d + 1) % 2 ^ 64 ≡ d + 1 = small k d f s.views r.1 in
    let none_late : late me.0 ≡ 0 = ap (λ b. late_of b me.0.parts) not_done in
    dite (dec_lt d me.0.limits.calls)
    (λ room. (
      drew me.0 d,
      keeps,
      tt,
      at_next k s.words ((d + 1) % 2 ^ 64) (set s.views id (drew me.0 d)) r.0 (subst (λ (n : ℕ). Kept k n f (set s.views id (drew me.0 d))) (sym small) (turned_drew k d f id s.views me.0 r.1 at some_part not_done (omega arith))),
      (refl, (λ _. (refl, drawn_below k d f id s.views me.0 r.1 at)), (λ all. absurd (omega arith))),
    ))
    (λ full. (
      told_done me.0,
      keeps,
      tt,
      at_next k s.words ((d + 1) % 2 ^ 64) (set s.views id (told_done me.0)) r.0 (subst (λ (n : ℕ). Kept k n f (set s.views id (told_done me.0))) (sym small) (tells k d (d + 1) f id s.views me.0 r.1 at some_part (omega arith) (omega arith) (omega arith))),
      (refl, (λ room. absurd (full room)), (λ _. refl)),
    ))

-- a seat sees less fuel, or as much
sees : (k : Limits) (d f id : ℕ) (views : List Account) (v : Account) → Kept k d f views → get_elem? views id ≡ some v → Kept k d f (set views id (saw v f))
sees k d f id views v r at = let was = r.each id v at in turned_same k d d f f id views v (saw v f) r at (omega arith) (λ n below call. below) (omega arith) refl refl (omega arith) (omega arith)
    (record { limits = was.limits; idle = was.idle; all_drawn = was.all_drawn; least = λ _. omega arith; too_much = was.too_much })

-- what is left and what a seat was granted is no more than all the fuel
within : (k : Limits) (d f id : ℕ) (views : List Account) (v : Account) → Kept k d f views → get_elem? views id ≡ some v → f + sum v.granted ≤ k.block_fuel
within k d f id views v r at = let h = r.spent in let most = total_at (λ u. sum u.granted) views id v at in omega arith

pub peeks : (k : Limits) (slots id : ℕ) (me : Me ℕ Account) → 0 < me.0.parts → me.0.limits ≡ k → Allows (Fair k) slots id me 1 (λ n. n) (peeked (step slots 1 0 0 none) me)
peeks k slots id me some_part same s r _ at _ = let d : ℕ = get_or s.words 0 0 in let f : ℕ = get_or s.words 1 0 in
    let all : me.0.limits.block_fuel ≡ k.block_fuel = ap (λ (l : Limits). l.block_fuel) same in
    let own = within k d f id s.views me.0 r.1 at in
    (saw me.0 f, keeps, tt, at_fuel k s.words f (set s.views id (saw me.0 f)) r.0 (sees k d f id s.views me.0 r.1 at), (refl, (r.1.each id me.0 at).least some_part, omega arith, refl))

-- a seat takes fuel, or is refused it
grants : (k : Limits) (d f id : ℕ) (views : List Account) (v : Account) (fuel less : ℕ) → Kept k d f views → get_elem? views id ≡ some v → 0 < v.parts → less + fuel ≡ f
    → Kept k d less (set views id (grant v fuel less))
grants k d f id views v fuel less r at some_part sum_is = let was = r.each id v at in let more = sum_by_push (λ (n : ℕ). n) v.granted fuel in
    turned_same k d d f less id views v (grant v fuel less) r at (omega arith) (λ n below call. below) (omega arith) refl refl (omega arith) (omega arith)
    (record { limits = was.limits; idle = λ e. absurd (omega arith); all_drawn = was.all_drawn; least = λ _. omega arith; too_much = λ i x inside. (let h = was.too_much i x inside in omega arith) })

refuses : (k : Limits) (d f id : ℕ) (views : List Account) (v : Account) (fuel : ℕ) → Kept k d f views → get_elem? views id ≡ some v → 0 < v.parts → f < fuel
    → Kept k d f (set views id (refuse v fuel f))
refuses k d f id views v fuel r at some_part less = let was = r.each id v at in
    turned_same k d d f f id views v (refuse v fuel f) r at (omega arith) (λ n below call. below) (omega arith) refl refl (omega arith) (omega arith)
    (record {
      limits = was.limits;
      idle = λ e. absurd (omega arith);
      all_drawn = was.all_drawn;
      least = λ _. omega arith;
      too_much = All-append (λ (n : ℕ). f < n) v.refused (fuel ∷ []) was.too_much (alone f fuel less);
    })
  where
    alone : (f fuel : ℕ) → f < fuel → All (λ (n : ℕ). f < n) (fuel ∷ [])
    alone f fuel less zero x inside = less
    alone f fuel less (suc i) x inside = absurd (omega arith)

pub asks : (k : Limits) (slots id old less fuel : ℕ) (me : Me ℕ Account) → 0 < me.0.parts → less + fuel ≡ old
    → Allows (Fair k) slots id me 1 (λ n. either (eqb n old) less n) (asked (step slots 1 old less (some fuel)) me)
asks k slots id old less fuel me some_part sum_is s r _ at _ = let d : ℕ = get_or s.words 0 0 in let f : ℕ = get_or s.words 1 0 in
    let seen = (r.1.each id me.0 at).least some_part in
    dite (ℕ_discrete f old)
    (λ hit. (
      grant me.0 fuel less,
      keeps,
      tt,
      exchanged f old less (λ n. OfWords k (set s.words 1 n) (set s.views id (grant me.0 fuel less))) (λ _. at_fuel k s.words less _ r.0 (grants k d f id s.views me.0 fuel less r.1 at some_part (omega arith))) (λ miss. absurd (miss hit)),
      (refl, seen, (λ _. refl), (λ miss. absurd (miss hit)), (λ miss. absurd (miss hit))),
    ))
    (λ miss. dite (dec_lt f fuel)
    (λ short. (
      refuse me.0 fuel f,
      keeps,
      tt,
      exchanged f old less (λ n. OfWords k (set s.words 1 n) (set s.views id (refuse me.0 fuel f))) (λ hit. absurd (miss hit)) (λ _. at_fuel k s.words f _ r.0 (refuses k d f id s.views me.0 fuel r.1 at some_part short)),
      (refl, seen, (λ hit. absurd (miss hit)), (λ _ _. refl), (λ _ enough. absurd (omega arith))),
    ))
    (λ enough. (
      saw me.0 f,
      keeps,
      tt,
      exchanged f old less (λ n. OfWords k (set s.words 1 n) (set s.views id (saw me.0 f))) (λ hit. absurd (miss hit)) (λ _. at_fuel k s.words f _ r.0 (sees k d f id s.views me.0 r.1 at)),
      (refl, seen, (λ hit. absurd (miss hit)), (λ _ short. absurd (enough short)), (λ _ _. refl)),
    )))
