-- Locks in their order, one more that is asked for, and what all hold together.
use Rattle.std.proofs.Common.{◌≡◌, ℕ, suc, ◌+◌, ◌<◌, ◌≤◌, Bool, true, false, cond, ◌&&◌, not, T, Option, Some, None, List, [], ◌∷◌, ◌++◌, map, length, drop, get_or, refl, sym, ◌∙◌, ap, ap₂, subst, arith}
use Rattle.std.proofs.lemmas.List.{drop_more, drop_all, map-append}
use Rattle.std.specs.declared.cmp.Ordering.{Ordering}
use Rattle.std.specs.declared.cmp.Ordering.TheVariants.{Less, Equal, Greater}
use Rattle.std.specs.Ordering.{eq_by_cmp, is_eq, is_lt, ordering_reverse}
use Rattle.std.specs.Cmp.{eq_by_cmp_equiv}
use Rattle.std.specs.List.{filter}
use Rattle.std.specs.List.Sorted.{IsSortedByKey, IsStableByKey, ties}
use Rattle.std.specs.FinMap.{empty, get, find, is_sorted, get-insert, get-from_entries, same_map}
use Rattle.std.specs.FinMap.Entries.{below_all}
use Rattle.spec_ledger.specs.declared.Lock.{Lock}
use Rattle.spec_ledger.specs.declared.Mode.{Mode}
use Rattle.spec_ledger.specs.declared.Mode.TheVariants.{Read}
use Rattle.spec_ledger.specs.Cells.{lock_cmp}
use Rattle.spec_ledger.specs.Modes.{Modes, join_held}
use Rattle.spec_ledger.proofs.Maps.{lock_cmp_total, lock_cmp-IsAntisymmetric, is_key, key_itself}
use Rattle.lock_profile.specs.declared.Held.{Held}
use Rattle.lock_profile.specs.Groups.{pair_of, pairs}
use Rattle.lock_profile.proofs.Groups.{left, right, less}
use Rattle.serial.specs.Asking.{modes_in, asked_for, asked_all, with_last, DoNotFallFrom, DoNotFall}

-- ---- locks that compare

both : (a b : Bool) → T a → T b → T (a && b)
both true b p q = q
both false b p q = p

not_itself : (a k : Lock) → lock_cmp a k ≡ Less → eq_by_cmp lock_cmp k a ≡ false
not_itself a k e = ap is_eq (lock_cmp_total.antisymm k a ∙ ap ordering_reverse e)

less_of : (o : Ordering) → is_lt (ordering_reverse o) ≡ false → is_eq o ≡ false → o ≡ Less
less_of Less a b = refl
less_of Equal a b = cc
less_of Greater a b = cc

-- a lock that is not below another one, and not that one, is above it
pub above : (l k : Lock) → is_lt (lock_cmp k l) ≡ false → eq_by_cmp lock_cmp l k ≡ false → lock_cmp l k ≡ Less
above l k behind other = less_of (lock_cmp l k) (ap is_lt (sym (lock_cmp_total.antisymm k l)) ∙ behind) other

-- ---- a list that rises, and its last lock

last_below : (a : Lock) (xs : List (Lock × Mode)) (k : Lock) (v : Mode) → T (below_all lock_cmp a (xs ++ (k, v) ∷ [])) → lock_cmp a k ≡ Less
last_below a [] k v h = less _ (left _ _ h)
last_below a (x ∷ xs) k v h = last_below a xs k v (right _ _ h)

-- it is none of those before it
not_before : (xs : List (Lock × Mode)) (k : Lock) (v : Mode) → T (is_sorted lock_cmp (xs ++ (k, v) ∷ [])) → find lock_cmp k xs ≡ None
not_before [] k v h = refl
not_before (x ∷ xs) k v h =
    ap (λ b. cond b (Some x.1) (find lock_cmp k xs)) (not_itself x.0 k (last_below x.0 xs k v (left _ _ h))) ∙ not_before xs k v (right _ _ h)

find_other : (q : Lock) (xs : List (Lock × Mode)) (k : Lock) (v : Mode) → eq_by_cmp lock_cmp q k ≡ false → find lock_cmp q (xs ++ (k, v) ∷ []) ≡ find lock_cmp q xs
find_other q [] k v e = ap (λ b. cond b (Some v) None) e
find_other q (x ∷ xs) k v e = ap (λ o. cond (eq_by_cmp lock_cmp q x.0) (Some x.1) o) (find_other q xs k v e)

find_last : (k : Lock) (xs : List (Lock × Mode)) (v : Mode) → find lock_cmp k xs ≡ None → find lock_cmp k (xs ++ (k, v) ∷ []) ≡ Some v
find_last k [] v none = ap (λ b. cond b (Some v) None) (key_itself lock_cmp_total lock_cmp-IsAntisymmetric k)
find_last k (x ∷ xs) v none =
    elim (eq_by_cmp lock_cmp k x.0) as (λ b. cond b (Some x.1) (find lock_cmp k xs) ≡ None → cond b (Some x.1) (find lock_cmp k (xs ++ (k, v) ∷ [])) ≡ Some v) [
      | true ↦ λ n. let no : Some x.1 ≡ None = n in cc
      | false ↦ λ n. find_last k xs v n
    ] none

below_value : (a : Lock) (xs : List (Lock × Mode)) (k : Lock) (u v : Mode) → below_all lock_cmp a (xs ++ (k, u) ∷ []) ≡ below_all lock_cmp a (xs ++ (k, v) ∷ [])
below_value a [] k u v = refl
below_value a (x ∷ xs) k u v = ap (λ b. is_lt (lock_cmp a x.0) && b) (below_value a xs k u v)

sorted_value : (xs : List (Lock × Mode)) (k : Lock) (u v : Mode) → is_sorted lock_cmp (xs ++ (k, u) ∷ []) ≡ is_sorted lock_cmp (xs ++ (k, v) ∷ [])
sorted_value [] k u v = refl
sorted_value (x ∷ xs) k u v = ap₂ (λ a b. a && b) (below_value x.0 xs k u v) (sorted_value xs k u v)

-- whatever the last lock's mode is
pub rises_still : (xs : List (Lock × Mode)) (k : Lock) (u v : Mode) → T (is_sorted lock_cmp (xs ++ (k, u) ∷ [])) → T (is_sorted lock_cmp (xs ++ (k, v) ∷ []))
rises_still xs k u v h = subst T (sorted_value xs k u v) h

below_more : (a : Lock) (xs : List (Lock × Mode)) (l k : Lock) (u m : Mode) → T (below_all lock_cmp a (xs ++ (l, u) ∷ [])) → lock_cmp l k ≡ Less → T (below_all lock_cmp a ((xs ++ (l, u) ∷ []) ++ (k, m) ∷ []))
below_more a [] l k u m h under =
    let far : lock_cmp a k ≡ Less = lock_cmp_total.trans a l k (less _ (left _ _ h)) under in
    both (is_lt (lock_cmp a l)) (is_lt (lock_cmp a k) && true) (left _ _ h) (both (is_lt (lock_cmp a k)) true (subst (λ o. T (is_lt o)) (sym far) tt) tt)
below_more a (x ∷ xs) l k u m h under = both (is_lt (lock_cmp a x.0)) _ (left _ _ h) (below_more a xs l k u m (right _ _ h) under)

-- with one more lock, above the last one
pub rises_more : (xs : List (Lock × Mode)) (l k : Lock) (u m : Mode) → T (is_sorted lock_cmp (xs ++ (l, u) ∷ [])) → lock_cmp l k ≡ Less → T (is_sorted lock_cmp ((xs ++ (l, u) ∷ []) ++ (k, m) ∷ []))
rises_more [] l k u m h under = both (is_lt (lock_cmp l k) && true) true (both (is_lt (lock_cmp l k)) true (subst (λ o. T (is_lt o)) (sym under) tt) tt) tt
rises_more (x ∷ xs) l k u m h under = both (below_all lock_cmp x.0 ((xs ++ (l, u) ∷ []) ++ (k, m) ∷ [])) _ (below_more x.0 xs l k u m (left _ _ h) under) (rises_more xs l k u m (right _ _ h) under)

-- ---- what is held with one more

-- a lock above all
pub modes_more : (es : List (Lock × Mode)) (k : Lock) (m : Mode) → T (is_sorted lock_cmp (es ++ (k, m) ∷ [])) → modes_in (es ++ (k, m) ∷ []) ≡ asked_for (modes_in es) (k, m)
modes_more es k m rise = same_map lock_cmp_total lock_cmp-IsAntisymmetric _ _ (λ q.
    get-from_entries lock_cmp_total (es ++ (k, m) ∷ []) q
    ∙ elim (eq_by_cmp lock_cmp q k) as (λ b. eq_by_cmp lock_cmp q k ≡ b → find lock_cmp q (es ++ (k, m) ∷ []) ≡ cond b (Some (join_held m (get (modes_in es) k))) (get (modes_in es) q)) [
      | true ↦ λ e.
          let none : get (modes_in es) k ≡ None = get-from_entries lock_cmp_total es k ∙ not_before es k m rise in
          ap (λ x. find lock_cmp x (es ++ (k, m) ∷ [])) (is_key lock_cmp_total lock_cmp-IsAntisymmetric q k e) ∙ find_last k es m (not_before es k m rise)
          ∙ sym (ap (λ o. Some (join_held m o)) none)
      | false ↦ λ e. find_other q es k m e ∙ sym (get-from_entries lock_cmp_total es q)
    ] refl
    ∙ sym (get-insert lock_cmp_total (modes_in es) k (join_held m (get (modes_in es) k)) q))

-- the last lock once more
joined_at : (xs : List (Lock × Mode)) (k : Lock) (old m : Mode) → T (is_sorted lock_cmp (xs ++ (k, old) ∷ [])) → modes_in (xs ++ (k, join_held m (Some old)) ∷ []) ≡ asked_for (modes_in (xs ++ (k, old) ∷ [])) (k, m)
joined_at xs k old m rise =
    let es : List (Lock × Mode) = xs ++ (k, old) ∷ [] in
    let v : Mode = join_held m (Some old) in
    same_map lock_cmp_total lock_cmp-IsAntisymmetric _ _ (λ q.
    get-from_entries lock_cmp_total (xs ++ (k, v) ∷ []) q
    ∙ elim (eq_by_cmp lock_cmp q k) as (λ b. eq_by_cmp lock_cmp q k ≡ b → find lock_cmp q (xs ++ (k, v) ∷ []) ≡ cond b (Some (join_held m (get (modes_in es) k))) (get (modes_in es) q)) [
      | true ↦ λ e.
          let none : find lock_cmp k xs ≡ None = not_before xs k old rise in
          ap (λ x. find lock_cmp x (xs ++ (k, v) ∷ [])) (is_key lock_cmp_total lock_cmp-IsAntisymmetric q k e) ∙ find_last k xs v none
          ∙ sym (ap (λ o. Some (join_held m o)) (get-from_entries lock_cmp_total es k ∙ find_last k xs old none))
      | false ↦ λ e. find_other q xs k v e ∙ sym (get-from_entries lock_cmp_total es q ∙ find_other q xs k old e)
    ] refl
    ∙ sym (get-insert lock_cmp_total (modes_in es) k (join_held m (get (modes_in es) k)) q))

pub modes_joined : (xs : List (Lock × Mode)) (l k : Lock) (old m : Mode) → l ≡ k → T (is_sorted lock_cmp (xs ++ (l, old) ∷ [])) → modes_in (xs ++ (l, join_held m (Some old)) ∷ []) ≡ asked_for (modes_in (xs ++ (l, old) ∷ [])) (k, m)
modes_joined xs l k old m same rise = joined_at xs l old m rise ∙ ap (λ x. asked_for (modes_in (xs ++ (l, old) ∷ [])) (x, m)) same

pub pairs_more : (held next : List Held) (last : Held) → next ≡ held ++ last ∷ [] → pairs next ≡ with_last held last
pairs_more held next last e = ap pairs e ∙ map-append pair_of held (last ∷ [])

-- ---- one after another

module _ (rest : List Held) (i : ℕ) where
  module _ (d : Held) (below : i < length rest) where
    falls_on : (q : Lock) → DoNotFallFrom q (drop i rest) → DoNotFallFrom q (get_or rest i d ∷ drop (i + 1) rest)
    falls_on q are = subst (λ hs. DoNotFallFrom q hs) (drop_more rest i d below) are

    pub falls_here : (q : Lock) → DoNotFallFrom q (drop i rest) → is_lt (lock_cmp (get_or rest i d).lock q) ≡ false
    falls_here q are = (falls_on q are).0

    pub falls_next : (q next : Lock) → next ≡ (get_or rest i d).lock → DoNotFallFrom q (drop i rest) → DoNotFallFrom next (drop (i + 1) rest)
    falls_next q next e are = subst (λ k. DoNotFallFrom k (drop (i + 1) rest)) (sym e) (falls_on q are).1

    pub modes_next : (m n all : Modes) → n ≡ asked_for m (pair_of (get_or rest i d)) → asked_all m (pairs (drop i rest)) ≡ all → asked_all n (pairs (drop (i + 1) rest)) ≡ all
    modes_next m n all e was = ap (λ k. asked_all k (pairs (drop (i + 1) rest))) e ∙ sym (ap (λ hs. asked_all m (pairs hs)) (drop_more rest i d below)) ∙ was

  pub modes_end : (m all : Modes) → length rest ≤ i → asked_all m (pairs (drop i rest)) ≡ all → m ≡ all
  modes_end m all past was = sym (ap (λ hs. asked_all m (pairs hs)) (drop_all i rest past)) ∙ was

pub modes_begin : (held asked rest : List Held) (first : Held) → held ≡ [] → asked ≡ first ∷ rest → asked_all (modes_in (with_last held first)) (pairs rest) ≡ asked_all empty (pairs asked)
modes_begin held asked rest first e f =
    ap (λ hs. asked_all (modes_in (with_last hs first)) (pairs rest)) e ∙ ap (λ m. asked_all m (pairs rest)) (modes_more [] first.lock first.mode tt)
    ∙ sym (ap (λ hs. asked_all empty (pairs hs)) f)

pub nothing_held : (held asked : List Held) → held ≡ [] → length asked ≡ 0 → modes_in (pairs held) ≡ asked_all empty (pairs asked)
nothing_held held [] e f = ap (λ hs. modes_in (pairs hs)) e
nothing_held held (x ∷ xs) e f = absurd (omega (arith, f))

-- ---- after a sort by the lock

falls_from : (h : Held) (hs : List Held) → IsSortedByKey (λ (x : Held). x.lock) lock_cmp (h ∷ hs) → DoNotFallFrom h.lock hs
falls_from h [] s = tt
falls_from h (g ∷ gs) s =
    let one : 0 + 1 ≡ suc 0 = omega arith in (
      subst (λ n. is_lt (lock_cmp (get_or (h ∷ g ∷ gs) n h).lock h.lock) ≡ false) one (s 0 h (omega arith) (omega arith)),
      falls_from g gs (λ k d low high.
          let same : suc k + 1 ≡ suc (k + 1) = omega arith in
          subst (λ n. is_lt (lock_cmp (get_or (h ∷ g ∷ gs) n d).lock (get_or (g ∷ gs) k d).lock) ≡ false) same (s (suc k) d (omega arith) (omega (arith, high)))),
    )

pub do_not_fall : (hs : List Held) → IsSortedByKey (λ (x : Held). x.lock) lock_cmp hs → DoNotFall hs
do_not_fall [] s = tt
do_not_fall (h ∷ hs) s = falls_from h hs s

-- whether this lock is asked for, as the sort compares it
abbrev holds : Lock → Held → Bool
holds q h = ties (λ (x y : Held). is_lt (lock_cmp x.lock y.lock)) (record { lock = q; mode = Read }) h

neither : (o : Ordering) → (not (is_lt (ordering_reverse o)) && not (is_lt o)) ≡ is_eq o
neither Less = refl
neither Equal = refl
neither Greater = refl

holds_is : (q : Lock) (h : Held) → holds q h ≡ eq_by_cmp lock_cmp q h.lock
holds_is q h =
    ap (λ o. not (is_lt o) && not (is_lt (lock_cmp h.lock q))) (lock_cmp_total.antisymm q h.lock) ∙ neither (lock_cmp h.lock q)
    ∙ (eq_by_cmp_equiv lock_cmp_total).symm h.lock q

-- how a lock is held, with what these ask for
abbrev mode_with : Lock → Option Mode → List (Lock × Mode) → Option Mode
mode_with q held [] = held
mode_with q held (e ∷ es) = mode_with q (cond (eq_by_cmp lock_cmp q e.0) (Some (join_held e.1 held)) held) es

get-asked_for : (m : Modes) (e : Lock × Mode) (q : Lock) → get (asked_for m e) q ≡ cond (eq_by_cmp lock_cmp q e.0) (Some (join_held e.1 (get m q))) (get m q)
get-asked_for m e q =
    get-insert lock_cmp_total m e.0 (join_held e.1 (get m e.0)) q
    ∙ elim (eq_by_cmp lock_cmp q e.0) as (λ b. eq_by_cmp lock_cmp q e.0 ≡ b → cond b (Some (join_held e.1 (get m e.0))) (get m q) ≡ cond b (Some (join_held e.1 (get m q))) (get m q)) [
      | true ↦ λ t. ap (λ k. Some (join_held e.1 (get m k))) (sym (is_key lock_cmp_total lock_cmp-IsAntisymmetric q e.0 t))
      | false ↦ λ _. refl
    ] refl

get-asked_all : (m : Modes) (es : List (Lock × Mode)) (q : Lock) → get (asked_all m es) q ≡ mode_with q (get m q) es
get-asked_all m [] q = refl
get-asked_all m (e ∷ es) q = get-asked_all (asked_for m e) es q ∙ ap (λ o. mode_with q o es) (get-asked_for m e q)

-- other locks do not count
mode_alone : (q : Lock) (held : Option Mode) (hs : List Held) → mode_with q held (pairs hs) ≡ mode_with q held (pairs (filter (holds q) hs))
mode_alone q held [] = refl
mode_alone q held (h ∷ hs) =
    elim (eq_by_cmp lock_cmp q h.lock) as (λ b. eq_by_cmp lock_cmp q h.lock ≡ b → mode_with q (cond b (Some (join_held h.mode held)) held) (pairs hs) ≡ mode_with q held (pairs (filter (holds q) (h ∷ hs)))) [
      | true ↦ λ t.
          mode_alone q (Some (join_held h.mode held)) hs
          ∙ sym (ap (λ b. mode_with q held (pairs (cond b (h ∷ filter (holds q) hs) (filter (holds q) hs)))) (holds_is q h ∙ t)
          ∙ ap (λ b. mode_with q (cond b (Some (join_held h.mode held)) held) (pairs (filter (holds q) hs))) t)
      | false ↦ λ t.
          mode_alone q held hs
          ∙ sym (ap (λ b. mode_with q held (pairs (cond b (h ∷ filter (holds q) hs) (filter (holds q) hs)))) (holds_is q h ∙ t))
    ] refl

pub sorted_same : (xs ys : List Held) → IsStableByKey (λ (x : Held). x.lock) lock_cmp xs ys → (m : Modes) → asked_all m (pairs ys) ≡ asked_all m (pairs xs)
sorted_same xs ys stable m = same_map lock_cmp_total lock_cmp-IsAntisymmetric _ _ (λ q.
    get-asked_all m (pairs ys) q ∙ mode_alone q (get m q) ys
    ∙ ap (λ hs. mode_with q (get m q) (pairs hs)) (stable (record { lock = q; mode = Read }))
    ∙ sym (get-asked_all m (pairs xs) q ∙ mode_alone q (get m q) xs))
