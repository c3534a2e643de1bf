-- The turns of a position's holders, and the groups after them.
use Rattle.std.proofs.Common.{◌≡◌, ℕ, ◌+◌, Bool, true, false, cond, ◌&&◌, T, Option, Some, None, List, [], ◌∷◌, ◌++◌, map, length, arith, refl, sym, ◌∙◌, ap}
use Rattle.std.specs.declared.cmp.Ordering.{Ordering}
use Rattle.std.specs.declared.cmp.Ordering.TheVariants.{Less, Equal, Greater}
use Rattle.std.specs.Ordering.{eq_by_cmp, is_eq, is_lt}
use Rattle.std.specs.Cmp.{eq_by_cmp_equiv, tied_itself}
use Rattle.std.specs.FinMap.Entries.{below_all}
use Rattle.std.specs.FinMap.{find, is_sorted}
use Rattle.spec_ledger.specs.declared.Lock.{Lock}
use Rattle.spec_ledger.specs.declared.Mode.{Mode}
use Rattle.spec_ledger.specs.Cells.{lock_cmp}
use Rattle.spec_ledger.proofs.Maps.{lock_cmp_total, lock_cmp-IsAntisymmetric, is_key}
use Rattle.spec_ledger.specs.declared.Entry.{Entry}
use Rattle.lock_profile.specs.declared.Group.{Group}
use Rattle.lock_profile.specs.Groups.{group_of, turn_next, groups_with, turns_from, with_turns, numbered}

turned : (q k : Lock) (b : Bool) → eq_by_cmp lock_cmp q k ≡ b → eq_by_cmp lock_cmp k q ≡ b
turned q k b e = (eq_by_cmp_equiv lock_cmp_total).symm k q ∙ e

pub left : (a b : Bool) → T (a && b) → T a
left true b p = tt
left false b p = p

pub right : (a b : Bool) → T (a && b) → T b
right true b p = p
right false b p = absurd p

pub less : (o : Ordering) → T (is_lt o) → o ≡ Less
less Less p = refl
less Equal p = absurd p
less Greater p = absurd p

module _ {X : Type 0} where
  pub find_below : (q : Lock) (es : List (Lock × X)) → T (below_all lock_cmp q es) → find lock_cmp q es ≡ None
  find_below q [] h = refl
  find_below q (e ∷ es) h = ap (λ r. cond (is_eq r) (Some e.1) (find lock_cmp q es)) (less _ (left _ _ h)) ∙ find_below q es (right _ _ h)

  -- two functions that agree at what a list in order has give one list
  pub map_found : {Y : Type 0} (f g : Lock × X → Y) (es : List (Lock × X)) → T (is_sorted lock_cmp es)
      → ((q : Lock) (v : X) → find lock_cmp q es ≡ Some v → f (q, v) ≡ g (q, v)) → map f es ≡ map g es
  map_found f g [] h same = refl
  map_found f g (e ∷ es) h same =
      let head : f e ≡ g e = same e.0 e.1 (ap (λ r. cond (is_eq r) (Some e.1) (find lock_cmp e.0 es)) (tied_itself lock_cmp_total e.0)) in
      let rest : map f es ≡ map g es = map_found f g es (right _ _ h) (λ q v is. same q v (
      elim (eq_by_cmp lock_cmp q e.0) as (λ b. eq_by_cmp lock_cmp q e.0 ≡ b → cond b (Some e.1) (find lock_cmp q es) ≡ Some v) [
        | true ↦ λ t.
            let none : find lock_cmp q es ≡ None = ap (λ k. find lock_cmp k es) (is_key lock_cmp_total lock_cmp-IsAntisymmetric q e.0 t) ∙ find_below e.0 es (left _ _ h) in
            let no : None ≡ Some v = sym none ∙ is in cc
        | false ↦ λ t. is
      ] refl)) in
      λ i. head i ∷ rest i

-- the groups after the first holder, at the other locks of a list in order
groups_elsewhere : (last : Lock → Option Group) (e : Lock × Mode) (es : List (Lock × Mode)) → T (below_all lock_cmp e.0 es) → (q : Lock) (v : Mode) → find lock_cmp q es ≡ Some v → groups_with last e q ≡ last q
groups_elsewhere last e es above q v is =
    elim (eq_by_cmp lock_cmp e.0 q) as (λ b. eq_by_cmp lock_cmp e.0 q ≡ b → cond b (Some (record { mode = e.1; turn = turn_next (last e.0) e.1 })) (last q) ≡ last q) [
      | true ↦ λ t.
          let none : find lock_cmp q es ≡ None = ap (λ k. find lock_cmp k es) (sym (is_key lock_cmp_total lock_cmp-IsAntisymmetric e.0 q t)) ∙ find_below e.0 es above in
          let no : None ≡ Some v = sym none ∙ is in cc
      | false ↦ λ t. refl
    ] refl

groups_both : (last : Lock → Option Group) (e : Lock × Mode) (es : List (Lock × Mode)) → T (below_all lock_cmp e.0 es) → (q : Lock)
    → group_of (groups_with last e q) (find lock_cmp q es) ≡ group_of (last q) (find lock_cmp q (e ∷ es))
groups_both last e es above q =
    elim (eq_by_cmp lock_cmp e.0 q) as (λ b. eq_by_cmp lock_cmp e.0 q ≡ b
    → group_of (cond b (Some (record { mode = e.1; turn = turn_next (last e.0) e.1 })) (last q)) (find lock_cmp q es) ≡ group_of (last q) (find lock_cmp q (e ∷ es))) [
      | true ↦ λ t.
          let same : e.0 ≡ q = is_key lock_cmp_total lock_cmp-IsAntisymmetric e.0 q t in
          let none : find lock_cmp q es ≡ None = ap (λ k. find lock_cmp k es) (sym same) ∙ find_below e.0 es above in
          ap (group_of (Some (record { mode = e.1; turn = turn_next (last e.0) e.1 }))) none
          ∙ ap (λ k. Some (record { mode = e.1; turn = turn_next (last k) e.1 })) same
          ∙ sym (ap (λ b. group_of (last q) (cond b (Some e.1) (find lock_cmp q es))) (turned e.0 q true t))
      | false ↦ λ t. sym (ap (λ b. group_of (last q) (cond b (Some e.1) (find lock_cmp q es))) (turned e.0 q false t))
    ] refl

-- the turns of a call's holders, and of those after it
pub call_turns : (es rest : List (Lock × Mode)) (last : Lock → Option Group) → T (is_sorted lock_cmp es)
    → turns_from last (es ++ rest) ≡ map (λ e. turn_next (last e.0) e.1) es ++ turns_from (λ q. group_of (last q) (find lock_cmp q es)) rest
call_turns [] rest last s = refl
call_turns (e ∷ es) rest last s =
    let same_turns : map (λ (d : Lock × Mode). turn_next (groups_with last e d.0) d.1) es ≡ map (λ (d : Lock × Mode). turn_next (last d.0) d.1) es =
    map_found _ _ es (right _ _ s) (λ q v is. ap (λ g. turn_next g v) (groups_elsewhere last e es (left _ _ s) q v is)) in
    ap (λ ts. turn_next (last e.0) e.1 ∷ ts) (
    call_turns es rest (groups_with last e) (right _ _ s)
    ∙ (λ i. same_turns i ++ turns_from (λ q. groups_both last e es (left _ _ s) q i) rest))

pub with_call : (f : Lock × Mode → ℕ) (es : List (Lock × Mode)) (rest : List ℕ) → with_turns es (map f es ++ rest) ≡ map (λ e. record { lock = e.0; mode = e.1; turn = f e }) es
with_call f [] rest = refl
with_call f (e ∷ es) rest = ap (λ xs. record { lock = e.0; mode = e.1; turn = f e } ∷ xs) (with_call f es rest)

both_hold : (a b : Bool) → T a → T b → T (a && b)
both_hold true b p q = q
both_hold false b p q = p

below_with : (x : Lock) (es : List (Lock × Mode)) (ts : List ℕ) → T (below_all lock_cmp x es) → T (below_all lock_cmp x (map (λ (e : Entry). (e.lock, e)) (with_turns es ts)))
below_with x [] ts h = tt
below_with x (e ∷ es) [] h = tt
below_with x (e ∷ es) (t ∷ ts) h = both_hold (is_lt (lock_cmp x e.0)) _ (left _ _ h) (below_with x es ts (right _ _ h))

pub sorted_with : (es : List (Lock × Mode)) (ts : List ℕ) → T (is_sorted lock_cmp es) → T (is_sorted lock_cmp (map (λ (e : Entry). (e.lock, e)) (with_turns es ts)))
sorted_with [] ts h = tt
sorted_with (e ∷ es) [] h = tt
sorted_with (e ∷ es) (t ∷ ts) h = both_hold (below_all lock_cmp e.0 (map (λ (d : Entry). (d.lock, d)) (with_turns es ts))) _ (below_with e.0 es ts (left _ _ h)) (sorted_with es ts (right _ _ h))

pub numbered-append : (n : ℕ) (xs ys : List (Lock × Mode)) → numbered n (xs ++ ys) ≡ numbered n xs ++ numbered (n + length xs) ys
numbered-append n [] ys = ap (λ k. numbered k ys) (omega arith)
numbered-append n (x ∷ xs) ys = ap (λ hs. record { lock = x.0; mode = x.1; number = n } ∷ hs) (numbered-append (n + 1) xs ys ∙ ap (λ k. numbered (n + 1) xs ++ numbered k ys) (omega arith))
