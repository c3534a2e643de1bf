-- The turns of an order's holders, dealt in the order of locks.
use Rattle.std.proofs.Common.{◌≡◌, ◌≢◌, ℕ, suc, ◌+◌, ◌<◌, ◌≤◌, ◌^◌, Bool, true, false, cond, ◌&&◌, ◌||◌, not, Option, Some, None, List, [], ◌∷◌, length, set, get_or, refl, sym, ◌∙◌, ap, subst, arith, nat_eq}
use Rattle.std.proofs.lemmas.List.{length-set, get_or-set_same, get_or-set_other, ext_get_or}
use Rattle.std.proofs.lemmas.List.Elements.{All-from_recursion, recursion_from_All}
use Rattle.std.proofs.lemmas.List.Sorted.{ranks_by, sorted_far, list_any-IsPermutation, All-permutation}
use Rattle.std.specs.Cmp.{eq_by_cmp_equiv, unsigned_Decides}
use Rattle.std.specs.List.{AllByRecursion, filter, list_any}
use Rattle.std.specs.List.Sorted.{IsPermutation, IsSortedByKey, IsStableByKey, ties}
use Rattle.std.specs.Ordering.{eq_by_cmp, is_eq, is_lt, ordering_reverse}
use Rattle.std.specs.declared.cmp.Ordering.{Ordering}
use Rattle.std.specs.declared.cmp.Ordering.TheVariants.{Less, Equal, Greater}
use Rattle.spec_ledger.specs.declared.Lock.{Lock}
use Rattle.spec_ledger.specs.declared.Mode.{Mode}
use Rattle.spec_ledger.specs.declared.Mode.TheVariants.{Read}
use Rattle.spec_ledger.specs.Cells.{lock_cmp}
use Rattle.spec_ledger.proofs.Maps.{lock_cmp_total, lock_cmp-IsAntisymmetric, is_key, key_itself}
use Rattle.spec_ledger.specs.declared.Entry.{Entry}
use Rattle.lock_profile.specs.declared.Group.{Group}
use Rattle.lock_profile.specs.declared.Holder.{Holder}
use Rattle.lock_profile.specs.Groups.{group_of, turn_next, numbered, groups_with, turns_from, group_there, entry_next, turns_after, AllFit}

-- ---- locks that compare

reversed : (a b : Lock) → lock_cmp a b ≡ ordering_reverse (lock_cmp b a)
reversed a b = lock_cmp_total.antisymm a b

turned : (q k : Lock) (b : Bool) → eq_by_cmp lock_cmp q k ≡ b → eq_by_cmp lock_cmp k q ≡ b
turned q k b e = (eq_by_cmp_equiv lock_cmp_total).symm k q ∙ e

-- whether a holder holds this lock, as the sort compares it
abbrev pub holds : Lock → Holder → Bool
holds q h = ties (λ (x y : Holder). is_lt (lock_cmp x.lock y.lock)) (record { lock = q; mode = Read; number = 0 }) h

neither : (o : Ordering) → (not (is_lt (ordering_reverse o)) && not (is_lt o)) ≡ is_eq o
neither Less = refl
neither Equal = refl
neither Greater = refl

holds_is : (q : Lock) (h : Holder) → holds q h ≡ eq_by_cmp lock_cmp h.lock q
holds_is q h = ap (λ o. not (is_lt o) && not (is_lt (lock_cmp h.lock q))) (reversed q h.lock) ∙ neither (lock_cmp h.lock q)

-- no later lock is below an earlier one
abbrev pub DoNotFall : List Holder → Type 0
DoNotFall [] = Unit {0}
DoNotFall (h ∷ hs) = AllByRecursion (λ y. is_lt (lock_cmp y.lock h.lock) ≡ false) hs × DoNotFall hs

pub do_not_fall : (hs : List Holder) → IsSortedByKey (λ h. h.lock) lock_cmp hs → DoNotFall hs
do_not_fall [] s = tt
do_not_fall (h ∷ hs) s = (
  recursion_from_All (λ y. is_lt (lock_cmp y.lock h.lock) ≡ false) hs (λ k d below. sorted_far (λ x y. is_lt (lock_cmp x.lock y.lock)) (ranks_by lock_cmp_total (λ h. h.lock)) (h ∷ hs) s 0 (suc k) d (omega arith) (omega (arith, below))),
  do_not_fall hs (λ k d low high.
      let same : suc k + 1 ≡ suc (k + 1) = omega arith in
      subst (λ n. is_lt (lock_cmp (get_or (h ∷ hs) n d).lock (get_or hs k d).lock) ≡ false) same (s (suc k) d (omega arith) (omega (arith, high)))),
)

-- ---- the turns of one lock's holders

-- each of these, the holders of one lock after its last group, has the turn that is right at its number
abbrev pub AreRightAlone : (ℕ → ℕ) → Option Group → List Holder → Type 0
AreRightAlone right last [] = Unit {0}
AreRightAlone right last (h ∷ hs) = (turn_next last h.mode ≡ right h.number) × AreRightAlone right (group_of last (Some h.mode)) hs

-- the same of holders of all locks, as they are gone over
abbrev pub AreRight : (ℕ → ℕ) → Option Entry → List Holder → Type 0
AreRight right before [] = Unit {0}
AreRight right before (h ∷ hs) = (turn_next (group_there before h.lock) h.mode ≡ right h.number) × AreRight right (Some (entry_next before h)) hs

module _ (right : ℕ → ℕ) where
  -- in the order of the calls
  alone_in_order : (n : ℕ) (es : List (Lock × Mode)) (last : Lock → Option Group) (q : Lock)
      → ((i : ℕ) → i < length es → get_or (turns_from last es) i 0 ≡ right (n + i)) → AreRightAlone right (last q) (filter (holds q) (numbered n es))
  alone_in_order n [] last q are = tt
  alone_in_order n (e ∷ es) last q are =
      let h : Holder = record { lock = e.0; mode = e.1; number = n } in
      let first : turn_next (last e.0) e.1 ≡ right n = are 0 (omega arith) ∙ ap right (omega arith) in
      let rest : AreRightAlone right (groups_with last e q) (filter (holds q) (numbered (n + 1) es)) =
      alone_in_order (n + 1) es (groups_with last e) q (λ i below. are (suc i) (omega (arith, below)) ∙ ap right (omega arith)) in
      subst (λ b. AreRightAlone right (last q) (cond b (h ∷ filter (holds q) (numbered (n + 1) es)) (filter (holds q) (numbered (n + 1) es)))) (sym (holds_is q h))
      (elim (eq_by_cmp lock_cmp e.0 q) as (λ b. eq_by_cmp lock_cmp e.0 q ≡ b → AreRightAlone right (cond b (Some (record { mode = e.1; turn = turn_next (last e.0) e.1 })) (last q)) (filter (holds q) (numbered (n + 1) es))
      → AreRightAlone right (last q) (cond b (h ∷ filter (holds q) (numbered (n + 1) es)) (filter (holds q) (numbered (n + 1) es)))) [
        | true ↦ λ t r.
            let same : e.0 ≡ q = is_key lock_cmp_total lock_cmp-IsAntisymmetric e.0 q t in
            (subst (λ k. turn_next (last k) e.1 ≡ right n) same first, subst (λ k. AreRightAlone right (Some (record { mode = e.1; turn = turn_next (last k) e.1 })) (filter (holds q) (numbered (n + 1) es))) same r)
        | false ↦ λ t r. r
      ] refl rest)

  nobody : (q : Lock) (hs : List Holder) (k : Lock) → lock_cmp q k ≡ Less → AllByRecursion (λ y. is_lt (lock_cmp y.lock k) ≡ false) hs → filter (holds q) hs ≡ []
  nobody q [] k l a = refl
  nobody q (h ∷ hs) k l a =
      ap (λ b. cond b (h ∷ filter (holds q) hs) (filter (holds q) hs))
      (holds_is q h
      ∙ elim (eq_by_cmp lock_cmp h.lock q) as (λ b. eq_by_cmp lock_cmp h.lock q ≡ b → b ≡ false) [
        | true ↦ λ t.
            let same : h.lock ≡ q = is_key lock_cmp_total lock_cmp-IsAntisymmetric h.lock q t in
            let no : true ≡ false = sym (ap is_lt (ap (λ x. lock_cmp x k) same ∙ l)) ∙ a.0 in no
        | false ↦ λ t. refl
      ] refl)
      ∙ nobody q hs k l a.1

  -- whether the holder before is not above these
  abbrev IsNotAbove : Option Entry → List Holder → Type 0
  IsNotAbove None hs = Unit {0}
  IsNotAbove (Some e) hs = AllByRecursion (λ y. is_lt (lock_cmp y.lock e.lock) ≡ false) hs

  less_of : (o : Ordering) → is_lt (ordering_reverse o) ≡ false → is_eq o ≡ false → o ≡ Less
  less_of Less a b = refl
  less_of Equal a b = cc
  less_of Greater a b = cc

  after_another : (before : Option Entry) (h : Holder) (hs : List Holder) (q : Lock) → IsNotAbove before (h ∷ hs) → AllByRecursion (λ y. is_lt (lock_cmp y.lock h.lock) ≡ false) hs
      → eq_by_cmp lock_cmp h.lock q ≡ false → AreRightAlone right (group_there before q) (filter (holds q) hs) → AreRightAlone right None (filter (holds q) hs)
  after_another None h hs q up above other are = are
  after_another (Some e) h hs q up above other are =
      elim (eq_by_cmp lock_cmp e.lock q) as (λ b. eq_by_cmp lock_cmp e.lock q ≡ b → AreRightAlone right (cond b (Some (record { mode = e.mode; turn = e.turn })) None) (filter (holds q) hs) → AreRightAlone right None (filter (holds q) hs)) [
        | true ↦ λ t r.
            let same : e.lock ≡ q = is_key lock_cmp_total lock_cmp-IsAntisymmetric e.lock q t in
            let below : lock_cmp q h.lock ≡ Less = less_of (lock_cmp q h.lock) (ap is_lt (sym (reversed h.lock q)) ∙ ap (λ x. is_lt (lock_cmp h.lock x)) (sym same) ∙ up.0) (turned h.lock q false other) in
            subst (λ xs. AreRightAlone right None xs) (sym (nobody q hs h.lock below above)) tt
        | false ↦ λ t r. r
      ] refl are

  -- in the order of locks
  pub in_lock_order : (before : Option Entry) (hs : List Holder) → IsNotAbove before hs → DoNotFall hs
      → ((q : Lock) → AreRightAlone right (group_there before q) (filter (holds q) hs)) → AreRight right before hs
  in_lock_order before [] up rise alone = tt
  in_lock_order before (h ∷ hs) up rise alone =
      let here : AreRightAlone right (group_there before h.lock) (h ∷ filter (holds h.lock) hs) =
      subst (λ b. AreRightAlone right (group_there before h.lock) (cond b (h ∷ filter (holds h.lock) hs) (filter (holds h.lock) hs))) (holds_is h.lock h ∙ key_itself lock_cmp_total lock_cmp-IsAntisymmetric h.lock) (alone h.lock) in (
        here.0,
        in_lock_order (Some (entry_next before h)) hs rise.0 rise.1 (λ q.
            elim (eq_by_cmp lock_cmp h.lock q) as (λ b. eq_by_cmp lock_cmp h.lock q ≡ b
            → AreRightAlone right (cond b (Some (record { mode = h.mode; turn = turn_next (group_there before h.lock) h.mode })) None) (filter (holds q) hs)) [
              | true ↦ λ t.
                  let same : h.lock ≡ q = is_key lock_cmp_total lock_cmp-IsAntisymmetric h.lock q t in
                  subst (λ k. AreRightAlone right (Some (record { mode = h.mode; turn = turn_next (group_there before h.lock) h.mode })) (filter (holds k) hs)) same here.1
              | false ↦ λ t. after_another before h hs q up rise.0 t
                  (subst (λ b. AreRightAlone right (group_there before q) (cond b (h ∷ filter (holds q) hs) (filter (holds q) hs))) (holds_is q h ∙ t) (alone q))
            ] refl),
      )

  -- ---- the writes

  abbrev AreBelow : ℕ → List Holder → Type 0
  AreBelow n hs = AllByRecursion (λ h. h.number < n) hs

  pub all_fit : (n : ℕ) (before : Option Entry) (hs : List Holder) → AreBelow n hs → AreRight right before hs → ((k : ℕ) → k < n → right k < 2 ^ 32) → AllFit before hs n
  all_fit n before [] below are small = tt
  all_fit n before (h ∷ hs) below are small = (below.0, (subst (λ t. t < 2 ^ 32) (sym are.0) (small h.number below.0), all_fit n (Some (entry_next before h)) hs below.1 are.1 small))

  length-turns_after : (before : Option Entry) (hs : List Holder) (turns : List ℕ) → length (turns_after before hs turns) ≡ length turns
  length-turns_after before [] turns = refl
  length-turns_after before (h ∷ hs) turns = length-turns_after (Some (entry_next before h)) hs _ ∙ length-set turns h.number _

  same_or_not : (a b : ℕ) (c : Bool) → nat_eq a b ≡ c → cond c (a ≡ b) (b ≢ a)
  same_or_not a b true e = (unsigned_Decides a b).0 e
  same_or_not a b false e = λ same. let no : true ≡ false = sym ((unsigned_Decides a b).1 (sym same)) ∙ e in cc

  stays_right : (before : Option Entry) (hs : List Holder) (turns : List ℕ) (k : ℕ) → k < length turns → AreRight right before hs → get_or turns k 0 ≡ right k → get_or (turns_after before hs turns) k 0 ≡ right k
  stays_right before [] turns k below are is = is
  stays_right before (h ∷ hs) turns k below are is =
      stays_right (Some (entry_next before h)) hs _ k (subst (λ n. k < n) (sym (length-set turns h.number _)) below) are.1
      (elim (nat_eq h.number k) as (λ c. nat_eq h.number k ≡ c → get_or (set turns h.number (turn_next (group_there before h.lock) h.mode)) k 0 ≡ right k) [
        | true ↦ λ e.
            let same : h.number ≡ k = same_or_not h.number k true e in
            subst (λ j. get_or (set turns h.number (turn_next (group_there before h.lock) h.mode)) j 0 ≡ right j) same
            (get_or-set_same turns h.number _ 0 (subst (λ j. j < length turns) (sym same) below) ∙ are.0)
        | false ↦ λ e. get_or-set_other turns h.number k _ 0 (same_or_not h.number k false e) ∙ is
      ] refl)

  becomes_right : (before : Option Entry) (hs : List Holder) (turns : List ℕ) (k : ℕ) → k < length turns → AreRight right before hs → list_any (λ h. nat_eq h.number k) hs ≡ true
      → get_or (turns_after before hs turns) k 0 ≡ right k
  becomes_right before [] turns k below are has = cc
  becomes_right before (h ∷ hs) turns k below are has =
      let fits : k < length (set turns h.number (turn_next (group_there before h.lock) h.mode)) = subst (λ n. k < n) (sym (length-set turns h.number _)) below in
      elim (nat_eq h.number k) as (λ c. nat_eq h.number k ≡ c → (c || list_any (λ h. nat_eq h.number k) hs) ≡ true
      → get_or (turns_after (Some (entry_next before h)) hs (set turns h.number (turn_next (group_there before h.lock) h.mode))) k 0 ≡ right k) [
        | true ↦ λ e _.
            let same : h.number ≡ k = same_or_not h.number k true e in
            stays_right (Some (entry_next before h)) hs _ k fits are.1
            (subst (λ j. get_or (set turns h.number (turn_next (group_there before h.lock) h.mode)) j 0 ≡ right j) same
            (get_or-set_same turns h.number _ 0 (subst (λ j. j < length turns) (sym same) below) ∙ are.0))
        | false ↦ λ e more. becomes_right (Some (entry_next before h)) hs _ k fits are.1 more
      ] refl has

below_end : (n m : ℕ) (es : List (Lock × Mode)) → n + length es ≤ m → AllByRecursion (λ h. h.number < m) (numbered n es)
below_end n m [] fits = tt
below_end n m (e ∷ es) fits = (omega (arith, fits), below_end (n + 1) m es (omega (arith, fits)))

each_number : (n k : ℕ) (es : List (Lock × Mode)) → n ≤ k → k < n + length es → list_any (λ h. nat_eq h.number k) (numbered n es) ≡ true
each_number n k [] low high = absurd (omega (arith, low, high))
each_number n k (e ∷ es) low high =
    elim (nat_eq n k) as (λ c. nat_eq n k ≡ c → (c || list_any (λ h. nat_eq h.number k) (numbered (n + 1) es)) ≡ true) [
      | true ↦ λ t. refl
      | false ↦ λ t.
          let other : k ≢ n = λ same. let no : true ≡ false = sym ((unsigned_Decides n k).1 (sym same)) ∙ t in cc in
          each_number (n + 1) k es (omega (arith, low, other)) (omega (arith, high))
    ] refl

pub length-turns_from : (last : Lock → Option Group) (es : List (Lock × Mode)) → length (turns_from last es) ≡ length es
length-turns_from last [] = refl
length-turns_from last (e ∷ es) = let rest = length-turns_from (groups_with last e) es in omega (arith, rest)

pub length-numbered : (n : ℕ) (es : List (Lock × Mode)) → length (numbered n es) ≡ length es
length-numbered n [] = refl
length-numbered n (e ∷ es) = let rest = length-numbered (n + 1) es in omega (arith, rest)

-- ---- sorted by lock, and written at the numbers

module _ (es : List (Lock × Mode)) (sorted : List Holder) (moved : IsPermutation (numbered 0 es) sorted) (rise : IsSortedByKey (λ h. h.lock) lock_cmp sorted) (stable : IsStableByKey (λ h. h.lock) lock_cmp (numbered 0 es) sorted) where
  abbrev right : ℕ → ℕ
  right k = get_or (turns_from (λ _. None) es) k 0

  are_right : AreRight right None sorted
  are_right = in_lock_order right None sorted tt (do_not_fall sorted rise) (λ q.
      subst (λ hs. AreRightAlone right None hs) (sym (stable (record { lock = q; mode = Read; number = 0 })))
      (alone_in_order right 0 es (λ _. None) q (λ i below. ap right (omega arith))))

  below : AllByRecursion (λ h. h.number < length es) sorted
  below = recursion_from_All (λ h. h.number < length es) sorted (All-permutation (λ h. h.number < length es) _ _ moved (All-from_recursion (λ h. h.number < length es) (numbered 0 es) (below_end 0 (length es) es (omega arith))))

  pub dealt_fit : AllByRecursion (λ t. t < 2 ^ 32) (turns_from (λ _. None) es) → AllFit None sorted (length es)
  dealt_fit small = all_fit right (length es) None sorted below are_right (λ k fits. All-from_recursion (λ t. t < 2 ^ 32) (turns_from (λ _. None) es) small k 0 (let l = length-turns_from (λ _. None) es in omega (arith, fits, l)))

  pub dealt : (turns : List ℕ) → length turns ≡ length es → turns_after None sorted turns ≡ turns_from (λ _. None) es
  dealt turns long =
      let made : length (turns_after None sorted turns) ≡ length turns = length-turns_after right None sorted turns in
      let wanted = length-turns_from (λ _. None) es in
      ext_get_or 0 _ _ (made ∙ long ∙ sym wanted) (λ k fits.
      becomes_right right None sorted turns k (omega (arith, fits, made)) are_right
      (sym (list_any-IsPermutation (λ h. nat_eq h.number k) (numbered 0 es) sorted moved) ∙ each_number 0 k es (omega arith) (omega (arith, fits, made, long))))
