-- The read-write set that touches come to, touch by touch.
use Rattle.std.proofs.Common.{◌≡◌, ◌≢◌, Bool, true, false, cond, Option, Some, List, [], ◌∷◌, ◌++◌, map, append_assoc, append-nil, refl, sym, ◌∙◌, ap, subst}
use Rattle.std.proofs.lemmas.List.{map-append}
use Rattle.std.specs.List.{AllByRecursion}
use Rattle.std.specs.List.Sorted.{IsStrictlySortedBy}
use Rattle.std.specs.Ordering.{eq_by_cmp, is_eq}
use Rattle.std.specs.declared.cmp.Ordering.TheVariants.{Less}
use Rattle.std.specs.FinMap.{FinMap, entries, find, get, get-empty, get-entries, get-insert, is_sorted, same_map}
use Rattle.spec_ledger.specs.declared.Lock.{Lock}
use Rattle.spec_ledger.specs.declared.Mode.{Mode}
use Rattle.spec_ledger.specs.Cells.{Cells, lock_cmp, set_at}
use Rattle.spec_ledger.specs.Modes.{Modes}
use Rattle.spec_ledger.proofs.Maps.{key_itself, lock_cmp_total, lock_cmp-IsAntisymmetric}
use Rattle.spec_execution.specs.ReadWriteSets.{access_at, access_by, use_of}
use Rattle.lock_profile.specs.declared.Held.{Held}
use Rattle.lock_profile.specs.Groups.{pairs, pair_of}
use Rattle.serial.proofs.Modes.{in_order}
use Rattle.serial.specs.declared.touches.Touch.{Touch}
use Rattle.serial.specs.Touches.{access_of, found_in, later_in, modes_of, what_in}
use Rattle.serial.proofs.Places.{get_elsewhere, get_written}

-- a lock with its mode
abbrev pub mode_at : Lock × Touch → Lock × Mode
mode_at e = (e.0, e.1.mode)

-- ---- lists that are made

pub one_more : {X Y : Type 0} (f : X → Y) (made next : List Y) (x : X) (rest more : List X) (all : List Y) → made ++ map f rest ≡ all → rest ≡ x ∷ more → next ≡ made ++ f x ∷ [] → next ++ map f more ≡ all
one_more f made next x rest more all e r n =
    ap (λ l. l ++ map f more) n ∙ append_assoc made (f x ∷ []) (map f more) ∙ ap (λ l. made ++ map f l) (sym r) ∙ e

pub none_more : {X Y : Type 0} (f : X → Y) (made : List Y) (rest : List X) (all : List Y) → made ++ map f rest ≡ all → rest ≡ [] → made ≡ all
none_more f made rest all e r = sym (append-nil made) ∙ ap (λ l. made ++ map f l) (sym r) ∙ e

pub held_more : (held next : List Held) (lock : Lock) (t : Touch) → next ≡ held ++ record { lock = lock; mode = t.mode } ∷ [] → pairs next ≡ pairs held ++ mode_at (lock, t) ∷ []
held_more held next lock t e = ap pairs e ∙ map-append pair_of held (record { lock = lock; mode = t.mode } ∷ [])

-- ---- what is at the lock of each touch

keys_are : (es : List (Lock × Touch)) → map (λ e. e.0) (map mode_at es) ≡ map (λ e. e.0) es
keys_are [] = refl
keys_are (e ∷ es) = ap (λ ks. e.0 ∷ ks) (keys_are es)

pub sorted_modes : (es : List (Lock × Touch)) → IsStrictlySortedBy lock_cmp (map (λ e. e.0) es) → is_sorted lock_cmp (map mode_at es) ≡ true
sorted_modes es h = in_order (map mode_at es) (subst (IsStrictlySortedBy lock_cmp) (sym (keys_are es)) h)

above : (k l : Lock) → lock_cmp k l ≡ Less → l ≢ k
above k l less same =
    let no : is_eq Less ≡ true = ap is_eq (sym less ∙ ap (lock_cmp k) same) ∙ key_itself lock_cmp_total lock_cmp-IsAntisymmetric k in
    cc

module _ {X : Type 0} (f : Touch → Option X) where
  abbrev AreThere : FinMap lock_cmp X → List (Lock × Touch) → Type 0
  AreThere m es = AllByRecursion (λ e. get m e.0 ≡ f e.1) es

  still_there : (k : Lock) (c : Option X) (m : FinMap lock_cmp X) (es : List (Lock × Touch)) → AllByRecursion (λ l. lock_cmp k l ≡ Less) (map (λ e. e.0) es) → AreThere m es → AreThere (set_at m k c) es
  still_there k c m [] below there = tt
  still_there k c m (e ∷ es) below there = (get_elsewhere m k c e.0 (above k e.0 below.0) ∙ there.0, still_there k c m es below.1 there.1)

  pub all_there : (es : List (Lock × Touch)) → IsStrictlySortedBy lock_cmp (map (λ e. e.0) es) → AreThere (what_in f es) es
  unfolding IsStrictlySortedBy
  all_there [] h = tt
  all_there (e ∷ es) h = (get_written (what_in f es) e.0 (f e.1), still_there e.0 (f e.1) (what_in f es) es h.0 (all_there es h.1))

-- ---- the accesses

same_accesses : (stand : Bool) (X Y : Cells) (es : List (Lock × Touch)) → AllByRecursion (λ e. get X e.0 ≡ e.1.found) es → AllByRecursion (λ e. get Y e.0 ≡ cond stand e.1.later e.1.found) es
    → map (access_at X Y) (map mode_at es) ≡ map (access_of stand) es
same_accesses stand X Y [] h k = refl
same_accesses stand X Y (e ∷ es) h k =
    let one : access_at X Y (mode_at e) ≡ access_of stand e = λ i. access_by (use_of e.0.kind e.1.mode) e.0 (h.0 i) (k.0 i) in
    let rest = same_accesses stand X Y es h.1 k.1 in
    λ i. one i ∷ rest i

left_there : (stand : Bool) (es : List (Lock × Touch)) → IsStrictlySortedBy lock_cmp (map (λ e. e.0) es) → AllByRecursion (λ e. get (cond stand (later_in es) (found_in es)) e.0 ≡ cond stand e.1.later e.1.found) es
left_there true es h = all_there (λ (t : Touch). t.later) es h
left_there false es h = all_there (λ (t : Touch). t.found) es h

-- the list that is made is that of the accesses at the locks
pub accesses_are : (stand : Bool) (es : List (Lock × Touch)) (locks : List (Lock × Mode)) → IsStrictlySortedBy lock_cmp (map (λ e. e.0) es) → locks ≡ map mode_at es
    → map (access_of stand) es ≡ map (access_at (found_in es) (cond stand (later_in es) (found_in es))) locks
accesses_are stand es locks h is =
    sym (same_accesses stand (found_in es) (cond stand (later_in es) (found_in es)) es (all_there (λ (t : Touch). t.found) es h) (left_there stand es h))
    ∙ ap (map (access_at (found_in es) (cond stand (later_in es) (found_in es)))) (sym is)

-- ---- the modes

find_mode : (es : List (Lock × Touch)) (q : Lock) → find lock_cmp q (map mode_at es) ≡ get (modes_of es) q
find_mode [] q = sym (get-empty lock_cmp q)
find_mode (e ∷ es) q = ap (cond (eq_by_cmp lock_cmp q e.0) (Some e.1.mode)) (find_mode es q) ∙ sym (get-insert lock_cmp_total (modes_of es) e.0 e.1.mode q)

pub modes_listed : (m : Modes) (es : List (Lock × Touch)) → entries m ≡ map mode_at es → m ≡ modes_of es
modes_listed m es is = same_map lock_cmp_total lock_cmp-IsAntisymmetric _ _ (λ q. get-entries m q ∙ ap (find lock_cmp q) is ∙ find_mode es q)
