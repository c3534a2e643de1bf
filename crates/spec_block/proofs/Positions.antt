-- The positions of a block, made from a run and compared with one.
use Rattle.std.proofs.Common.{◌≡◌, ℕ, zero, suc, ◌+◌, List, [], ◌∷◌, Option, Some, map, take, filter_map, slice_get, length, refl, sym, ap, subst, ◌∙◌, arith}
use Rattle.std.specs.FinMap.{entries, get, get-entries}
use Rattle.std.specs.FinMap as finite
use Rattle.std.specs.List.{AllByRecursion, cons_option}
use Rattle.spec_ledger.specs.declared.Lock.{Lock}
use Rattle.spec_ledger.specs.declared.Mode.{Mode}
use Rattle.spec_ledger.specs.declared.Entry.{Entry}
use Rattle.spec_ledger.specs.Cells.{lock_cmp}
use Rattle.spec_ledger.specs.Modes.{Modes}
use Rattle.spec_ledger.specs.Order.{turn_by, turn_at, groups_before_last}
use Rattle.spec_block.specs.Worlds.{Position, held_in}
use Rattle.spec_execution.specs.Serial.{CallResult}
use Rattle.spec_block.specs.Blocks.{profile_at, positions_from, all_touched}
use Rattle.spec_block.specs.Verdicts.{mode_in}

abbrev pub profile_list : List Position → List (List Entry)
profile_list ps = map (λ (p : Position). p.profile) ps

-- ---- turns

through : {X Y : Type 0} (g : X → Y) (f : Y → Option Mode) (n : ℕ) (xs : List X) → filter_map f (take n (map g xs)) ≡ filter_map (λ x. f (g x)) (take n xs)
through g f zero xs = refl
through g f (suc n) [] = refl
through g f (suc n) (x ∷ xs) = ap (cons_option (f (g x))) (through g f n xs)

-- where the published modes are those of the run, so are the turns
pub same_turns : (lock : Lock) (n : ℕ) (ps : List Position) (rs : List CallResult) → map (λ (p : Position). held_in p.profile) ps ≡ map (λ (r : CallResult). entries r.touched) rs
    → turn_by (mode_in lock) (profile_list ps) n ≡ turn_at (all_touched rs) n lock
same_turns lock n ps rs e =
    ap groups_before_last
    (through (λ (p : Position). p.profile) (mode_in lock) (n + 1) ps
    ∙ (sym (through (λ (p : Position). held_in p.profile) (finite.find lock_cmp lock) (n + 1) ps)
    ∙ (ap (λ (hs : List (List (Lock × Mode))). filter_map (finite.find lock_cmp lock) (take (n + 1) hs)) e
    ∙ (through (λ (r : CallResult). entries r.touched) (finite.find lock_cmp lock) (n + 1) rs
    ∙ (sym (ap (λ (f : CallResult → Option Mode). filter_map f (take (n + 1) rs)) (λ i r. get-entries r.touched lock i))
    ∙ sym (through (λ (r : CallResult). r.touched) (λ (m : Modes). get m lock) (n + 1) rs))))))

-- ---- a position that is made from a run

pub record IsMade (all : List Modes) (place : ℕ) (p : Position) (r : CallResult) : Type 0 where
  pub receipt : p.receipt ≡ r.receipt
  pub profile : p.profile ≡ profile_at all place r.touched

back_held : (all : List Modes) (n : ℕ) (hs : List (Lock × Mode)) → held_in (map (λ (held : Lock × Mode). record { lock = held.0; mode = held.1; turn = turn_at all n held.0 }) hs) ≡ hs
back_held all n [] = refl
back_held all n (h ∷ hs) = ap (λ (t : List (Lock × Mode)). h ∷ t) (back_held all n hs)

pub held_again : (all : List Modes) (n : ℕ) (m : Modes) → held_in (profile_at all n m) ≡ entries m
held_again all n m = back_held all n (entries m)

-- entries with the right turns are made from their locks and modes
made_from : (turn : Lock → ℕ) (es : List Entry) → AllByRecursion (λ (e : Entry). e.turn ≡ turn e.lock) es → es ≡ map (λ (held : Lock × Mode). record { lock = held.0; mode = held.1; turn = turn held.0 }) (held_in es)
made_from turn [] a = refl
made_from turn (e ∷ es) a = let rest = made_from turn es a.1 in λ i. record { lock = e.lock; mode = e.mode; turn = a.0 i } ∷ rest i

pub profile_made : (all : List Modes) (n : ℕ) (es : List Entry) (m : Modes) → held_in es ≡ entries m → AllByRecursion (λ (e : Entry). e.turn ≡ turn_at all n e.lock) es → es ≡ profile_at all n m
profile_made all n es m held turns = made_from (turn_at all n) es turns ∙ ap (map (λ (h : Lock × Mode). record { lock = h.0; mode = h.1; turn = turn_at all n h.0 })) held

-- ---- all positions

pub rebuilt : (all : List Modes) (k : ℕ) (ps : List Position) (rs : List CallResult) → length rs ≡ length ps
    → ((i : ℕ) (p : Position) (r : CallResult) → slice_get ps i ≡ Some p → slice_get rs i ≡ Some r → IsMade all (k + i) p r)
    → ps ≡ positions_from all k (map (λ (p : Position). p.call) ps) rs
rebuilt all k [] [] e made = refl
rebuilt all k [] (r ∷ rs) e made = absurd (omega arith)
rebuilt all k (p ∷ ps) [] e made = absurd (omega arith)
rebuilt all k (p ∷ ps) (r ∷ rs) e made =
    let first : IsMade all k p r = subst (λ (n : ℕ). IsMade all n p r) (let z : k + 0 ≡ k = omega arith in z) (made 0 p r refl refl) in
    let rest = rebuilt all (k + 1) ps rs (omega arith) (λ i q s at at'. subst (λ (n : ℕ). IsMade all n q s) (let z : k + suc i ≡ (k + 1) + i = omega arith in z) (made (suc i) q s at at')) in
    λ i. record { call = p.call; receipt = first.receipt i; profile = first.profile i } ∷ rest i

pub order_again : (all : List Modes) (k : ℕ) (order : List ℕ) (rs : List CallResult) → length rs ≡ length order → map (λ (p : Position). p.call) (positions_from all k order rs) ≡ order
order_again all k [] rs e = refl
order_again all k (n ∷ order) [] e = absurd (omega arith)
order_again all k (n ∷ order) (r ∷ rs) e = ap (λ (t : List ℕ). n ∷ t) (order_again all (k + 1) order rs (omega arith))

pub held_lists : (all : List Modes) (k : ℕ) (order : List ℕ) (rs : List CallResult) → length rs ≡ length order
    → map (λ (p : Position). held_in p.profile) (positions_from all k order rs) ≡ map (λ (r : CallResult). entries r.touched) rs
held_lists all k [] [] e = refl
held_lists all k [] (r ∷ rs) e = absurd (omega arith)
held_lists all k (n ∷ order) [] e = absurd (omega arith)
held_lists all k (n ∷ order) (r ∷ rs) e = let rest = held_lists all (k + 1) order rs (omega arith) in λ i. held_again all k r.touched i ∷ rest i

some_is : {A : Type 0} (x y : A) → Some x ≡ Some y → x ≡ y
some_is x y e = cc e

-- what stands at a position was made from the run there
pub made_at : (all : List Modes) (k : ℕ) (order : List ℕ) (rs : List CallResult) (i : ℕ) (p : Position) → slice_get (positions_from all k order rs) i ≡ Some p
    → (r : CallResult) × (slice_get rs i ≡ Some r) × IsMade all (k + i) p r
made_at all k [] rs i p at = absurd (cc at)
made_at all k (n ∷ order) [] i p at = absurd (cc at)
made_at all k (n ∷ order) (r ∷ rs) zero p at =
    let e = some_is _ p at in
    let z : k ≡ k + 0 = omega arith in
    (r, refl, record { receipt = sym (ap (λ (q : Position). q.receipt) e); profile = sym (ap (λ (q : Position). q.profile) e) ∙ ap (λ (m : ℕ). profile_at all m r.touched) z })
made_at all k (n ∷ order) (r ∷ rs) (suc i) p at =
    let rest = made_at all (k + 1) order rs i p at in
    (rest.0, rest.1, subst (λ (m : ℕ). IsMade all m p rest.0) (let z : (k + 1) + i ≡ k + suc i = omega arith in z) rest.2)

-- its turns are those of all
turns_in : (turn : Lock → ℕ) (P : Entry → Type 0) → ((lock : Lock) (mode : Mode) → P (record { lock = lock; mode = mode; turn = turn lock })) → (hs : List (Lock × Mode))
    → AllByRecursion P (map (λ (held : Lock × Mode). record { lock = held.0; mode = held.1; turn = turn held.0 }) hs)
turns_in turn P h [] = tt
turns_in turn P h (x ∷ xs) = (h x.0 x.1, turns_in turn P h xs)

pub turns_hold : (all : List Modes) (n : ℕ) (m : Modes) (P : Entry → Type 0) → ((lock : Lock) (mode : Mode) → P (record { lock = lock; mode = mode; turn = turn_at all n lock })) → AllByRecursion P (profile_at all n m)
turns_hold all n m P h = turns_in (turn_at all n) P h (entries m)
