-- Whether locks strictly rise, one at a time from the front.
use Rattle.std.proofs.Common.{◌≡◌, Bool, true, false, ◌&&◌, T, List, [], ◌∷◌, refl, sym, ap, ◌∙◌, subst, arith, ℕ, ◌-◌, ◌≤◌, length, take, drop, map}
use Rattle.std.proofs.lemmas.List.{take_at, append-nil}
use Rattle.std.specs.declared.cmp.Ordering.TheVariants.{Less}
use Rattle.std.specs.Ordering.{is_lt}
use Rattle.std.specs.FinMap.Entries.{below_all}
use Rattle.std.specs.FinMap.{is_sorted}
use Rattle.spec_ledger.specs.declared.Lock.{Lock}
use Rattle.spec_ledger.specs.Cells.{lock_cmp}
use Rattle.spec_ledger.proofs.Maps.{lock_cmp_total}
use Rattle.spec_ledger.specs.declared.Entry.{Entry}
use Rattle.lock_profile.specs.Turns.{IsProfile}
use Rattle.lock_profile.proofs.Groups.{left, right, less}

both : (a b : Bool) → T a → T b → T (a && b)
both true b p q = q
both false b p q = p

-- items with their locks
abbrev pub keyed : {A V : Type 0} → (A → Lock) → (A → V) → List A → List (Lock × V)
keyed lock value xs = map (λ x. (lock x, value x)) xs

-- what is below a lock is below those above it
below_more : {A V : Type 0} (lock : A → Lock) (value : A → V) (a b : Lock) → lock_cmp a b ≡ Less → (xs : List A) → T (below_all lock_cmp b (keyed lock value xs)) → T (below_all lock_cmp a (keyed lock value xs))
below_more lock value a b l [] h = tt
below_more lock value a b l (x ∷ xs) h =
    let further : lock_cmp a (lock x) ≡ Less = lock_cmp_total.trans a b (lock x) l (less _ (left _ _ h)) in
    both (is_lt (lock_cmp a (lock x))) (below_all lock_cmp a (keyed lock value xs)) (subst (λ o. T (is_lt o)) (sym further) tt) (below_more lock value a b l xs (right _ _ h))

absorbed : (x y s : Bool) → (T y → T x) → x && (y && s) ≡ y && s
absorbed true y s f = refl
absorbed false true s f = absurd (f tt)
absorbed false false s f = refl

dropped : (a x y s : Bool) → (T a → T y → T x) → (a && x) && (y && s) ≡ a && (y && s)
dropped true x y s f = absorbed x y s (f tt)
dropped false x y s f = refl

-- whether the first lock is below the next
abbrev pub is_below_second : {A : Type 0} → (A → Lock) → List A → Bool
is_below_second lock [] = true
is_below_second lock (one ∷ []) = true
is_below_second lock (one ∷ next ∷ more) = is_lt (lock_cmp (lock one) (lock next))

pub step : {A V : Type 0} (lock : A → Lock) (value : A → V) (one : A) (more : List A) → is_sorted lock_cmp (keyed lock value (one ∷ more)) ≡ is_below_second lock (one ∷ more) && is_sorted lock_cmp (keyed lock value more)
step lock value one [] = refl
step lock value one (next ∷ more) =
    dropped (is_lt (lock_cmp (lock one) (lock next))) (below_all lock_cmp (lock one) (keyed lock value more)) (below_all lock_cmp (lock next) (keyed lock value more)) (is_sorted lock_cmp (keyed lock value more))
    (λ l h. below_more lock value (lock one) (lock next) (less _ l) more h)

behind_first : {A : Type 0} (one : A) (more : List A) (n : ℕ) → n ≡ length more → take n (drop 1 (one ∷ more)) ≡ more
behind_first {A = A} one more n e = ap (λ (xs : List A). take n xs) (sym (append-nil more)) ∙ take_at more [] n (sym e)

pub rises_on : {A V : Type 0} (lock : A → Lock) (value : A → V) (xs : List A) → 1 ≤ length xs → is_below_second lock xs ≡ true → is_sorted lock_cmp (keyed lock value (take (length xs - 1) (drop 1 xs))) ≡ is_sorted lock_cmp (keyed lock value xs)
rises_on lock value [] l e = absurd (omega arith)
rises_on {A = A} lock value (one ∷ more) l e =
    ap (λ (xs : List A). is_sorted lock_cmp (keyed lock value xs)) (behind_first one more (length (one ∷ more) - 1) (omega arith))
    ∙ sym (step lock value one more ∙ ap (λ b. b && is_sorted lock_cmp (keyed lock value more)) e)

-- ---- neighbours decide

pub neighbours_below : (one next : Entry) (more : List Entry) → IsProfile (one ∷ next ∷ more) → (lock_cmp one.lock next.lock ≡ Less) × IsProfile (next ∷ more)
neighbours_below one next more h =
    let both_hold = subst T (step (λ e. e.lock) (λ e. e) one (next ∷ more)) h in
    (less _ (left (is_lt (lock_cmp one.lock next.lock)) _ both_hold), right (is_lt (lock_cmp one.lock next.lock)) _ both_hold)

pub from_neighbours : (one next : Entry) (more : List Entry) → (lock_cmp one.lock next.lock ≡ Less) × IsProfile (next ∷ more) → IsProfile (one ∷ next ∷ more)
from_neighbours one next more h =
    subst T (sym (step (λ e. e.lock) (λ e. e) one (next ∷ more))) (both (is_lt (lock_cmp one.lock next.lock)) _ (subst (λ o. T (is_lt o)) (sym h.0) tt) h.1)
