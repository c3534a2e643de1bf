-- How calls stand, beside the entries and the live attempts.
use Rattle.std.proofs.Common.{◌≡◌, ◌≢◌, ℕ, zero, suc, ◌+◌, ◌<◌, ◌⊎◌, inl, inr, ⊎_elim, Some, None, List, [], ◌∷◌, ◌++◌, length, get_or, set, replicate, slice_get, refl, sym, ◌∙◌, ap, subst, arith}
use Rattle.std.proofs.lemmas.List.{set-set, set_comm, set-get_or, get_or-set_same, get_or-set_other, get_or-replicate, length-set, length-replicate}
use Rattle.std.proofs.lemmas.Option.{slice_get-get_or, slice_get_within, get_or_from_slice_get}
use Rattle.std.specs.List.{AllByRecursion}
use Rattle.spec_ledger.specs.Book.{Attempt, CommittedCall, AreAllSideBySide, call_is_new}
use Rattle.spec_ledger.specs.Events.{HasNoAttempt}
use Rattle.boost.specs.declared.standing.CallState.{CallState}
use Rattle.boost.specs.declared.standing.CallState.TheVariants.{Idle, Live, Committed}
use Rattle.boost.specs.BookInvariant.{committed_with, live_with, AreStanding}
use Rattle.boost.proofs.Held.{AreBelow, no_other}

-- ---- committed calls

pub committed_with-append : (es fs : List CommittedCall) (s : List CallState) → committed_with (es ++ fs) s ≡ committed_with fs (committed_with es s)
committed_with-append [] fs s = refl
committed_with-append (e ∷ es) fs s = committed_with-append es fs (set s e.call Committed)

pub length-committed_with : (es : List CommittedCall) (s : List CallState) → length (committed_with es s) ≡ length s
length-committed_with [] s = refl
length-committed_with (e ∷ es) s = length-committed_with es (set s e.call Committed) ∙ length-set s e.call Committed

uncommitted : (k : ℕ) (es : List CommittedCall) (s : List CallState) (d : CallState) → call_is_new k es → get_or (committed_with es s) k d ≡ get_or s k d
uncommitted k [] s d h = refl
uncommitted k (e ∷ es) s d h = uncommitted k es (set s e.call Committed) d h.1 ∙ get_or-set_other s e.call k Committed d (λ p. h.0 (sym p))

set_committed : (s : List CallState) (k i : ℕ) (d : CallState) → get_or s k d ≡ Committed → get_or (set s i Committed) k d ≡ Committed
set_committed [] k i d h = h
set_committed (x ∷ s) zero zero d h = refl
set_committed (x ∷ s) zero (suc i) d h = h
set_committed (x ∷ s) (suc k) zero d h = h
set_committed (x ∷ s) (suc k) (suc i) d h = set_committed s k i d h

stays_committed : (k : ℕ) (es : List CommittedCall) (s : List CallState) (d : CallState) → get_or s k d ≡ Committed → get_or (committed_with es s) k d ≡ Committed
stays_committed k [] s d h = h
stays_committed k (e ∷ es) s d h = stays_committed k es (set s e.call Committed) d (set_committed s k e.call d h)

new_idle : (k : ℕ) (es : List CommittedCall) (s : List CallState) (d : CallState) → AllByRecursion (λ e. e.call < length s) es → get_or (committed_with es s) k d ≡ Idle → call_is_new k es
new_idle k [] s d known h = tt
new_idle k (e ∷ es) s d known h = (
  λ same.
      let there : get_or (set s e.call Committed) k d ≡ Committed = subst (λ i. get_or (set s e.call Committed) i d ≡ Committed) same (get_or-set_same s e.call Committed d known.0) in
      let no : Idle ≡ Committed = sym h ∙ stays_committed k es (set s e.call Committed) d there in
      cc,
  new_idle k es (set s e.call Committed) d (subst (λ n. AllByRecursion (λ f. f.call < n) es) (sym (length-set s e.call Committed)) known.1) h,
)

unset_live : (s : List CallState) (k i j : ℕ) (d : CallState) → get_or (set s i Committed) k d ≡ Live j → get_or s k d ≡ Live j
unset_live [] k i j d h = h
unset_live (x ∷ s) zero zero j d h = let no : Committed ≡ Live j = h in cc
unset_live (x ∷ s) zero (suc i) j d h = h
unset_live (x ∷ s) (suc k) zero j d h = h
unset_live (x ∷ s) (suc k) (suc i) j d h = unset_live s k i j d h

-- an entry makes no call live
never_live : (k j : ℕ) (es : List CommittedCall) (s : List CallState) (d : CallState) → get_or (committed_with es s) k d ≡ Live j → get_or s k d ≡ Live j
never_live k j [] s d h = h
never_live k j (e ∷ es) s d h = unset_live s k e.call j d (never_live k j es (set s e.call Committed) d h)

-- ---- live calls

pub live_with-append : (n m : ℕ) (p q : List Attempt) (s : List CallState) → m ≡ n + length p → live_with n (p ++ q) s ≡ live_with m q (live_with n p s)
live_with-append n m [] q s e = ap (λ k. live_with k q s) (omega (arith, e))
live_with-append n m (a ∷ p) q s e = live_with-append (n + 1) m p q (set s a.call (Live n)) (omega (arith, e))

pub length-live_with : (n : ℕ) (xs : List Attempt) (s : List CallState) → length (live_with n xs s) ≡ length s
length-live_with n [] s = refl
length-live_with n (a ∷ xs) s = length-live_with (n + 1) xs (set s a.call (Live n)) ∙ length-set s a.call (Live n)

-- the standing of a call that none of these is of
live_late : (k : ℕ) (v : CallState) (n : ℕ) (xs : List Attempt) (s : List CallState) → HasNoAttempt k xs → live_with n xs (set s k v) ≡ set (live_with n xs s) k v
live_late k v n [] s h = refl
live_late k v n (a ∷ xs) s h = ap (live_with (n + 1) xs) (set_comm s k a.call v (Live n) (λ e. h.0 (sym e))) ∙ live_late k v (n + 1) xs (set s a.call (Live n)) h.1

idle_standing : (k n : ℕ) (xs : List Attempt) (s : List CallState) (d : CallState) → HasNoAttempt k xs → get_or (live_with n xs s) k d ≡ get_or s k d
idle_standing k n [] s d h = refl
idle_standing k n (a ∷ xs) s d h = idle_standing k (n + 1) xs (set s a.call (Live n)) d h.1 ∙ get_or-set_other s a.call k (Live n) d (λ e. h.0 (sym e))

-- places written anew
places_again : (i m : ℕ) (q : List Attempt) (s : List CallState) → AreAllSideBySide q → live_with i q (live_with m q s) ≡ live_with i q s
places_again i m [] s h = refl
places_again i m (a ∷ q) s h =
    ap (live_with (i + 1) q) (sym (live_late a.call (Live i) (m + 1) q (set s a.call (Live m)) (no_other a q h.0)))
    ∙ places_again (i + 1) (m + 1) q (set (set s a.call (Live m)) a.call (Live i)) h.1
    ∙ ap (live_with (i + 1) q) (set-set s a.call (Live m) (Live i))

-- a live call stands otherwise, and the places after it are written anew
pub left_standing : (p : List Attempt) (a : Attempt) (q : List Attempt) (s : List CallState) (i : ℕ) (v : CallState) → length p ≡ i → HasNoAttempt a.call p → HasNoAttempt a.call q → AreAllSideBySide q
    → live_with i q (set (live_with 0 (p ++ a ∷ q) s) a.call v) ≡ live_with 0 (p ++ q) (set s a.call v)
left_standing p a q s i v e before later apart =
    ap (live_with i q)
    (ap (λ x. set x a.call v) (live_with-append 0 i p (a ∷ q) s (omega (arith, e)))
    ∙ sym (live_late a.call v (i + 1) q (set (live_with 0 p s) a.call (Live i)) later)
    ∙ ap (live_with (i + 1) q) (set-set (live_with 0 p s) a.call (Live i) v ∙ sym (live_late a.call v 0 p s before)))
    ∙ places_again i (i + 1) q (live_with 0 p (set s a.call v)) apart
    ∙ sym (live_with-append 0 i p q (set s a.call v) (omega (arith, e)))

-- an attempt in the place of another of its call
pub same_standing : (p : List Attempt) (a b : Attempt) (q : List Attempt) (s : List CallState) → a.call ≡ b.call → live_with 0 (p ++ a ∷ q) s ≡ live_with 0 (p ++ b ∷ q) s
same_standing p a b q s e =
    live_with-append 0 (length p) p (a ∷ q) s (omega arith)
    ∙ ap (λ k. live_with (length p + 1) q (set (live_with 0 p s) k (Live (length p)))) e
    ∙ sym (live_with-append 0 (length p) p (b ∷ q) s (omega arith))

live_at : (n : ℕ) (xs : List Attempt) (s : List CallState) → AreBelow (length s) xs → AreAllSideBySide xs → (i : ℕ) (a : Attempt) → slice_get xs i ≡ Some a → slice_get (live_with n xs s) a.call ≡ Some (Live (n + i))
live_at n [] s known apart i a h = let no : None ≡ Some a = h in cc
live_at n (x ∷ xs) s known apart zero a h =
    let same : x ≡ a = cc in
    let wide : length (live_with (n + 1) xs (set s x.call (Live n))) ≡ length s = length-live_with n (x ∷ xs) s in
    subst (λ (y : Attempt). slice_get (live_with (n + 1) xs (set s x.call (Live n))) y.call ≡ Some (Live (n + zero))) same
    (slice_get-get_or (live_with (n + 1) xs (set s x.call (Live n))) x.call Idle (omega (arith, wide, known.0))
    ∙ ap Some (idle_standing x.call (n + 1) xs (set s x.call (Live n)) Idle (no_other x xs apart.0) ∙ get_or-set_same s x.call (Live n) Idle known.0 ∙ ap Live (omega arith)))
live_at n (x ∷ xs) s known apart (suc i) a h =
    live_at (n + 1) xs (set s x.call (Live n)) (subst (λ m. AreBelow m xs) (sym (length-set s x.call (Live n))) known.1) apart.1 i a h ∙ ap (λ k. Some (Live k)) (omega arith)

-- a call that stands idle has no attempt
no_place : (k n : ℕ) (xs : List Attempt) (s : List CallState) (d : CallState) → AreBelow (length s) xs → get_or (live_with n xs s) k d ≡ Idle → HasNoAttempt k xs × (get_or s k d ≡ Idle)
no_place k n [] s d known h = (tt, h)
no_place k n (x ∷ xs) s d known h =
    let rest = no_place k (n + 1) xs (set s x.call (Live n)) d (subst (λ m. AreBelow m xs) (sym (length-set s x.call (Live n))) known.1) h in
    let other : x.call ≢ k =
    λ same.
    let there : get_or (set s x.call (Live n)) k d ≡ Live n = subst (λ i. get_or (set s x.call (Live n)) i d ≡ Live n) same (get_or-set_same s x.call (Live n) d known.0) in
    let no : Idle ≡ Live n = sym rest.1 ∙ there in
    cc in
    ((other, rest.0), sym (get_or-set_other s x.call k (Live n) d (λ e. other (sym e))) ∙ rest.1)

unset_committed : (s : List CallState) (k i j : ℕ) (d : CallState) → get_or (set s i (Live j)) k d ≡ Committed → get_or s k d ≡ Committed
unset_committed [] k i j d h = h
unset_committed (x ∷ s) zero zero j d h = let no : Live j ≡ Committed = h in cc
unset_committed (x ∷ s) zero (suc i) j d h = h
unset_committed (x ∷ s) (suc k) zero j d h = h
unset_committed (x ∷ s) (suc k) (suc i) j d h = unset_committed s k i j d h

never_committed : (k n : ℕ) (xs : List Attempt) (s : List CallState) (d : CallState) → get_or (live_with n xs s) k d ≡ Committed → get_or s k d ≡ Committed
never_committed k n [] s d h = h
never_committed k n (x ∷ xs) s d h = unset_committed s k x.call n d (never_committed k (n + 1) xs (set s x.call (Live n)) d h)

set_live : (s : List CallState) (k i n j : ℕ) (d : CallState) → get_or (set s i (Live n)) k d ≡ Live j → (get_or s k d ≡ Live j) ⊎ ((i ≡ k) × (n ≡ j))
set_live [] k i n j d h = inl h
set_live (x ∷ s) zero zero n j d h = inr (refl, cc)
set_live (x ∷ s) zero (suc i) n j d h = inl h
set_live (x ∷ s) (suc k) zero n j d h = inl h
set_live (x ∷ s) (suc k) (suc i) n j d h = ⊎_elim (λ e. inl e) (λ e. inr (ap suc e.0, e.1)) (set_live s k i n j d h)

-- an attempt of a call that stands at this place, counted from n
record Stands (k j n : ℕ) (xs : List Attempt) : Type 0 where
  at : ℕ
  attempt : Attempt
  place : j ≡ n + at
  is : slice_get xs at ≡ Some attempt
  of_call : attempt.call ≡ k

only_live : (k j n : ℕ) (xs : List Attempt) (s : List CallState) (d : CallState) → get_or (live_with n xs s) k d ≡ Live j → (get_or s k d ≡ Live j) ⊎ (Stands k j n xs)
only_live k j n [] s d h = inl h
only_live k j n (x ∷ xs) s d h =
    ⊎_elim
    (λ e. ⊎_elim (λ f. inl f) (λ f. inr (record { at = 0; attempt = x; place = sym f.1 ∙ omega arith; is = refl; of_call = f.0 })) (set_live s k x.call n j d e))
    (λ e. inr (record { at = suc e.at; attempt = e.attempt; place = e.place ∙ omega arith; is = e.is; of_call = e.of_call }))
    (only_live k j (n + 1) xs (set s x.call (Live n)) d h)

-- the standing of a new call written idle
pub still_idle : (k n : ℕ) (es : List CommittedCall) → k < n → call_is_new k es → set (committed_with es (replicate n Idle)) k Idle ≡ committed_with es (replicate n Idle)
still_idle k n es below new =
    let idle : get_or (committed_with es (replicate n Idle)) k Idle ≡ Idle = uncommitted k es (replicate n Idle) Idle new ∙ get_or-replicate n k Idle Idle below in
    ap (set (committed_with es (replicate n Idle)) k) (sym idle) ∙ set-get_or (committed_with es (replicate n Idle)) k Idle

pub apart_right : (p q : List Attempt) → AreAllSideBySide (p ++ q) → AreAllSideBySide q
apart_right [] q h = h
apart_right (a ∷ p) q h = apart_right p q h.1

-- ---- one call of a book

module _ (n : ℕ) (xs : List Attempt) (es : List CommittedCall) (s : List CallState) (s_is : s ≡ live_with 0 xs (committed_with es (replicate n Idle))) where
  wide_before : length (committed_with es (replicate n Idle)) ≡ n
  wide_before = length-committed_with es (replicate n Idle) ∙ length-replicate n Idle

  pub wide_standings : length s ≡ n
  wide_standings = ap length s_is ∙ length-live_with 0 xs (committed_with es (replicate n Idle)) ∙ wide_before

  live_there : (call j : ℕ) → slice_get s call ≡ Some (Live j) → Stands call j 0 xs
  live_there call j h =
      let below : call < n = (let b = slice_get_within s call (Live j) h in let w = wide_standings in omega (arith, b, w)) in
      let here : get_or (live_with 0 xs (committed_with es (replicate n Idle))) call Idle ≡ Live j = ap (λ y. get_or y call Idle) (sym s_is) ∙ get_or_from_slice_get s call (Live j) Idle h in
      ⊎_elim
      (λ e. let no : Idle ≡ Live j = sym (get_or-replicate n call Idle Idle below) ∙ never_live call j es (replicate n Idle) Idle e in absurd (cc))
      (λ e. e)
      (only_live call j 0 xs (committed_with es (replicate n Idle)) Idle here)

  pub AreStanding-book : AreBelow n xs → AreAllSideBySide xs → AreStanding xs s
  AreStanding-book known apart = record {
    placed = λ i a h. ap (λ x. slice_get x a.call) s_is ∙ live_at 0 xs (committed_with es (replicate n Idle)) (subst (λ m. AreBelow m xs) (sym wide_before) known) apart i a h ∙ (let z : 0 + i ≡ i = omega arith in ap (λ k. Some (Live k)) z);
    within = λ call i h. let e = live_there call i h in let b = slice_get_within xs e.at e.attempt e.is in omega (arith, b, e.place);
    called = λ call i a h f.
        let e = live_there call i h in
        let at : e.at ≡ i = omega (arith, e.place) in
        let same : Some e.attempt ≡ Some a = sym e.is ∙ ap (slice_get xs) at ∙ f in
        let one : e.attempt ≡ a = cc in
        ap (λ (x : Attempt). x.call) (sym one) ∙ e.of_call;
  }

  module _ (k : ℕ) (below : k < n) (x : CallState) (x_is : x ≡ get_or s k x) where
    there : get_or (live_with 0 xs (committed_with es (replicate n Idle))) k x ≡ x
    there = ap (λ y. get_or y k x) (sym s_is) ∙ sym x_is

    pub stands_idle : x ≡ Idle → AreBelow n xs → AllByRecursion (λ e. e.call < n) es → HasNoAttempt k xs × call_is_new k es
    stands_idle e known entries =
        let h = no_place k 0 xs (committed_with es (replicate n Idle)) x (subst (λ m. AreBelow m xs) (sym wide_before) known) (there ∙ e) in
        (h.0, new_idle k es (replicate n Idle) x (subst (λ m. AllByRecursion (λ f. f.call < m) es) (sym (length-replicate n Idle)) entries) h.1)

    pub stands_live : (j : ℕ) → x ≡ Live j → ¬ (HasNoAttempt k xs)
    stands_live j e none =
        let before : get_or (committed_with es (replicate n Idle)) k x ≡ Live j = sym (idle_standing k 0 xs (committed_with es (replicate n Idle)) x none) ∙ there ∙ e in
        let no : Idle ≡ Live j = sym (get_or-replicate n k Idle x below) ∙ never_live k j es (replicate n Idle) x before in
        cc

    pub stands_committed : x ≡ Committed → ¬ (call_is_new k es)
    stands_committed e new =
        let before : get_or (committed_with es (replicate n Idle)) k x ≡ Committed = never_committed k 0 xs (committed_with es (replicate n Idle)) x (there ∙ e) in
        let no : Idle ≡ Committed = sym (get_or-replicate n k Idle x below) ∙ sym (uncommitted k es (replicate n Idle) x new) ∙ before in
        cc

-- ---- the place of an attempt

All-slice_get : {A : Type 0} (P : A → Type 0) (xs : List A) → ((i : ℕ) (a : A) → slice_get xs i ≡ Some a → P a) → AllByRecursion P xs
All-slice_get P [] h = tt
All-slice_get P (x ∷ xs) h = (h 0 x refl, All-slice_get P xs (λ i a e. h (suc i) a e))

All-read : {A : Type 0} (P : A → Type 0) (xs : List A) (i : ℕ) (a : A) → i < length xs → a ≡ get_or xs i a → AllByRecursion P xs → P a
All-read P [] i a below e h = absurd (omega (arith, below))
All-read P (x ∷ xs) zero a below e h = subst P (sym e) h.0
All-read P (x ∷ xs) (suc i) a below e h = All-read P xs i a (omega (arith, below)) e h.1

pub found_at : {A : Type 0} (P : A → Type 0) (xs : List A) (i : ℕ) → i < length xs → AllByRecursion P xs → (a : A) × (slice_get xs i ≡ Some a) × P a
found_at P [] i below h = absurd (omega (arith, below))
found_at P (x ∷ xs) zero below h = (x, refl, h.0)
found_at P (x ∷ xs) (suc i) below h = found_at P xs i (omega (arith, below)) h.1

pub none_there : (xs : List Attempt) (s : List CallState) → AreStanding xs s → (call : ℕ) → ((i : ℕ) → slice_get s call ≢ Some (Live i)) → HasNoAttempt call xs
none_there xs s are call h = All-slice_get (λ a. a.call ≢ call) xs (λ i a e same. h i (ap (slice_get s) (sym same) ∙ are.placed i a e))

module _ (xs : List Attempt) (s : List CallState) (are : AreStanding xs s) (call place : ℕ) (lives : slice_get s call ≡ Some (Live place)) where
  pub place_below : place < length xs
  place_below = are.within call place lives

  module _ (a : Attempt) (a_is : a ≡ get_or xs place a) where
    here : slice_get xs place ≡ Some a
    here = slice_get-get_or xs place a place_below ∙ ap Some (sym a_is)

    pub call_there : a.call ≡ call
    call_there = are.called call place a lives here

    pub one_there : (number : ℕ) → number ≡ a.number → ¬ (AllByRecursion (λ (b : Attempt). ¬ ((b.call ≡ call) × (b.number ≡ number))) xs)
    one_there number e all = All-read (λ (b : Attempt). ¬ ((b.call ≡ call) × (b.number ≡ number))) xs place a place_below a_is all (call_there, sym e)
