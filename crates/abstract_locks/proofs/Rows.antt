-- What a lock's holders have in common, as one takes it or lets it go.
use Rattle.std.proofs.Common.{◌≡◌, ◌⊎◌, ℕ, zero, suc, ◌+◌, ◌-◌, ◌<◌, ◌≤◌, ◌^◌, true, false, cond, Option, Some, None, IsSome, is_some, List, [], ◌∷◌, ◌++◌, length, take, drop, get_or, set, replicate, refl, sym, ◌∙◌, ap, subst, inl, inr, ⊎_elim, arith, add-one}
use Rattle.std.proofs.lemmas.List.{take-append-drop, drop-set, take-set}
use Rattle.std.proofs.Math.Seq.{drop-cons}
use Rattle.std.specs.List.{AllByRecursion}
use Rattle.std.specs.Ordering.{eq_by_cmp}
use Rattle.std.specs.FinMap.{get, insert, remove, empty, get-insert, get-remove, get-empty, same_map, len, contains_key, len-remove, empty_of_len}
use Rattle.spec_ledger.specs.declared.Lock.{Lock}
use Rattle.spec_ledger.specs.declared.Mode.{Mode}
use Rattle.spec_ledger.specs.Cells.{lock_cmp, set_at}
use Rattle.spec_ledger.specs.Modes.{Modes, goes_with, join_held, may_share}
use Rattle.abstract_locks.specs.Table.{AllShare, asked}
use Rattle.spec_ledger.proofs.Maps.{get-set_at, is_key, key_itself, lock_cmp_total, lock_cmp-IsAntisymmetric}
use Rattle.spec_ledger.proofs.Ops.{goes_cases}
use Rattle.spec_ledger.proofs.Kept.{All-without, All-at, All-with}
use Rattle.abstract_locks.specs.declared.sharing.Shared.{Shared}
use Rattle.abstract_locks.specs.HeldLocks.{held_once, holders_of, AllHold, IsShared, Sharings, AreShared, count_in, MayJoin, HasHolder, this_many, one_less}

abbrev Holds : Lock → Mode → Modes → Type 0
Holds l mode m = (get m l ≡ None) ⊎ (get m l ≡ Some mode)

abbrev Shares : Lock → Mode → Modes → Type 0
Shares l joined m = may_share (Some joined) (get m l) ≡ true

swap : (a b c : ℕ) → a + (b + c) ≡ b + (a + c)
swap a b c = omega arith

split : (l : Lock) (p : List Modes) (m : Modes) (q : List Modes) → holders_of l (p ++ m ∷ q) ≡ held_once (get m l) + holders_of l (p ++ q)
split l [] m q = refl
split l (x ∷ p) m q = ap (λ n. held_once (get x l) + n) (split l p m q) ∙ swap (held_once (get x l)) (held_once (get m l)) (holders_of l (p ++ q))

none_hold : (l : Lock) (mode : Mode) (ms : List Modes) → holders_of l ms ≡ 0 → AllHold l mode ms
none_hold l mode [] h = tt
none_hold l mode (m ∷ ms) h =
    elim (get m l) as (λ o. held_once o + holders_of l ms ≡ 0 → ((o ≡ None) ⊎ (o ≡ Some mode)) × AllHold l mode ms) [
      | None ↦ λ e. (inl refl, none_hold l mode ms (omega (arith, e)))
      | Some x ↦ λ e. absurd (omega (arith, e))
    ] h

none_share : (l : Lock) (joined : Mode) (ms : List Modes) → holders_of l ms ≡ 0 → AllByRecursion (Shares l joined) ms
none_share l joined [] h = tt
none_share l joined (m ∷ ms) h =
    elim (get m l) as (λ o. held_once o + holders_of l ms ≡ 0 → (may_share (Some joined) o ≡ true) × AllByRecursion (Shares l joined) ms) [
      | None ↦ λ e. (refl, none_share l joined ms (omega (arith, e)))
      | Some x ↦ λ e. absurd (omega (arith, e))
    ] h

all_share : (l : Lock) (mode joined : Mode) (ms : List Modes) → goes_with joined mode ≡ true → AllHold l mode ms → AllByRecursion (Shares l joined) ms
all_share l mode joined [] g h = tt
all_share l mode joined (m ∷ ms) g h = (⊎_elim (λ n. ap (may_share (Some joined)) n) (λ s. ap (may_share (Some joined)) s ∙ g) h.0, all_share l mode joined ms g h.1)

one_shares : (l : Lock) (mode joined : Mode) (ms : List Modes) → AllHold l mode ms → 0 < holders_of l ms → AllByRecursion (Shares l joined) ms → goes_with joined mode ≡ true
one_shares l mode joined [] h more share = absurd (omega (arith, more))
one_shares l mode joined (m ∷ ms) h more share =
    ⊎_elim
    (λ n. one_shares l mode joined ms h.1 (let e : held_once (get m l) ≡ 0 = ap held_once n in omega (arith, e, more)) share.1)
    (λ s. sym (ap (may_share (Some joined)) s) ∙ share.0)
    h.0

holders_fit : (l : Lock) (ms : List Modes) → holders_of l ms ≤ length ms
holders_fit l [] = omega arith
holders_fit l (m ∷ ms) =
    let rest = holders_fit l ms in
    elim (get m l) as (λ o. held_once o + holders_of l ms ≤ suc (length ms)) [ None ↦ omega (arith, rest) | Some x ↦ omega (arith, rest) ]

-- ---- one row among the others

module _ (l : Lock) (p : List Modes) (m : Modes) (q : List Modes) where
  less_alone : (o : Option Shared) → IsShared l o (p ++ m ∷ q) → held_once (get m l) + holders_of l (p ++ q) ≡ count_in o
  less_alone None h = sym (split l p m q) ∙ h
  less_alone (Some s) h = sym (split l p m q) ∙ h.1

  granted_among : (o : Option Shared) (joined : Mode) → IsShared l o (p ++ m ∷ q) → MayJoin o (count_in o - held_once (get m l)) joined → AllByRecursion (Shares l joined) (p ++ q)
  granted_among None joined h may = let e = less_alone None h in none_share l joined (p ++ q) (omega (arith, e))
  granted_among (Some s) joined h may =
      ⊎_elim
      (λ alone. let e = less_alone (Some s) h in none_share l joined (p ++ q) (omega (arith, e, alone)))
      (λ g. all_share l s.mode joined (p ++ q) g (All-without (Holds l s.mode) p m q h.2))
      may

  asked_among : (o : Option Shared) (joined : Mode) → IsShared l o (p ++ m ∷ q) → AllByRecursion (Shares l joined) (p ++ q) → MayJoin o (count_in o - held_once (get m l)) joined
  asked_among None joined h share = tt
  asked_among (Some s) joined h share =
      let e = less_alone (Some s) h in
      elim (holders_of l (p ++ q)) as (λ n. holders_of l (p ++ q) ≡ n → MayJoin (Some s) (s.count - held_once (get m l)) joined) [
        | zero ↦ λ z. inl (omega (arith, e, z))
        | suc n ↦ λ z. inr (one_shares l s.mode joined (p ++ q) (All-without (Holds l s.mode) p m q h.2) (omega (arith, z)) share)
      ] refl

  held_among : (o : Option Shared) (joined : Mode) → IsShared l o (p ++ m ∷ q) → MayJoin o (count_in o - held_once (get m l)) joined → AllHold l joined (p ++ q)
  held_among None joined h may = let e = less_alone None h in none_hold l joined (p ++ q) (omega (arith, e))
  held_among (Some s) joined h may =
      ⊎_elim
      (λ alone. let e = less_alone (Some s) h in none_hold l joined (p ++ q) (omega (arith, e, alone)))
      (λ g. let same : s.mode ≡ joined = ⊎_elim (λ (a, b). b ∙ sym a) (λ (a, b). b ∙ sym a) (goes_cases joined s.mode g) in
      subst (λ (x : Mode). AllHold l x (p ++ q)) same (All-without (Holds l s.mode) p m q h.2))
      may

  taken_among : (o : Option Shared) (joined : Mode) (n : Modes) → IsShared l o (p ++ m ∷ q) → MayJoin o (count_in o - held_once (get m l)) joined → get n l ≡ Some joined
      → IsShared l (Some (record { mode = joined; count = count_in o - held_once (get m l) + 1 })) (p ++ n ∷ q)
  taken_among o joined n h may e =
      let f = less_alone o h in
      let one : held_once (get n l) ≡ 1 = ap held_once e in
      let all = split l p n q in
      (omega arith, omega (arith, f, one, all), All-with (Holds l joined) p n q (held_among o joined h may) (inr e))

  -- another lock of the row
  other_among : (o : Option Shared) (n : Modes) → get n l ≡ get m l → IsShared l o (p ++ m ∷ q) → IsShared l o (p ++ n ∷ q)
  other_among None n e h = split l p n q ∙ ap (λ x. held_once x + holders_of l (p ++ q)) e ∙ sym (split l p m q) ∙ h
  other_among (Some s) n e h = (
    h.0,
    split l p n q ∙ ap (λ x. held_once x + holders_of l (p ++ q)) e ∙ sym (split l p m q) ∙ h.1,
    All-with (Holds l s.mode) p n q (All-without (Holds l s.mode) p m q h.2) (subst (λ (x : Option Mode). (x ≡ None) ⊎ (x ≡ Some s.mode)) (sym e) (All-at (Holds l s.mode) p m q h.2)),
  )

  held_one : IsSome (get m l) → held_once (get m l) ≡ 1
  held_one h = elim (get m l) as (λ o. IsSome o → held_once o ≡ 1) [ None ↦ λ n. cc | Some x ↦ λ _. refl ] h

  many : (n : Modes) (mode : Mode) (k : ℕ) → get n l ≡ None → holders_of l (p ++ q) ≡ k → AllHold l mode (p ++ q) → IsShared l (this_many mode k) (p ++ n ∷ q)
  many n mode zero e h all = split l p n q ∙ ap (λ x. held_once x + holders_of l (p ++ q)) e ∙ omega (arith, h)
  many n mode (suc k) e h all = (omega arith, split l p n q ∙ ap (λ x. held_once x + holders_of l (p ++ q)) e ∙ omega (arith, h), All-with (Holds l mode) p n q all (inl e))

  gone_among : (o : Option Shared) (n : Modes) → IsShared l o (p ++ m ∷ q) → IsSome (get m l) → get n l ≡ None → IsShared l (one_less o) (p ++ n ∷ q)
  gone_among None n h held e = let f = less_alone None h in let one = held_one held in absurd (omega (arith, f, one))
  gone_among (Some s) n h held e =
      let f = less_alone (Some s) h in let one = held_one held in
      many n s.mode (s.count - 1) e (omega (arith, f, one)) (All-without (Holds l s.mode) p m q h.2)

  holder_among : (o : Option Shared) → IsShared l o (p ++ m ∷ q) → IsSome (get m l) → HasHolder o
  holder_among None h held = let f = less_alone None h in let one = held_one held in absurd (omega (arith, f, one))
  holder_among (Some s) h held = h.0

-- ---- all locks

module _ (locks : Sharings) (p : List Modes) (m : Modes) (q : List Modes) (are : AreShared locks (p ++ m ∷ q)) (l : Lock) where
  pub taken_all : (joined : Mode) (s : Shared) → s ≡ record { mode = joined; count = count_in (get locks l) - held_once (get m l) + 1 } → MayJoin (get locks l) (count_in (get locks l) - held_once (get m l)) joined
      → AreShared (insert locks l s) (p ++ insert m l joined ∷ q)
  taken_all joined s is may k =
      subst (λ (o : Option Shared). IsShared k o (p ++ insert m l joined ∷ q)) (sym (get-insert lock_cmp_total locks l s k))
      (elim (eq_by_cmp lock_cmp k l) as (λ b. eq_by_cmp lock_cmp k l ≡ b → IsShared k (cond b (Some s) (get locks k)) (p ++ insert m l joined ∷ q)) [
        | true ↦ λ e.
            let same : k ≡ l = is_key lock_cmp_total lock_cmp-IsAntisymmetric k l e in
            subst (λ (x : Lock). IsShared x (Some s) (p ++ insert m l joined ∷ q)) (sym same)
            (subst (λ (x : Shared). IsShared l (Some x) (p ++ insert m l joined ∷ q)) (sym is)
            (taken_among l p m q (get locks l) joined (insert m l joined) (are l) may
            (get-insert lock_cmp_total m l joined l ∙ ap (λ b. cond b (Some joined) (get m l)) (key_itself lock_cmp_total lock_cmp-IsAntisymmetric l))))
        | false ↦ λ e. other_among k p m q (get locks k) (insert m l joined) (get-insert lock_cmp_total m l joined k ∙ ap (λ b. cond b (Some joined) (get m k)) e) (are k)
      ] refl)

  pub gone_all : IsSome (get m l) → AreShared (set_at locks l (one_less (get locks l))) (p ++ remove m l ∷ q)
  gone_all held k =
      subst (λ (o : Option Shared). IsShared k o (p ++ remove m l ∷ q)) (sym (get-set_at lock_cmp_total locks l (one_less (get locks l)) k))
      (elim (eq_by_cmp lock_cmp k l) as (λ b. eq_by_cmp lock_cmp k l ≡ b → IsShared k (cond b (one_less (get locks l)) (get locks k)) (p ++ remove m l ∷ q)) [
        | true ↦ λ e.
            let same : k ≡ l = is_key lock_cmp_total lock_cmp-IsAntisymmetric k l e in
            subst (λ (x : Lock). IsShared x (one_less (get locks l)) (p ++ remove m l ∷ q)) (sym same)
            (gone_among l p m q (get locks l) (remove m l) (are l) held
            (get-remove lock_cmp_total m l l ∙ ap (λ b. cond b None (get m l)) (key_itself lock_cmp_total lock_cmp-IsAntisymmetric l)))
        | false ↦ λ e. other_among k p m q (get locks k) (remove m l) (get-remove lock_cmp_total m l k ∙ ap (λ b. cond b None (get m k)) e) (are k)
      ] refl)

  pub holder_all : IsSome (get m l) → HasHolder (get locks l)
  holder_all held = holder_among l p m q (get locks l) (are l) held

  pub granted_all : (joined : Mode) → MayJoin (get locks l) (count_in (get locks l) - held_once (get m l)) joined → AllByRecursion (Shares l joined) (p ++ q)
  granted_all joined may = granted_among l p m q (get locks l) joined (are l) may

  pub asked_all : (joined : Mode) → AllByRecursion (Shares l joined) (p ++ q) → MayJoin (get locks l) (count_in (get locks l) - held_once (get m l)) joined
  asked_all joined share = asked_among l p m q (get locks l) joined (are l) share

  pub never_less : held_once (get m l) ≤ count_in (get locks l)
  never_less = let e = less_alone l p m q (get locks l) (are l) in omega (arith, e)

  pub others_fit : count_in (get locks l) - held_once (get m l) ≤ length (p ++ q)
  others_fit = let e = less_alone l p m q (get locks l) (are l) in let f = holders_fit l (p ++ q) in omega (arith, e, f)

-- ---- the row of a call

pub split_row : (rows : List Modes) (call : ℕ) → call < length rows → rows ≡ take call rows ++ get_or rows call empty ∷ drop (call + 1) rows
split_row rows call below =
    sym (take-append-drop call rows) ∙ ap (λ ys. take call rows ++ ys) (drop-cons rows call empty below ∙ (λ k. get_or rows call empty ∷ drop (sym (add-one call) k) rows))

pub set_row : (rows : List Modes) (call : ℕ) (m : Modes) → call < length rows → set rows call m ≡ take call rows ++ m ∷ drop (call + 1) rows
set_row rows call m below = sym (take-append-drop call (set rows call m)) ∙ (λ k. take-set rows call m k ++ drop-set rows call m below k)

nobody_at : (l : Lock) (n : ℕ) → holders_of l (replicate n empty) ≡ 0
nobody_at l zero = refl
nobody_at l (suc n) = (λ i. held_once (get-empty {X = Mode} lock_cmp l i) + nobody_at l n i)

pub nobody : (n : ℕ) (rows : List Modes) → rows ≡ replicate n empty → AreShared empty rows
nobody n rows e l =
    subst (λ (ms : List Modes). IsShared l (get (empty {X = Shared} {R = lock_cmp}) l) ms) (sym e)
    (let P : Option Shared → Type 0 = λ o. IsShared l o (replicate n empty) in subst P (sym (get-empty {X = Shared} lock_cmp l)) (nobody_at l n))

longer : (p : List Modes) (m : Modes) (q : List Modes) → length (p ++ m ∷ q) ≡ length (p ++ q) + 1
longer [] m q = omega arith
longer (x ∷ p) m q = let e = longer p m q in omega (arith, e)

-- ---- a take, by what its steps gave

module _ (locks : Sharings) (rows : List Modes) (call : ℕ) (below : call < length rows) (are : AreShared locks rows) (l : Lock) (mode joined : Mode)
    (held : Option Mode) (held_is : held ≡ get (get_or rows call empty) l) (shared : Option Shared) (shared_is : shared ≡ get locks l) (joined_is : joined ≡ join_held mode held) where
  abbrev row : Modes
  row = get_or rows call empty

  are_round : AreShared locks (take call rows ++ row ∷ drop (call + 1) rows)
  are_round = subst (λ (ms : List Modes). AreShared locks ms) (split_row rows call below) are

  pub take_less : held_once held ≤ count_in shared
  take_less =
      let path : ◌≡◌ {A = Option Mode × Option Shared} (get row l, get locks l) (held, shared) = λ i. (sym held_is i, sym shared_is i) in
      let P : Option Mode × Option Shared → Type 0 = λ (h, s). held_once h ≤ count_in s in
      subst P path (never_less locks (take call rows) row (drop (call + 1) rows) are_round l)

  abbrev Joins : Option Mode × Option Shared → Type 0
  Joins (h, s) = MayJoin s (count_in s - held_once h) joined

  may_there : MayJoin shared (count_in shared - held_once held) joined → MayJoin (get locks l) (count_in (get locks l) - held_once (get row l)) joined
  may_there may = let path : ◌≡◌ {A = Option Mode × Option Shared} (held, shared) (get row l, get locks l) = λ i. (held_is i, shared_is i) in subst Joins path may

  may_here : MayJoin (get locks l) (count_in (get locks l) - held_once (get row l)) joined → MayJoin shared (count_in shared - held_once held) joined
  may_here may = let path : ◌≡◌ {A = Option Mode × Option Shared} (get row l, get locks l) (held, shared) = λ i. (sym held_is i, sym shared_is i) in subst Joins path may

  joined_there : joined ≡ join_held mode (get row l)
  joined_there = joined_is ∙ ap (join_held mode) held_is

  pub take_asked : AllShare (get_or rows call empty) l mode (take call rows ++ drop (call + 1) rows) → MayJoin shared (count_in shared - held_once held) joined
  take_asked share =
      may_here (asked_all locks (take call rows) row (drop (call + 1) rows) are_round l joined
      (subst (λ (j : Mode). AllByRecursion (Shares l j) (take call rows ++ drop (call + 1) rows)) (sym joined_there) share))

  pub take_conflict : ¬ (MayJoin shared (count_in shared - held_once held) joined) → ¬ (AllShare (get_or rows call empty) l mode (take call rows ++ drop (call + 1) rows))
  take_conflict not_may share = not_may (take_asked share)

  module _ (may : MayJoin shared (count_in shared - held_once held) joined) where
    pub take_granted : AllShare (get_or rows call empty) l mode (take call rows ++ drop (call + 1) rows)
    take_granted =
        subst (λ (j : Mode). AllByRecursion (Shares l j) (take call rows ++ drop (call + 1) rows)) joined_there
        (granted_all locks (take call rows) row (drop (call + 1) rows) are_round l joined (may_there may))

    pub take_shared : (next : Shared) → next ≡ record { mode = joined; count = count_in shared - held_once held + 1 } → (now : Sharings) → now ≡ insert locks l next
        → (after : List Modes) → after ≡ set rows call (insert row l joined) → AreShared now after
    take_shared next next_is now now_is after after_is =
        let count : count_in shared - held_once held ≡ count_in (get locks l) - held_once (get row l) = λ i. count_in (shared_is i) - held_once (held_is i) in
        let here : AreShared (insert locks l next) (take call rows ++ insert row l joined ∷ drop (call + 1) rows) =
        taken_all locks (take call rows) row (drop (call + 1) rows) are_round l joined next (next_is ∙ (λ i. record { mode = joined; count = count i + 1 })) (may_there may) in
        let path : ◌≡◌ {A = Sharings × List Modes} (insert locks l next, take call rows ++ insert row l joined ∷ drop (call + 1) rows) (now, after) =
        λ i. (sym now_is i, (sym (set_row rows call (insert row l joined) below) ∙ sym after_is) i) in
        let P : Sharings × List Modes → Type 0 = λ (s, ms). AreShared s ms in
        subst P path here

  pub take_fits : length rows < 2 ^ 32 → count_in shared - held_once held + 1 < 2 ^ 64
  take_fits few =
      let count : count_in shared - held_once held ≡ count_in (get locks l) - held_once (get row l) = λ i. count_in (shared_is i) - held_once (held_is i) in
      let all : length rows ≡ length (take call rows ++ row ∷ drop (call + 1) rows) = ap length (split_row rows call below) in
      let more = longer (take call rows) row (drop (call + 1) rows) in
      let fit = others_fit locks (take call rows) row (drop (call + 1) rows) are_round l in
      omega (arith, few, count, all, more, fit)

  pub take_is : (after : List Modes) → after ≡ set rows call (insert row l joined) → after ≡ set rows call (asked row l mode)
  take_is after after_is = after_is ∙ (λ i. set rows call (insert row l (joined_there i)))

pub restored : (locks now back : Sharings) (l : Lock) (next : Shared) (shared : Option Shared) → now ≡ insert locks l next → shared ≡ get locks l → back ≡ set_at now l shared → back ≡ locks
restored locks now back l next shared now_is shared_is back_is = same_map lock_cmp_total lock_cmp-IsAntisymmetric back locks (λ q.
    ap (λ m. get m q) back_is
    ∙ get-set_at lock_cmp_total now l shared q
    ∙ elim (eq_by_cmp lock_cmp q l) as (λ b. eq_by_cmp lock_cmp q l ≡ b → cond b shared (get now q) ≡ get locks q) [
      | true ↦ λ e. shared_is ∙ ap (get locks) (sym (is_key lock_cmp_total lock_cmp-IsAntisymmetric q l e))
      | false ↦ λ e. ap (λ m. get m q) now_is ∙ get-insert lock_cmp_total locks l next q ∙ ap (λ b. cond b (Some next) (get locks q)) e
    ] refl)

pub put_there : (locks now : Sharings) (l : Lock) (next : Shared) → now ≡ insert locks l next → IsSome (get now l)
put_there locks now l next e =
    ap (λ m. is_some (get m l)) e ∙ ap is_some (get-insert lock_cmp_total locks l next l ∙ ap (λ b. cond b (Some next) (get locks l)) (key_itself lock_cmp_total lock_cmp-IsAntisymmetric l))

pub fewer_locks : (m n : Modes) (l : Lock) → IsSome (get m l) → n ≡ remove m l → len n < len m
fewer_locks m n l held e =
    let some : contains_key m l ≡ true = held in
    let left : len n ≡ len m - 1 = ap len e ∙ len-remove lock_cmp_total m l ∙ ap (λ b. cond b (len m - 1) (len m)) some in
    elim (len m) as (λ k. len m ≡ k → len n < len m) [
      | zero ↦ λ z. let none : get m l ≡ None = ap (λ x. get x l) (empty_of_len m z) ∙ get-empty lock_cmp l in
          let no : false ≡ true = sym (ap is_some none) ∙ held in cc
      | suc k ↦ λ z. omega (arith, left, z)
    ] refl

pub kept_shared : (locks now : Sharings) (rows after : List Modes) → AreShared locks rows → now ≡ locks → after ≡ rows → AreShared now after
kept_shared locks now rows after are now_is after_is =
    let path : ◌≡◌ {A = Sharings × List Modes} (locks, rows) (now, after) = λ i. (sym now_is i, sym after_is i) in
    let P : Sharings × List Modes → Type 0 = λ (s, ms). AreShared s ms in
    subst P path are

-- ---- a release

pub one_went : (locks : Sharings) (before : List Modes) (held : Modes) (later : List Modes) → AreShared locks (before ++ held ∷ later) → (l : Lock) → IsSome (get held l)
    → (now : Sharings) → now ≡ set_at locks l (one_less (get locks l)) → (left : Modes) → left ≡ remove held l → AreShared now (before ++ left ∷ later)
one_went locks before held later are l some now now_is left left_is =
    let path : ◌≡◌ {A = Sharings × List Modes} (set_at locks l (one_less (get locks l)), before ++ remove held l ∷ later) (now, before ++ left ∷ later) = λ i. (sym now_is i, before ++ sym left_is i ∷ later) in
    let P : Sharings × List Modes → Type 0 = λ (s, ms). AreShared s ms in
    subst P path (gone_all locks before held later are l some)

pub round_held : (locks : Sharings) (rows : List Modes) (call : ℕ) → call < length rows → AreShared locks rows → (held : Modes) → held ≡ get_or rows call empty → AreShared locks (take call rows ++ held ∷ drop (call + 1) rows)
round_held locks rows call below are held is = subst (λ (ms : List Modes). AreShared locks ms) (split_row rows call below ∙ (λ i. take call rows ++ sym is i ∷ drop (call + 1) rows)) are

pub round_none : (locks : Sharings) (rows after : List Modes) (call : ℕ) → call < length rows → AreShared locks (take call rows ++ empty ∷ drop (call + 1) rows) → after ≡ set rows call empty → AreShared locks after
round_none locks rows after call below are after_is = subst (λ (ms : List Modes). AreShared locks ms) (sym (set_row rows call empty below) ∙ sym after_is) are
