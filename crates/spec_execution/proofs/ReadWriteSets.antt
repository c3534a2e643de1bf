-- The read-write set of an execution, over other cells.
use Rattle.std.proofs.Common.{◌≡◌, ◌≢◌, ◌⊎◌, inl, inr, ℕ, ◌+◌, ◌-◌, ◌*◌, ◌/◌, ◌%◌, ◌^◌, ◌<◌, Bool, true, false, cond, Option, Some, None, List, [], ◌∷◌, map, refl, sym, ◌∙◌, ap, subst, arith}
use Rattle.std.proofs.Math.Nat.{mod-add-mod, add-mul-mod_self_left, div-add-mod, mod-lt, mod-eq_of_lt}
use Rattle.std.proofs.lemmas.List.Elements.{All-from_recursion, recursion_from_All}
use Rattle.std.specs.Prelude.{All, IfSome, T, ◌&&◌}
use Rattle.std.specs.List.{AllByRecursion}
use Rattle.std.specs.Ordering.{eq_by_cmp, is_eq, is_lt}
use Rattle.std.specs.FinMap.{get, get-entries, entries, entries_sorted, find, is_sorted, same_map}
use Rattle.std.specs.FinMap.Entries.{below_all}
use Rattle.std.specs.declared.cmp.Ordering.TheVariants.{Less, Equal, Greater}
use Rattle.spec_ledger.specs.declared.Kind.{Kind}
use Rattle.spec_ledger.specs.declared.Kind.TheVariants.{Map, Counter}
use Rattle.spec_ledger.specs.declared.Lock.{Lock}
use Rattle.spec_ledger.specs.declared.Mode.{Mode}
use Rattle.spec_ledger.specs.declared.Mode.TheVariants.{Read, Add as Adding, Excl}
use Rattle.spec_ledger.specs.declared.Op.{Op}
use Rattle.spec_ledger.specs.declared.Op.TheVariants.{Get, Has, Put, Del, Add, Total}
use Rattle.spec_ledger.specs.declared.Receipt.{Receipt}
use Rattle.spec_ledger.specs.declared.TraceStep.{TraceStep}
use Rattle.spec_ledger.specs.Cells.{Cells, AreCells, IsCounter, lock_cmp, lock_of, counter_at, cell_after, reply_of, counter, number, subtracted, update}
use Rattle.spec_ledger.specs.Modes.{Modes, mode_of, ops_of, touched}
use Rattle.spec_ledger.specs.Book.{after, GetsReplies, has_returned}
use Rattle.spec_ledger.proofs.Maps.{get-set_at, is_key, lock_cmp_total, lock_cmp-IsAntisymmetric}
use Rattle.spec_ledger.proofs.Ops.{number-counter, counter-number, read_keeps, summand, adds}
use Rattle.spec_ledger.proofs.Traces.{All-weaken, AreCells-after_all, Holds, all_hold, get-touched_by}
use Rattle.spec_execution.specs.Configuration.{Setting}
use Rattle.spec_execution.specs.Run.{ContractCall}
use Rattle.spec_execution.specs.Exec.{Executes}
use Rattle.spec_execution.specs.ReadWriteSets.{Agrees, left, all_left, LeavesACell, IsReadWriteSet, use_of, access_by, access_at}
use Rattle.spec_execution.proofs.Likeness.{AreAlike, Keeps, after_alike, replies_alike}

-- ---- numbers

sum_in_order : (n v w m : ℕ) → (n + (v + w) % m) % m ≡ (v + (n + w) % m) % m
sum_in_order n v w m =
    ap (λ x. x % m) (omega arith) ∙ mod-add-mod (v + w) m n ∙ ap (λ x. x % m) (omega arith) ∙ sym (mod-add-mod (n + w) m v) ∙ ap (λ x. x % m) (omega arith)

split_sum : (n v m q r : ℕ) → m * q + r ≡ v → r < m → v + (n + (m - r)) ≡ n + m * (q + 1)
split_sum n v m q r e h = omega arith

sum_back : (n v m : ℕ) → 0 < m → n < m → (v + (n + (m - v % m)) % m) % m ≡ n
sum_back n v m pos fits =
    ap (λ x. x % m) (omega arith) ∙ mod-add-mod (n + (m - v % m)) m v ∙ ap (λ x. x % m) (omega arith)
    ∙ ap (λ x. x % m) (split_sum n v m (v / m) (v % m) (div-add-mod v m) (mod-lt v pos))
    ∙ add-mul-mod_self_left n m (v / m + 1)
    ∙ mod-eq_of_lt fits

-- ---- how what two stores hold at a lock is alike

-- by how much the second counter is above the first
abbrev shift : Option ℕ → Option ℕ → ℕ
shift x p = (number p + (2 ^ 64 - number x % 2 ^ 64)) % 2 ^ 64

abbrev RelatedBy : Mode → Option ℕ → Option ℕ → Option ℕ → Option ℕ → Type 0
RelatedBy Read x p a b = (a ≡ x) × ((b ≡ p) × (x ≡ p))
RelatedBy Adding x p a b = b ≡ counter ((number a + shift x p) % 2 ^ 64)
RelatedBy Excl x p a b = a ≡ b

abbrev Related : Option Mode → Kind → Option ℕ → Option ℕ → Option ℕ → Option ℕ → Type 0
Related None k x p a b = (a ≡ x) × (b ≡ p)
Related (Some m) k x p a b = RelatedBy (use_of k m) x p a b

only_added : (k : Kind) (m : Mode) → use_of k m ≡ Adding → (k ≡ Counter) × (m ≡ Adding)
only_added Counter Adding e = (refl, refl)
only_added Counter Read e = cc
only_added Counter Excl e = cc
only_added Map Read e = cc
only_added Map Adding e = cc
only_added Map Excl e = cc

only_read : (k : Kind) (m : Mode) → use_of k m ≡ Read → m ≡ Read
only_read k Read e = refl
only_read Counter Adding e = cc
only_read Map Adding e = cc
only_read Counter Excl e = cc
only_read Map Excl e = cc

-- how a lock is held that is not held by one alone, is how each operation asked for it
asked_so : (held mode m : Mode) → held ≡ m → m ≢ Excl → (held ≡ mode) ⊎ (held ≡ Excl) → mode ≡ m
asked_so held mode m e other (inl same) = sym same ∙ e
asked_so held mode m e other (inr excl) = absurd (other (sym e ∙ excl))

adds_blindly : (s : Op) → mode_of s ≡ Adding → (c d : Option ℕ) → reply_of s c ≡ reply_of s d
adds_blindly (Add p v) e c d = refl
adds_blindly (Get p) e c d = cc
adds_blindly (Has p) e c d = cc
adds_blindly (Put p v) e c d = cc
adds_blindly (Del p) e c d = cc
adds_blindly (Total p) e c d = cc

-- both counters grow by the same
grown : (s : Op) → mode_of s ≡ Adding → (d : ℕ) (a b : Option ℕ) → b ≡ counter ((number a + d) % 2 ^ 64) → cell_after s b ≡ counter ((number (cell_after s a) + d) % 2 ^ 64)
grown s e d a b is =
    adds s e b
    ∙ ap (λ c. counter ((number c + summand s) % 2 ^ 64)) is
    ∙ ap (λ n. counter ((n + summand s) % 2 ^ 64)) (number-counter ((number a + d) % 2 ^ 64))
    ∙ ap counter (mod-add-mod (number a + d) (2 ^ 64) (summand s) ∙ ap (λ x. x % 2 ^ 64) (omega arith) ∙ sym (mod-add-mod (number a + summand s) (2 ^ 64) d))
    ∙ sym (ap (λ n. counter ((n + d) % 2 ^ 64)) (ap number (adds s e a) ∙ number-counter ((number a + summand s) % 2 ^ 64)))

cell_by : (s : Op) (o : Mode) → (o ≡ Adding → mode_of s ≡ Adding) → (o ≡ Read → mode_of s ≡ Read) → (x p a b : Option ℕ) → RelatedBy o x p a b → RelatedBy o x p (cell_after s a) (cell_after s b)
cell_by s Read adding reading x p a b is = (read_keeps s (reading refl) a ∙ is.0, (read_keeps s (reading refl) b ∙ is.1.0, is.1.1))
cell_by s Adding adding reading x p a b is = grown s (adding refl) (shift x p) a b is
cell_by s Excl adding reading x p a b is = ap (cell_after s) is

reply_by : (s : Op) (o : Mode) → (o ≡ Adding → mode_of s ≡ Adding) → (x p a b : Option ℕ) → RelatedBy o x p a b → reply_of s a ≡ reply_of s b
reply_by s Read adding x p a b is = ap (reply_of s) (is.0 ∙ is.1.1 ∙ sym is.1.0)
reply_by s Adding adding x p a b is = adds_blindly s (adding refl) a b
reply_by s Excl adding x p a b is = ap (reply_of s) is

-- what a read-write set leaves of a cell that held p
abbrev left_by : Mode → Option ℕ → Option ℕ → Option ℕ → Option ℕ
left_by Read x y p = p
left_by Adding x y p = counter ((number p + number (subtracted (number x) y)) % 2 ^ 64)
left_by Excl x y p = y

abbrev left_at : Option Mode → Kind → Option ℕ → Option ℕ → Option ℕ → Option ℕ
left_at None k x y p = p
left_at (Some m) k x y p = left_by (use_of k m) x y p

meets_by : (o : Mode) (x p y z : Option ℕ) → RelatedBy o x p y z → left_by o x y p ≡ z
meets_by Read x p y z is = sym is.1.0
meets_by Adding x p y z is =
    ap (λ n. counter ((number p + n) % 2 ^ 64)) (number-counter ((number y + (2 ^ 64 - number x % 2 ^ 64)) % 2 ^ 64))
    ∙ ap counter (sum_in_order (number p) (number y) (2 ^ 64 - number x % 2 ^ 64) (2 ^ 64))
    ∙ sym is
meets_by Excl x p y z is = is

meets : (o : Option Mode) (k : Kind) (x p y z : Option ℕ) → Related o k x p y z → left_at o k x y p ≡ z
meets None k x p y z is = sym is.1
meets (Some m) k x p y z is = meets_by (use_of k m) x p y z is

first : (a b : Bool) → T (a && b) → T a
first true b h = tt
first false b h = h

second : (a b : Bool) → T (a && b) → T b
second true b h = h
second false b h = absurd h

-- ---- a counter's lock

pub is_counter : (cells : Cells) (q : Lock) → AreCells cells → q.kind ≡ Counter → IsCounter (get cells q)
is_counter cells q are kind =
    let same : counter_at (record { contract = q.contract; key = q.key }) ≡ q = λ i. record { contract = q.contract; kind = sym kind i; key = q.key } in
    subst (λ l. IsCounter (get cells l)) same (are.counters (record { contract = q.contract; key = q.key }))

-- ---- accesses, lock by lock

-- the first lock of a sorted list does not come again
not_again : (x : Lock) (es : List (Lock × Mode)) → T (below_all lock_cmp x es) → find lock_cmp x es ≡ None
not_again x [] h = refl
not_again x (e ∷ es) h =
    elim (lock_cmp x e.0) as (λ r. T (is_lt r) → cond (is_eq r) (Some e.1) (find lock_cmp x es) ≡ None) [
      | Less ↦ λ _. not_again x es (second (is_lt (lock_cmp x e.0)) (below_all lock_cmp x es) h)
      | Equal ↦ λ none. absurd none
      | Greater ↦ λ none. absurd none
    ] (first (is_lt (lock_cmp x e.0)) (below_all lock_cmp x es) h)

module _ (X Y : Cells) where
  -- an access, and its cell
  left_access : (o : Mode) (e : Lock × Mode) (m : Cells) (q : Lock) → use_of e.0.kind e.1 ≡ o
      → get (left (access_by o e.0 (get X e.0) (get Y e.0)) m) q ≡ cond (eq_by_cmp lock_cmp q e.0) (left_by o (get X e.0) (get Y e.0) (get m e.0)) (get m q)
  left_access Read e m q is =
      elim (eq_by_cmp lock_cmp q e.0) as (λ b. eq_by_cmp lock_cmp q e.0 ≡ b → get m q ≡ cond b (get m e.0) (get m q)) [
        | true ↦ λ t. ap (get m) (is_key lock_cmp_total lock_cmp-IsAntisymmetric q e.0 t)
        | false ↦ λ _. refl
      ] refl
  left_access Adding e m q is =
      let same : counter_at (record { contract = e.0.contract; key = e.0.key }) ≡ e.0 = λ i. record { contract = e.0.contract; kind = sym (only_added e.0.kind e.1 is).0 i; key = e.0.key } in
      subst (λ l. get (update m l (λ c. counter ((number c + number (subtracted (number (get X e.0)) (get Y e.0))) % 2 ^ 64))) q ≡ cond (eq_by_cmp lock_cmp q e.0) (left_by Adding (get X e.0) (get Y e.0) (get m e.0)) (get m q)) (sym same)
      (get-set_at lock_cmp_total m e.0 (left_by Adding (get X e.0) (get Y e.0) (get m e.0)) q)
  left_access Excl e m q is = get-set_at lock_cmp_total m e.0 (get Y e.0) q

  lefts_here : (e : Lock × Mode) (es : List (Lock × Mode)) → T (is_sorted lock_cmp (e ∷ es)) → (c : Option ℕ) → left_at (find lock_cmp e.0 es) e.0.kind (get X e.0) (get Y e.0) c ≡ c
  lefts_here e es below c = ap (λ o. left_at o e.0.kind (get X e.0) (get Y e.0) c) (not_again e.0 es (first (below_all lock_cmp e.0 es) (is_sorted lock_cmp es) below))

  pub lefts_at : (es : List (Lock × Mode)) → T (is_sorted lock_cmp es) → (m : Cells) (q : Lock) → get (all_left (map (access_at X Y) es) m) q ≡ left_at (find lock_cmp q es) q.kind (get X q) (get Y q) (get m q)
  lefts_at [] sorted m q = refl
  lefts_at (e ∷ es) sorted m q =
      lefts_at es (second (below_all lock_cmp e.0 es) (is_sorted lock_cmp es) sorted) (left (access_at X Y e) m) q
      ∙ ap (left_at (find lock_cmp q es) q.kind (get X q) (get Y q)) (left_access (use_of e.0.kind e.1) e m q refl)
      ∙ elim (eq_by_cmp lock_cmp q e.0) as (λ b. eq_by_cmp lock_cmp q e.0 ≡ b → left_at (find lock_cmp q es) q.kind (get X q) (get Y q) (cond b (left_by (use_of e.0.kind e.1) (get X e.0) (get Y e.0) (get m e.0)) (get m q)) ≡ left_at (cond b (Some e.1) (find lock_cmp q es)) q.kind (get X q) (get Y q) (get m q)) [
        | true ↦ λ is.
            let same = is_key lock_cmp_total lock_cmp-IsAntisymmetric q e.0 is in
            subst (λ l. left_at (find lock_cmp l es) l.kind (get X l) (get Y l) (left_by (use_of e.0.kind e.1) (get X e.0) (get Y e.0) (get m e.0)) ≡ left_by (use_of l.kind e.1) (get X l) (get Y l) (get m l)) (sym same)
            (lefts_here e es sorted (left_by (use_of e.0.kind e.1) (get X e.0) (get Y e.0) (get m e.0)))
        | false ↦ λ _. refl
      ] refl

  -- each access says what the cells held
  found_by : (o : Mode) (l : Lock) → Agrees X (access_by o l (get X l) (get Y l))
  found_by Read l = refl
  found_by Adding l = tt
  found_by Excl l = refl

  pub all_found : (es : List (Lock × Mode)) → AllByRecursion (Agrees X) (map (access_at X Y) es)
  all_found [] = tt
  all_found (e ∷ es) = (found_by (use_of e.0.kind e.1) e.0, all_found es)

  -- what cells that agree hold at a lock that may have been read
  agrees_by : (o : Mode) (l : Lock) (P : Cells) → o ≢ Adding → Agrees P (access_by o l (get X l) (get Y l)) → get X l ≡ get P l
  agrees_by Read l P read is = sym is
  agrees_by Adding l P read is = absurd (read refl)
  agrees_by Excl l P read is = sym is

  pub agrees_at : (es : List (Lock × Mode)) (P : Cells) → AllByRecursion (Agrees P) (map (access_at X Y) es) → (q : Lock) (m : Mode) → find lock_cmp q es ≡ Some m → use_of q.kind m ≢ Adding → get X q ≡ get P q
  agrees_at [] P all q m at read = cc
  agrees_at (e ∷ es) P all q m at read =
      elim (eq_by_cmp lock_cmp q e.0) as (λ b. eq_by_cmp lock_cmp q e.0 ≡ b → cond b (Some e.1) (find lock_cmp q es) ≡ Some m → get X q ≡ get P q) [
        | true ↦ λ is at.
            let same = is_key lock_cmp_total lock_cmp-IsAntisymmetric q e.0 is in
            let mode : e.1 ≡ m = cc in
            subst (λ l. get X l ≡ get P l) (sym same)
            (agrees_by (use_of e.0.kind e.1) e.0 P (subst (λ o. o ≢ Adding) (λ i. use_of (same i).kind (sym mode i)) read) all.0)
        | false ↦ λ _ at. agrees_at es P all.1 q m at read
      ] refl at

  -- no counter is left at 0
  leaves_by : (o : Mode) (l : Lock) → AreCells Y → LeavesACell (access_by o l (get X l) (get Y l))
  leaves_by Read l are = tt
  leaves_by Adding l are = tt
  leaves_by Excl l are = λ kind. (is_counter Y l are kind).not_zero

  pub all_leave : (es : List (Lock × Mode)) → AreCells Y → AllByRecursion LeavesACell (map (access_at X Y) es)
  all_leave [] are = tt
  all_leave (e ∷ es) are = (leaves_by (use_of e.0.kind e.1) e.0 are, all_leave es are)

-- ---- the law

module _ (X P : Cells) (t : List TraceStep) where
  abbrev Alike : Lock → Option ℕ → Option ℕ → Type 0
  Alike q a b = Related (get (touched t) q) q.kind (get X q) (get P q) a b

  keeps_one : (s : Op) → Holds (lock_of s) (mode_of s) (ops_of t) → Keeps Alike s
  keeps_one s h =
      let at : get (touched t) (lock_of s) ≡ Some h.held = get-touched_by (ops_of t) (lock_of s) ∙ h.is in
      let adding : use_of (lock_of s).kind h.held ≡ Adding → mode_of s ≡ Adding = λ e. asked_so h.held (mode_of s) Adding (only_added (lock_of s).kind h.held e).1 (λ no. cc) h.strong in
      let reading : use_of (lock_of s).kind h.held ≡ Read → mode_of s ≡ Read = λ e. asked_so h.held (mode_of s) Read (only_read (lock_of s).kind h.held e) (λ no. cc) h.strong in
      record {
        cell = λ a b alike.
            subst (λ o. Related o (lock_of s).kind (get X (lock_of s)) (get P (lock_of s)) (cell_after s a) (cell_after s b)) (sym at)
            (cell_by s (use_of (lock_of s).kind h.held) adding reading (get X (lock_of s)) (get P (lock_of s)) a b
            (subst (λ o. Related o (lock_of s).kind (get X (lock_of s)) (get P (lock_of s)) a b) at alike));
        reply = λ a b alike.
            reply_by s (use_of (lock_of s).kind h.held) adding (get X (lock_of s)) (get P (lock_of s)) a b
            (subst (λ o. Related o (lock_of s).kind (get X (lock_of s)) (get P (lock_of s)) a b) at alike);
      }

  all_keep : AllByRecursion (Keeps Alike) (ops_of t)
  all_keep = All-weaken (λ s. Holds (lock_of s) (mode_of s) (ops_of t)) (Keeps Alike) keeps_one (ops_of t) (all_hold (ops_of t))

  -- at the start
  alike_by : (o : Mode) (x p : Option ℕ) → (o ≡ Adding → IsCounter p) → (o ≢ Adding → x ≡ p) → RelatedBy o x p x p
  alike_by Read x p counted same = (refl, (refl, same (λ no. cc)))
  alike_by Adding x p counted same =
      let is = counted refl in
      sym (ap counter (sum_back (number p) (number x) (2 ^ 64) (omega arith) is.fits) ∙ counter-number p is.not_zero)
  alike_by Excl x p counted same = same (λ no. cc)

  alike_at : (q : Lock) (o : Option Mode) → ((m : Mode) → o ≡ Some m → use_of q.kind m ≢ Adding → get X q ≡ get P q) → AreCells P → Related o q.kind (get X q) (get P q) (get X q) (get P q)
  alike_at q None same are = (refl, refl)
  alike_at q (Some m) same are = alike_by (use_of q.kind m) (get X q) (get P q) (λ e. is_counter P q are (only_added q.kind m e).0) (λ e. same m refl e)

  module _ (Y : Cells) (are : AreCells P) (all : AllByRecursion (Agrees P) (map (access_at X Y) (entries (touched t)))) where
    alike : AreAlike Alike X P
    alike q = alike_at q (get (touched t) q) (λ m at read. agrees_at X Y (entries (touched t)) P all q m (sym (get-entries (touched t) q) ∙ at) read) are

    pub replies : GetsReplies t X → GetsReplies t P
    replies g = replies_alike Alike t X P all_keep alike g

    alike_later : (stands : Bool) → AreAlike Alike (cond stands (after t X) X) (cond stands (after t P) P)
    alike_later true = after_alike Alike t X P all_keep alike
    alike_later false = alike

    pub leaves : (stands : Bool) → Y ≡ cond stands (after t X) X → all_left (map (access_at X Y) (entries (touched t))) P ≡ cond stands (after t P) P
    leaves stands later = same_map lock_cmp_total lock_cmp-IsAntisymmetric _ _ (λ q.
        lefts_at X Y (entries (touched t)) (entries_sorted (touched t)) P q
        ∙ ap (λ o. left_at o q.kind (get X q) (get Y q) (get P q)) (sym (get-entries (touched t) q))
        ∙ meets (get (touched t) q) q.kind (get X q) (get P q) (get Y q) (get (cond stands (after t P) P) q)
        (subst (λ c. Alike q (get c q) (get (cond stands (after t P) P) q)) (sym later) (alike_later stands q)))

later_cells : (stands : Bool) (t : List TraceStep) (X Y : Cells) → Y ≡ cond stands (after t X) X → AreCells X → AreCells Y
later_cells true t X Y later are = subst AreCells (sym later) (AreCells-after_all t X are)
later_cells false t X Y later are = subst AreCells (sym later) are

module _ (setting : Setting) (call : ContractCall) (X Y : Cells) (receipt : Receipt) (locks : Modes) (are : AreCells X) (e : Executes setting call X Y receipt locks) where
  over : (P : Cells) → AreCells P → AllByRecursion (Agrees P) (map (access_at X Y) (entries (touched e.trace))) → Executes setting call P (all_left (map (access_at X Y) (entries (touched e.trace))) P) receipt locks
  over P are_cells all = record {
    trace = e.trace;
    run = e.run;
    asks = e.asks;
    replies = replies X P e.trace Y are_cells all e.replies;
    later_is = leaves X P e.trace Y are_cells all (has_returned receipt.outcome) e.later_is;
    locks_are = e.locks_are;
  }

  accesses_are : map (access_at X Y) (entries locks) ≡ map (access_at X Y) (entries (touched e.trace))
  accesses_are = ap (λ m. map (access_at X Y) (entries m)) e.locks_are

  pub read_write_set : IsReadWriteSet setting call (map (access_at X Y) (entries locks)) receipt locks
  read_write_set = record {
    cells = All-from_recursion LeavesACell _ (all_leave X Y (entries locks) (later_cells (has_returned receipt.outcome) e.trace X Y e.later_is are));
    executes = λ P are_cells all.
        subst (λ l. Executes setting call P (all_left l P) receipt locks) (sym accesses_are)
        (over P are_cells (subst (AllByRecursion (Agrees P)) accesses_are (recursion_from_All (Agrees P) _ all)));
  }

  pub left_is : all_left (map (access_at X Y) (entries locks)) X ≡ Y
  left_is =
      ap (λ l. all_left l X) accesses_are
      ∙ leaves X X e.trace Y are (all_found X Y (entries (touched e.trace))) (has_returned receipt.outcome) e.later_is
      ∙ sym e.later_is

pub found_all : (X Y : Cells) (locks : Modes) → All (Agrees X) (map (access_at X Y) (entries locks))
found_all X Y locks = All-from_recursion (Agrees X) _ (all_found X Y (entries locks))

keeps : (o : Option Mode) (k : Kind) (x y p : Option ℕ) → IfSome o (λ m. m ≡ Read) → left_at o k x y p ≡ p
keeps None k x y p only = refl
keeps (Some m) k x y p only = ap (λ n. left_by (use_of k n) x y p) only

pub kept_at : (X Y P : Cells) (locks : Modes) (q : Lock) → IfSome (get locks q) (λ m. m ≡ Read) → get (all_left (map (access_at X Y) (entries locks)) P) q ≡ get P q
kept_at X Y P locks q only =
    lefts_at X Y (entries locks) (entries_sorted locks) P q
    ∙ ap (λ o. left_at o q.kind (get X q) (get Y q) (get P q)) (sym (get-entries locks q))
    ∙ keeps (get locks q) q.kind (get X q) (get Y q) (get P q) only
