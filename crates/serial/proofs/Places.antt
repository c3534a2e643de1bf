-- What touches have at their locks, lock by lock.
use Rattle.std.proofs.Common.{◌≡◌, ◌≢◌, ℕ, Bool, true, false, cond, Option, Some, None, List, [], ◌∷◌, refl, sym, ◌∙◌, ap, subst}
use Rattle.std.specs.Ordering.{eq_by_cmp, is_eq}
use Rattle.std.specs.Map.{lookup}
use Rattle.std.specs.Cmp.{eq_by_cmp_equiv}
use Rattle.std.specs.FinMap as finite
use Rattle.std.specs.FinMap.{FinMap}
use Rattle.std.specs.BTreeMap as tree
use Rattle.std.specs.BTreeMap.{BTreeMap}
use Rattle.spec_ledger.specs.declared.Lock.{Lock}
use Rattle.spec_ledger.specs.declared.Op.{Op}
use Rattle.spec_ledger.specs.declared.Kind.TheVariants.{Counter}
use Rattle.spec_ledger.specs.Cells.{Cells, AreCells, IsCounter, counter_at, lock_cmp, lock_of, reply_of, reply_to, set_at, update}
use Rattle.spec_ledger.proofs.Maps.{get-set_at, is_key, key_itself, update_same, lock_cmp_total, lock_cmp-IsAntisymmetric}
use Rattle.serial.specs.declared.touches.Touch.{Touch}
use Rattle.serial.specs.Touches.{what_in, found_in, later_in, modes_of}

module _ {X : Type 0} (f : Touch → Option X) where
  abbrev pub of_touch : Option Touch → Option X
  of_touch None = None
  of_touch (Some t) = f t

  of_cond : (b : Bool) (t : Touch) (o : Option Touch) → cond b (f t) (of_touch o) ≡ of_touch (cond b (Some t) o)
  of_cond true t o = refl
  of_cond false t o = refl

  pub get-what_in : (es : List (Lock × Touch)) (q : Lock) → finite.get (what_in f es) q ≡ of_touch (lookup (λ k. is_eq (lock_cmp q k)) es)
  get-what_in [] q = finite.get-empty lock_cmp q
  get-what_in (e ∷ es) q =
      get-set_at lock_cmp_total (what_in f es) e.0 (f e.1) q
      ∙ ap (cond (eq_by_cmp lock_cmp q e.0) (f e.1)) (get-what_in es q)
      ∙ of_cond (eq_by_cmp lock_cmp q e.0) e.1 _

  -- what a look-up finds
  pub looked_up : (m : BTreeMap Lock Touch) (lock : Lock) (o : Option Touch) → o ≡ tree.get lock_cmp m lock → of_touch o ≡ finite.get (what_in f m.entries) lock
  looked_up m lock o is = ap of_touch is ∙ sym (get-what_in m.entries lock)

  -- after one touch is written
  pub written : (m n : BTreeMap Lock Touch) (lock : Lock) (o : Option Touch) → ((q : Lock) → tree.get lock_cmp n q ≡ cond (eq_by_cmp lock_cmp lock q) o (tree.get lock_cmp m q))
      → what_in f n.entries ≡ set_at (what_in f m.entries) lock (of_touch o)
  written m n lock o h = finite.same_map lock_cmp_total lock_cmp-IsAntisymmetric _ _ (λ q.
      get-what_in n.entries q
      ∙ ap of_touch (h q)
      ∙ elim (eq_by_cmp lock_cmp lock q) as (λ b. of_touch (cond b o (tree.get lock_cmp m q)) ≡ cond b (of_touch o) (of_touch (tree.get lock_cmp m q))) [ true ↦ refl | false ↦ refl ]
      ∙ ap (cond (eq_by_cmp lock_cmp lock q) (of_touch o)) (sym (get-what_in m.entries q))
      ∙ ap (λ b. cond b (of_touch o) (finite.get (what_in f m.entries) q)) ((eq_by_cmp_equiv lock_cmp_total).symm lock q)
      ∙ sym (get-set_at lock_cmp_total (what_in f m.entries) lock (of_touch o) q))

-- a value that is there already is written
pub same_at : {X : Type 0} (m n : FinMap lock_cmp X) (l : Lock) (c : Option X) → n ≡ set_at m l c → c ≡ finite.get m l → n ≡ m
same_at m n l c e f = e ∙ ap (set_at m l) f ∙ update_same lock_cmp_total lock_cmp-IsAntisymmetric m l (λ x. x) refl

-- ---- a touch that is there

module _ (m : BTreeMap Lock Touch) (lock : Lock) (t : Touch) (is : Some t ≡ tree.get lock_cmp m lock) where
  pub found_there : t.found ≡ finite.get (found_in m.entries) lock
  found_there = looked_up (λ (x : Touch). x.found) m lock (Some t) is

  pub later_there : t.later ≡ finite.get (later_in m.entries) lock
  later_there = looked_up (λ (x : Touch). x.later) m lock (Some t) is

  pub mode_there : Some t.mode ≡ finite.get (modes_of m.entries) lock
  mode_there = looked_up (λ (x : Touch). Some x.mode) m lock (Some t) is

  -- after another is written in its place
  module _ (n : BTreeMap Lock Touch) (next : Touch) (h : (q : Lock) → tree.get lock_cmp n q ≡ cond (eq_by_cmp lock_cmp lock q) (Some next) (tree.get lock_cmp m q)) where
    pub found_kept : next.found ≡ t.found → found_in n.entries ≡ found_in m.entries
    found_kept e = same_at (found_in m.entries) (found_in n.entries) lock next.found (written (λ (x : Touch). x.found) m n lock (Some next) h) (e ∙ found_there)

    pub modes_kept : next.mode ≡ t.mode → modes_of n.entries ≡ modes_of m.entries
    modes_kept e = same_at (modes_of m.entries) (modes_of n.entries) lock (Some next.mode) (written (λ (x : Touch). Some x.mode) m n lock (Some next) h) (ap Some e ∙ mode_there)

    pub later_changed : (f : Option ℕ → Option ℕ) → next.later ≡ f t.later → later_in n.entries ≡ update (later_in m.entries) lock f
    later_changed f e = written (λ (x : Touch). x.later) m n lock (Some next) h ∙ ap (λ c. set_at (later_in m.entries) lock c) (e ∙ ap f later_there)

-- no touch is there
module _ (m : BTreeMap Lock Touch) (lock : Lock) (is : None ≡ tree.get lock_cmp m lock) where
  pub mode_absent : None ≡ finite.get (modes_of m.entries) lock
  mode_absent = looked_up (λ (x : Touch). Some x.mode) m lock None is

-- what is written at a lock is there
pub get_written : {X : Type 0} (m : FinMap lock_cmp X) (l : Lock) (c : Option X) → finite.get (set_at m l c) l ≡ c
get_written m l c = get-set_at lock_cmp_total m l c l ∙ ap (λ b. cond b c (finite.get m l)) (key_itself lock_cmp_total lock_cmp-IsAntisymmetric l)

-- what is written twice at a lock is what was written last
pub written_twice : {X : Type 0} (m : FinMap lock_cmp X) (l : Lock) (c d : Option X) → set_at (set_at m l c) l d ≡ set_at m l d
written_twice m l c d = finite.same_map lock_cmp_total lock_cmp-IsAntisymmetric _ _ (λ q.
    get-set_at lock_cmp_total (set_at m l c) l d q
    ∙ ap (cond (eq_by_cmp lock_cmp q l) d) (get-set_at lock_cmp_total m l c q)
    ∙ elim (eq_by_cmp lock_cmp q l) as (λ b. cond b d (cond b c (finite.get m q)) ≡ cond b d (finite.get m q)) [ true ↦ refl | false ↦ refl ]
    ∙ sym (get-set_at lock_cmp_total m l d q))

-- elsewhere nothing changes
pub get_elsewhere : {X : Type 0} (m : FinMap lock_cmp X) (l : Lock) (c : Option X) (q : Lock) → q ≢ l → finite.get (set_at m l c) q ≡ finite.get m q
get_elsewhere m l c q apart =
    get-set_at lock_cmp_total m l c q
    ∙ elim (eq_by_cmp lock_cmp q l) as (λ b. eq_by_cmp lock_cmp q l ≡ b → cond b c (finite.get m q) ≡ finite.get m q) [
      | true ↦ λ is. absurd (apart (is_key lock_cmp_total lock_cmp-IsAntisymmetric q l is))
      | false ↦ λ _. refl
    ] refl

-- what a counter's lock holds
pub counter_there : (cells : Cells) (q : Lock) → AreCells cells → q.kind ≡ Counter → IsCounter (finite.get cells q)
counter_there cells q are kind =
    let same : counter_at (record { contract = q.contract; key = q.key }) ≡ q = λ i. record { contract = q.contract; kind = sym kind i; key = q.key } in
    subst (λ l. IsCounter (finite.get cells l)) same (are.counters (record { contract = q.contract; key = q.key }))

-- cells of which an operation answers as from this one
pub one_cell : (op : Op) (c : Option ℕ) → (m : Cells) × (reply_of op c ≡ reply_to op m)
one_cell op c = (set_at finite.empty (lock_of op) c, ap (reply_of op) (sym (get_written finite.empty (lock_of op) c)))
