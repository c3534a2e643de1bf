-- What a profile publishes at a lock is one of its entries, and each of its entries is published.
use Rattle.std.proofs.Common.{◌≡◌, ◌↔◌, ℕ, zero, suc, ◌<◌, Bool, true, false, cond, T, Some, List, [], ◌∷◌, map, length, get_or, slice_get, refl, sym, ap, subst, ◌∙◌, arith}
use Rattle.std.specs.declared.cmp.Ordering.TheVariants.{Less, Equal}
use Rattle.std.specs.List.{Contains}
use Rattle.std.specs.Cmp.{tied_itself}
use Rattle.std.specs.Ordering.{eq_by_cmp, is_lt}
use Rattle.std.specs.FinMap.Entries.{below_all}
use Rattle.spec_ledger.specs.declared.Lock.{Lock}
use Rattle.spec_ledger.specs.declared.Mode.{Mode}
use Rattle.spec_ledger.specs.declared.Entry.{Entry}
use Rattle.spec_ledger.specs.Cells.{lock_cmp}
use Rattle.spec_ledger.proofs.Maps.{lock_cmp_total, lock_cmp-IsAntisymmetric, is_key, key_itself}
use Rattle.lock_profile.specs.Turns.{IsProfile}
use Rattle.lock_profile.proofs.Groups.{left, right, less}
use Rattle.spec_block.specs.Schedule.{hold_in, Holds}
use Rattle.lock_profile.specs.declared.lock_turn.LockTurn.{LockTurn}
use Rattle.lock_profile.specs.LockTurns.{turn_of}
use Rattle.figures.specs.Turns.{IsAt}

pub some_is : {A : Type 0} (x y : A) → Some x ≡ Some y → x ≡ y
some_is x y e = cc e

pub behind : (x e : Entry) (es : List Entry) → Contains es e → Contains (x ∷ es) e
behind x e es (k, below, is) = (suc k, omega (arith, below), is)

-- what is published is an entry
pub found_at : (lock : Lock) (es : List Entry) (h : Mode × ℕ) → hold_in lock es ≡ Some h → IsAt es (record { lock = lock; turn = h.1 })
found_at lock [] h e = absurd (cc e)
found_at lock (x ∷ es) h e = by (eq_by_cmp lock_cmp lock x.lock) refl (found_at lock es h) e
  where
    by : (b : Bool) → eq_by_cmp lock_cmp lock x.lock ≡ b → (hold_in lock es ≡ Some h → IsAt es (record { lock = lock; turn = h.1 })) → cond b (Some (x.mode, x.turn)) (hold_in lock es) ≡ Some h → IsAt (x ∷ es) (record { lock = lock; turn = h.1 })
    by true is rest e =
        let same : lock ≡ x.lock = is_key lock_cmp_total lock_cmp-IsAntisymmetric lock x.lock is in
        let found : (x.mode, x.turn) ≡ h = some_is (x.mode, x.turn) h e in
        let first : Contains (x ∷ es) x = (0, omega arith, refl) in
        (x, first, λ i. record { lock = sym same i; turn = (found i).1 })
    by false is rest e = let r = rest e in (r.0, behind x r.0 es r.1, r.2)

below_each : (lock : Lock) (es : List Entry) → T (below_all lock_cmp lock (map (λ (e : Entry). (e.lock, e)) es)) → (k : ℕ) (d : Entry) → k < length es → lock_cmp lock (get_or es k d).lock ≡ Less
below_each lock [] h k d lt = absurd (omega (arith, lt))
below_each lock (x ∷ es) h zero d lt = less _ (left (is_lt (lock_cmp lock x.lock)) _ h)
below_each lock (x ∷ es) h (suc k) d lt = below_each lock es (right (is_lt (lock_cmp lock x.lock)) _ h) k d (omega (arith, lt))

-- an entry of a profile is published
published : (es : List Entry) → IsProfile es → (k : ℕ) (d : Entry) → k < length es → hold_in (get_or es k d).lock es ≡ Some ((get_or es k d).mode, (get_or es k d).turn)
published [] h k d lt = absurd (omega (arith, lt))
published (x ∷ es) h zero d lt = ap (λ b. cond b (Some (x.mode, x.turn)) (hold_in x.lock es)) (key_itself lock_cmp_total lock_cmp-IsAntisymmetric x.lock)
published (x ∷ es) h (suc k) d lt =
    let e : Entry = get_or es k d in
    let below : lock_cmp x.lock e.lock ≡ Less = below_each x.lock es (left (below_all lock_cmp x.lock (map (λ (e : Entry). (e.lock, e)) es)) _ h) k d (omega (arith, lt)) in
    let rest : hold_in e.lock es ≡ Some (e.mode, e.turn) = published es (right (below_all lock_cmp x.lock (map (λ (e : Entry). (e.lock, e)) es)) _ h) k d (omega (arith, lt)) in
    let Here : Bool → Type 0 = λ b. eq_by_cmp lock_cmp e.lock x.lock ≡ b → cond b (Some (x.mode, x.turn)) (hold_in e.lock es) ≡ Some (e.mode, e.turn) in
    elim (eq_by_cmp lock_cmp e.lock x.lock) as Here [
      | true ↦ λ t.
          let same : e.lock ≡ x.lock = is_key lock_cmp_total lock_cmp-IsAntisymmetric e.lock x.lock t in
          let tied : lock_cmp x.lock e.lock ≡ Equal = ap (lock_cmp x.lock) same ∙ tied_itself lock_cmp_total x.lock in
          absurd (let no : Less ≡ Equal = sym below ∙ tied in cc no)
      | false ↦ λ _. rest
    ] refl

pub entry_published : (es : List Entry) → IsProfile es → (e : Entry) → Contains es e → hold_in e.lock es ≡ Some (e.mode, e.turn)
entry_published es h e (k, below, is) = subst (λ (x : Entry). hold_in x.lock es ≡ Some (x.mode, x.turn)) is (published es h k e below)

-- no later entry of a profile has the lock of the first
pub first_alone : (x : Entry) (es : List Entry) → IsProfile (x ∷ es) → (e : Entry) → Contains es e → ¬ (e.lock ≡ x.lock)
first_alone x es h e (k, below, is) same =
    let less_than : lock_cmp x.lock (get_or es k e).lock ≡ Less = below_each x.lock es (left (below_all lock_cmp x.lock (map (λ (e : Entry). (e.lock, e)) es)) _ h) k e below in
    let tied : lock_cmp x.lock (get_or es k e).lock ≡ Equal = ap (λ (y : Entry). lock_cmp x.lock y.lock) is ∙ (ap (lock_cmp x.lock) same ∙ tied_itself lock_cmp_total x.lock) in
    let no : Less ≡ Equal = sym less_than ∙ tied in absurd (cc no)

pub rest_rises : (x : Entry) (es : List Entry) → IsProfile (x ∷ es) → IsProfile es
rest_rises x es h = right (below_all lock_cmp x.lock (map (λ (e : Entry). (e.lock, e)) es)) _ h

-- a position holds a lock at a turn
pub record IsHolder (profiles : List (List Entry)) (q : LockTurn) (position : ℕ) : Type 0 where
  pub mode : Mode
  pub holds : Holds profiles position q.lock mode q.turn

-- whose profile has it is a holder, and the other way round
pub at_is_holder : (profiles : List (List Entry)) (i : ℕ) (es : List Entry) → slice_get profiles i ≡ Some es → IsProfile es → (q : LockTurn) → IsAt es q ↔ IsHolder profiles q i
at_is_holder profiles i es there profile q = (
  λ c.
      let held : hold_in c.0.lock es ≡ Some (c.0.mode, c.0.turn) = entry_published es profile c.0 c.1 in
      let here : IsHolder profiles (turn_of c.0) i = record { mode = c.0.mode; holds = record { profile = es; there = there; held = held } } in
      subst (λ p. IsHolder profiles p i) c.2 here,
  λ c.
      let same : c.holds.profile ≡ es = some_is c.holds.profile es (sym c.holds.there ∙ there) in
      subst (λ ps. IsAt ps q) same (found_at q.lock c.holds.profile (c.mode, q.turn) c.holds.held),
)
