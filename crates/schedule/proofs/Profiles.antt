-- What a profile publishes at a lock is one of its entries, and each of its entries is published.
use Rattle.std.proofs.Common.{◌≡◌, ℕ, zero, suc, ◌<◌, Bool, true, false, cond, T, take, Some, List, [], ◌∷◌, map, length, get_or, refl, sym, ap, subst, ◌∙◌, arith}
use Rattle.std.specs.declared.cmp.Ordering.TheVariants.{Less, Equal}
use Rattle.std.specs.List.{Contains}
use Rattle.std.specs.Cmp.{tied_itself}
use Rattle.std.specs.Ordering.{eq_by_cmp, is_lt}
use Rattle.std.specs.FinMap.Entries.{below_all}
use Rattle.spec_ledger.specs.declared.Lock.{Lock}
use Rattle.spec_ledger.specs.declared.Mode.{Mode}
use Rattle.spec_ledger.specs.declared.Entry.{Entry}
use Rattle.spec_ledger.specs.Cells.{lock_cmp}
use Rattle.spec_ledger.proofs.Maps.{lock_cmp_total, lock_cmp-IsAntisymmetric, is_key, key_itself}
use Rattle.lock_profile.specs.Turns.{IsProfile}
use Rattle.lock_profile.proofs.Groups.{left, right, less}
use Rattle.spec_block.specs.Schedule.{hold_in}
use Rattle.lock_profile.specs.declared.lock_turn.LockTurn.{LockTurn}
use Rattle.lock_profile.specs.LockTurns.{turn_of}
use Rattle.schedule.specs.Turns.{IsAt}

some_is : {A : Type 0} (x y : A) → Some x ≡ Some y → x ≡ y
some_is x y e = cc e

behind : (x e : Entry) (es : List Entry) → Contains es e → Contains (x ∷ es) e
behind x e es (k, below, is) = (suc k, omega (arith, below), is)

-- what is published is an entry
pub found_at : (lock : Lock) (es : List Entry) (h : Mode × ℕ) → hold_in lock es ≡ Some h → IsAt (record { lock = lock; turn = h.1 }) es
found_at lock [] h e = absurd (cc e)
found_at lock (x ∷ es) h e = by (eq_by_cmp lock_cmp lock x.lock) refl (found_at lock es h) e
  where
    by : (b : Bool) → eq_by_cmp lock_cmp lock x.lock ≡ b → (hold_in lock es ≡ Some h → IsAt (record { lock = lock; turn = h.1 }) es) → cond b (Some (x.mode, x.turn)) (hold_in lock es) ≡ Some h → IsAt (record { lock = lock; turn = h.1 }) (x ∷ es)
    by true is rest e =
        let same : lock ≡ x.lock = is_key lock_cmp_total lock_cmp-IsAntisymmetric lock x.lock is in
        let found : (x.mode, x.turn) ≡ h = some_is (x.mode, x.turn) h e in
        let first : Contains (x ∷ es) x = (0, omega arith, refl) in
        (x, first, λ i. record { lock = sym same i; turn = (found i).1 })
    by false is rest e = let r = rest e in (r.0, behind x r.0 es r.1, r.2)

below_each : (lock : Lock) (es : List Entry) → T (below_all lock_cmp lock (map (λ (e : Entry). (e.lock, e)) es)) → (k : ℕ) (d : Entry) → k < length es → lock_cmp lock (get_or es k d).lock ≡ Less
below_each lock [] h k d lt = absurd (omega (arith, lt))
below_each lock (x ∷ es) h zero d lt = less _ (left (is_lt (lock_cmp lock x.lock)) _ h)
below_each lock (x ∷ es) h (suc k) d lt = below_each lock es (right (is_lt (lock_cmp lock x.lock)) _ h) k d (omega (arith, lt))

-- an entry of a profile is published
published : (es : List Entry) → IsProfile es → (k : ℕ) (d : Entry) → k < length es → hold_in (get_or es k d).lock es ≡ Some ((get_or es k d).mode, (get_or es k d).turn)
published [] h k d lt = absurd (omega (arith, lt))
published (x ∷ es) h zero d lt = ap (λ b. cond b (Some (x.mode, x.turn)) (hold_in x.lock es)) (key_itself lock_cmp_total lock_cmp-IsAntisymmetric x.lock)
published (x ∷ es) h (suc k) d lt =
    let e : Entry = get_or es k d in
    let below : lock_cmp x.lock e.lock ≡ Less = below_each x.lock es (left (below_all lock_cmp x.lock (map (λ (e : Entry). (e.lock, e)) es)) _ h) k d (omega (arith, lt)) in
    let rest : hold_in e.lock es ≡ Some (e.mode, e.turn) = published es (right (below_all lock_cmp x.lock (map (λ (e : Entry). (e.lock, e)) es)) _ h) k d (omega (arith, lt)) in
    let Here : Bool → Type 0 = λ b. eq_by_cmp lock_cmp e.lock x.lock ≡ b → cond b (Some (x.mode, x.turn)) (hold_in e.lock es) ≡ Some (e.mode, e.turn) in
    elim (eq_by_cmp lock_cmp e.lock x.lock) as Here [
      | true ↦ λ t.
          let same : e.lock ≡ x.lock = is_key lock_cmp_total lock_cmp-IsAntisymmetric e.lock x.lock t in
          let tied : lock_cmp x.lock e.lock ≡ Equal = ap (lock_cmp x.lock) same ∙ tied_itself lock_cmp_total x.lock in
          absurd (let no : Less ≡ Equal = sym below ∙ tied in cc no)
      | false ↦ λ _. rest
    ] refl

pub entry_published : (es : List Entry) → IsProfile es → (e : Entry) → Contains es e → hold_in e.lock es ≡ Some (e.mode, e.turn)
entry_published es h e (k, below, is) = subst (λ (x : Entry). hold_in x.lock es ≡ Some (x.mode, x.turn)) is (published es h k e below)

-- no earlier entry of a profile has the turn of a later one
pub later_lock : (es : List Entry) → IsProfile es → (k : ℕ) (d : Entry) → k < length es → IsAt (turn_of (get_or es k d)) (take k es) → ⊥
later_lock [] h k d lt at = absurd (omega (arith, lt))
later_lock (x ∷ es) h zero d lt at = absurd (let below = at.1.1 in omega (arith, below))
later_lock (x ∷ es) h (suc k) d lt (e, (zero, l, is), same) =
    let below : lock_cmp x.lock (get_or es k d).lock ≡ Less = below_each x.lock es (left (below_all lock_cmp x.lock (map (λ (e : Entry). (e.lock, e)) es)) _ h) k d (omega (arith, lt)) in
    let one : x.lock ≡ (get_or es k d).lock = ap (λ (e : Entry). e.lock) is ∙ ap (λ (q : LockTurn). q.lock) same in
    let tied : lock_cmp x.lock (get_or es k d).lock ≡ Equal = ap (lock_cmp x.lock) (sym one) ∙ tied_itself lock_cmp_total x.lock in
    absurd (let no : Less ≡ Equal = sym below ∙ tied in cc no)
later_lock (x ∷ es) h (suc k) d lt (e, (suc i, l, is), same) = later_lock es (right (below_all lock_cmp x.lock (map (λ (e : Entry). (e.lock, e)) es)) _ h) k d (omega (arith, lt)) (e, (i, omega (arith, l), is), same)
