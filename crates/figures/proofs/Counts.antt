-- Counting the positions that hold a lock.
use Rattle.std.proofs.Common.{◌≡◌, ℕ, ◌+◌, ◌<◌, ◌≤◌, Bool, true, false, cond, Option, Some, None, is_some, unwrap_or, List, ◌∷◌, drop, get_or, length, refl, sym, ◌∙◌, ap, subst, arith}
use Rattle.std.specs.Ordering.{eq_by_cmp}
use Rattle.std.proofs.lemmas.List.{drop_more}
use Rattle.spec_ledger.specs.declared.Lock.{Lock}
use Rattle.spec_ledger.specs.declared.Mode.{Mode}
use Rattle.spec_ledger.specs.declared.Entry.{Entry}
use Rattle.spec_ledger.specs.Cells.{lock_cmp}
use Rattle.spec_ledger.proofs.Maps.{lock_cmp_total, lock_cmp-IsAntisymmetric, is_key, key_itself}
use Rattle.lock_profile.specs.Turns.{IsProfile}
use Rattle.spec_block.specs.Schedule.{hold_in}
use Rattle.figures.specs.Counting.{held_by, number_at}
use Rattle.figures.proofs.Profiles.{first_alone, found_at, rest_rises}

-- who does not have the lock of the first entry
none_behind : (x : Entry) (es : List Entry) → IsProfile (x ∷ es) → hold_in x.lock es ≡ None
none_behind x es profile =
    elim (hold_in x.lock es) as (λ o. hold_in x.lock es ≡ o → o ≡ None) [
      | None ↦ λ _. refl
      | Some h ↦ λ is. let found = found_at x.lock es h is in absurd (first_alone x es profile found.0 found.1 (ap (λ q. q.lock) found.2))
    ] refl

counted_one : (old new : Lock → Option ℕ) (x : Entry) (es : List Entry) (total : ℕ) (lock : Lock) → IsProfile (x ∷ es) → new lock ≡ cond (eq_by_cmp lock_cmp x.lock lock) (Some (number_at old x.lock + 1)) (old lock)
    → number_at old lock + held_by lock (x ∷ es) ≡ total → number_at new lock + held_by lock es ≡ total
counted_one old new x es total lock profile step so_far =
    elim (eq_by_cmp lock_cmp x.lock lock) as (λ b. eq_by_cmp lock_cmp x.lock lock ≡ b → new lock ≡ cond b (Some (number_at old x.lock + 1)) (old lock) → number_at new lock + held_by lock es ≡ total) [
      | true ↦ λ t e.
          let same : x.lock ≡ lock = is_key lock_cmp_total lock_cmp-IsAntisymmetric x.lock lock t in
          let now : number_at new lock ≡ number_at old x.lock + 1 = ap (λ o. unwrap_or o 0) e in
          let old_is : number_at old x.lock ≡ number_at old lock = ap (number_at old) same in
          let gone : held_by lock es ≡ 0 = subst (λ l. held_by l es ≡ 0) same (ap (λ (o : Option (Mode × ℕ)). cond (is_some o) 1 0) (none_behind x es profile)) in
          let itself : eq_by_cmp lock_cmp lock x.lock ≡ true = ap (eq_by_cmp lock_cmp lock) same ∙ key_itself lock_cmp_total lock_cmp-IsAntisymmetric lock in
          let here : held_by lock (x ∷ es) ≡ 1 = ap (λ b. cond (is_some (cond b (Some (x.mode, x.turn)) (hold_in lock es))) 1 0) itself in
          omega (arith, now, old_is, gone, here, so_far)
      | false ↦ λ t e.
          let now : number_at new lock ≡ number_at old lock = ap (λ o. unwrap_or o 0) e in
          let other : eq_by_cmp lock_cmp lock x.lock ≡ false = by (eq_by_cmp lock_cmp lock x.lock) refl t in
          let here : held_by lock (x ∷ es) ≡ held_by lock es = ap (λ b. cond (is_some (cond b (Some (x.mode, x.turn)) (hold_in lock es))) 1 0) other in
          omega (arith, now, here, so_far)
    ] refl step
  where
    by : (b : Bool) → eq_by_cmp lock_cmp lock x.lock ≡ b → eq_by_cmp lock_cmp x.lock lock ≡ false → eq_by_cmp lock_cmp lock x.lock ≡ false
    by true is t =
        let same : lock ≡ x.lock = is_key lock_cmp_total lock_cmp-IsAntisymmetric lock x.lock is in
        let yes : eq_by_cmp lock_cmp x.lock lock ≡ true = ap (eq_by_cmp lock_cmp x.lock) same ∙ key_itself lock_cmp_total lock_cmp-IsAntisymmetric x.lock in
        let no : true ≡ false = sym yes ∙ t in absurd (cc no)
    by false is t = is

pub entry_counted : (es : List Entry) (i : ℕ) (d : Entry) (first old new : Lock → Option ℕ) → i < length es
    → (IsProfile (drop i es) × ((lock : Lock) → number_at old lock + held_by lock (drop i es) ≡ number_at first lock + held_by lock es))
    → ((lock : Lock) → new lock ≡ cond (eq_by_cmp lock_cmp (get_or es i d).lock lock) (Some (number_at old (get_or es i d).lock + 1)) (old lock))
    → IsProfile (drop (i + 1) es) × ((lock : Lock) → number_at new lock + held_by lock (drop (i + 1) es) ≡ number_at first lock + held_by lock es)
entry_counted es i d first old new below so_far step =
    let split : drop i es ≡ get_or es i d ∷ drop (i + 1) es = drop_more es i d below in
    let profile : IsProfile (get_or es i d ∷ drop (i + 1) es) = subst (λ (xs : List Entry). IsProfile xs) split so_far.0 in (
      rest_rises (get_or es i d) (drop (i + 1) es) profile,
      λ lock. counted_one old new (get_or es i d) (drop (i + 1) es) (number_at first lock + held_by lock es) lock profile (step lock) (subst (λ (xs : List Entry). number_at old lock + held_by lock xs ≡ number_at first lock + held_by lock es) split (so_far.1 lock)),
    )

held_at_most : (b : Bool) → cond b 1 0 ≤ 1
held_at_most true = omega arith
held_at_most false = omega arith

-- room for one more
pub room_left : (es : List Entry) (i : ℕ) (first old : Lock → Option ℕ) → ((lock : Lock) → number_at first lock < 65536) → ((lock : Lock) → number_at old lock + held_by lock (drop i es) ≡ number_at first lock + held_by lock es) → (lock : Lock) → number_at old lock < 65537
room_left es i first old few so_far lock =
    let is = so_far lock in let low = few lock in let one = held_at_most (is_some (hold_in lock es)) in
    omega (arith, is, low, one)
