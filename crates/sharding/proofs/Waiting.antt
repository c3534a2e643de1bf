-- The answers to an operation of an attempt.
use Rattle.std.proofs.Common.{◌≡◌, ◌≢◌, ℕ, ◌+◌, ◌<◌, ◌≤◌, List, length, get_or, ⊎_elim, inl, inr, IfOk, OnErr, refl, sym, ◌∙◌, ap, subst, arith}
use Rattle.std.specs.Prelude.{◌↔◌, ◌⊎◌}
use Rattle.std.specs.Result.{OnOk}
use Rattle.std.specs.declared.result.Result.{Result}
use Rattle.std.specs.declared.result.Result.TheVariants.{Ok, Err}
use Rattle.std.specs.List.Sorted.{IsStrictlyIncreasing}
use Rattle.spec_ledger.specs.declared.Op.{Op}
use Rattle.spec_ledger.specs.declared.Reply.{Reply}
use Rattle.spec_ledger.specs.declared.TraceStep.{TraceStep}
use Rattle.spec_ledger.specs.Book.{Content, call_is_new}
use Rattle.spec_ledger.specs.Events.{HasNoAttempt, IsConflict, IsFound, IsStale, OpDone}
use Rattle.boost.specs.declared.book.OpRefusal.{OpRefusal}
use Rattle.boost.specs.declared.book.OpRefusal.TheVariants.{Conflict, Stale, NoMemory}
use Rattle.boost.specs.AttemptNumbers.{BegunAs, BegunWith}
use Rattle.boost.proofs.Events.{found_not_stale}
use Rattle.sharding.specs.Shard.{HasToWait, IsBehind, IsOver, IsReady, IsShard}
use Rattle.sharding.proofs.Tickets.{none_stale}

-- ---- renamed

module _ (k n call number : ℕ) (of_call : k ≡ call) (of_number : n ≡ number) where
  named : (P : ℕ → ℕ → Type 0) → P k n → P call number
  named P h =
      let path : ◌≡◌ {A = ℕ × ℕ} (k, n) (call, number) = λ i. (of_call i, of_number i) in
      let Q : ℕ × ℕ → Type 0 = λ (c, v). P c v in
      subst Q path h

  back_named : (P : ℕ → ℕ → Type 0) → P call number → P k n
  back_named P h =
      let path : ◌≡◌ {A = ℕ × ℕ} (k, n) (call, number) = λ i. (of_call i, of_number i) in
      let Q : ℕ × ℕ → Type 0 = λ (c, v). P c v in
      subst Q (sym path) h

  -- ---- the first operation

  module _ (b mid : Content) (begun : BegunAs b mid call number) where
    pub begun_here : BegunAs b mid k n
    begun_here = back_named (BegunAs b mid) begun

    pub count_here : (count : ℕ) → count ≡ get_or b.begun call 0 → get_or b.begun k 0 ≡ count
    count_here count e = ap (λ c. get_or b.begun c 0) of_call ∙ sym e

    module _ (marks : List TraceStep) where
      pub first_ok : (op : Op) (new : Content) (r : Result Reply OpRefusal) → IfOk r (λ reply. (former : Content) → BegunAs former mid k n → (ready : Content) × BegunWith former ready k n marks × OpDone ready new k n op reply) → IfOk r (λ reply. (ready : Content) × IsReady b ready call number marks × OpDone ready new call number op reply)
      first_ok op new (Ok y) h = let w = h b begun_here in (w.0, inr (named (λ c v. BegunWith b w.0 c v marks) w.1), named (λ c v. OpDone w.0 new c v op y) w.2)
      first_ok op new (Err e) h = tt

      pub first_waits : (op : Op) (r : Result Reply OpRefusal) → ((former : Content) → BegunAs former mid k n → (r ≡ Err Conflict) ↔ ((ready : Content) × BegunWith former ready k n marks × IsConflict ready k n op)) → (r ≡ Err Conflict) ↔ HasToWait b call number marks op
      first_waits op r each = let h = each b begun_here in (
        λ e. let w = h.0 e in inr (w.0, inr (named (λ c v. BegunWith b w.0 c v marks) w.1), named (λ c v. IsConflict w.0 c v op) w.2),
        λ w. ⊎_elim
            (λ behind. absurd (behind.live begun.not_live))
            (λ (ready, is, conflict). ⊎_elim
            (λ same. absurd (found_not_stale b call number conflict.before conflict.attempt conflict.later (subst (λ x. IsFound x call number conflict.before conflict.attempt conflict.later) same conflict.found) (none_stale b call number begun.not_live)))
            (λ again. h.1 (ready, back_named (λ c v. BegunWith b ready c v marks) again, back_named (λ c v. IsConflict ready c v op) conflict))
            is)
            w,
      )

      -- no entry comes of an operation
      pub first_entries : (op : Op) (new : Content) (r : Result Reply OpRefusal) → IfOk r (λ reply. (former : Content) → BegunAs former mid k n → (ready : Content) × BegunWith former ready k n marks × OpDone ready new k n op reply) → OnErr r (new ≡ b) → new.entries ≡ b.entries
      first_entries op new (Ok y) done h = let w = done b begun_here in ap (λ (x : Content). x.entries) (w.2.new_is ∙ refl) ∙ ap (λ (x : Content). x.entries) w.1.new_is
      first_entries op new (Err x) done h = ap (λ (y : Content). y.entries) h

    pub first_err : (new : Content) (count : ℕ) → count ≡ get_or b.begun call 0 → (r : Result Reply OpRefusal) → OnErr r ((former : Content) → BegunAs former mid k n → get_or former.begun k 0 ≡ count → new ≡ former) → OnErr r (new ≡ b)
    first_err new count e (Ok y) h = tt
    first_err new count e (Err x) h = h b begun_here (count_here count e)

-- ---- one more operation

module _ (m b : Content) (same : m ≡ b) (k n call number : ℕ) (of_call : k ≡ call) (of_number : n ≡ number) (marks : List TraceStep) where
  pub again_ok : (op : Op) (new : Content) (r : Result Reply OpRefusal) → IfOk r (λ reply. OpDone m new k n op reply) → IfOk r (λ reply. (ready : Content) × IsReady b ready call number marks × OpDone ready new call number op reply)
  again_ok op new (Ok y) h = (m, inl same, named k n call number of_call of_number (λ c v. OpDone m new c v op y) h)
  again_ok op new (Err e) h = tt

  pub again_waits : (op : Op) (r : Result Reply OpRefusal) → ¬ (IsStale m call number) → (r ≡ Err Conflict) ↔ IsConflict m k n op → (r ≡ Err Conflict) ↔ HasToWait b call number marks op
  again_waits op r lives h = (
    λ e. inr (m, inl same, named k n call number of_call of_number (λ c v. IsConflict m c v op) (h.0 e)),
    λ w. ⊎_elim
        (λ behind. absurd (lives (subst (λ x. IsStale x call number) (sym same) behind.other)))
        (λ (ready, is, conflict). ⊎_elim
        (λ one. h.1 (back_named k n call number of_call of_number (λ c v. IsConflict m c v op) (subst (λ x. IsConflict x call number op) (one ∙ sym same) conflict)))
        (λ begun. absurd (lives (subst (λ x. IsStale x call number) (sym same) (none_stale b call number begun.not_live))))
        is)
        w,
  )

-- ---- an attempt that does not live while one of its call does

module _ (b : Content) (call number : ℕ) (marks : List TraceStep) (op : Op) (gone : IsStale b call number) where
  never_waits : (IsBehind b call number → ⊥) → ((ready : Content) → BegunWith b ready call number marks → ⊥) → HasToWait b call number marks op → ⊥
  never_waits not_behind not_begun w =
      ⊎_elim not_behind
      (λ (ready, is, conflict). ⊎_elim
      (λ same. found_not_stale b call number conflict.before conflict.attempt conflict.later (subst (λ x. IsFound x call number conflict.before conflict.attempt conflict.later) same conflict.found) gone)
      (λ begun. not_begun ready begun)
      is)
      w

  pub passed_never_waits : number < get_or b.begun call 0 → HasToWait b call number marks op → ⊥
  passed_never_waits below = never_waits (λ behind. omega (arith, below, behind.later)) (λ ready begun. omega (arith, below, begun.not_passed))

  pub unknown_never_waits : HasNoAttempt call b.attempts → length b.begun ≤ call → HasToWait b call number marks op → ⊥
  unknown_never_waits none unknown = never_waits (λ behind. behind.live none) (λ ready begun. omega (arith, unknown, begun.known))

  pub committed_never_waits : HasNoAttempt call b.attempts → ¬ (call_is_new call b.entries) → HasToWait b call number marks op → ⊥
  committed_never_waits none committed = never_waits (λ behind. behind.live none) (λ ready begun. committed begun.not_committed)

-- ---- the type's invariant

pub still_shard : (b new : Content) (xs ys : List ℕ) → ys ≡ xs → new.entries ≡ b.entries → IsShard (record { book = b; positions = xs }) → IsShard (record { book = new; positions = ys })
still_shard b new xs ys e f h = record { rising = subst IsStrictlyIncreasing (sym e) h.rising; each = ap length e ∙ h.each ∙ ap length (sym f) }

pub still_room : (r : Result Reply OpRefusal) (new b : Content) (wide room wide' room' : ℕ) → wide' ≡ wide → room ≤ room' → wide + length b.attempts ≤ room → OnOk r (wide' + length new.attempts ≤ room') → OnErr r (new ≡ b) → wide' + length new.attempts ≤ room'
still_room (Ok y) new b wide room wide' room' e f old h i = h
still_room (Err x) new b wide room wide' room' e f old h i = let same : length new.attempts ≡ length b.attempts = ap (λ (y : Content). length y.attempts) i in omega (arith, e, f, old, same)

pub err_map : {X Y : Type 0} {P Q : Type 0} (r : Result X Y) → (P → Q) → OnErr r P → OnErr r Q
err_map (Ok y) f h = tt
err_map (Err e) f h = f h

-- ---- the answers where the attempt does not live

abbrev refused : OpRefusal → Result Reply OpRefusal
refused r = Err r

abbrev Over : Content → ℕ → ℕ → Type 0
Over b call number = IsOver b call number ⊎ (length b.begun ≤ call)

module _ (m b : Content) (same : m ≡ b) (call number : ℕ) (marks : List TraceStep) (op : Op) (r : OpRefusal) where
  pub over_stale : r ≡ Stale → Over m call number → (refused r ≡ refused Stale) ↔ Over b call number
  over_stale e h = (λ _. subst (λ x. Over x call number) same h, λ _. ap refused e)

  pub over_waits : r ≡ Stale → ¬ (HasToWait m call number marks op) → refused r ≢ refused NoMemory → (refused r ≡ refused Conflict) ↔ HasToWait b call number marks op
  over_waits e h _ = (λ x. absurd (let no : refused Stale ≡ refused Conflict = ap refused (sym e) ∙ x in cc), λ w. absurd (h (subst (λ x. HasToWait x call number marks op) (sym same) w)))

  pub behind_stale : r ≡ Conflict → ¬ (Over m call number) → (refused r ≡ refused Stale) ↔ Over b call number
  behind_stale e h = (λ x. absurd (let no : refused Conflict ≡ refused Stale = ap refused (sym e) ∙ x in cc), λ w. absurd (h (subst (λ x. Over x call number) (sym same) w)))

  pub behind_waits : r ≡ Conflict → IsBehind m call number → refused r ≢ refused NoMemory → (refused r ≡ refused Conflict) ↔ HasToWait b call number marks op
  behind_waits e h _ = (λ _. inl (subst (λ x. IsBehind x call number) same h), λ _. ap refused e)

pub not_over : (b : Content) (call number : ℕ) → get_or b.begun call 0 ≤ number → ¬ (¬ (call_is_new call b.entries)) → ¬ (length b.begun ≤ call) → ¬ (Over b call number)
not_over b call number from new known over = ⊎_elim (λ o. ⊎_elim (λ (below : number < get_or b.begun call 0). let no : ⊥ = omega (arith, below, from) in no) (λ committed. new committed) o.seen) known over
