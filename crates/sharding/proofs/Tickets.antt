-- A call has one live attempt at most.
use Rattle.std.proofs.Common.{◌≡◌, ◌≢◌, ℕ, List, [], ◌∷◌, ◌++◌, refl, sym, ◌∙◌, ap, subst}
use Rattle.std.specs.List.{AllByRecursion}
use Rattle.spec_ledger.specs.declared.TraceStep.{TraceStep}
use Rattle.spec_ledger.specs.Book.{Attempt, Content, AreSideBySide, AreAllSideBySide}
use Rattle.spec_ledger.specs.Events.{IsFound, IsNotEntered, IsOther, IsStale, HasNoAttempt}
use Rattle.spec_ledger.proofs.Kept.{All-at}
use Rattle.spec_ledger.proofs.Traces.{All-weaken}
use Rattle.boost.specs.AttemptNumbers.{HasTrace}
use Rattle.boost.proofs.Events.{found_not_stale}

-- what is not refuted of a list holds, where it denies something of each
pub stable : {A : Type 0} (P : A → Type 0) (xs : List A) → ¬ (¬ (AllByRecursion (λ x. ¬ (P x)) xs)) → AllByRecursion (λ x. ¬ (P x)) xs
stable P [] h = tt
stable P (x ∷ xs) h = (λ p. h (λ all. all.0 p), stable P xs (λ no. h (λ all. no all.1)))

-- where an attempt of the call has another number, none has this one
pub other_number : (xs : List Attempt) (call number other : ℕ) → AreAllSideBySide xs → ¬ (AllByRecursion (λ a. ¬ ((a.call ≡ call) × (a.number ≡ other))) xs) → other ≢ number → AllByRecursion (λ a. ¬ ((a.call ≡ call) × (a.number ≡ number))) xs
other_number [] call number other apart lives ne = tt
other_number (a ∷ xs) call number other apart lives ne = (
  λ is. lives (
    λ e. ne (sym e.1 ∙ is.1),
    All-weaken (AreSideBySide a) (λ b. ¬ ((b.call ≡ call) × (b.number ≡ other))) (λ b side e. side.0 (is.0 ∙ sym e.0)) xs apart.0,
  ),
  stable (λ (b : Attempt). (b.call ≡ call) × (b.number ≡ number)) xs (λ no. no (other_number xs call number other apart.1 (λ all. lives (
    λ is. no (All-weaken (AreSideBySide a) (λ b. ¬ ((b.call ≡ call) × (b.number ≡ number))) (λ b side e. side.0 (is.0 ∙ sym e.0)) xs apart.0),
    all,
  )) ne)),
)

one_attempt : (p : List Attempt) (a : Attempt) (q p' : List Attempt) (a' : Attempt) (q' : List Attempt) → AreAllSideBySide (p ++ a ∷ q) → p ++ a ∷ q ≡ p' ++ a' ∷ q' → a.call ≡ a'.call → a ≡ a'
one_attempt [] a q [] a' q' apart e same = cc
one_attempt [] a q (x ∷ p') a' q' apart e same =
    let rest : q ≡ p' ++ a' ∷ q' = cc in
    absurd ((All-at (AreSideBySide a) p' a' q' (subst (AllByRecursion (AreSideBySide a)) rest apart.0)).0 same)
one_attempt (x ∷ p) a q [] a' q' apart e same =
    let first : x ≡ a' = cc in
    absurd ((All-at (AreSideBySide x) p a q apart.0).0 (ap (λ (y : Attempt). y.call) first ∙ sym same))
one_attempt (x ∷ p) a q (y ∷ p') a' q' apart e same =
    let rest : p ++ a ∷ q ≡ p' ++ a' ∷ q' = cc in
    one_attempt p a q p' a' q' apart.1 rest same

module _ (m b : Content) (same : m ≡ b) (k n call number : ℕ) (of_call : k ≡ call) (of_number : n ≡ number) (own part : List TraceStep) (has : HasTrace m k n own) where
  pub trace_there : HasTrace b call number own
  trace_there =
      let path : ◌≡◌ {A = Content × (ℕ × ℕ)} (m, (k, n)) (b, (call, number)) = λ i. (same i, (of_call i, of_number i)) in
      let P : Content × (ℕ × ℕ) → Type 0 = λ (x, (c, v)). HasTrace x c v own in
      subst P path has

  pub differs_there : ¬ (own ≡ part) → IsOther b call number part
  differs_there ne = let h = trace_there in record { before = h.before; attempt = h.attempt; later = h.later; found = h.found; other_trace = λ e. ne (sym h.trace_is ∙ e) }

  pub same_there : AreAllSideBySide m.attempts → own ≡ part → ¬ (IsOther b call number part)
  same_there apart e other =
      let h = trace_there in
      let here : AreAllSideBySide (h.before ++ h.attempt ∷ h.later) = subst AreAllSideBySide (ap (λ (x : Content). x.attempts) same ∙ h.found.among) apart in
      let one : h.attempt ≡ other.attempt =
      one_attempt h.before h.attempt h.later other.before other.attempt other.later here (sym h.found.among ∙ other.found.among) (h.found.call_is ∙ sym other.found.call_is) in
      other.other_trace (ap (λ (x : Attempt). x.trace) (sym one) ∙ h.trace_is ∙ e)

pub stale_not_other : (m b : Content) → m ≡ b → (call number : ℕ) (part : List TraceStep) → IsStale m call number → ¬ (IsOther b call number part)
stale_not_other m b same call number part gone other =
    found_not_stale b call number other.before other.attempt other.later other.found (subst (λ (x : Content). IsStale x call number) same gone)

pub stale_not_entered : (m b : Content) → m ≡ b → (call number : ℕ) → IsStale m call number → ¬ (IsNotEntered b call number)
stale_not_entered m b same call number gone none =
    found_not_stale b call number none.before none.attempt none.later none.found (subst (λ (x : Content). IsStale x call number) same gone)

pub none_stale : (b : Content) (call number : ℕ) → HasNoAttempt call b.attempts → IsStale b call number
none_stale b call number none = All-weaken (λ (a : Attempt). a.call ≢ call) (λ a. ¬ ((a.call ≡ call) × (a.number ≡ number))) (λ a h e. h e.0) b.attempts none
