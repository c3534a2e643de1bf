-- What one mark more does to the levels of an attempt.
use Rattle.std.proofs.Common.{◌≡◌, ℕ, ◌+◌, ◌-◌, ◌<◌, Bool, true, false, List, [], ◌∷◌, ◌++◌, length, refl, sym, ◌∙◌, ap, arith}
use Rattle.spec_ledger.specs.declared.Op.{Op}
use Rattle.spec_ledger.specs.declared.TraceStep.{TraceStep}
use Rattle.spec_ledger.specs.declared.TraceStep.TheVariants.{Opened, Kept, Dropped}
use Rattle.spec_ledger.specs.Modes.{ops_of}
use Rattle.spec_ledger.specs.Book.{Marked, kept_at, dropped_at, standing, standing_at}
use Rattle.spec_ledger.proofs.Traces.{ops_of-append, standing_at-push}
use Rattle.shards.specs.Marks.{closing}

-- no level is open
pub none_of : (xs : List (List Op)) (n : ℕ) → n ≡ length xs → n ≡ 0 → xs ≡ []
none_of [] n counted none = refl
none_of (x ∷ xs) n counted none = absurd (omega (arith, counted, none))

pub zero_of : (xs : List (List Op)) (n : ℕ) → n ≡ length xs → xs ≡ [] → n ≡ 0
zero_of xs n counted none = counted ∙ ap length none

pub some_of : (xs : List (List Op)) (n : ℕ) → n ≡ length xs → ¬ (xs ≡ []) → 0 < n
some_of [] n counted some = absurd (some refl)
some_of (x ∷ xs) n counted some = omega (arith, counted)

kept_less : (now : List Op) (xs : List (List Op)) (n : ℕ) → n ≡ length xs → n - 1 ≡ length (kept_at now xs).marks
kept_less now [] n counted = omega (arith, counted)
kept_less now (x ∷ xs) n counted = omega (arith, counted)

dropped_less : (now : List Op) (xs : List (List Op)) (n : ℕ) → n ≡ length xs → n - 1 ≡ length (dropped_at now xs).marks
dropped_less now [] n counted = omega (arith, counted)
dropped_less now (x ∷ xs) n counted = omega (arith, counted)

module _ (t t' : List TraceStep) (none : ops_of t ≡ []) (n : ℕ) (counted : n ≡ length (standing_at t).marks) where
  module _ (is : t' ≡ t ++ Opened ∷ []) where
    pub opened_none : ops_of t' ≡ []
    opened_none = ap ops_of is ∙ ops_of-append t (Opened ∷ []) ∙ ap (λ xs. xs ++ []) none

    pub opened_counted : n + 1 ≡ length (standing_at t').marks
    opened_counted = let more : length (standing_at t').marks ≡ length (standing t ∷ (standing_at t).marks) = ap (λ x. length (standing_at x).marks) is ∙ ap (λ (p : Marked (List Op)). length p.marks) (standing_at-push t Opened) in omega (arith, more, counted)

  closed_none : (keep : Bool) → t' ≡ t ++ closing keep ∷ [] → ops_of t' ≡ []
  closed_none true is = ap ops_of is ∙ ops_of-append t (Kept ∷ []) ∙ ap (λ xs. xs ++ []) none
  closed_none false is = ap ops_of is ∙ ops_of-append t (Dropped ∷ []) ∙ ap (λ xs. xs ++ []) none

  closed_counted : (keep : Bool) → t' ≡ t ++ closing keep ∷ [] → n - 1 ≡ length (standing_at t').marks
  closed_counted true is = kept_less (standing t) (standing_at t).marks n counted ∙ sym (ap (λ x. length (standing_at x).marks) is ∙ ap (λ (p : Marked (List Op)). length p.marks) (standing_at-push t Kept))
  closed_counted false is = dropped_less (standing t) (standing_at t).marks n counted ∙ sym (ap (λ x. length (standing_at x).marks) is ∙ ap (λ (p : Marked (List Op)). length p.marks) (standing_at-push t Dropped))

  -- by the mark
  pub closed : (keep : Bool) (s : TraceStep) → s ≡ closing keep → t' ≡ t ++ s ∷ [] → (ops_of t' ≡ []) × (n - 1 ≡ length (standing_at t').marks)
  closed keep s is more = let e : t' ≡ t ++ closing keep ∷ [] = more ∙ ap (λ x. t ++ x ∷ []) is in (closed_none keep e, closed_counted keep e)
