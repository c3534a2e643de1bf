-- What one step more does to the marks of an attempt.
use Rattle.std.proofs.Common.{◌≡◌, ◌≤◌, ℕ, ◌+◌, List, [], ◌∷◌, ◌++◌, length, map, reverse, take, drop, refl, sym, ap, subst, ◌∙◌, arith, true, false, length-append}
use Rattle.std.proofs.lemmas.List.{reverse-append, length-take-le}
use Rattle.spec_ledger.specs.declared.Inverse.{Inverse}
use Rattle.spec_ledger.specs.declared.Op.{Op}
use Rattle.spec_ledger.specs.declared.Reply.{Reply}
use Rattle.spec_ledger.specs.declared.TraceStep.{TraceStep}
use Rattle.spec_ledger.specs.declared.TraceStep.TheVariants.{Did, Opened, Kept, Dropped}
use Rattle.spec_ledger.specs.Modes.{touched}
use Rattle.spec_ledger.specs.Book.{Attempt, Marked, kept_at, dropped_at, standing, standing_at, with_step, back_all}
use Rattle.spec_ledger.proofs.Traces.{IsMark, AreFronts, fronts_of, standing-push, standing_at-push, touched-mark}
use Rattle.storage.specs.Counts.{Store, closed_all}
use Rattle.boost.specs.Marks.{IsLeft}

-- an attempt, seen from outside
abbrev pub seen : ℕ → ℕ → List TraceStep → List Inverse → Attempt
seen call number t is = record { call = call; number = number; trace = t; modes = touched t; inverses = is }

-- with a mark more
pub with_mark : (call number : ℕ) (t t' : List TraceStep) (is : List Inverse) (s : TraceStep) → IsMark s → t' ≡ t ++ s ∷ [] → seen call number t' is ≡ with_step (seen call number t is) s
with_mark call number t t' is s mark e =
    let modes : touched t' ≡ touched t = ap touched e ∙ touched-mark t s mark in
    λ i. record { call = call; number = number; trace = e i; modes = modes i; inverses = is }

-- no mark is open
pub no_mark : (xs : List (List Op)) → [] ≡ map length xs → xs ≡ []
no_mark [] e = refl
no_mark (x ∷ xs) e = absurd (cc)

-- the innermost mark, which is the number of the operations that stood there
record Innermost (xs : List (List Op)) (n : ℕ) (ns : List ℕ) : Type 0 where
  stood : List Op
  outer : List (List Op)
  entered : xs ≡ stood ∷ outer
  number : n ≡ length stood
  outer_are : ns ≡ map length outer

innermost_in : (xs : List (List Op)) (n : ℕ) (ns : List ℕ) → n ∷ ns ≡ map length xs → Innermost xs n ns
innermost_in [] n ns e = absurd (cc)
innermost_in (x ∷ xs) n ns e =
    let number : n ≡ length x = cc in
    let rest : ns ≡ map length xs = cc in
    record { stood = x; outer = xs; entered = refl; number = number; outer_are = rest }

module _ (t t' : List TraceStep) (is is' : List Inverse) (ms ms' : List ℕ) (even : length is ≡ length (standing t)) (are : reverse ms ≡ map length (standing_at t).marks) where
  -- an operation is done
  module _ (op : Op) (r : Reply) (i : Inverse) (trace : t' ≡ t ++ Did op r ∷ []) (inverses : is' ≡ is ++ i ∷ []) where
    pub did_even : length is' ≡ length (standing t')
    did_even = ap length inverses ∙ length-append is (i ∷ []) ∙ ap (λ n. n + 1) even ∙ sym (ap (λ x. length (standing x)) trace ∙ ap length (standing-push t op r) ∙ length-append (standing t) (op ∷ []))

    pub did_marks : reverse ms ≡ map length (standing_at t').marks
    did_marks = are ∙ sym (ap (λ x. map length (standing_at x).marks) trace ∙ ap (λ (p : Marked (List Op)). map length p.marks) (standing_at-push t (Did op r)))

  -- a level is entered
  module _ (n : ℕ) (size : n ≡ length is) (trace : t' ≡ t ++ Opened ∷ []) (marks : ms' ≡ ms ++ n ∷ []) where
    pub opened_even : length is ≡ length (standing t')
    opened_even = even ∙ sym (ap (λ x. length (standing x)) trace ∙ ap (λ (p : Marked (List Op)). length p.now) (standing_at-push t Opened))

    pub opened_marks : reverse ms' ≡ map length (standing_at t').marks
    opened_marks =
        ap reverse marks ∙ reverse-append ms (n ∷ []) ∙ ap (λ n. n ∷ reverse ms) (size ∙ even) ∙ ap (λ xs. length (standing t) ∷ xs) are
        ∙ sym (ap (λ x. map length (standing_at x).marks) trace ∙ ap (λ (p : Marked (List Op)). map length p.marks) (standing_at-push t Opened))

  -- no level is open
  pub none_open : ms ≡ [] → (standing_at t).marks ≡ []
  none_open none = no_mark (standing_at t).marks (ap reverse (sym none) ∙ are)

  -- the innermost level is left
  module _ (n : ℕ) (marks : ms ≡ ms' ++ n ∷ []) where
    innermost : Innermost (standing_at t).marks n (reverse ms')
    innermost = innermost_in (standing_at t).marks n (reverse ms') (sym (ap reverse marks ∙ reverse-append ms' (n ∷ [])) ∙ are)

    -- there were no more inverses at its mark than there are now
    pub mark_within : n ≤ length is
    mark_within =
        let front = (subst (AreFronts (standing t)) innermost.entered (fronts_of t)).0 in
        let long : length (standing t) ≡ length innermost.stood + length front.0 = ap length front.1 ∙ length-append innermost.stood front.0 in
        omega (arith, long, even, innermost.number)

    module _ (trace : t' ≡ t ++ Kept ∷ []) where
      keeps : standing_at t' ≡ kept_at (standing t) (innermost.stood ∷ innermost.outer)
      keeps = ap standing_at trace ∙ standing_at-push t Kept ∙ ap (kept_at (standing t)) innermost.entered

      pub kept_even : length is ≡ length (standing t')
      kept_even = even ∙ sym (ap (λ (p : Marked (List Op)). length p.now) keeps)

      pub kept_marks : reverse ms' ≡ map length (standing_at t').marks
      kept_marks = innermost.outer_are ∙ sym (ap (λ (p : Marked (List Op)). map length p.marks) keeps)

      pub IsLeft-kept : (call number : ℕ) (store : Store) → IsLeft (seen call number t is) (seen call number t' is) store store true
      IsLeft-kept call number store = record {
        stood = innermost.stood;
        outer = innermost.outer;
        entered = innermost.entered;
        attempt_is = with_mark call number t t' is Kept tt trace;
        cells_are = refl;
        unsettled_are = refl;
      }

    module _ (trace : t' ≡ t ++ Dropped ∷ []) (left : is' ≡ take n is) where
      drops : standing_at t' ≡ dropped_at (standing t) (innermost.stood ∷ innermost.outer)
      drops = ap standing_at trace ∙ standing_at-push t Dropped ∙ ap (dropped_at (standing t)) innermost.entered

      pub dropped_even : length is' ≡ length (standing t')
      dropped_even = ap length left ∙ length-take-le n is mark_within ∙ innermost.number ∙ sym (ap (λ (p : Marked (List Op)). length p.now) drops)

      pub dropped_marks : reverse ms' ≡ map length (standing_at t').marks
      dropped_marks = innermost.outer_are ∙ sym (ap (λ (p : Marked (List Op)). map length p.marks) drops)

      pub IsLeft-dropped : (call number : ℕ) (before after : Store) → after.cells ≡ back_all (drop n is) before.cells → after.unsettled ≡ closed_all (drop n is) before.unsettled
          → IsLeft (seen call number t is) (seen call number t' is') before after false
      IsLeft-dropped call number before after cells unsettled =
          let modes : touched t' ≡ touched t = ap touched trace ∙ touched-mark t Dropped tt in
          let is_left : is' ≡ take (length innermost.stood) is = left ∙ ap (λ k. take k is) innermost.number in
          record {
            stood = innermost.stood;
            outer = innermost.outer;
            entered = innermost.entered;
            attempt_is = λ i. record { call = call; number = number; trace = trace i; modes = modes i; inverses = is_left i };
            cells_are = cells ∙ ap (λ k. back_all (drop k is) before.cells) innermost.number;
            unsettled_are = unsettled ∙ ap (λ k. closed_all (drop k is) before.unsettled) innermost.number;
          }
