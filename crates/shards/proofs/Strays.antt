-- What a shard's part of a trace has: an operation in that shard, and the marks.
use Rattle.std.proofs.Common.{◌≡◌, ◌==◌, Bool, true, false, cond, ℕ, zero, suc, ◌+◌, ◌%◌, ◌^◌, ◌<◌, inl, inr, List, [], ◌∷◌, length, get_or, ap, refl, ◌∙◌, arith}
use Rattle.std.proofs.lemmas.Bool.{false≢true}
use Rattle.std.proofs.lemmas.Bool.Decides.{eqb_tells}
use Rattle.std.proofs.lemmas.Nat.{mod_below}
use Rattle.spec_ledger.specs.declared.Lock.{Lock}
use Rattle.spec_ledger.specs.declared.Op.{Op}
use Rattle.spec_ledger.specs.declared.Reply.{Reply}
use Rattle.spec_ledger.specs.declared.TraceStep.{TraceStep}
use Rattle.spec_ledger.specs.declared.TraceStep.TheVariants.{Did, Opened, Kept, Dropped}
use Rattle.spec_ledger.specs.Cells.{lock_of}
use Rattle.spec_ledger.specs.Modes.{ops_of}
use Rattle.spec_ledger.specs.Shards.{part, shard_of}
use Rattle.sharding.specs.Steps.{asks_at}
use Rattle.shards.specs.Marks.{marks_of}

still_some : (b : Bool) (op : Op) (r : Reply) (t : List TraceStep) → ¬ ([] ≡ ops_of t) → ¬ ([] ≡ ops_of (cond b (Did op r ∷ t) t))
still_some true op r t some none = cc none
still_some false op r t some none = some none

pub asked_in : (home : Lock → ℕ) (i : ℕ) (trace : List TraceStep) (k : ℕ) (d : TraceStep) → k < length trace → asks_at home i (get_or trace k d) ≡ true → ¬ ([] ≡ ops_of (part home i trace))
asked_in home i [] k d below asks none = absurd (omega (arith, below))
asked_in home i (Did op r ∷ t) zero d below asks none =
    let some : [] ≡ op ∷ ops_of (part home i t) = none ∙ ap (λ b. ops_of (cond b (Did op r ∷ part home i t) (part home i t))) asks in
    cc some
asked_in home i (Did op r ∷ t) (suc k) d below asks none =
    still_some (home (lock_of op) == i) op r (part home i t) (asked_in home i t k d (omega (arith, below)) asks) none
asked_in home i (Opened ∷ t) zero d below asks none = false≢true asks
asked_in home i (Opened ∷ t) (suc k) d below asks none = asked_in home i t k d (omega (arith, below)) asks none
asked_in home i (Kept ∷ t) zero d below asks none = false≢true asks
asked_in home i (Kept ∷ t) (suc k) d below asks none = asked_in home i t k d (omega (arith, below)) asks none
asked_in home i (Dropped ∷ t) zero d below asks none = false≢true asks
asked_in home i (Dropped ∷ t) (suc k) d below asks none = asked_in home i t k d (omega (arith, below)) asks none

-- no lock belongs to the shard whose number is their count
module _ (shards : ℕ) (some : 0 < shards) where
  none_there : (lock : Lock) → (shard_of shards lock == shards) ≡ false
  none_there lock =
      let below : shard_of shards lock < shards = mod_below ((lock.contract + lock.key) % 2 ^ 64) shards some in
      elim (eqb_tells (shard_of shards lock) shards) [
        | inl at ↦ absurd (omega (arith, at.1, below))
        | inr away ↦ away.0
      ]

  -- so that its part of a trace has the marks alone
  pub marks_alone : (t : List TraceStep) → part (shard_of shards) shards t ≡ marks_of t
  marks_alone [] = refl
  marks_alone (Did op r ∷ t) = ap (λ b. cond b (Did op r ∷ part (shard_of shards) shards t) (part (shard_of shards) shards t)) (none_there (lock_of op)) ∙ marks_alone t
  marks_alone (Opened ∷ t) = ap (λ x. Opened ∷ x) (marks_alone t)
  marks_alone (Kept ∷ t) = ap (λ x. Kept ∷ x) (marks_alone t)
  marks_alone (Dropped ∷ t) = ap (λ x. Dropped ∷ x) (marks_alone t)
