-- Entries of a book that is closed, which are published by runs of their calls.
use Rattle.std.specs.Prelude.{◌≡◌, ℕ, List, [], ◌∷◌, ◌++◌, Some, slice_get}
use Rattle.spec_ledger.specs.Book.{CommittedCall}
use Rattle.spec_ledger.specs.Modes.{Modes, touched}
use Rattle.spec_execution.specs.Configuration.{Setting}
use Rattle.spec_execution.specs.Run.{ContractCall}
use Rattle.spec_execution.specs.Serial.{CallResult}
use Rattle.interp.specs.FinishedCalls.{receipt_of}
use Rattle.publish.specs.declared.adopting.CallRun.{CallRun}
use Rattle.publish.specs.Publication.{HasRoom}

-- a run of the call of its number over these contracts, and the locks that it asked for
pub record IsMade {A : Type 0} (setting : Setting) (calls : List ContractCall) (r : CallRun A) (locks : Modes) : Type 0 where
  pub lent : r.finished.setting ≡ setting
  pub call_is : slice_get calls r.call ≡ Some r.finished.call
  pub locks_are : locks ≡ touched r.finished.trace

-- each run is one, with the locks at its place
abbrev pub AreMade : {A : Type 0} → Setting → List ContractCall → List (CallRun A) → List Modes → Type 0
AreMade setting calls [] [] = Unit {0}
AreMade setting calls [] (m ∷ ms) = ⊥
AreMade setting calls (r ∷ rs) [] = ⊥
AreMade setting calls (r ∷ rs) (m ∷ ms) = IsMade setting calls r m × AreMade setting calls rs ms

-- what runs came to, with the locks at their places
abbrev pub ran_by : {A : Type 0} → List (CallRun A) → List Modes → List CallResult
ran_by [] ms = []
ran_by (r ∷ rs) [] = []
ran_by (r ∷ rs) (m ∷ ms) = record { receipt = receipt_of r.finished; touched = m } ∷ ran_by rs ms

-- a run of the entry's call, with the entry's trace and outcome
pub record IsRunOf {A : Type 0} (e : CommittedCall) (r : CallRun A) : Type 0 where
  pub call : r.call ≡ e.call
  pub trace : r.finished.trace ≡ e.trace
  pub outcome : r.finished.outcome ≡ e.outcome

-- Entries may be published behind an order, one after another: each has the run at its place, and its call has room.
abbrev pub MayFollowBy : {A : Type 0} → List ℕ → ℕ → List ℕ → List CommittedCall → List (CallRun A) → Type 0
MayFollowBy limits fuel order [] [] = Unit {0}
MayFollowBy limits fuel order [] (r ∷ rs) = ⊥
MayFollowBy limits fuel order (e ∷ es) [] = ⊥
MayFollowBy limits fuel order (e ∷ es) (r ∷ rs) = IsRunOf e r × (HasRoom limits fuel order e.call × MayFollowBy limits fuel (order ++ e.call ∷ []) es rs)
