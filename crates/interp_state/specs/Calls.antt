-- A call of a function of the module.
use Rattle.std.specs.Prelude.{ℕ, ◌≤◌, Bool, length}
use Rattle.interp_state.specs.Callee.{contract_of, base_of}
use Rattle.interp_state.specs.declared.parts.Parts.{Parts}
use Rattle.interp_state.specs.declared.callee.Callee.{Callee}
use Rattle.laws_reduction.specs.Meaning.{IsFineCall}
use Rattle.laws_reduction.specs.Calls.{EntersView}
use Rattle.interp_state.specs.Views.{view}

-- a function of the module, which is not stuck where it is called
pub record CanEnter {A : Type 0} (l : Callee A) (p : Parts A) (f : ℕ) : Type 0 where
  pub defined : length l.hosts.now ≤ f
  pub fine : IsFineCall (contract_of l) (view (base_of l) p) f

-- the function has started, or there is one frame too many
abbrev pub Enters : {A : Type 0} → Callee A → Parts A → ℕ → Bool → Parts A → Type 0
Enters l p f entered q = EntersView (contract_of l) (view (base_of l) p) f entered (view (base_of l) q)
