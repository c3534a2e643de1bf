-- A call of a function of the module.
use Rattle.std.specs.Prelude.{◌≡◌, ℕ, Bool, true, false}
use Rattle.wtypes.specs.declared.TrapCode.TheVariants.{CallDepth}
use Rattle.spec_execution.specs.Configuration.{Contract, Trap}
use Rattle.spec_execution.specs.Run.{Reduces}
use Rattle.laws_reduction.specs.Meaning.{View, config, calling, state, IsOrdered}

-- the function has started
pub record HasEntered (c : Contract) (v : View) (f : ℕ) (w : View) : Type 0 where
  pub reduces : Reduces c (calling v f) 0 (config w)
  pub ordered : IsOrdered w

-- the same, or there is one frame too many
abbrev pub EntersView : Contract → View → ℕ → Bool → View → Type 0
EntersView c v f true w = HasEntered c v f w
EntersView c v f false w = Reduces c (calling v f) 0 (Trap (state v) CallDepth) × (w ≡ v)
