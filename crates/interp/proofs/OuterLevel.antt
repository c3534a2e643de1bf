-- The outer level, in which the others were entered.
use Rattle.std.proofs.Common.{◌≡◌, List, [], ◌∷◌, Some, None, slice_get, refl, ap, ◌∙◌}
use Rattle.wtypes.specs.declared.Value.{Value}
use Rattle.spec_execution.specs.Levels as spec
use Rattle.spec_execution.specs.Turns.{state_of}
use Rattle.laws_reduction.specs.Meaning.{state}
use Rattle.interp.specs.Progress.{last_level}
use Rattle.interp.specs.MachineViews.{outermost}
use Rattle.interp.specs.declared.run.Level.{Level}
use Rattle.interp.specs.declared.run.Run.{Run}
use Rattle.interp.specs.Machine.{progress}
use Rattle.interp.specs.Run.{seen, view_of, level_of, levels_of}
use Rattle.interp.proofs.Around.{outer_first}
use Rattle.interp.proofs.Turning.{state_at}

-- the first that is kept is the outer level, or else the innermost one is
outer_kept : {A : Type 0} (args : List Value) (inner : spec.Level) (ls : List (Level A)) (l : Level A) → Some l ≡ slice_get ls 0 → last_level inner (levels_of args ls) ≡ level_of args l
outer_kept args inner [] l e = absurd (cc)
outer_kept args inner (k ∷ ls) l e = let same : k ≡ l = cc in outer_first args inner k ls ∙ ap (level_of args) same

outer_inner : {A : Type 0} (args : List Value) (inner : spec.Level) (ls : List (Level A)) → None ≡ slice_get ls 0 → last_level inner (levels_of args ls) ≡ inner
outer_inner args inner [] e = refl
outer_inner args inner (k ∷ ls) e = absurd (cc)

module _ {A : Type 0} (r : Run A) where
  pub state_kept : (l : Level A) → Some l ≡ slice_get r.outer.items 0 → state_of (outermost (progress (seen r)).config).config ≡ state (view_of l)
  state_kept l e = ap (λ (k : spec.Level). state_of k.config) (outer_kept r.call.now.args (progress (seen r)).config.inner r.outer.items l e)

  pub state_inner : None ≡ slice_get r.outer.items 0 → state_of (outermost (progress (seen r)).config).config ≡ state (seen r).view
  state_inner e =
      ap (λ (k : spec.Level). state_of k.config) (outer_inner r.call.now.args (progress (seen r)).config.inner r.outer.items e)
      ∙ state_at (seen r).view (seen r).tail r.asked r.status
