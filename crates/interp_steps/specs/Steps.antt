-- What one instruction does to the parts of a machine.
use Rattle.std.specs.Prelude.{◌≡◌, ◌≢◌, ℕ, true, List, [], ◌∷◌, Result, Ok, Err}
use Rattle.wtypes.specs.declared.PlainInstr.{PlainInstr}
use Rattle.spec_modules.specs.Syntax.{Plain}
use Rattle.module_tree.specs.declared.instr.Instr.{Instr}
use Rattle.spec_execution.specs.Configuration.{Contract, State}
use Rattle.spec_execution.specs.Reduction.{most_pages}
use Rattle.laws_reduction.specs.Meaning.{Item, View, IsSafeAt, Charged, ChargedCall, ChargedTrap}
use Rattle.interp_state.specs.declared.callee.Callee.{Callee}
use Rattle.interp_state.specs.declared.plain.After.{After}
use Rattle.interp_state.specs.declared.plain.After.TheVariants as after
use Rattle.interp_state.specs.Callee.{contract_of}
use Rattle.interp_state.specs.Taking.{takes_memory}
use Rattle.interp_state.specs.declared.parts.Parts.{Parts}
use Rattle.interp_state.specs.Steps.{IsOrderedParts, AreNumbered}
use Rattle.interp_state.specs.Views.{view, items_of}

-- An instruction is to come, and neither it nor what it becomes is stuck.
pub record IsReadyToRun {A : Type 0} (l : Callee A) (p : Parts A) : Type 0 where
  pub base : State
  pub some : p.code.now ≢ []
  pub ordered : IsOrderedParts p
  pub safe : IsSafeAt (contract_of l) (view base p)

abbrev pub ViewLeadsTo : Contract → View → After → View → Type 0
ViewLeadsTo c v after.Ran w = Charged c v w
ViewLeadsTo c v (after.Fell t) w = ChargedTrap c v t w
ViewLeadsTo c v (after.Calls f) w = ChargedCall c v f w

-- the memory may grow as far as the contract's may
abbrev pub Suits : {A : Type 0} → Contract → Parts A → Type 0
Suits c p = p.instance.memory.max ≡ most_pages c.version c.deployed.tree.memories

-- the same for the lent contract and each state, where nothing is stuck
abbrev pub LeadsTo : {A : Type 0} → Callee A → Parts A → After → Parts A → Type 0
LeadsTo l p a q = (b : State) → IsSafeAt (contract_of l) (view b p) → Suits (contract_of l) p → ViewLeadsTo (contract_of l) (view b p) a (view b q)

-- an operator is to come
pub record IsOperator {A : Type 0} (p : Parts A) (op : PlainInstr) (rest : List (Instr A)) : Type 0 where
  pub ordinal : ℕ
  pub here : items_of p.code.now ≡ record { ordinal = ordinal; instr = Plain op } ∷ items_of rest
  pub rest_numbered : AreNumbered rest

-- the first of these may take memory
abbrev pub MayTake : List Item → Type 0
MayTake [] = ⊥
MayTake (i ∷ is) = takes_memory i.instr ≡ true

-- Memory was refused; or a call is to come, for which memory may be refused.
abbrev pub Wants : {E : Type 0} → Result After E → Type 0
Wants (Err e) = Unit {0}
Wants (Ok (after.Calls f)) = Unit {0}
Wants (Ok _) = ⊥
