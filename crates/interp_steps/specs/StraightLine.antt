-- Several turns at once.
use Rattle.std.specs.Prelude.{◌≡◌, ◌≢◌, ℕ, ◌+◌, ◌<◌, true, List, [], ◌∷◌, ◌++◌}
use Rattle.wtypes.specs.declared.Value.{Value}
use Rattle.wtypes.specs.declared.PlainInstr.{PlainInstr}
use Rattle.spec_modules.specs.Syntax.{Plain}
use Rattle.module_tree.specs.declared.instr.Instr.{Instr}
use Rattle.module_tree.specs.declared.instr.Instr as tree
use Rattle.spec_execution.specs.Configuration.{Contract, State}
use Rattle.laws_reduction.specs.Meaning.{Open, View, IsSafeAt, Charged}
use Rattle.instance.specs.States.{based}
use Rattle.interp_state.specs.TopmostValues.{pushes}
use Rattle.interp_state.specs.declared.parts.Parts.{Parts}
use Rattle.interp_state.specs.Branches.{Jumps, Repeats}
use Rattle.interp_state.specs.Steps.{AreNumbered}
use Rattle.interp_state.specs.Views.{items_of, opens_of}

-- turns were made, at each of which an instruction was to come
pub data Walks (c : Contract) : View → ℕ → View → Type 0 where
  none : (v : View) → Walks c v 0 v
  one_more : (v m w : View) (n : ℕ) → Walks c v n m → m.code ≢ [] → Charged c m w → Walks c v (n + 1) w

-- No instruction that is to come within so many turns is stuck, and nothing is after it.
abbrev pub IsSafeFor : Contract → View → ℕ → Type 0
IsSafeFor c v most = (n : ℕ) (w : View) → n < most → Walks c v n w → w.code ≢ [] → IsSafeAt c w

-- a branch, in one turn, or in two with the instruction of the loop to which it leads
pub data Branched {A : Type 0} (p : Parts A) (target : List Open) : ℕ → Parts A → Type 0 where
  alone : (q : Parts A) → Jumps p target q → Branched p target 1 q
  with_loop : (q : Parts A) → Repeats p target q → Branched p target 2 q

-- a plain instruction stands first, with others behind it
pub record IsFirst {A : Type 0} (code : List (Instr A)) (op : PlainInstr) (rest : List (Instr A)) : Type 0 where
  pub ordinal : ℕ
  pub here : items_of code ≡ record { ordinal = ordinal; instr = Plain op } ∷ items_of rest
  pub numbered : AreNumbered code → AreNumbered rest

-- no plain instruction stands first
abbrev pub IsNoPlainFirst : {A : Type 0} → List (Instr A) → Type 0
IsNoPlainFirst {A} code = (n : ℕ) (op : PlainInstr) (rest : List (Instr A)) → code ≢ tree.Plain n op ∷ rest

-- an instruction that pushes a constant or a local is to come
pub record PushesNext {A : Type 0} (code : List (Instr A)) : Type 0 where
  pub ordinal : ℕ
  pub op : PlainInstr
  pub rest : List (Instr A)
  pub here : code ≡ tree.Plain ordinal op ∷ rest
  pub pushing : pushes op ≡ true

-- the parts with more values on top, which stand beside the stack, and with this code
abbrev pub with_top : {A : Type 0} → State → Parts A → List Value → List (Instr A) → View
with_top b p vs code = record { base = based b p.instance; entries = opens_of p.entries.items; stack = p.stack.items ++ vs; locals = p.locals.items; code = items_of code }

-- with one value
abbrev pub holding : {A : Type 0} → State → Parts A → Value → View
holding b p v = with_top b p (v ∷ []) p.code.now
