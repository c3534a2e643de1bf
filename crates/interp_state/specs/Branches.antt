-- Branches and returns.
use Rattle.std.specs.Prelude.{◌≡◌, ℕ, ◌+◌, List, ◌∷◌, take, Option}
use Rattle.wtypes.specs.declared.ValType.{ValType}
use Rattle.spec_modules.specs.Syntax.{Instrs}
use Rattle.spec_modules.specs.Syntax as syntax
use Rattle.spec_execution.specs.Configuration.{State}
use Rattle.module_tree.specs.declared.instr.Instr.{Instr}
use Rattle.interp_state.specs.declared.parts.Entry.{Entry}
use Rattle.interp_state.specs.declared.parts.Parts.{Parts}
use Rattle.laws_reduction.specs.Meaning.{Item, Loop, Open, numbered}
use Rattle.laws_reduction.specs.Branches.{IsJump}
use Rattle.interp_state.specs.Steps.{AreNumbered}
use Rattle.interp_state.specs.Views.{view, items_of, opens_of, scope_of}

-- the same whatever the state beside the locals is
abbrev pub Jumps : {A : Type 0} → Parts A → List Open → Parts A → Type 0
Jumps p target q = (b : State) → IsJump (view b p) target (view b q)

-- a loop that keeps no value at a branch, its code beginning with its instruction, and the code of its body
pub record IsLoop {A : Type 0} (e : Entry A) (body : List (Instr A)) : Type 0 where
  pub ordinal : ℕ
  pub result : Option ValType
  pub instrs : Instrs
  pub after : List Item
  pub scope : scope_of e.kind ≡ Loop
  pub none_kept : e.arity ≡ 0
  pub from : items_of e.from.now ≡ record { ordinal = ordinal; instr = syntax.Loop result instrs } ∷ after
  pub code : AreNumbered e.from.now → items_of body ≡ numbered (ordinal + 1) instrs
  pub numbered_body : AreNumbered e.from.now → AreNumbered body

-- it is no such loop
abbrev pub IsNoLoop : {A : Type 0} → Entry A → Type 0
IsNoLoop e = (ordinal : ℕ) (result : Option ValType) (instrs : Instrs) (after : List Item) → scope_of e.kind ≡ Loop → e.arity ≡ 0 → items_of e.from.now ≡ record { ordinal = ordinal; instr = syntax.Loop result instrs } ∷ after → ⊥

-- a branch leads to a loop that keeps no value, whose code begins with its instruction
pub record LeadsToLoop (target : List Open) : Type 0 where
  pub entry : Open
  pub outside : List Open
  pub ordinal : ℕ
  pub result : Option ValType
  pub body : Instrs
  pub after : List Item
  pub there : target ≡ entry ∷ outside
  pub scope : entry.scope ≡ Loop
  pub none_kept : entry.arity ≡ 0
  pub from : entry.from ≡ record { ordinal = ordinal; instr = syntax.Loop result body } ∷ after

-- A branch to a loop that keeps no value, and the instruction of the loop, which opens it again: it stays open.
pub record Repeats {A : Type 0} (p : Parts A) (target : List Open) (q : Parts A) : Type 0 where
  pub entry : Open
  pub outside : List Open
  pub ordinal : ℕ
  pub result : Option ValType
  pub body : Instrs
  pub after : List Item
  pub there : target ≡ entry ∷ outside
  pub scope : entry.scope ≡ Loop
  pub none_kept : entry.arity ≡ 0
  pub from : entry.from ≡ record { ordinal = ordinal; instr = syntax.Loop result body } ∷ after
  pub entries : opens_of q.entries.items ≡ entry ∷ outside
  pub stack : q.stack.items ≡ take entry.height p.stack.items
  pub locals : q.locals.items ≡ p.locals.items
  pub instance : q.instance ≡ p.instance
  pub code : items_of q.code.now ≡ numbered (ordinal + 1) body
