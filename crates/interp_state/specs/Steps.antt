-- What blocks, loops and calls do to the parts of a machine, and what the parts keep.
use Rattle.std.specs.Prelude.{◌≡◌, ℕ, ◌≤◌, true, List, [], ◌∷◌, length}
use Rattle.spec_modules.specs.Limits.{counts_from}
use Rattle.module_tree.specs.declared.instr.Instr.{Instr}
use Rattle.module_tree.specs.View.{instr_ordinals, ordinal_of}
use Rattle.spec_execution.specs.Configuration.{Contract, State}
use Rattle.laws_reduction.specs.Meaning.{frames, IsOrdered, Settles}
use Rattle.interp_state.specs.declared.plain.After.{After}
use Rattle.interp_state.specs.declared.plain.After.TheVariants as after
use Rattle.interp_state.specs.declared.parts.Kind.{Kind}
use Rattle.interp_state.specs.declared.parts.Entry.{Entry}
use Rattle.interp_state.specs.declared.parts.Parts.{Parts}
use Rattle.interp_state.specs.Views.{view, opens_of, items_of, scope_of}

-- the same whatever the state beside the locals is
abbrev pub IsOrderedParts : {A : Type 0} → Parts A → Type 0
IsOrderedParts p = (b : State) → IsOrdered (view b p)

abbrev pub IsReadyParts : {A : Type 0} → Parts A → Type 0
IsReadyParts p = (p.code.now ≡ []) → opens_of p.entries.items ≡ []

abbrev pub AllSettle : {A : Type 0} → Parts A → Parts A → Type 0
AllSettle p q = (c : Contract) (b : State) → Settles c (view b p) (view b q)

-- each instruction is numbered in preorder
abbrev pub AreNumbered : {A : Type 0} → List (Instr A) → Type 0
AreNumbered [] = Unit {0}
AreNumbered (i ∷ is) = (counts_from (ordinal_of i) (instr_ordinals i) ≡ true) × AreNumbered is

abbrev pub EachNumbered : {A : Type 0} → List (Entry A) → Type 0
EachNumbered [] = Unit {0}
EachNumbered (e ∷ es) = AreNumbered e.from.now × EachNumbered es

-- the number of frames is counted, and within the limit, and the code is numbered
pub record IsCounted {A : Type 0} (p : Parts A) : Type 0 where
  pub count : p.depth ≡ frames (opens_of p.entries.items) 0
  pub few : p.depth ≤ 256
  pub code : AreNumbered p.code.now
  pub each : EachNumbered p.entries.items

-- a label is opened above all values
pub record HasOpened {A : Type 0} (p : Parts A) (kind : Kind A) (ordinal arity : ℕ) (from body : List (Instr A)) (a : After) (q : Parts A) : Type 0 where
  pub entries : opens_of q.entries.items ≡ record { scope = scope_of kind; ordinal = ordinal; arity = arity; height = length p.stack.items; from = items_of from } ∷ opens_of p.entries.items
  pub stack : q.stack.items ≡ p.stack.items
  pub locals : q.locals.items ≡ p.locals.items
  pub instance : q.instance ≡ p.instance
  pub code : q.code.now ≡ body
  pub ran : a ≡ after.Ran

abbrev pub IsBehind : {X : Type 0} → List X → List X → Type 0
IsBehind [] is = is ≡ []
IsBehind (i ∷ js) is = is ≡ js
