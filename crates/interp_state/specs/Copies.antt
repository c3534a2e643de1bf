-- Parts that stand for the same.
use Rattle.std.specs.Prelude.{◌≡◌, ◌<◌, List, [], map, vec_capacity, Option, Some, None}
use Rattle.module_tree.specs.declared.instr.Instr.{Instr}
use Rattle.instance.specs.declared.Instance.{Instance}
use Rattle.interp_state.specs.declared.parts.Entry.{Entry}
use Rattle.interp_state.specs.declared.parts.Parts.{Parts}
use Rattle.interp_state.specs.declared.waiting.Waiting.{Waiting}
use Rattle.interp_state.specs.Views.{open_of}

-- the code of each
abbrev pub codes_of : {A : Type 0} → List (Entry A) → List (List (Instr A))
codes_of es = map (λ e. e.from.now) es

pub record IsInstanceCopy {A : Type 0} (i j : Instance A) : Type 0 where
  pub globals : j.globals ≡ i.globals
  pub memory : j.memory ≡ i.memory
  pub table : j.table.now ≡ i.table.now

pub record AreEntryCopies {A : Type 0} (es fs : List (Entry A)) : Type 0 where
  pub opens : map open_of fs ≡ map open_of es
  pub code : codes_of fs ≡ codes_of es

pub record IsPartsCopy {A : Type 0} (p q : Parts A) : Type 0 where
  pub code : q.code.now ≡ p.code.now
  pub entries : AreEntryCopies p.entries.items q.entries.items
  pub depth : q.depth ≡ p.depth
  pub stack : q.stack.items ≡ p.stack.items
  pub locals : q.locals.items ≡ p.locals.items
  pub instance : IsInstanceCopy p.instance q.instance

-- the same entry, with room for its frame
pub record IsWaitingCopy {A : Type 0} (w x : Waiting A) : Type 0 where
  pub func : x.func ≡ w.func
  pub arity : x.arity ≡ w.arity
  pub locals : x.locals.items ≡ w.locals.items
  pub body : x.body.now ≡ w.body.now
  pub none_open : x.entries.items ≡ []
  pub room : 0 < vec_capacity x.entries

abbrev pub IsSameEntry : {A : Type 0} → Option (Waiting A) → Option (Waiting A) → Type 0
IsSameEntry None None = Unit {0}
IsSameEntry (Some w) (Some x) = IsWaitingCopy w x
IsSameEntry _ _ = ⊥
