-- What the fields of a machine are, in the words of the definitions, and what they keep.
use Rattle.std.specs.Prelude.{◌≡◌, ℕ, ℤ, ◌+◌, ◌-◌, ◌≤◌, List, [], ◌∷◌, ◌++◌, Option, Some, None, map, reverse, length, take, Vec, vec_len, vec_capacity}
use Rattle.wtypes.specs.declared.Value.{Value}
use Rattle.wtypes.specs.declared.Value.TheVariants as value
use Rattle.module_tree.specs.Modules.{module_view}
use Rattle.spec_typing.specs.Linking.{IsLinked}
use Rattle.interp.specs.declared.run.Run.{Run}
use Rattle.interp.specs.declared.run.Level.{Level}
use Rattle.instance.specs.Views as opening_views
use Rattle.link.specs.declared.deployed.Deployed.{Deployed}
use Rattle.laws_reduction.specs.Meaning.{View, height, whole, listed, calling, invoking, state, IsOrdered}
use Rattle.laws_reduction.specs.Tails.{with_tail}
use Rattle.spec_ledger.specs.declared.Reply.{Reply}
use Rattle.spec_ledger.specs.declared.TraceStep.{TraceStep}
use Rattle.spec_ledger.specs.declared.TraceStep.TheVariants.{Opened}
use Rattle.spec_ledger.specs.declared.Version.{Version}
use Rattle.spec_execution.specs.Reduction.{HostEffect, Ask, Asks, replied}
use Rattle.interp.specs.HostRequests.{args_taken}
use Rattle.spec_execution.specs.Run.{next}
use Rattle.spec_execution.specs.Levels as spec
use Rattle.interp_state.specs.Views.{view}
use Rattle.interp_state.specs.Callee.{contract_of, base_of}
use Rattle.interp_state.specs.Steps.{IsCounted}
use Rattle.interp_steps.specs.Steps.{Suits}
use Rattle.interp.specs.Callee.{setting_view}
use Rattle.interp_state.specs.Waiting.{alone, tail_of, Waits, HasEach}
use Rattle.interp_state.specs.Copies.{IsPartsCopy, IsSameEntry}
use Rattle.interp.specs.declared.turns.Status.TheVariants as status
use Rattle.spec_execution.specs.Configuration.{Seq, End, Invoke, arguments, fresh}
use Rattle.spec_execution.specs.Run.{opening, Opens}
use Rattle.spec_execution.specs.Levels.{Reached, IsSafe, asks_in}
use Rattle.interp.specs.Machine.{Seen, first_of, levels, first_config, IsMachine, IsCalling, HasRoom}

-- the arguments of a level: those of the call, or the number that it was asked for with
abbrev pub args_of : List Value → Option ℤ → List Value
args_of args None = args
args_of args (Some x) = value.I64 x ∷ []

abbrev pub view_of : {A : Type 0} → Level A → View
view_of l = view (base_of l.lent) l.parts

-- a level that stands at its `ask`
abbrev pub level_of : {A : Type 0} → List Value → Level A → spec.Level
level_of args l = record { contract = contract_of l.lent; config = with_tail (tail_of (args_of args l.argument) l.waiting) (calling (view_of l) l.asked); answer = l.answer }

-- the levels round the innermost one, the last of these first
abbrev pub levels_of : {A : Type 0} → List Value → List (Level A) → List spec.Level
levels_of args ls = map (level_of args) (reverse ls)

abbrev pub seen : {A : Type 0} → Run A → Seen
seen r = record {
  setting = setting_view r.version r.contracts.now;
  call = r.call.now;
  first = opening_views.contract_of r.version r.call.now.contract r.deployed.now;
  func = r.func;
  trace = r.trace.items;
  used = r.used;
  contract = contract_of r.lent;
  view = view (base_of r.lent) r.parts;
  tail = tail_of (args_of r.call.now.args r.argument) r.waiting;
  answer = r.answer;
  outer = levels_of r.call.now.args r.outer.items;
  status = r.status;
  asked = r.asked;
}

-- where a level goes on that has asked: without the three arguments, and with the status
abbrev pub told_on : View → Reply → Seq
told_on v r = whole v.entries (take (length v.stack - 3) v.stack) v.locals (replied r (listed v.code End))

-- ---- levels

-- a level that waits for the one that it has asked for keeps what goes on with a status
pub record IsAround {A : Type 0} (args : List Value) (l : Level A) : Type 0 where
  pub ordered : IsOrdered (view_of l)
  pub room : height (view_of l).entries + 3 ≤ length (view_of l).stack
  pub number : ℕ
  pub export : ℕ
  pub value : ℤ
  pub asks : next (contract_of l.lent) (state (view_of l)) (invoking (view_of l) l.asked) ≡ Asks (Ask number export value) (told_on (view_of l))
  pub counted : IsCounted l.parts
  pub suits : Suits (contract_of l.lent) l.parts
  pub waits : Waits (contract_of l.lent) (args_of args l.argument) l.waiting
  pub place : HasEach l.waiting

abbrev pub AreAround : {A : Type 0} → List Value → List (Level A) → Type 0
AreAround args [] = Unit {0}
AreAround args (l ∷ ls) = IsAround args l × AreAround args ls

-- The import that is called asks for this, and the innermost level goes on with the reply in the place of its arguments.
pub record IsWished {A : Type 0} (r : Run A) (w : HostEffect) : Type 0 where
  pub room : height (seen r).view.entries + args_taken w ≤ length (seen r).view.stack
  pub asks : next (seen r).contract (state (seen r).view) (invoking (seen r).view r.asked) ≡
      Asks w (λ reply. whole (seen r).view.entries (take (length (seen r).view.stack - args_taken w) (seen r).view.stack) (seen r).view.locals (replied reply (listed (seen r).view.code End)))

-- the import that is called enters a level: of this contract, with this function
pub record IsToEnter {A : Type 0} (r : Run A) (number : ℕ) (d : Deployed A) (entry : ℕ) (argument : ℤ) : Type 0 where
  pub export : ℕ
  pub wished : IsWished r (Ask number export argument)
  pub opens : spec.asked (seen r).setting (length (seen r).outer) number export ≡ Opens (opening_views.contract_of r.version number d) entry

-- a level with nothing open, in a fresh instance, whose entry waits
pub record IsFreshLevel {A : Type 0} (version : Version) (number : ℕ) (d : Deployed A) (entry : ℕ) (argument : ℤ) (l : Level A) : Type 0 where
  pub contract : contract_of l.lent ≡ opening_views.contract_of version number d
  pub argument_is : l.argument ≡ Some argument
  pub answer : l.answer ≡ spec.no_answer
  pub view : view_of l ≡ alone (fresh (module_view l.lent.module.now)) [] []
  pub tail : (args : List Value) → tail_of (args_of args l.argument) l.waiting ≡ arguments (value.I64 argument ∷ []) (Invoke entry End)
  pub linked : ∥ IsLinked (module_view l.lent.module.now) l.lent.hosts.now ∥₁
  pub counted : IsCounted l.parts
  pub suits : Suits (contract_of l.lent) l.parts
  pub waits : (args : List Value) → Waits (contract_of l.lent) (args_of args l.argument) l.waiting
  pub place : HasEach l.waiting

-- the innermost level, as one that waits
abbrev pub waiting_level : {A : Type 0} → Run A → Level A
waiting_level r = record { lent = r.lent; argument = r.argument; parts = r.parts; waiting = r.waiting; asked = r.asked; answer = r.answer }

-- another level is the innermost, with this trace, and with these levels around
abbrev pub pushed_run : {A : Type 0} → Run A → Level A → Vec TraceStep A → Vec (Level A) A → Run A
pushed_run r l trace outer = record r { trace = trace; entered = r.entered + 1; status = status.Running; lent = l.lent; argument = l.argument; parts = l.parts; waiting = l.waiting; answer = l.answer; outer = outer }

-- a level that has waited is the innermost one again
abbrev pub restored_run : {A : Type 0} → Run A → Level A → Run A
restored_run r l = record r { lent = l.lent; argument = l.argument; parts = l.parts; waiting = l.waiting; asked = l.asked; answer = l.answer }

-- the innermost level waits, and this one is the innermost, which a mark tells
pub record HasPushed {A : Type 0} (r : Run A) (l : Level A) (t : Run A) : Type 0 where
  pub same : t ≡ pushed_run r l t.trace t.outer
  pub trace : t.trace.items ≡ r.trace.items ++ Opened ∷ []
  pub outer : t.outer.items ≡ r.outer.items ++ waiting_level r ∷ []
  pub room : vec_len t.trace + length t.outer.items ≤ vec_capacity t.trace

-- a level with memory of its own
pub record IsCopyOf {A : Type 0} (l copy : Level A) : Type 0 where
  pub lent : copy.lent ≡ l.lent
  pub argument : copy.argument ≡ l.argument
  pub parts : IsPartsCopy l.parts copy.parts
  pub waiting : IsSameEntry l.waiting copy.waiting
  pub asked : copy.asked ≡ l.asked
  pub answer : copy.answer ≡ l.answer

abbrev pub AreCopiesOf : {A : Type 0} → List (Level A) → List (Level A) → Type 0
AreCopiesOf [] [] = Unit {0}
AreCopiesOf (l ∷ ls) (c ∷ copies) = IsCopyOf l c × AreCopiesOf ls copies
AreCopiesOf _ _ = ⊥

-- ---- runs

pub record IsKept {A : Type 0} (r : Run A) : Type 0 where
  pub machine : IsMachine (seen r)
  pub counted : IsCounted r.parts
  pub suits : Suits (contract_of r.lent) r.parts
  pub waits : Waits (contract_of r.lent) (args_of r.call.now.args r.argument) r.waiting
  pub place : HasEach r.waiting
  pub around : AreAround r.call.now.args r.outer.items
  pub entered : r.entered ≡ asks_in r.trace.items
  pub room : HasRoom r.status (length r.outer.items) r.trace

-- its call opens, and is safe
pub record IsBegun {A : Type 0} (r : Run A) : Type 0 where
  pub opens : opening (seen r).setting (seen r).call ≡ Opens (seen r).first (seen r).func
  pub safe : IsSafe (seen r).setting (first_of (seen r)) (seen r).call.fuel
  pub suits : Suits (contract_of r.lent) r.parts
  pub waits : Waits (contract_of r.lent) (args_of r.call.now.args r.argument) r.waiting
  pub place : HasEach r.waiting
  pub around : AreAround r.call.now.args r.outer.items
  pub entered : r.entered ≡ asks_in r.trace.items

-- Nothing is open yet in the innermost level, which has a fresh instance, and its entry waits.
pub record IsFirst {A : Type 0} (r : Run A) : Type 0 where
  pub begun : IsBegun r
  pub counted : IsCounted r.parts
  pub view : (seen r).view ≡ alone (fresh (module_view r.lent.module.now)) [] []
  pub linked : ∥ IsLinked (module_view r.lent.module.now) r.lent.hosts.now ∥₁
  pub reached : Reached (seen r).setting (first_of (seen r)) (seen r).call.fuel (seen r).trace (seen r).used (levels (seen r) (first_config (seen r)))
  pub within : r.used ≤ (seen r).call.fuel
  pub room : HasRoom status.Running (length r.outer.items) r.trace
  pub running : r.status ≡ status.Running

-- a call of a function is to come
pub record IsToCall {A : Type 0} (r : Run A) (f : ℕ) : Type 0 where
  pub calling : IsCalling (seen r) f
  pub counted : IsCounted r.parts
  pub suits : Suits (contract_of r.lent) r.parts
  pub waits : Waits (contract_of r.lent) (args_of r.call.now.args r.argument) r.waiting
  pub place : HasEach r.waiting
  pub around : AreAround r.call.now.args r.outer.items
  pub entered : r.entered ≡ asks_in r.trace.items
  pub room : HasRoom status.Running (length r.outer.items) r.trace
