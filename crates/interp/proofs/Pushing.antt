-- A level is entered: the one that has asked waits, and a fresh one is the innermost.
use Rattle.std.proofs.Common.{◌≡◌, ℕ, ℤ, ◌+◌, ◌≤◌, Bool, true, false, nat_lt, List, [], ◌∷◌, ◌++◌, length, refl, sym, ap, ap₂, ◌∙◌, subst, arith, Option, Some, None, slice_get}
use Rattle.std.specs.Prelude.{if◌then◌else◌, option_map, Vec}
use Rattle.std.proofs.lemmas.Bool.{ltb-false}
use Rattle.wtypes.specs.declared.Value.{Value}
use Rattle.wtypes.specs.declared.Value.TheVariants.{I64}
use Rattle.wtypes.specs.declared.HostCall.{HostCall}
use Rattle.spec_ledger.specs.declared.TraceStep.{TraceStep}
use Rattle.spec_ledger.specs.declared.TraceStep.TheVariants.{Opened}
use Rattle.spec_modules.specs.Syntax.{FuncType, Func}
use Rattle.spec_execution.specs.Configuration.{Setting, Contract, Function, Hosted, Defined}
use Rattle.spec_execution.specs.Run.{Opens}
use Rattle.spec_execution.specs.Levels.{asked, asks_in}
use Rattle.link.specs.declared.deployed.Deployed.{Deployed}
use Rattle.instance.specs.Views.{contract_of}
use Rattle.instance.proofs.Entering.{asked_for}
use Rattle.interp_state.specs.Waiting.{IsEntry}
use Rattle.interp_state.specs.declared.parts.Parts.{Parts}
use Rattle.interp_state.specs.declared.waiting.Waiting.{Waiting}
use Rattle.interp_state.specs.declared.callee.Callee.{Callee}
use Rattle.laws_reduction.specs.Meaning.{calling}
use Rattle.laws_reduction.specs.Tails.{with_tail}
use Rattle.interp.specs.declared.turns.Status.TheVariants as status
use Rattle.interp.specs.declared.turns.Turn.TheVariants as turn
use Rattle.interp.specs.declared.run.Run.{Run}
use Rattle.interp.specs.declared.run.Level.{Level}
use Rattle.interp.specs.Progress.{IsSameCall}
use Rattle.interp.specs.Machine.{Seen, progress, IsBegunAs, HasBegun, HasGoneOn}
use Rattle.interp.specs.Run.{seen, levels_of, waiting_level, pushed_run, HasPushed, IsAround, AreAround, IsToEnter, IsFreshLevel, IsBegun, IsFirst, IsKept, IsToCall}
use Rattle.interp.proofs.Around.{levels_push, around_push}
use Rattle.interp.proofs.Counting.{asks_more}
use Rattle.interp.proofs.Leaving.{IsBeside, reached_entered, entered_on}

-- ---- the function that is asked for

pub entry_of : (setting : Setting) (level number export : ℕ) (k : Contract) (entry : ℕ) (argument : ℤ) → asked setting level number export ≡ Opens k entry → IsEntry k entry (I64 argument ∷ [])
entry_of setting level number export k entry argument e = let f = asked_for k entry setting level number export e in record { type = f.type; function = f.function; found = f.found; fit = sym (ap length f.params) }

no_host : (t : FuncType) (f : Func) (b : Bool) (h : Option HostCall) (o : Option Function) → (if b then option_map Hosted h else o) ≡ Some (Defined t f) → b ≡ false
no_host t f false h o e = refl
no_host t f true None o e = absurd (cc)
no_host t f true (Some h) o e = absurd (cc)

-- it is the module's own
pub entry_own : (setting : Setting) (level number export : ℕ) (k : Contract) (entry : ℕ) → asked setting level number export ≡ Opens k entry → length k.deployed.hosts ≤ entry
entry_own setting level number export k entry e = let f = asked_for k entry setting level number export e in ltb-false _ _ (no_host f.type f.function (nat_lt entry (length k.deployed.hosts)) (slice_get k.deployed.hosts entry) _ f.found)

-- ---- what is kept

-- a run that is to call may give up, whatever room was made
pub begun_of : {A : Type 0} (r : Run A) (f : ℕ) (trace : Vec TraceStep A) (outer : Vec (Level A) A) → IsToCall r f → trace.items ≡ r.trace.items → outer.items ≡ r.outer.items → IsBegun (record r { trace = trace; outer = outer })
begun_of r f trace outer k e h = record {
  opens = k.calling.opens;
  safe = k.calling.safe;
  suits = k.suits;
  waits = k.waits;
  place = k.place;
  around = subst (AreAround r.call.now.args) (sym h) k.around;
  entered = k.entered ∙ ap asks_in (sym e);
}

-- and enters the level from there
pub pushed_from : {A : Type 0} (r : Run A) (trace : Vec TraceStep A) (outer : Vec (Level A) A) (l : Level A) (t : Run A) → trace.items ≡ r.trace.items → outer.items ≡ r.outer.items → HasPushed (record r { trace = trace; outer = outer }) l t → HasPushed r l t
pushed_from r trace outer l t e h p = record {
  same = p.same;
  trace = p.trace ∙ ap (λ (u : List TraceStep). u ++ Opened ∷ []) e;
  outer = p.outer ∙ ap (λ (ls : List (Level _)). ls ++ waiting_level r ∷ []) h;
  room = p.room;
}

pub same_call_of : {A : Type 0} (r t n : Run A) (l : Level A) → HasPushed r l t → IsSameCall (progress (seen t)) (progress (seen n)) → IsSameCall (progress (seen r)) (progress (seen n))
same_call_of r t n l pushed h =
    let same : IsSameCall (progress (seen (pushed_run r l t.trace t.outer))) (progress (seen n)) = subst (λ (x : Run _). IsSameCall (progress (seen x)) (progress (seen n))) pushed.same h in
    record { setting = same.setting; call = same.call; contract = same.contract; func = same.func }

-- the fields that change places, one after another
module _ {A : Type 0} (r : Run A) (l : Level A) (lent : Callee A) (argument : Option ℤ) (parts : Parts A) (waiting : Option (Waiting A)) (answer : ℤ) where
  pub waiting_same : lent ≡ r.lent → argument ≡ r.argument → parts ≡ r.parts → waiting ≡ r.waiting → answer ≡ r.answer → (let k : Level A = record { lent = lent; argument = argument; parts = parts; waiting = waiting; asked = r.asked; answer = answer } in k) ≡ waiting_level r
  waiting_same e f g h i =
      ap₂ (λ (x : Callee A) (y : Option ℤ). let k : Level A = record { lent = x; argument = y; parts = parts; waiting = waiting; asked = r.asked; answer = answer } in k) e f
      ∙ ap₂ (λ (x : Parts A) (y : Option (Waiting A)). let k : Level A = record { lent = r.lent; argument = r.argument; parts = x; waiting = y; asked = r.asked; answer = answer } in k) g h
      ∙ ap (λ (x : ℤ). let k : Level A = record { lent = r.lent; argument = r.argument; parts = r.parts; waiting = r.waiting; asked = r.asked; answer = x } in k) i

  pub pushed_same : (trace : Vec TraceStep A) (outer : Vec (Level A) A) → lent ≡ l.lent → argument ≡ l.argument → parts ≡ l.parts → waiting ≡ l.waiting → answer ≡ l.answer →
      record r { trace = trace; entered = r.entered + 1; status = status.Running; lent = lent; argument = argument; parts = parts; waiting = waiting; answer = answer; outer = outer } ≡ pushed_run r l trace outer
  pushed_same trace outer e f g h i =
      ap₂ (λ (x : Callee A) (y : Option ℤ). record r { trace = trace; entered = r.entered + 1; status = status.Running; lent = x; argument = y; parts = parts; waiting = waiting; answer = answer; outer = outer }) e f
      ∙ ap₂ (λ (x : Parts A) (y : Option (Waiting A)). record r { trace = trace; entered = r.entered + 1; status = status.Running; lent = l.lent; argument = l.argument; parts = x; waiting = y; answer = answer; outer = outer }) g h
      ∙ ap (λ (x : ℤ). record r { trace = trace; entered = r.entered + 1; status = status.Running; lent = l.lent; argument = l.argument; parts = l.parts; waiting = l.waiting; answer = x; outer = outer }) i

module _ {A : Type 0} (r t : Run A) (l : Level A) (pushed : HasPushed r l t) (number : ℕ) (d : Deployed A) (entry : ℕ) (argument : ℤ)
    (calls : IsToCall r r.asked) (enters : IsToEnter r number d entry argument) (fresh : IsFreshLevel r.version number d entry argument l) where
  abbrev s : Seen
  s = seen r

  abbrev args : List Value
  args = r.call.now.args

  abbrev next_run : Run A
  next_run = pushed_run r l t.trace t.outer

  beside : IsBeside s (seen next_run) (Opened ∷ [])
  beside = record { setting = refl; call = refl; first = refl; func = refl; trace = pushed.trace; used = refl }

  outer_is : (seen next_run).outer ≡ record { contract = s.contract; config = with_tail s.tail (calling s.view r.asked); answer = s.answer } ∷ s.outer
  outer_is = ap (levels_of args) pushed.outer ∙ levels_push args r.outer.items (waiting_level r)

  is_around : IsAround args (waiting_level r)
  is_around = record {
    ordered = calls.calling.ordered;
    room = enters.wished.room;
    number = number;
    export = enters.export;
    value = argument;
    asks = enters.wished.asks;
    counted = calls.counted;
    suits = calls.suits;
    waits = calls.waits;
    place = calls.place;
  }

  pub first_pushed : IsFirst t
  first_pushed = subst IsFirst (sym pushed.same) (let now : IsFirst next_run = record {
    begun = record {
      opens = calls.calling.opens;
      safe = calls.calling.safe;
      suits = fresh.suits;
      waits = fresh.waits args;
      place = fresh.place;
      around = subst (AreAround args) (sym pushed.outer) (around_push args r.outer.items (waiting_level r) calls.around is_around);
      entered = ap (λ n. n + 1) calls.entered ∙ sym (asks_more r.trace.items) ∙ ap asks_in (sym pushed.trace);
    };
    counted = fresh.counted;
    view = fresh.view;
    linked = fresh.linked;
    reached = reached_entered s r.asked calls.calling number enters.export argument (contract_of r.version number d) entry enters.wished.asks enters.opens (seen next_run) beside fresh.contract fresh.answer (fresh.tail args) outer_is;
    within = calls.calling.within;
    room = pushed.room;
    running = refl;
  } in now)

  deeper : length (seen next_run).outer ≡ length s.outer + 1
  deeper = let one : length (seen next_run).outer ≡ length (seen r).outer + 1 = omega (arith, ap length outer_is) in one

  pub has_entered : (n : Run A) → HasBegun (seen t) turn.Stepped (seen n) → IsKept n → HasGoneOn s r.asked (Opened ∷ []) (seen n)
  has_entered n h kept = entered_on s r.asked calls.calling number enters.export argument (contract_of r.version number d) entry enters.wished.asks enters.opens (seen next_run) beside fresh.contract fresh.answer (fresh.tail args) outer_is
      deeper (seen n) (subst (λ (x : Run A). IsBegunAs (seen x) (seen n)) pushed.same h) kept.machine
