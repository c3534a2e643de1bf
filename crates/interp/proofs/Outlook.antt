-- What a machine shows while its run goes on, and at its end.
use Rattle.std.proofs.Common.{◌≡◌, ◌≢◌, ℕ, ℤ, ◌≤◌, Bool, true, false, true≢false, List, [], ◌∷◌, length, drop, refl, sym, ap, ◌∙◌, subst, arith, Option, Some, None, inl, inr}
use Rattle.std.specs.Prelude.{if◌then◌else◌, ◌==◌, ◌&&◌, ◌⊎◌}
use Rattle.std.proofs.lemmas.Bool.{ne_eqb, eq-eqb}
use Rattle.wtypes.specs.declared.Value.{Value}
use Rattle.spec_ledger.specs.declared.Op.{Op}
use Rattle.spec_ledger.specs.declared.Reply.{Reply}
use Rattle.spec_ledger.specs.declared.TraceStep.{TraceStep}
use Rattle.spec_ledger.specs.declared.TraceStep.TheVariants.{Kept, Dropped}
use Rattle.wtypes.specs.declared.TrapCode.{TrapCode}
use Rattle.spec_ledger.specs.declared.Outcome.{Outcome}
use Rattle.spec_ledger.specs.declared.Outcome.TheVariants.{Returned, Trapped, OutOfFuel, Rejected}
use Rattle.spec_execution.specs.Configuration as c
use Rattle.spec_execution.specs.Configuration.{Setting, Contract, Seq, End, State, Config, Running}
use Rattle.spec_execution.specs.Reduction.{reduce, HostEffect, Of, Ask, Answer, Next, Goes, Traps, Asks, Branches, Returns, Ended, Stuck}
use Rattle.spec_execution.specs.Run.{next, IsCharged, result_of, Opening, Refused, Opens}
use Rattle.spec_execution.specs.Levels.{Level, Levels, Move, On, Host, Over, Nowhere, asked, entering, returned, fallen, back_to, back_by, trap_status, signed_of, no_answer, by_next, by_config, move, IsChargedMove, Ends, over, exhausted, IsRun}
use Rattle.spec_execution.proofs.Lifting.{at, among, charged_lifted}
use Rattle.spec_execution.specs.Turns.{is_to_come, stack_in, locals_in, place_in, place_of, stack_of, locals_of}
use Rattle.interp.specs.declared.turns.Status.{Status}
use Rattle.interp.specs.declared.turns.Status.TheVariants as status
use Rattle.laws_reduction.specs.Meaning.{Item, config, calling, invoking, sequence, state, listed, height, IsOrdered}
use Rattle.laws_reduction.specs.Branches.{in_call}
use Rattle.laws_reduction.specs.Plain.{onto}
use Rattle.interp.specs.Machine.{Seen, on, first_of, levels, progress, IsAt, IsLive, IsWaiting, IsOver, IsMachine}
use Rattle.interp.specs.MachineViews.{ending, ending_by, state_alone, shown_at, is_out, leaves_stack, unless_ended, stack_shown, locals_shown, place_shown, is_fallen, IsShown}
use Rattle.interp_state.specs.Innermost.{function_in}
use Rattle.laws_reduction.specs.Charging.{height-le}
use Rattle.laws_reduction.specs.Rest.{is_charged}
use Rattle.laws_reduction.specs.Tails.{joined, with_tail, joined_next}
use Rattle.laws_reduction.specs.Joining.{charged_joined, reduce_joined}
use Rattle.interp.proofs.Showing.{stack_whole, locals_whole, place_whole, call-le, Stops, IsHidden, hidden_end, hidden_stop, stops_whole}
use Rattle.interp.proofs.Turning.{innermost, live_of, fine, end_values, end_values_of}

-- ---- one step, in or out of fuel

pub charged_out : (m : Move) → IsChargedMove m → ending_by true m ≡ Some OutOfFuel
charged_out (On charge marks x) h = ap (λ b. if b then Some OutOfFuel else None) (eq-eqb charge 1 h)
charged_out (Host op go) h = absurd h
charged_out (Over o) h = absurd h
charged_out Nowhere h = absurd h

charged_in : (m : Move) → IsChargedMove m → ending_by false m ≡ None
charged_in (On charge marks x) h = refl
charged_in (Host op go) h = absurd h
charged_in (Over o) h = absurd h
charged_in Nowhere h = absurd h

-- what is shown, by whether the fuel is out
pick_in : (b : Bool) (x y : Config) → is_out (if b then Some OutOfFuel else None) ≡ false → (if b then x else y) ≡ y
pick_in true x y h = absurd (true≢false h)
pick_in false x y h = refl

pick_out : (b : Bool) (x y : Config) → is_out (if b then Some OutOfFuel else None) ≡ true → (if b then x else y) ≡ x
pick_out true x y h = refl
pick_out false x y h = absurd (true≢false (sym h))

picked : (b : Bool) → leaves_stack (if b then Some OutOfFuel else None) ≡ false → is_out (if b then Some OutOfFuel else None) ≡ true
picked true h = refl
picked false h = absurd (true≢false h)

not_out : (b : Bool) (n : ℕ) → (if b then Some OutOfFuel else None) ≡ Some (Rejected n) → ⊥
not_out true n e = cc
not_out false n e = cc

and_false : (b : Bool) → (b && false) ≡ false
and_false true = refl
and_false false = refl

-- a level that is left is no end
back_by_in : (b : Bool) (l : Level) (outer : List Level) (st : State) (status : ℕ) (answer : ℤ) (mark : TraceStep) (n : Next) → ending_by b (back_by l outer st status answer mark n) ≡ None
back_by_in b l outer st status answer mark (Asks (Ask n e v) go) = ap (λ (t : Bool). if t then Some OutOfFuel else None) (and_false b)
back_by_in b l outer st status answer mark (Asks (Of op) go) = refl
back_by_in b l outer st status answer mark (Asks Answer go) = refl
back_by_in b l outer st status answer mark (Goes charge s q) = refl
back_by_in b l outer st status answer mark (Traps charge t) = refl
back_by_in b l outer st status answer mark (Branches charge k vs) = refl
back_by_in b l outer st status answer mark (Returns charge vs) = refl
back_by_in b l outer st status answer mark (Ended vs) = refl
back_by_in b l outer st status answer mark Stuck = refl

back_to_in : (b : Bool) (l : Level) (outer : List Level) (status : ℕ) (answer : ℤ) (mark : TraceStep) (x : Config) → ending_by b (back_to l outer status answer mark x) ≡ None
back_to_in b l outer status answer mark (Running s q) = back_by_in b l outer s status answer mark (next l.contract s q)
back_to_in b l outer status answer mark (c.Trap s t) = refl

left_in : (b : Bool) (vs : List Value) (l : Level) (outer : List Level) → ending_by b (returned vs (l ∷ outer)) ≡ None
left_in b [] l outer = refl
left_in b (v ∷ []) l outer = back_to_in b l outer 0 (signed_of v) Kept l.config
left_in b (v ∷ w ∷ vs) l outer = refl

pub fallen_in : (b : Bool) (t : TrapCode) (l : Level) (outer : List Level) → ending_by b (fallen t (l ∷ outer)) ≡ None
fallen_in b t l outer = back_to_in b l outer (trap_status t) no_answer Dropped l.config

-- a level at its end is not out of fuel, leaves its stack, and is not refused
returned_is : (b : Bool) (vs : List Value) (outer : List Level) → (ending_by b (returned vs outer) ≡ Some (Returned (result_of vs))) ⊎ (ending_by b (returned vs outer) ≡ None)
returned_is b vs [] = inl refl
returned_is b vs (l ∷ outer) = inr (left_in b vs l outer)

by_end : (P : Option Outcome → Type 0) (b : Bool) (vs : List Value) (outer : List Level) → P (Some (Returned (result_of vs))) → P None → P (ending_by b (returned vs outer))
by_end P b vs outer some none = elim (returned_is b vs outer) [ inl e ↦ subst P (sym e) some | inr e ↦ subst P (sym e) none ]

-- the innermost level, by what it does next
module _ (setting : Setting) (l : Level) (outer : List Level) (st : State) (b : Bool) where
  -- a level that is entered, or not, is no end
  entering_in : (go : Reply → Seq) (v : ℤ) (o : Opening) → ending_by b (entering l outer st go v o) ≡ None
  entering_in go v (Opens k f) = ap (λ (t : Bool). if t then Some OutOfFuel else None) (and_false b)
  entering_in go v (Refused status) = ap (λ (t : Bool). if t then Some OutOfFuel else None) (and_false b)

  asks_in : (w : HostEffect) (go : Reply → Seq) → (ending_by b (by_next setting l outer st (Asks w go)) ≡ None)
  asks_in (Of op) go = refl
  asks_in (Ask n e v) go = entering_in go v (asked setting (length outer) n e)
  asks_in Answer go = ap (λ (t : Bool). if t then Some OutOfFuel else None) (and_false b)

  in_fuel_by : (n : Next) (x y : Config) → is_out (ending_by b (by_next setting l outer st n)) ≡ false → (if b && is_to_come n then x else y) ≡ y
  in_fuel_by (Ended vs) x y h = ap (λ (t : Bool). if t then x else y) (and_false b)
  in_fuel_by (Goes charge s q) x y h = pick_in (b && (charge == 1)) x y h
  in_fuel_by (Traps charge t) x y h = pick_in (b && (charge == 1)) x y h
  in_fuel_by (Asks w go) x y h = ap (λ (t : Bool). if t then x else y) (and_false b)
  in_fuel_by (Branches charge k vs) x y h = ap (λ (t : Bool). if t then x else y) (and_false b)
  in_fuel_by (Returns charge vs) x y h = ap (λ (t : Bool). if t then x else y) (and_false b)
  in_fuel_by Stuck x y h = ap (λ (t : Bool). if t then x else y) (and_false b)

  out_of_fuel_by : (n : Next) (x y : Config) → is_out (ending_by b (by_next setting l outer st n)) ≡ true → (if b && is_to_come n then x else y) ≡ x
  out_of_fuel_by (Ended vs) x y h = absurd (by_end (λ (o : Option Outcome). is_out o ≡ true → ⊥) b vs outer (λ g. true≢false (sym g)) (λ g. true≢false (sym g)) h)
  out_of_fuel_by (Goes charge s q) x y h = pick_out (b && (charge == 1)) x y h
  out_of_fuel_by (Traps charge t) x y h = pick_out (b && (charge == 1)) x y h
  out_of_fuel_by (Asks w go) x y h = absurd (true≢false (sym h ∙ ap is_out (asks_in w go)))
  out_of_fuel_by (Branches charge k vs) x y h = absurd (true≢false (sym h))
  out_of_fuel_by (Returns charge vs) x y h = absurd (true≢false (sym h))
  out_of_fuel_by Stuck x y h = absurd (true≢false (sym h))

  -- a run that goes on or is out of fuel, and leaves no stack, is out of fuel
  no_stack_out_by : (n : Next) → leaves_stack (ending_by b (by_next setting l outer st n)) ≡ false → is_out (ending_by b (by_next setting l outer st n)) ≡ true
  no_stack_out_by (Ended vs) h = absurd (by_end (λ (o : Option Outcome). leaves_stack o ≡ false → ⊥) b vs outer true≢false true≢false h)
  no_stack_out_by (Goes charge s q) h = picked (b && (charge == 1)) h
  no_stack_out_by (Traps charge t) h = picked (b && (charge == 1)) h
  no_stack_out_by (Asks w go) h = absurd (true≢false (sym (ap leaves_stack (asks_in w go)) ∙ h))
  no_stack_out_by (Branches charge k vs) h = absurd (true≢false h)
  no_stack_out_by (Returns charge vs) h = absurd (true≢false h)
  no_stack_out_by Stuck h = absurd (true≢false h)

module _ (setting : Setting) (l : Level) (outer : List Level) (st : State) (q : Seq) (b : Bool) where
  in_fuel : (x y : Config) → is_out (ending_by b (move setting (among l outer (Running st q)))) ≡ false → (if b && is_to_come (next l.contract st q) then x else y) ≡ y
  in_fuel x y h = in_fuel_by setting (at l (Running st q)) outer st b (next l.contract st q) x y h

  out_of_fuel : (x y : Config) → is_out (ending_by b (move setting (among l outer (Running st q)))) ≡ true → (if b && is_to_come (next l.contract st q) then x else y) ≡ x
  out_of_fuel x y h = out_of_fuel_by setting (at l (Running st q)) outer st b (next l.contract st q) x y h

  no_stack_out : leaves_stack (ending_by b (move setting (among l outer (Running st q)))) ≡ false → is_out (ending_by b (move setting (among l outer (Running st q)))) ≡ true
  no_stack_out h = no_stack_out_by setting (at l (Running st q)) outer st b (next l.contract st q) h

stack_in_fuel : (o : Option Outcome) → leaves_stack o ≡ true → is_out o ≡ false
stack_in_fuel None h = refl
stack_in_fuel (Some (Returned r)) h = refl
stack_in_fuel (Some (Trapped t)) h = absurd (true≢false (sym h))
stack_in_fuel (Some OutOfFuel) h = absurd (true≢false (sym h))
stack_in_fuel (Some (Rejected n)) h = absurd (true≢false (sym h))

-- ---- how a run ends

module _ (s : Seen) (m : IsMachine s) (running : s.status ≡ status.Running) where
  at_end : s.view.code ≡ [] → ending (progress (on s status.Running)) ≡ ending_by (s.used == s.call.fuel) (returned (onto s.view.stack []) s.outer)
  at_end none_left = ap (λ n. ending_by (s.used == s.call.fuel) (by_next s.setting (levels s (with_tail s.tail (config s.view))).inner s.outer (state s.view) n)) (end_values s m running none_left)

  pub ends_returned : s.view.code ≡ [] → s.outer ≡ [] → ending (progress s) ≡ Some (Returned (result_of (onto s.view.stack [])))
  ends_returned none_left outermost = subst (λ (x : Status). ending (progress (on s x)) ≡ Some (Returned (result_of (onto s.view.stack [])))) (sym running)
      (at_end none_left ∙ ap (λ (ls : List Level). ending_by (s.used == s.call.fuel) (returned (onto s.view.stack []) ls)) outermost)

  -- a level that is left next
  pub ends_level : s.view.code ≡ [] → (s.outer ≡ [] → ⊥) → ending (progress s) ≡ None
  ends_level none_left around = subst (λ (x : Status). ending (progress (on s x)) ≡ None) (sym running) (at_end none_left ∙ by_outer s.outer around)
    where
      by_outer : (ls : List Level) → (ls ≡ [] → ⊥) → ending_by (s.used == s.call.fuel) (returned (onto s.view.stack []) ls) ≡ None
      by_outer [] h = absurd (h refl)
      by_outer (l ∷ ls) h = left_in (s.used == s.call.fuel) (onto s.view.stack []) l ls

  charged : s.view.code ≢ [] → IsCharged (next s.contract (state s.view) (joined (sequence s.view) s.tail))
  charged some_left = charged_joined s.tail s.contract (state s.view) (sequence s.view) (by_code s.view.code refl)
    where
      by_code : (is : List Item) → s.view.code ≡ is → IsCharged (next s.contract (state s.view) (sequence s.view))
      by_code [] e = absurd (some_left e)
      by_code (i ∷ is) e = is_charged s.contract s.view i is (fine s m running) e

  pub charged_move : s.view.code ≢ [] → IsChargedMove (move s.setting (levels s (with_tail s.tail (config s.view))))
  charged_move some_left = charged_lifted s.setting (innermost s) s.outer (state s.view) (joined (sequence s.view) s.tail) (charged some_left)

  pub ends_exhausted : s.view.code ≢ [] → s.used ≡ s.call.fuel → ending (progress s) ≡ Some OutOfFuel
  ends_exhausted some_left full = subst (λ (x : Status). ending (progress (on s x)) ≡ Some OutOfFuel) (sym running)
      (ap (λ b. ending_by b (move s.setting (levels s (with_tail s.tail (config s.view))))) (eq-eqb s.used s.call.fuel full) ∙ charged_out _ (charged_move some_left))

  pub goes_on : s.view.code ≢ [] → (s.used ≡ s.call.fuel → ⊥) → ending (progress s) ≡ None
  goes_on some_left left = subst (λ (x : Status). ending (progress (on s x)) ≡ None) (sym running)
      (ap (λ b. ending_by b (move s.setting (levels s (with_tail s.tail (config s.view))))) (ne_eqb s.used s.call.fuel left) ∙ charged_in _ (charged_move some_left))

-- after the end
over_of : (s : Seen) → IsMachine s → (o : Outcome) → s.status ≡ status.Ended o → IsOver s o
over_of s m o e = subst (IsAt s) e m.at

pub tells_end : (s : Seen) → (o : Outcome) → s.status ≡ status.Ended o → ending (progress s) ≡ Some o
tells_end s o e = subst (λ (x : Status). ending (progress (on s x)) ≡ Some o) (sym e) refl

-- a level that trapped
pub tells_fall : (s : Seen) (t : TrapCode) → s.status ≡ status.Fallen t → s.outer ≡ [] → ending (progress s) ≡ Some (Trapped t)
tells_fall s t e outermost = subst (λ (x : Status). ending (progress (on s x)) ≡ Some (Trapped t)) (sym e) (ap (λ (ls : List Level). ending_by (s.used == s.call.fuel) (fallen t ls)) outermost)

pub falls_on : (s : Seen) (t : TrapCode) → s.status ≡ status.Fallen t → (s.outer ≡ [] → ⊥) → ending (progress s) ≡ None
falls_on s t e around = subst (λ (x : Status). ending (progress (on s x)) ≡ None) (sym e) (by_outer s.outer around)
  where
    by_outer : (ls : List Level) → (ls ≡ [] → ⊥) → ending_by (s.used == s.call.fuel) (fallen t ls) ≡ None
    by_outer [] h = absurd (h refl)
    by_outer (l ∷ ls) h = fallen_in (s.used == s.call.fuel) t l ls

-- a run never ends as a call that is refused
module _ (n : ℕ) where
  not_back_by : (l : Level) (outer : List Level) (st : State) (status : ℕ) (answer : ℤ) (mark : TraceStep) (x : Next) → back_by l outer st status answer mark x ≡ Over (Rejected n) → ⊥
  not_back_by l outer st status answer mark (Asks (Ask k e v) go) h = cc
  not_back_by l outer st status answer mark (Asks (Of op) go) h = cc
  not_back_by l outer st status answer mark (Asks Answer go) h = cc
  not_back_by l outer st status answer mark (Goes charge s q) h = cc
  not_back_by l outer st status answer mark (Traps charge t) h = cc
  not_back_by l outer st status answer mark (Branches charge k vs) h = cc
  not_back_by l outer st status answer mark (Returns charge vs) h = cc
  not_back_by l outer st status answer mark (Ended vs) h = cc
  not_back_by l outer st status answer mark Stuck h = cc

  not_back_to : (l : Level) (outer : List Level) (status : ℕ) (answer : ℤ) (mark : TraceStep) (x : Config) → back_to l outer status answer mark x ≡ Over (Rejected n) → ⊥
  not_back_to l outer status answer mark (Running s q) h = not_back_by l outer s status answer mark (next l.contract s q) h
  not_back_to l outer status answer mark (c.Trap s t) h = cc

  not_returned : (vs : List Value) (outer : List Level) → returned vs outer ≡ Over (Rejected n) → ⊥
  not_returned vs [] h = cc
  not_returned [] (l ∷ outer) h = cc
  not_returned (v ∷ []) (l ∷ outer) h = not_back_to l outer 0 (signed_of v) Kept l.config h
  not_returned (v ∷ w ∷ vs) (l ∷ outer) h = cc

  not_fallen : (t : TrapCode) (outer : List Level) → fallen t outer ≡ Over (Rejected n) → ⊥
  not_fallen t [] h = cc
  not_fallen t (l ∷ outer) h = not_back_to l outer (trap_status t) no_answer Dropped l.config h

  not_entering : (l : Level) (outer : List Level) (st : State) (go : Reply → Seq) (v : ℤ) (o : Opening) → entering l outer st go v o ≡ Over (Rejected n) → ⊥
  not_entering l outer st go v (Opens k f) h = cc
  not_entering l outer st go v (Refused status) h = cc

  not_next : (setting : Setting) (l : Level) (outer : List Level) (st : State) (x : Next) → by_next setting l outer st x ≡ Over (Rejected n) → ⊥
  not_next setting l outer st (Goes charge s q) h = cc
  not_next setting l outer st (Traps charge t) h = cc
  not_next setting l outer st (Asks (Of op) go) h = cc
  not_next setting l outer st (Asks (Ask k e v) go) h = not_entering l outer st go v (asked setting (length outer) k e) h
  not_next setting l outer st (Asks Answer go) h = cc
  not_next setting l outer st (Branches charge k vs) h = cc
  not_next setting l outer st (Returns charge vs) h = cc
  not_next setting l outer st (Ended vs) h = not_returned vs outer h
  not_next setting l outer st Stuck h = cc

  not_config : (setting : Setting) (l : Level) (outer : List Level) (x : Config) → by_config setting l outer x ≡ Over (Rejected n) → ⊥
  not_config setting l outer (Running st q) h = not_next setting l outer st (next l.contract st q) h
  not_config setting l outer (c.Trap st t) h = not_fallen t outer h

-- a run has not ended that was refused, since its call has opened
no_rejection : (s : Seen) → IsMachine s → (n : ℕ) → s.status ≡ status.Ended (Rejected n) → ⊥
no_rejection s m n e = by_run (over_of s m (Rejected n) e).run
  where
    no_end : (setting : Setting) (limit used : ℕ) (a : Levels) (o : Outcome) (marks : List TraceStep) → o ≡ Rejected n → Ends setting limit used a o marks → ⊥
    no_end setting limit used a o marks is (over u x out h) = not_config n setting x.inner x.outer x.inner.config (h ∙ ap Over is)
    no_end setting limit used a o marks is (exhausted x h) = let no : OutOfFuel ≡ Rejected n = is in cc

    by_run : IsRun s.setting (first_of s) s.call.fuel s.trace (Rejected n) s.used → ⊥
    by_run run = no_end s.setting s.call.fuel s.used run.last (Rejected n) run.marks refl run.ends

-- while the host is asked
pub asks_on : (s : Seen) → IsMachine s → (op : Op) → s.status ≡ status.Asking op → ending (progress s) ≡ None
asks_on s m op asking =
    let waiting : IsWaiting s op = subst (IsAt s) asking m.at in
    subst (λ (x : Status). ending (progress (on s x)) ≡ None) (sym asking)
    (ap (λ n. ending_by (s.used == s.call.fuel) (by_next s.setting (levels s (with_tail s.tail (calling s.view s.asked))).inner s.outer (state s.view) n)) (reduce_joined s.tail s.contract 0 (state s.view) [] (invoking s.view s.asked) ∙ ap (joined_next s.tail (λ ws. reduce s.contract 0 (state s.view) ws s.tail)) waiting.asks))

-- ---- what is shown

locals_listed : (is : List Item) (ls : List Value) → locals_in ls (listed is End) ≡ ls
locals_listed [] ls = refl
locals_listed (i ∷ is) ls = refl

stack_listed : (is : List Item) (vs : List Value) → stack_in vs (listed is End) ≡ vs
stack_listed [] vs = refl
stack_listed (i ∷ is) vs = refl

-- what waits behind all that is open does not show
running_hidden : (s : Seen) → IsLive s → IsHidden s.tail (sequence s.view)
running_hidden s live = by_code s.view.code refl
  where
    by_code : (is : List Item) → s.view.code ≡ is → IsHidden s.tail (sequence s.view)
    by_code [] e = hidden_end s.tail (sequence s.view) (live.last e)
    by_code (i ∷ is) e = hidden_stop s.tail (sequence s.view) (stops_whole s.view.entries s.view.stack s.view.locals (listed s.view.code End) (subst (λ (xs : List Item). Stops (listed xs End)) (sym e) tt))

asking_hidden : (s : Seen) → IsHidden s.tail (invoking s.view s.asked)
asking_hidden s = hidden_stop s.tail (invoking s.view s.asked) (stops_whole s.view.entries s.view.stack s.view.locals (c.Invoke s.asked (listed s.view.code End)) tt)

pub shows_locals : (s : Seen) → IsMachine s → (x : Status) → s.status ≡ x → IsShown x → is_fallen x ≡ false → None ≡ ending (progress (on s x)) → s.view.locals ≡ locals_shown (progress (on s x))
shows_locals s m status.Running is o goes e =
    sym (ap (λ r. unless_ended r (locals_of (with_tail s.tail (config s.view)))) (sym e)
    ∙ (running_hidden s (live_of s m is)).locals (state s.view).locals
    ∙ locals_whole s.view.entries s.view.stack s.view.locals (listed s.view.code End) ∙ locals_listed s.view.code s.view.locals)
shows_locals s m (status.Asking op) is o goes e =
    sym (ap (λ r. unless_ended r (locals_of (with_tail s.tail (calling s.view s.asked)))) (sym e)
    ∙ (asking_hidden s).locals (state s.view).locals
    ∙ locals_whole s.view.entries s.view.stack s.view.locals (c.Invoke s.asked (listed s.view.code End)))
shows_locals s m (status.Fallen t) is o goes e = absurd (true≢false goes)
shows_locals s m status.Closing is o goes e = absurd (let no : None ≡ Some OutOfFuel = e in cc)
shows_locals s m (status.Ended r) is o goes e = absurd (let no : None ≡ Some r = e in cc)
shows_locals s m status.NoMemory is o goes e = absurd o

pub shows_none : (s : Seen) (r : Outcome) → Some r ≡ ending (progress s) → [] ≡ locals_shown (progress s)
shows_none s r e = ap (λ o. unless_ended o (locals_of (progress s).config.inner.config)) e

-- a level that trapped has no locals
pub shows_trap : (s : Seen) → is_fallen s.status ≡ true → [] ≡ locals_shown (progress s)
shows_trap s fell = by_status s.status fell
  where
    no_locals : (o : Option Outcome) → [] ≡ unless_ended o []
    no_locals None = refl
    no_locals (Some r) = refl

    by_status : (x : Status) → is_fallen x ≡ true → [] ≡ locals_shown (progress (on s x))
    by_status (status.Fallen t) h = no_locals (ending (progress (on s (status.Fallen t))))
    by_status status.Running h = absurd (true≢false (sym h))
    by_status (status.Asking op) h = absurd (true≢false (sym h))
    by_status status.Closing h = absurd (true≢false (sym h))
    by_status (status.Ended o) h = absurd (true≢false (sym h))
    by_status status.NoMemory h = absurd (true≢false (sym h))

call_within : (s : Seen) → IsOrdered s.view → height (in_call s.view.entries) ≤ length s.view.stack
call_within s o = omega (arith, call-le s.view.entries (length s.view.stack) o.stands, height-le s.view.entries (length s.view.stack) o.stands)

module _ (s : Seen) (m : IsMachine s) where
  running_within : s.status ≡ status.Running → height (in_call s.view.entries) ≤ length s.view.stack
  running_within e = call_within s (live_of s m e).ordered

  asking_within : (op : Op) → s.status ≡ status.Asking op → height (in_call s.view.entries) ≤ length s.view.stack
  asking_within op e = let waiting : IsWaiting s op = subst (IsAt s) e m.at in call_within s waiting.ordered

  running_stack : s.status ≡ status.Running → is_out (ending (progress s)) ≡ false → drop (height (in_call s.view.entries)) s.view.stack ≡ stack_shown (progress s)
  running_stack e left =
      subst (λ (x : Status). is_out (ending (progress (on s x))) ≡ false → drop (height (in_call s.view.entries)) s.view.stack ≡ stack_shown (progress (on s x))) (sym e)
      (λ h. sym (ap stack_of (in_fuel s.setting (innermost s) s.outer (state s.view) (joined (sequence s.view) s.tail) (s.used == s.call.fuel) _ _ h)
      ∙ (running_hidden s (live_of s m e)).stack []
      ∙ stack_whole s.view.entries s.view.stack s.view.locals (listed s.view.code End) (live_of s m e).ordered.stands
      ∙ stack_listed s.view.code _)) left

  asking_stack : (op : Op) → s.status ≡ status.Asking op → is_out (ending (progress s)) ≡ false → drop (height (in_call s.view.entries)) s.view.stack ≡ stack_shown (progress s)
  asking_stack op e left =
      let waiting : IsWaiting s op = subst (IsAt s) e m.at in
      subst (λ (x : Status). is_out (ending (progress (on s x))) ≡ false → drop (height (in_call s.view.entries)) s.view.stack ≡ stack_shown (progress (on s x))) (sym e)
      (λ h. sym (ap stack_of (in_fuel s.setting (innermost s) s.outer (state s.view) (joined (invoking s.view s.asked) s.tail) (s.used == s.call.fuel) _ _ h)
      ∙ (asking_hidden s).stack []
      ∙ stack_whole s.view.entries s.view.stack s.view.locals (c.Invoke s.asked (listed s.view.code End)) waiting.ordered.stands)) left

  returned_live : (r : Option Value) → s.status ≡ status.Ended (Returned r) → IsLive s
  returned_live r e = (over_of s m (Returned r) e).at_end.0

  -- a run that has returned is shown as it is
  returned_shown : (r : Option Value) → s.status ≡ status.Ended (Returned r) → shown_at (progress (on s (status.Ended (Returned r)))) (status.Ended (Returned r)) ≡ with_tail s.tail (config s.view)
  returned_shown r e = ap (λ (n : Next). if (s.used == s.call.fuel) && is_to_come n then state_alone (with_tail s.tail (config s.view)) else with_tail s.tail (config s.view)) (end_values_of s (returned_live r e) (over_of s m (Returned r) e).at_end.1)
      ∙ ap (λ (b : Bool). if b then state_alone (with_tail s.tail (config s.view)) else with_tail s.tail (config s.view)) (and_false (s.used == s.call.fuel))

  returned_stack : (r : Option Value) → s.status ≡ status.Ended (Returned r) → drop (height (in_call s.view.entries)) s.view.stack ≡ stack_shown (progress s)
  returned_stack r e =
      subst (λ (x : Status). drop (height (in_call s.view.entries)) s.view.stack ≡ stack_shown (progress (on s x))) (sym e)
      (sym (ap stack_of (returned_shown r e)
      ∙ (running_hidden s (returned_live r e)).stack []
      ∙ stack_whole s.view.entries s.view.stack s.view.locals (listed s.view.code End) (returned_live r e).ordered.stands
      ∙ stack_listed s.view.code _))

  -- while its code is left, or the host is asked, or it has returned
  abbrev pub IsLeft : Type 0
  IsLeft = (s.status ≡ status.Running) ⊎ (((op : Op) × (s.status ≡ status.Asking op)) ⊎ ((r : Option Value) × (s.status ≡ status.Ended (Returned r))))

  pub left_within : IsLeft → height (in_call s.view.entries) ≤ length s.view.stack
  left_within (inl e) = running_within e
  left_within (inr (inl a)) = asking_within a.0 a.1
  left_within (inr (inr r)) = call_within s (returned_live r.0 r.1).ordered

  pub left_stack : IsLeft → is_out (ending (progress s)) ≡ false → drop (height (in_call s.view.entries)) s.view.stack ≡ stack_shown (progress s)
  left_stack (inl e) left = running_stack e left
  left_stack (inr (inl a)) left = asking_stack a.0 a.1 left
  left_stack (inr (inr r)) left = returned_stack r.0 r.1

  -- after another end than a return nothing stands on the stack, and after each end there is no place
  pub ended_stack : (o : Outcome) → s.status ≡ status.Ended o → ((r : Option Value) → o ≡ Returned r → ⊥) → [] ≡ stack_shown (progress s)
  ended_stack o e other = subst (λ (x : Status). [] ≡ stack_shown (progress (on s x))) (sym e) (by_outcome o e other)
    where
      by_outcome : (o : Outcome) → s.status ≡ status.Ended o → ((r : Option Value) → o ≡ Returned r → ⊥) → [] ≡ stack_shown (progress (on s (status.Ended o)))
      by_outcome (Returned r) e other = absurd (other r refl)
      by_outcome (Trapped t) e other = refl
      by_outcome OutOfFuel e other = refl
      by_outcome (Rejected n) e other = absurd (no_rejection s m n e)

  pub ended_place : (o : Outcome) → s.status ≡ status.Ended o → None ≡ place_shown (progress s)
  ended_place o e = subst (λ (x : Status). None ≡ place_shown (progress (on s x))) (sym e) (by_outcome o e)
    where
      by_outcome : (o : Outcome) → s.status ≡ status.Ended o → None ≡ place_shown (progress (on s (status.Ended o)))
      by_outcome (Returned r) e =
          sym (ap place_of (returned_shown r e)
          ∙ (running_hidden s (returned_live r e)).place None
          ∙ place_whole s.view.entries s.view.stack s.view.locals (listed s.view.code End)
          ∙ ap (λ (is : List Item). place_in (function_in (in_call s.view.entries)) (listed is End)) (over_of s m (Returned r) e).at_end.1)
      by_outcome (Trapped t) e = refl
      by_outcome OutOfFuel e = refl
      by_outcome (Rejected n) e = absurd (no_rejection s m n e)

  pub running_place : s.status ≡ status.Running → is_out (ending (progress s)) ≡ false → place_in (function_in (in_call s.view.entries)) (listed s.view.code End) ≡ place_shown (progress s)
  running_place e left =
      subst (λ (x : Status). is_out (ending (progress (on s x))) ≡ false → place_in (function_in (in_call s.view.entries)) (listed s.view.code End) ≡ place_shown (progress (on s x))) (sym e)
      (λ h. sym (ap place_of (in_fuel s.setting (innermost s) s.outer (state s.view) (joined (sequence s.view) s.tail) (s.used == s.call.fuel) _ _ h)
      ∙ (running_hidden s (live_of s m e)).place None
      ∙ place_whole s.view.entries s.view.stack s.view.locals (listed s.view.code End))) left

  pub no_place : (x : Status) → IsShown x → s.status ≡ x → (x ≡ status.Running → is_out (ending (progress s)) ≡ true) → None ≡ place_shown (progress s)
  no_place x o e out = subst (λ (y : Status). None ≡ place_shown (progress (on s y))) (sym e) (by_status x o e out)
    where
      by_status : (y : Status) → IsShown y → s.status ≡ y → (y ≡ status.Running → is_out (ending (progress s)) ≡ true) → None ≡ place_shown (progress (on s y))
      by_status status.Running o e out =
          let h : is_out (ending (progress (on s status.Running))) ≡ true = subst (λ (z : Status). is_out (ending (progress (on s z))) ≡ true) e (out refl) in
          sym (ap place_of (out_of_fuel s.setting (innermost s) s.outer (state s.view) (joined (sequence s.view) s.tail) (s.used == s.call.fuel) _ _ h))
      by_status (status.Asking op) o e out =
          sym (ap place_of (in_fuel s.setting (innermost s) s.outer (state s.view) (joined (invoking s.view s.asked) s.tail) (s.used == s.call.fuel) _ _
          (ap is_out (subst (λ (z : Status). ending (progress (on s z)) ≡ None) e (asks_on s m op e))))
          ∙ (asking_hidden s).place None
          ∙ place_whole s.view.entries s.view.stack s.view.locals (c.Invoke s.asked (listed s.view.code End)))
      by_status (status.Fallen t) o e out = refl
      by_status status.Closing o e out = refl
      by_status (status.Ended r) o e out = subst (λ (y : Status). None ≡ place_shown (progress (on s y))) e (ended_place r e)
      by_status status.NoMemory o e out = absurd o

  -- the status, where a stack is left
  pub stack_left : (x : Status) → IsShown x → is_fallen x ≡ false → s.status ≡ x → leaves_stack (ending (progress s)) ≡ true → IsLeft
  stack_left x o goes e h = by_status x o goes e (subst (λ (y : Status). leaves_stack (ending (progress (on s y))) ≡ true) e h)
    where
      by_end_of : (r : Outcome) → s.status ≡ status.Ended r → leaves_stack (Some r) ≡ true → IsLeft
      by_end_of (Returned r) e h = inr (inr (r, e))
      by_end_of (Trapped t) e h = absurd (true≢false (sym h))
      by_end_of OutOfFuel e h = absurd (true≢false (sym h))
      by_end_of (Rejected n) e h = absurd (true≢false (sym h))

      by_status : (y : Status) → IsShown y → is_fallen y ≡ false → s.status ≡ y → leaves_stack (ending (progress (on s y))) ≡ true → IsLeft
      by_status status.Running o goes e h = inl e
      by_status (status.Asking op) o goes e h = inr (inl (op, e))
      by_status (status.Fallen t) o goes e h = absurd (true≢false goes)
      by_status status.Closing o goes e h = absurd (true≢false (sym h))
      by_status (status.Ended r) o goes e h = by_end_of r e h
      by_status status.NoMemory o goes e h = absurd o

  pub shows_stack : (x : Status) → IsShown x → is_fallen x ≡ false → s.status ≡ x → leaves_stack (ending (progress s)) ≡ true → drop (height (in_call s.view.entries)) s.view.stack ≡ stack_shown (progress s)
  shows_stack x o goes e h = left_stack (stack_left x o goes e h) (stack_in_fuel (ending (progress s)) h)

  -- a level that trapped has no stack
  pub shows_trapped : is_fallen s.status ≡ true → [] ≡ stack_shown (progress s)
  shows_trapped fell = by_status s.status fell
    where
      by_status : (x : Status) → is_fallen x ≡ true → [] ≡ stack_shown (progress (on s x))
      by_status (status.Fallen t) h = refl
      by_status status.Running h = absurd (true≢false (sym h))
      by_status (status.Asking op) h = absurd (true≢false (sym h))
      by_status status.Closing h = absurd (true≢false (sym h))
      by_status (status.Ended o) h = absurd (true≢false (sym h))
      by_status status.NoMemory h = absurd (true≢false (sym h))

  pub shows_no_stack : (x : Status) → IsShown x → s.status ≡ x → leaves_stack (ending (progress s)) ≡ false → [] ≡ stack_shown (progress s)
  shows_no_stack x o e h = subst (λ (y : Status). [] ≡ stack_shown (progress (on s y))) (sym e) (by_status x o e (subst (λ (y : Status). leaves_stack (ending (progress (on s y))) ≡ false) e h))
    where
      by_status : (y : Status) → IsShown y → s.status ≡ y → leaves_stack (ending (progress (on s y))) ≡ false → [] ≡ stack_shown (progress (on s y))
      by_status status.Running o e h = sym (ap stack_of (out_of_fuel s.setting (innermost s) s.outer (state s.view) (joined (sequence s.view) s.tail) (s.used == s.call.fuel) _ _ (no_stack_out s.setting (innermost s) s.outer (state s.view) (joined (sequence s.view) s.tail) (s.used == s.call.fuel) h)))
      by_status (status.Asking op) o e h = sym (ap stack_of (out_of_fuel s.setting (innermost s) s.outer (state s.view) (joined (invoking s.view s.asked) s.tail) (s.used == s.call.fuel) _ _ (no_stack_out s.setting (innermost s) s.outer (state s.view) (joined (invoking s.view s.asked) s.tail) (s.used == s.call.fuel) h)))
      by_status (status.Fallen t) o e h = refl
      by_status status.Closing o e h = refl
      by_status (status.Ended r) o e h = subst (λ (y : Status). [] ≡ stack_shown (progress (on s y))) e (ended_stack r e (λ v q. absurd (true≢false (sym (ap leaves_stack (ap Some q)) ∙ h))))
      by_status status.NoMemory o e h = absurd o
