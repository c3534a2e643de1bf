-- What a turn keeps.
use Rattle.std.proofs.Common.{◌≡◌, ◌≢◌, ℕ, ◌+◌, ◌-◌, ◌≤◌, List, [], ◌∷◌, ◌++◌, length, refl, sym, ap, ◌∙◌, subst, arith, Option, slice_get, append-nil, append_assoc}
use Rattle.std.proofs.lemmas.List.{replicate_more}
use Rattle.std.specs.Prelude.{replicate}
use Rattle.wtypes.specs.declared.Value.{Value}
use Rattle.wtypes.specs.declared.TrapCode.{TrapCode}
use Rattle.spec_ledger.specs.declared.TraceStep.{TraceStep}
use Rattle.spec_ledger.specs.declared.TraceStep.TheVariants.{Dropped}
use Rattle.spec_ledger.specs.declared.Outcome.{Outcome}
use Rattle.spec_ledger.specs.declared.Outcome.TheVariants.{Returned, Trapped, OutOfFuel, Rejected}
use Rattle.spec_execution.specs.Configuration.{Setting, Contract, Seq, End, State, Config, Running, Trap}
use Rattle.spec_execution.specs.Reduction.{Ended}
use Rattle.spec_execution.specs.Run.{Reduces, result_of, IsCharged, IsStuck, next, ContractCall, opening, Opens}
use Rattle.spec_execution.specs.Levels as spec
use Rattle.spec_execution.specs.Levels.{Level, Nowhere, move, by_next, returned, first_level, IsChargedMove, Reached, Ends, over, exhausted, closing, IsRun, IsSafe}
use Rattle.spec_execution.proofs.Lifting.{charged_lifted, reached_reduced, reached_by_frees, not_stuck, is_run}
use Rattle.spec_execution.specs.Turns.{Frees, none, by_trap, state_of}
use Rattle.interp.specs.declared.turns.Status.{Status}
use Rattle.interp.specs.declared.turns.Status.TheVariants as status
use Rattle.laws_reduction.specs.Meaning.{Item, View, config, sequence, state, IsOrdered, IsFine, IsFineAfter, IsSafeAt, IsReady}
use Rattle.laws_reduction.specs.Plain.{onto}
use Rattle.interp.specs.Progress.{Pauses, IsSameCall, GoesOn, HasStepped, IsToStop, EndsAt, IsLast, IsDone}
use Rattle.interp.specs.Machine.{Seen, on, first_of, levels, config_at, config_of, progress, Reaches, IsLive, IsFallen, IsShut, IsAt, IsMachine}
use Rattle.laws_reduction.specs.Tails.{joined, with_tail}
use Rattle.laws_reduction.specs.Joining.{joined_end, reduces_joined, stuck_joined, charged_joined, at_rest}
use Rattle.laws_reduction.specs.Rest.{is_charged, is_ended}
use Rattle.interp.proofs.Among.{at_rest_pauses, moved_among}

-- its innermost level
abbrev pub innermost : Seen → Level
innermost s = (levels s (config_of s)).inner

pub live_of : (s : Seen) → IsMachine s → s.status ≡ status.Running → IsLive s
live_of s m e = subst (IsAt s) e m.at

module _ (s : Seen) where
  -- what is reached comes by free reductions to others
  pub by_frees : (trace : List TraceStep) (used : ℕ) (a b : Config) → Reached s.setting (first_of s) s.call.fuel trace used (levels s a) → used ≤ s.call.fuel → Frees s.contract a b → Reached s.setting (first_of s) s.call.fuel trace used (levels s b)
  by_frees trace used a b r le f = reached_by_frees s.setting (innermost s) s.outer (first_of s) s.call.fuel trace used a b r le f

  pub never_stuck : IsSafe s.setting (first_of s) s.call.fuel → (trace : List TraceStep) (used : ℕ) (x : State) (q : Seq) → Reached s.setting (first_of s) s.call.fuel trace used (levels s (Running x q)) → IsStuck (next s.contract x q) → ⊥
  never_stuck safe trace used x q r h = not_stuck s.setting (innermost s) s.outer (first_of s) s.call.fuel safe trace used x q r h

  -- where it goes on or has trapped, an instruction is to come, it has ended, or the innermost level is left next
  pub pauses_live : IsSafe s.setting (first_of s) s.call.fuel → IsLive s → Pauses s.setting (levels s (with_tail s.tail (config s.view)))
  pauses_live safe live =
      at_rest_pauses s.setting (innermost s) s.outer (with_tail s.tail (config s.view)) (λ h. safe s.trace s.used (levels s (with_tail s.tail (config s.view))) live.reached h)
      (at_rest s.contract s.view s.tail (record { not_stuck = λ h. never_stuck safe _ _ _ _ live.reached (stuck_joined s.tail s.contract (state s.view) (sequence s.view) h) }) live.ready live.last)

  pub pauses_fallen : IsSafe s.setting (first_of s) s.call.fuel → (t : TrapCode) → IsFallen s t → Pauses s.setting (levels s (Trap (state s.view) t))
  pauses_fallen safe t fallen = at_rest_pauses s.setting (innermost s) s.outer (Trap (state s.view) t) (λ h. safe s.trace s.used (levels s (Trap (state s.view) t)) fallen.reached h) (by_trap (state s.view) t)

pub pauses_of : (s : Seen) → IsMachine s → GoesOn s.status → Pauses s.setting (progress s).config
pauses_of s m g = by s.status m.at g
  where
    by : (x : Status) → IsAt s x → GoesOn x → Pauses s.setting (progress (on s x)).config
    by status.Running live g = pauses_live s m.safe live
    by (status.Fallen t) fallen g = pauses_fallen s m.safe t fallen
    by (status.Asking op) at g = absurd g
    by status.Closing at g = absurd g
    by (status.Ended o) at g = absurd g
    by status.NoMemory at g = absurd g

-- the state, whatever the status
pub state_at : (v : View) (tail : Seq) (f : ℕ) (x : Status) → state_of (with_tail tail (config_at v f x)) ≡ state v
state_at v tail f status.Running = refl
state_at v tail f (status.Fallen t) = refl
state_at v tail f (status.Asking op) = refl
state_at v tail f status.Closing = refl
state_at v tail f (status.Ended (Returned r)) = refl
state_at v tail f (status.Ended (Trapped t)) = refl
state_at v tail f (status.Ended OutOfFuel) = refl
state_at v tail f (status.Ended (Rejected n)) = refl
state_at v tail f status.NoMemory = refl

-- ---- the end

-- what a level leaves that is at its end
pub end_values_of : (s : Seen) → IsLive s → s.view.code ≡ [] → next s.contract (state s.view) (joined (sequence s.view) s.tail) ≡ Ended (onto s.view.stack [])
end_values_of s live at_end = ap (next s.contract (state s.view)) (ap (joined (sequence s.view)) (live.last at_end) ∙ joined_end (sequence s.view)) ∙ is_ended s.contract s.view at_end (live.ready at_end)

replicate_push : (n : ℕ) → replicate n Dropped ++ Dropped ∷ [] ≡ replicate (n + 1) Dropped
replicate_push n = replicate_more n Dropped

-- the fuel is out at the innermost level
pub shut_now : (s : Seen) → IsLive s → s.used ≡ s.call.fuel → IsCharged (next s.contract (state s.view) (joined (sequence s.view) s.tail)) → IsShut s
shut_now s live full charged = record {
  before = s.trace;
  last = levels s (with_tail s.tail (config s.view));
  inside = 0;
  reached = live.reached;
  out = full;
  charged = charged_lifted s.setting (innermost s) s.outer (state s.view) (joined (sequence s.view) s.tail) charged;
  trace_is = sym (append-nil s.trace);
  left = (let none : length s.outer ≡ 0 + length s.outer = omega arith in none);
}

-- one level more is left
pub shut_more : (s t : Seen) (l : Level) → IsShut s → IsSameCall (progress s) (progress t) → s.outer ≡ l ∷ t.outer → t.trace ≡ s.trace ++ Dropped ∷ [] → t.used ≡ s.used → IsShut t
shut_more s t l shut same outer trace used = record {
  before = shut.before;
  last = shut.last;
  inside = shut.inside + 1;
  reached =
      subst (λ (n : ℕ). Reached t.setting (first_of t) t.call.fuel shut.before n shut.last) (sym used)
      (subst (λ (f : ℕ). Reached t.setting (first_level t.first f t.call.args) t.call.fuel shut.before s.used shut.last) (sym same.func)
      (subst (λ (c : Contract). Reached t.setting (first_level c s.func t.call.args) t.call.fuel shut.before s.used shut.last) (sym same.contract)
      (subst (λ (k : ContractCall). Reached t.setting (first_level s.first s.func k.args) k.fuel shut.before s.used shut.last) (sym same.call)
      (subst (λ (z : Setting). Reached z (first_of s) s.call.fuel shut.before s.used shut.last) (sym same.setting) shut.reached))));
  out = used ∙ shut.out ∙ ap (λ (k : ContractCall). k.fuel) (sym same.call);
  charged = subst (λ (z : Setting). IsChargedMove (move z shut.last)) (sym same.setting) shut.charged;
  trace_is = trace ∙ ap (λ (u : List TraceStep). u ++ Dropped ∷ []) shut.trace_is ∙ append_assoc shut.before (replicate shut.inside Dropped) (Dropped ∷ []) ∙ ap (λ (u : List TraceStep). shut.before ++ u) (replicate_push shut.inside);
  left = let count = shut.left in omega (arith, count, ap length outer);
}

-- all of them are left
pub shut_whole : (s : Seen) → IsShut s → s.outer ≡ [] → IsRun s.setting (first_of s) s.call.fuel s.trace OutOfFuel s.used
shut_whole s shut none_left = record {
  before = shut.before;
  last = shut.last;
  marks = closing shut.last;
  reached = shut.reached;
  ends = subst (λ (n : ℕ). Ends s.setting s.call.fuel n shut.last OutOfFuel (closing shut.last)) (sym shut.out) (exhausted shut.last shut.charged);
  trace_is = shut.trace_is ∙ ap (λ (n : ℕ). shut.before ++ replicate n Dropped) (let count = shut.left in let all : shut.inside ≡ length shut.last.outer = omega (arith, count, ap length none_left) in all);
}

module _ (s : Seen) (m : IsMachine s) (running : s.status ≡ status.Running) where
  pub fine : IsFine s.contract s.view
  fine = record { not_stuck = λ h. never_stuck s m.safe _ _ _ _ (live_of s m running).reached (stuck_joined s.tail s.contract (state s.view) (sequence s.view) h) }

  module _ (left : s.used ≢ s.call.fuel) where
    pub below : s.used + 1 ≤ s.call.fuel
    below = let within = (live_of s m running).within in omega arith

    pub fine_after : IsFineAfter s.contract s.view
    fine_after = record { not_stuck = λ t seq one h. never_stuck s m.safe _ _ _ _ (reached_reduced s.setting (innermost s) s.outer (first_of s) s.call.fuel s.trace s.used _ _ 1 (live_of s m running).reached (reduces_joined s.tail s.contract 1 _ _ one) below) (stuck_joined s.tail s.contract t seq h) }

    pub safe_at : IsSafeAt s.contract s.view
    safe_at = record { fine = fine; after = fine_after }

    module _ (mid : Config) (one : Reduces s.contract (config s.view) 1 mid) where
      abbrev whole_mid : Config
      whole_mid = with_tail s.tail mid

      joined_one : Reduces s.contract (with_tail s.tail (config s.view)) 1 whole_mid
      joined_one = reduces_joined s.tail s.contract 1 (config s.view) mid one

      pub come : Reached s.setting (first_of s) s.call.fuel s.trace (s.used + 1) (levels s whole_mid)
      come = reached_reduced s.setting (innermost s) s.outer (first_of s) s.call.fuel s.trace s.used (with_tail s.tail (config s.view)) whole_mid 1 (live_of s m running).reached joined_one below

      module _ (w : View) (tail : Seq) (frees : Frees s.contract whole_mid (with_tail tail (config w))) (ordered : IsOrdered w) (ready : IsReady w) (last : w.code ≡ [] → tail ≡ End) where
        abbrev t : Seen
        t = record s { used = s.used + 1; view = w; tail = tail }

        come_to : Reaches t (config w)
        come_to = by_frees s s.trace (s.used + 1) whole_mid (with_tail tail (config w)) come below frees

        pub machine_stepped : IsMachine t
        machine_stepped = record {
          opens = m.opens;
          safe = m.safe;
          at = subst (IsAt t) (sym running) (let now : IsLive t = record { reached = come_to; ordered = ordered; ready = ready; last = last; within = below } in now);
        }

        pub has_stepped : HasStepped (progress s) (progress t)
        has_stepped = subst (λ (x : Status). HasStepped (progress (on s x)) (progress (on t x))) (sym running) (record {
          same = record { setting = refl; call = refl; contract = refl; func = refl };
          trace = refl;
          used = refl;
          depth = refl;
          turn = moved_among s.setting (innermost s) s.outer (with_tail s.tail (config s.view)) whole_mid (with_tail tail (config w)) joined_one frees (pauses_live t m.safe (record { reached = come_to; ordered = ordered; ready = ready; last = last; within = below }));
          goes_on = tt;
        })

    module _ (w : View) (code : TrapCode) (one : Reduces s.contract (config s.view) 1 (Trap (state w) code)) where
      abbrev u : Seen
      u = record s { used = s.used + 1; view = w; status = status.Fallen code }

      pub machine_fell : IsMachine u
      machine_fell = record { opens = m.opens; safe = m.safe; at = record { reached = come (Trap (state w) code) one; within = below } }

      pub has_fallen : HasStepped (progress s) (progress u)
      has_fallen = subst (λ (x : Status). HasStepped (progress (on s x)) (progress u)) (sym running) (record {
        same = record { setting = refl; call = refl; contract = refl; func = refl };
        trace = refl;
        used = refl;
        depth = refl;
        turn = moved_among s.setting (innermost s) s.outer (with_tail s.tail (config s.view)) (Trap (state w) code) (Trap (state w) code) (reduces_joined s.tail s.contract 1 (config s.view) (Trap (state w) code) one) (none (Trap (state w) code))
            (pauses_fallen u m.safe code (record { reached = come (Trap (state w) code) one; within = below }));
        goes_on = tt;
      })

  -- at the end
  module _ (at_end : s.view.code ≡ []) where
    pub end_values : next s.contract (state s.view) (joined (sequence s.view) s.tail) ≡ Ended (onto s.view.stack [])
    end_values = end_values_of s (live_of s m running) at_end

    module _ (outermost : s.outer ≡ []) where
      over_so : Ends s.setting s.call.fuel s.used (levels s (with_tail s.tail (config s.view))) (Returned (result_of (onto s.view.stack []))) []
      over_so = over s.used (levels s (with_tail s.tail (config s.view))) (Returned (result_of (onto s.view.stack []))) (ap (by_next s.setting (levels s (with_tail s.tail (config s.view))).inner s.outer (state s.view)) end_values ∙ ap (returned (onto s.view.stack [])) outermost)

      whole_so : IsRun s.setting (first_of s) s.call.fuel s.trace (Returned (result_of (onto s.view.stack []))) s.used
      whole_so = is_run s.setting s.contract (first_of s) s.call.fuel s.trace s.used (levels s (with_tail s.tail (config s.view))) (Returned (result_of (onto s.view.stack []))) (live_of s m running).reached over_so

      whole_as : (r : Option Value) → r ≡ result_of (onto s.view.stack []) → IsRun s.setting (first_of s) s.call.fuel s.trace (Returned r) s.used
      whole_as r e = subst (λ (o : Option Value). IsRun s.setting (first_of s) s.call.fuel s.trace (Returned o) s.used) (sym e) whole_so

      pub machine_returned : (r : Option Value) → r ≡ result_of (onto s.view.stack []) → IsMachine (on s (status.Ended (Returned r)))
      machine_returned r e = record {
        opens = m.opens;
        safe = m.safe;
        at = record { run = whole_as r e; outermost = outermost; within = (live_of s m running).within; at_end = (record { reached = (live_of s m running).reached; ordered = (live_of s m running).ordered; ready = (live_of s m running).ready; last = (live_of s m running).last; within = (live_of s m running).within }, at_end) };
      }

      pub has_returned : (r : Option Value) → r ≡ result_of (onto s.view.stack []) → IsDone (progress s) (Returned r) (progress (on s (status.Ended (Returned r))))
      has_returned r e = subst (λ (x : Status). IsDone (progress (on s x)) (Returned r) (progress (on s (status.Ended (Returned r))))) (sym running) (record { same = refl; last = refl; whole = record { run = whole_as r e; outermost = outermost }; ends = subst (λ (o : Option Value). Ends s.setting s.call.fuel s.used (levels s (with_tail s.tail (config s.view))) (Returned o) []) (sym e) over_so })

  module _ (some_left : s.view.code ≢ []) (full : s.used ≡ s.call.fuel) where
    charged_here : IsCharged (next s.contract (state s.view) (joined (sequence s.view) s.tail))
    charged_here = charged_joined s.tail s.contract (state s.view) (sequence s.view) (by_code s.view.code refl)
      where
        by_code : (is : List Item) → s.view.code ≡ is → IsCharged (next s.contract (state s.view) (sequence s.view))
        by_code [] e = absurd (some_left e)
        by_code (i ∷ is) e = is_charged s.contract s.view i is fine e

    pub is_shut : IsShut s
    is_shut = shut_now s (live_of s m running) full charged_here

    charged_move : IsChargedMove (move s.setting (levels s (with_tail s.tail (config s.view))))
    charged_move = charged_lifted s.setting (innermost s) s.outer (state s.view) (joined (sequence s.view) s.tail) charged_here

    -- it may be left, or it is the end
    pub stops_here : IsToStop (progress s) s.status
    stops_here = subst (λ (x : Status). IsToStop (progress (on s x)) x) (sym running) charged_move

-- the fuel is out at the outer level, or the others are left
module _ (s : Seen) (opens : opening s.setting s.call ≡ Opens s.first s.func) (safe : IsSafe s.setting (first_of s) s.call.fuel) (shut : IsShut s) (outermost : s.outer ≡ []) where
  pub machine_exhausted : IsMachine (on s (status.Ended OutOfFuel))
  machine_exhausted = record { opens = opens; safe = safe; at = record { run = shut_whole s shut outermost; outermost = outermost; within = (let full = shut.out in omega (arith, full)); at_end = tt } }

  -- where an instruction is to come, or a level was left so before
  pub ends_out : IsToStop (progress s) s.status → EndsAt (progress s) OutOfFuel s.status
  ends_out stops = by_status s.status stops
    where
      by_status : (x : Status) → IsToStop (progress (on s x)) x → EndsAt (progress (on s x)) OutOfFuel x
      by_status status.Running charged =
          subst (λ (marks : List TraceStep). Ends s.setting s.call.fuel s.used (progress (on s status.Running)).config OutOfFuel marks) (ap (λ (ls : List Level). replicate (length ls) Dropped) outermost)
          (subst (λ (n : ℕ). Ends s.setting s.call.fuel n (progress (on s status.Running)).config OutOfFuel (closing (progress (on s status.Running)).config)) (sym shut.out) (exhausted (progress (on s status.Running)).config charged))
      by_status (status.Fallen code) never = absurd never
      by_status (status.Asking op) never = absurd never
      by_status status.Closing never = tt
      by_status (status.Ended o) never = absurd never
      by_status status.NoMemory never = absurd never

  last_out : IsToStop (progress s) s.status → IsLast s.status (config_of s) (config_of (on s (status.Ended OutOfFuel)))
  last_out stops = by_status s.status stops
    where
      by_status : (x : Status) → IsToStop (progress (on s x)) x → IsLast x (config_of (on s x)) (config_of (on s (status.Ended OutOfFuel)))
      by_status status.Running charged = refl
      by_status (status.Fallen code) never = absurd never
      by_status (status.Asking op) never = absurd never
      by_status status.Closing never = sym (state_at s.view s.tail s.asked status.Closing)
      by_status (status.Ended o) never = absurd never
      by_status status.NoMemory never = absurd never

  pub has_exhausted : IsToStop (progress s) s.status → IsDone (progress s) OutOfFuel (progress (on s (status.Ended OutOfFuel)))
  has_exhausted stops = record { same = refl; last = last_out stops; whole = record { run = shut_whole s shut outermost; outermost = outermost }; ends = ends_out stops }

-- a trap of the outer level is told
module _ (s : Seen) (m : IsMachine s) (code : TrapCode) (fallen : s.status ≡ status.Fallen code) where
  pub is_fallen : IsFallen s code
  is_fallen = subst (IsAt s) fallen m.at

  module _ (outermost : s.outer ≡ []) where
    over_trapped : Ends s.setting s.call.fuel s.used (levels s (Trap (state s.view) code)) (Trapped code) []
    over_trapped = over s.used (levels s (Trap (state s.view) code)) (Trapped code) (ap (spec.fallen code) outermost)

    whole_trapped : IsRun s.setting (first_of s) s.call.fuel s.trace (Trapped code) s.used
    whole_trapped = is_run s.setting s.contract (first_of s) s.call.fuel s.trace s.used (levels s (Trap (state s.view) code)) (Trapped code) is_fallen.reached over_trapped

    pub machine_told : IsMachine (on s (status.Ended (Trapped code)))
    machine_told = record { opens = m.opens; safe = m.safe; at = record { run = whole_trapped; outermost = outermost; within = is_fallen.within; at_end = tt } }

    pub has_told : IsDone (progress s) (Trapped code) (progress (on s (status.Ended (Trapped code))))
    has_told = subst (λ (x : Status). IsDone (progress (on s x)) (Trapped code) (progress (on s (status.Ended (Trapped code))))) (sym fallen) (record { same = refl; last = refl; whole = record { run = whole_trapped; outermost = outermost }; ends = over_trapped })

-- an end is told again
pub has_ended : (s : Seen) → IsMachine s → (o : Outcome) → s.status ≡ status.Ended o → IsDone (progress s) o (progress s)
has_ended s m o e = subst (λ (x : Status). IsAt s x → IsDone (progress (on s x)) o (progress (on s x))) (sym e) (λ over. record { same = refl; last = refl; whole = record { run = over.run; outermost = over.outermost }; ends = tt }) m.at

-- the topmost value, or none
pub result_last : (xs : List Value) → slice_get xs (length xs - 1) ≡ result_of (onto xs [])
result_last [] = refl
result_last (x ∷ xs) = ap (λ n. slice_get (x ∷ xs) n) (let e : length (x ∷ xs) - 1 ≡ length xs = omega arith in e) ∙ from x xs []
  where
    from : (x : Value) (xs acc : List Value) → slice_get (x ∷ xs) (length xs) ≡ result_of (onto xs (x ∷ acc))
    from x [] acc = refl
    from x (y ∷ xs) acc = from y xs (x ∷ acc)
