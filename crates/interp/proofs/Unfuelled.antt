-- A call without fuel is out of fuel at once, where the function that runs first has an instruction.
use Rattle.std.proofs.Common.{◌≡◌, ◌≢◌, ℕ, zero, suc, ◌+◌, Bool, true, false, cond, List, [], ◌∷◌, ◌++◌, length, map, reverse, take, drop, nat_le, refl, sym, ap, subst, arith, Option, Some, None}
use Rattle.std.specs.Prelude.{unwrap_or}
use Rattle.wtypes.specs.declared.Value.{Value}
use Rattle.spec_modules.specs.Syntax.{Instr, Instrs, nothing, seq}
use Rattle.spec_ledger.specs.declared.Outcome.TheVariants.{OutOfFuel}
use Rattle.spec_execution.specs.Configuration.{Setting, Contract, Function, Hosted, Defined, function_at, function_type, Seq, End, Val, Code, Label, Frame, Invoke, code, values, arguments, instr_size, State, Running, fresh}
use Rattle.spec_execution.specs.Reduction.{Next, Goes, Traps, Asks, Branches, Returns, Ended, Stuck, with_values, found, zero_of, invoke, execute, in_label, in_frame, reduce}
use Rattle.spec_execution.specs.Run.{ContractCall, next, opening, Opens, after_start}
use Rattle.spec_execution.specs.Levels.{Level, Nowhere, by_next, alone, first_level, IsChargedMove, Reached, at_first, moved, exhausted, IsRun, IsSafe, RunsWith, ran}
use Rattle.spec_execution.specs.Places.{body_of, body_of_function}
use Rattle.laws_soundness.proofs.Weighing.{weight, free_weight, Lighter, one}
use Rattle.interp.specs.Starting.{first_to_run, HasCode}

-- ---- what comes next is charged, seen from inside

abbrev Charges : Next → Type 0
Charges (Goes charge s q) = charge ≡ 1
Charges (Traps charge t) = charge ≡ 1
Charges (Branches charge l vs) = charge ≡ 1
Charges (Returns charge vs) = charge ≡ 1
Charges (Asks w go) = ⊥
Charges (Ended vs) = ⊥
Charges Stuck = Unit {0}

of_lighter : (m : ℕ) (x : Next) → Lighter 1 m x → Charges x
of_lighter m (Goes charge s q) h = h.0
of_lighter m (Traps charge t) h = h
of_lighter m (Branches charge l vs) h = h
of_lighter m (Returns charge vs) h = h
of_lighter m (Asks w go) h = absurd h
of_lighter m (Ended vs) h = absurd h
of_lighter m Stuck h = tt

by_top : (n : ℕ) (vs : List Value) (go : List Value → List Value → Next) → ((top below : List Value) → Charges (go top below)) → Charges (with_values n vs go)
by_top n vs go h = by_test (nat_le n (length vs))
  where
    by_test : (b : Bool) → Charges (cond b (go (take n vs) (drop n vs)) Stuck)
    by_test true = h (take n vs) (drop n vs)
    by_test false = tt

label_charges : (s : State) (n at : ℕ) (k : Instrs) (vs : List Value) (rest : Seq) (x : Next) → Charges x → Charges (in_label s n at k vs rest x)
label_charges s n at k vs rest (Goes charge s' q) h = h
label_charges s n at k vs rest (Traps charge t) h = h
label_charges s n at k vs rest (Asks w go) h = absurd h
label_charges s n at k vs rest (Branches charge zero ws) h = by_top n ws (λ top below. Goes charge s (values vs (values top (code at k rest)))) (λ top below. h)
label_charges s n at k vs rest (Branches charge (suc l) ws) h = h
label_charges s n at k vs rest (Returns charge ws) h = h
label_charges s n at k vs rest (Ended ws) h = absurd h
label_charges s n at k vs rest Stuck h = tt

frame_charges : (s : State) (f n : ℕ) (locals vs : List Value) (rest : Seq) (x : Next) → Charges x → Charges (in_frame s f n locals vs rest x)
frame_charges s f n locals vs rest (Goes charge s' q) h = h
frame_charges s f n locals vs rest (Traps charge t) h = h
frame_charges s f n locals vs rest (Asks w go) h = absurd h
frame_charges s f n locals vs rest (Branches charge l ws) h = tt
frame_charges s f n locals vs rest (Returns charge ws) h = by_top n ws (λ top below. Goes charge s (values vs (values top rest))) (λ top below. h)
frame_charges s f n locals vs rest (Ended ws) h = absurd h
frame_charges s f n locals vs rest Stuck h = tt

-- It is a free reduction behind which an instruction of the code is to come, or it is stuck.
abbrev Begins : Contract → State → Next → Type 0
Begins c s (Goes charge s' q) = (charge ≡ 0) × Charges (next c s' q)
Begins c s Stuck = Unit {0}
Begins c s _ = ⊥

module _ (c : Contract) (s : State) where
  -- ---- in a frame with code

  code_charges : (frames : ℕ) (s' : State) (at : ℕ) (i : Instr) (vs : List Value) (rest : Seq) → Charges (reduce c frames s' vs (Code at i rest))
  unfolding reduce
  code_charges frames s' at i vs rest = of_lighter (free_weight i + weight rest) (execute c s' 1 at i vs rest) (one c 1 (free_weight i + weight rest) s' at i vs rest (omega arith)).is

  behind_values : (frames : ℕ) (ws vs : List Value) (q : Seq) → ((us : List Value) → Charges (reduce c frames s us q)) → Charges (reduce c frames s vs (values ws q))
  unfolding reduce
  behind_values frames [] vs q h = h vs
  behind_values frames (w ∷ ws) vs q h = behind_values frames ws vs (Val w q) (λ us. h (w ∷ us))

  in_body : (frames f n m at : ℕ) (locals us : List Value) (k : Instrs) (o : ℕ) (i : Instr) (is after rest : Seq) → Charges (reduce c frames s us (Frame f n locals (Label m at k (Code o i is) after) rest))
  unfolding reduce
  in_body frames f n m at locals us k o i is after rest =
      frame_charges s f n locals us rest _ (label_charges (record s { locals = locals }) m at k [] after _ (code_charges (frames + 1) (record s { locals = locals }) o i [] is))

  of_body : (b : Instrs) → b ≢ nothing → (f n m : ℕ) (locals below : List Value) (rest : Seq) → Charges (next c s (values below (Frame f n locals (Label m 0 nothing (code 0 b End) End) rest)))
  of_body nothing h f n m locals below rest = absurd (h refl)
  of_body (seq i is) h f n m locals below rest = behind_values 0 below [] _ (λ us. in_body 0 f n m 0 locals us nothing 0 i (code (0 + instr_size i) is End) End rest)

  -- ---- a call of a function with an instruction

  of_function : (f : ℕ) (rest : Seq) (vs : List Value) (o : Option Function) → body_of_function o ≢ nothing
      → Begins c s (found o (λ g. with_values (length (function_type g).params) vs (λ top below. invoke c 0 s f g (reverse top) below rest)))
  of_function f rest vs None h = absurd (h refl)
  of_function f rest vs (Some (Hosted x)) h = absurd (h refl)
  of_function f rest vs (Some (Defined t g)) h = by_test (nat_le (length t.params) (length vs))
    where
      by_test : (b : Bool) → Begins c s (cond b (invoke c 0 s f (Defined t g) (reverse (take (length t.params) vs)) (drop (length t.params) vs) rest) Stuck)
      by_test true = (refl, of_body g.body h f (length t.results) (length t.results) (reverse (take (length t.params) vs) ++ map zero_of g.locals) (drop (length t.params) vs) rest)
      by_test false = tt

  of_call : (f : ℕ) (rest : Seq) (vs : List Value) → body_of c f ≢ nothing → Begins c s (reduce c 0 s vs (Invoke f rest))
  unfolding reduce
  of_call f rest vs h = of_function f rest vs (function_at c.deployed f) h

  of_arguments : (args : List Value) (f : ℕ) (rest : Seq) (vs : List Value) → body_of c f ≢ nothing → Begins c s (reduce c 0 s vs (arguments args (Invoke f rest)))
  unfolding reduce
  of_arguments [] f rest vs h = of_call f rest vs h
  of_arguments (v ∷ args) f rest vs h = of_arguments args f rest (v ∷ vs) h

  of_start : (start : Option ℕ) (func : ℕ) (args : List Value) → body_of c (unwrap_or start func) ≢ nothing → Begins c s (next c s (after_start start (arguments args (Invoke func End))))
  of_start None func args h = of_arguments args func End [] h
  of_start (Some f) func args h = of_call f (arguments args (Invoke func End)) [] h

-- ---- the run

-- What is charged and not stuck is charged seen from outside.
charged_move : (setting : Setting) (l : Level) (s : State) (x : Next) → Charges x → by_next setting l [] s x ≢ Nowhere → IsChargedMove (by_next setting l [] s x)
charged_move setting l s (Goes charge s' q) h some = h
charged_move setting l s (Traps charge t) h some = h
charged_move setting l s (Asks w go) h some = absurd h
charged_move setting l s (Branches charge k vs) h some = absurd (some refl)
charged_move setting l s (Returns charge vs) h some = absurd (some refl)
charged_move setting l s (Ended vs) h some = absurd h
charged_move setting l s Stuck h some = absurd (some refl)

module _ (setting : Setting) (c : Contract) (func : ℕ) (args : List Value) (safe : IsSafe setting (first_level c func args) 0) where
  abbrev s : State
  s = fresh c.deployed.tree

  abbrev q : Seq
  q = after_start c.deployed.tree.start (arguments args (Invoke func End))

  first_next : (x : Next) → next c s q ≡ x → Begins c s x → IsRun setting (first_level c func args) 0 [] OutOfFuel 0
  first_next (Goes charge s' q') e h =
      let free : 0 + charge ≡ 0 = let none : charge ≡ 0 = h.0 in omega arith in
      let made : Reached setting (first_level c func args) 0 [] (0 + charge) (alone c (Running s' q')) =
      moved [] 0 (first_level c func args) charge [] (alone c (Running s' q')) at_first (ap (by_next setting (first_level c func args).inner [] s) e) (omega arith) in
      let here : Reached setting (first_level c func args) 0 [] 0 (alone c (Running s' q')) = subst (λ n. Reached setting (first_level c func args) 0 [] n (alone c (Running s' q'))) free made in
      record {
        before = [];
        last = alone c (Running s' q');
        marks = [];
        reached = here;
        ends = exhausted (alone c (Running s' q')) (charged_move setting (alone c (Running s' q')).inner s' (next c s' q') h.1 (safe [] 0 (alone c (Running s' q')) here));
        trace_is = refl;
      }
  first_next Stuck e h = absurd (safe [] 0 (first_level c func args) at_first (ap (by_next setting (first_level c func args).inner [] s) e))
  first_next (Traps charge t) e h = absurd h
  first_next (Asks w go) e h = absurd h
  first_next (Branches charge l vs) e h = absurd h
  first_next (Returns charge vs) e h = absurd h
  first_next (Ended vs) e h = absurd h

  out_at_once : body_of c (first_to_run c func) ≢ nothing → IsRun setting (first_level c func args) 0 [] OutOfFuel 0
  out_at_once h = first_next (next c s q) refl (of_start c s c.deployed.tree.start func args h)

pub runs_out : (setting : Setting) (call : ContractCall) (c : Contract) (func : ℕ) → IsSafe setting (first_level c func call.args) call.fuel → opening setting call ≡ Opens c func → HasCode (Opens c func) → call.fuel ≡ 0
    → RunsWith setting call [] OutOfFuel 0
runs_out setting call c func safe opens code none =
    ran c func [] OutOfFuel 0 opens
    (subst (λ n. IsRun setting (first_level c func call.args) n [] OutOfFuel 0) (sym none)
    (out_at_once setting c func call.args (subst (λ n. IsSafe setting (first_level c func call.args) n) none safe) code))
