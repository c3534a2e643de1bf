-- The instruction to come, where memory may be refused for it.
use Rattle.std.proofs.Common.{◌≡◌, ◌≢◌, ℕ, List, [], ◌∷◌, take, drop, refl, sym, ap, ◌∙◌, subst, arith}
use Rattle.wtypes.specs.declared.Value.{Value}
use Rattle.spec_execution.specs.Configuration as c
use Rattle.spec_execution.specs.Configuration.{Seq, End, Val, Code}
use Rattle.interp.specs.declared.turns.Status.{Status}
use Rattle.interp.specs.declared.turns.Status.TheVariants as status
use Rattle.laws_reduction.specs.Meaning.{Item, Scope, Block, Loop, Frame, Open, put, outer, item, height, around, whole, sequence, listed}
use Rattle.laws_reduction.specs.Tails.{joined}
use Rattle.interp_steps.specs.Steps.{MayTake}
use Rattle.interp.specs.Progress.{instr_in, MayTakeMemory}
use Rattle.interp.specs.Machine.{Seen, on, progress, IsMachine}
use Rattle.interp.proofs.Showing.{Stops, stops_whole}
use Rattle.interp.proofs.Turning.{live_of}

instr_put : (ws : List Value) (x : Seq) → instr_in (put ws x) ≡ instr_in x
instr_put [] x = refl
instr_put (w ∷ ws) x = instr_put ws x

instr_around : (es : List Open) (below locals : List Value) (x : Seq) → instr_in (around es below locals x) ≡ instr_in x
instr_around [] below locals x = refl
instr_around (e ∷ es) below locals x =
    instr_around es (take (height es) below) (outer e.scope locals) (put (drop (height es) below) (item e.scope e.ordinal e.arity e.from locals x))
    ∙ instr_put (drop (height es) below) (item e.scope e.ordinal e.arity e.from locals x)
    ∙ inside e.scope e.ordinal e.arity e.from
  where
    inside : (k : Scope) (o n : ℕ) (is : List Item) → instr_in (item k o n is locals x) ≡ instr_in x
    inside Block o n is = refl
    inside Loop o n is = refl
    inside (Frame f saved) o n is = refl

instr_whole : (es : List Open) (stack locals : List Value) (x : Seq) → instr_in (whole es stack locals x) ≡ instr_in x
instr_whole es stack locals x = instr_around es (take (height es) stack) locals (put (drop (height es) stack) x) ∙ instr_put (drop (height es) stack) x

instr_joined : (tail q : Seq) → Stops q → instr_in (joined q tail) ≡ instr_in q
instr_joined tail End h = absurd h
instr_joined tail (Val v rest) h = instr_joined tail rest h
instr_joined tail (Code n i rest) h = refl
instr_joined tail (c.Free i rest) h = refl
instr_joined tail (c.Label n at k inside rest) h = refl
instr_joined tail (c.Frame f n ls inside rest) h = refl
instr_joined tail (c.Invoke f rest) h = refl

-- a turn of a run that goes on, by an instruction that may take memory
pub may_take : (s : Seen) → IsMachine s → s.status ≡ status.Running → s.used ≢ s.call.fuel → MayTake s.view.code → MayTakeMemory (progress s)
may_take s m running left = by_code s.view.code refl
  where
    by_code : (is : List Item) → s.view.code ≡ is → MayTake is → MayTakeMemory (progress s)
    by_code [] e takes = absurd takes
    by_code (i ∷ is) e takes = subst (λ (x : Status). MayTakeMemory (progress (on s x))) (sym running) (record {
      fuel = let within = (live_of s m running).within in omega arith;
      instr = i.instr;
      to_come = instr_joined s.tail (sequence s.view) (stops_whole s.view.entries s.view.stack s.view.locals (listed s.view.code End) (subst (λ (xs : List Item). Stops (listed xs End)) (sym e) tt))
          ∙ instr_whole s.view.entries s.view.stack s.view.locals (listed s.view.code End)
          ∙ ap (λ (xs : List Item). instr_in (listed xs End)) e;
      takes = takes;
    })
