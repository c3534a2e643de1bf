-- Several turns at once: what each keeps, and what they keep with the free reductions behind the last.
use Rattle.std.proofs.Common.{◌≡◌, ◌≢◌, ℕ, ◌+◌, ◌-◌, ◌≤◌, [], refl, sym, ap, subst, arith, Fits, w64}
use Rattle.spec_execution.specs.Configuration.{Contract, Seq, End}
use Rattle.spec_execution.specs.Run.{ContractCall}
use Rattle.spec_execution.specs.Turns.{Frees}
use Rattle.spec_execution.specs.Turns as free
use Rattle.laws_reduction.specs.Meaning.{View, config, IsOrdered, IsReady, Charged}
use Rattle.laws_reduction.specs.Tails.{with_tail}
use Rattle.laws_reduction.specs.Rest.{Frees_join}
use Rattle.laws_reduction.specs.Joining.{frees_joined}
use Rattle.interp_steps.specs.StraightLine.{Walks, IsSafeFor}
use Rattle.interp_steps.specs.StraightLine as walk
use Rattle.interp.specs.declared.turns.Status.TheVariants as status
use Rattle.interp.specs.Machine.{Seen, progress, IsMachine}
use Rattle.interp.specs.Turns.{AreSteps}
use Rattle.interp.specs.Turns as going
use Rattle.interp.proofs.Stepping.{steps_fuel}
use Rattle.interp.proofs.Turning.{below, safe_at, machine_stepped, has_stepped}

-- a machine that came of another by turns that stepped
pub record HasCome (s t : Seen) : Type 0 where
  pub machine : IsMachine t
  pub steps : AreSteps (progress s) (progress t)

-- one turn more, and free reductions, of which the last may be of what waits behind
pub one_turn : (s t : Seen) → HasCome s t → t.status ≡ status.Running → t.used ≢ t.call.fuel → (w x : View) (tail : Seq) → Charged t.contract t.view w → Frees t.contract (with_tail t.tail (config w)) (with_tail tail (config x)) → IsOrdered x → IsReady x → (x.code ≡ [] → tail ≡ End) → HasCome s (record t { used = t.used + 1; view = x; tail = tail })
one_turn s t come running left w x tail charged frees ordered ready last =
    let all = Frees_join _ _ _ _ (frees_joined t.tail _ _ _ charged.frees) frees in
    record {
      machine = machine_stepped t come.machine running left _ charged.reduces x tail all ordered ready last;
      steps = going.one_more _ _ _ come.steps (has_stepped t come.machine running left _ charged.reduces x tail all ordered ready last);
    }

-- the same behind so many turns
pub turn_behind : (s : Seen) (n : ℕ) (v w x : View) (tail : Seq) → s.status ≡ status.Running → s.used + (n + 1) ≤ s.call.fuel → HasCome s (record s { used = s.used + n; view = v }) → Charged s.contract v w → Frees s.contract (with_tail s.tail (config w)) (with_tail tail (config x)) → IsOrdered x → IsReady x → (x.code ≡ [] → tail ≡ End) → HasCome s (record s { used = s.used + (n + 1); view = x; tail = tail })
turn_behind s n v w x tail running within come charged frees ordered ready last =
    subst (λ (k : ℕ). HasCome s (record s { used = k; view = x; tail = tail })) (let e : (s.used + n) + 1 ≡ s.used + (n + 1) = omega arith in e)
    (one_turn s (record s { used = s.used + n; view = v }) come running (λ e. absurd (omega (arith, e, within))) w x tail charged frees ordered ready last)

module _ (s : Seen) (m : IsMachine s) (running : s.status ≡ status.Running) where
  -- turns, with an instruction to come behind the last
  pub walked : (v w : View) (n : ℕ) → Walks s.contract v n w → v ≡ s.view → w.code ≢ [] → s.used + n ≤ s.call.fuel → HasCome s (record s { used = s.used + n; view = w })
  walked _ _ _ (walk.none v) here left within =
      subst (λ (u : View). HasCome s (record s { used = s.used + 0; view = u })) (sym here)
      (subst (λ (k : ℕ). HasCome s (record s { used = k })) (let e : s.used ≡ s.used + 0 = omega arith in e) (record { machine = m; steps = going.none _ }))
  walked _ _ _ (walk.one_more v x w n steps some charged) here left within =
      turn_behind s n x w w s.tail running within (walked v x n steps here some (omega (arith, within))) charged (free.none _) charged.ordered (λ e. absurd (left e)) (λ e. absurd (left e))

  -- turns, at least one, and free reductions behind the last, of which the last may be of what waits behind
  pub walked_on : (v w : View) (n : ℕ) → Walks s.contract v n w → v ≡ s.view → n ≢ 0 → s.used + n ≤ s.call.fuel → (x : View) (tail : Seq) → Frees s.contract (with_tail s.tail (config w)) (with_tail tail (config x)) → IsOrdered x → IsReady x → (x.code ≡ [] → tail ≡ End) → HasCome s (record s { used = s.used + n; view = x; tail = tail })
  walked_on _ _ _ (walk.none v) here some within x tail frees ordered ready last = absurd (some refl)
  walked_on _ _ _ (walk.one_more v y w n steps left charged) here some within x tail frees ordered ready last =
      turn_behind s n y w x tail running within (walked v y n steps here left (omega (arith, within))) charged frees ordered ready last

  -- as far as the fuel goes, nothing that comes is stuck
  pub safe_for : IsSafeFor s.contract s.view (s.call.fuel - s.used)
  safe_for n w less steps left =
      safe_at (record s { used = s.used + n; view = w }) (walked s.view w n steps refl left (omega (arith, less))).machine running (λ e. absurd (omega (arith, e, less)))

-- where fuel is left behind turns that stepped, one unit more may be counted
pub fits_one_more : (s t : Seen) → HasCome s t → t.status ≡ status.Running → t.used ≢ t.call.fuel → Fits w64 s.call.fuel → Fits w64 (t.used + 1)
fits_one_more s t come running left fits =
    let enough = below t come.machine running left in
    let fuel : t.call.fuel ≡ s.call.fuel = ap (λ (k : ContractCall). k.fuel) (steps_fuel _ _ come.steps) in
    omega (arith, fits, enough, fuel)

-- no turn leaves the view as it is
pub unmoved : (c : Contract) (v w : View) (n : ℕ) → Walks c v n w → n ≡ 0 → w ≡ v
unmoved c _ _ _ (walk.none v) e = refl
unmoved c _ _ _ (walk.one_more v y w n steps left charged) e = absurd (omega (arith, e))
