-- A move charges 1 or nothing, and what is free makes the levels lighter.
use Rattle.std.proofs.Common.{◌≡◌, ℕ, zero, suc, ◌+◌, ◌*◌, ◌<◌, ◌≤◌, Bool, true, false, cond, nat_lt, ℤ, pos, List, [], ◌∷◌, length, refl, sym, ap, subst, arith, Option, Some, None, slice_get}
use Rattle.std.proofs.lemmas.Bool.Decides.{nat_tests}
use Rattle.wtypes.specs.declared.Value.{Value}
use Rattle.wtypes.specs.declared.Value.TheVariants as value
use Rattle.wtypes.specs.declared.TrapCode.{TrapCode}
use Rattle.spec_ledger.specs.declared.Op.{Op}
use Rattle.spec_ledger.specs.declared.Reply.{Reply}
use Rattle.spec_ledger.specs.declared.Reply.TheVariants as reply
use Rattle.spec_ledger.specs.declared.TraceStep.{TraceStep}
use Rattle.spec_ledger.specs.declared.TraceStep.TheVariants.{Opened, Kept, Dropped}
use Rattle.spec_ledger.specs.declared.Outcome.{Outcome}
use Rattle.spec_ledger.proofs.Traces.{IsMark}
use Rattle.spec_execution.specs.Configuration.{Setting, Contract, Seq, End, Invoke, arguments, State, Config, Running, Trap}
use Rattle.spec_execution.specs.Reduction.{Of, Ask, Answer, Next, Goes, Traps, Asks, Branches, Returns, Ended, Stuck}
use Rattle.spec_execution.specs.Run.{next, Opening, Refused, Opens, after_start, first}
use Rattle.spec_execution.specs.Levels.{Level, Levels, Move, On, Host, Over, Nowhere, move, by_next, by_config, entering, returned, fallen, back_to, back_by, asked, by_asked_contract, level_limit, trap_status, signed_of, no_answer}
use Rattle.laws_soundness.proofs.Weighing.{weight, Charge, one_unit, free, Ending, weighed}

-- ---- weight: each level weighs so many units, and a unit is worth nine of those of the level inside

abbrev units : ℕ → ℕ → ℕ
units zero unit = 0
units (suc n) unit = unit + units n unit

units_grow : (m n unit : ℕ) → m ≤ n → units m unit ≤ units n unit
units_grow zero n unit le = omega arith
units_grow (suc m) zero unit le = absurd (omega (arith, le))
units_grow (suc m) (suc n) unit le = let less = units_grow m n unit (omega (arith, le)) in omega (arith, less)

units_step : (n unit : ℕ) → units (suc n) unit ≡ unit + units n unit
units_step n unit = refl

-- with so many levels that may still be entered inside
abbrev unit : ℕ → ℕ
unit zero = 1
unit (suc n) = 9 * unit n

unit_counts : (n : ℕ) → 1 ≤ unit n
unit_counts zero = omega arith
unit_counts (suc n) = let one = unit_counts n in omega (arith, one)

-- the levels that may still be entered, with these around; the level limit is 4
abbrev room : List Level → ℕ
room [] = 4
room (_ ∷ []) = 3
room (_ ∷ _ ∷ []) = 2
room (_ ∷ _ ∷ _ ∷ []) = 1
room _ = 0

room_inside : (l : Level) (outer : List Level) → nat_lt (length outer) level_limit ≡ true → room outer ≡ suc (room (l ∷ outer))
room_inside l [] e = refl
room_inside l (_ ∷ []) e = refl
room_inside l (_ ∷ _ ∷ []) e = refl
room_inside l (_ ∷ _ ∷ _ ∷ []) e = refl
room_inside l (a ∷ b ∷ c ∷ d ∷ outer) e = absurd (grind (arith, nat_tests, e))

abbrev config_weight : Config → ℕ
config_weight (Running s q) = suc (weight q)
config_weight (Trap s t) = 0

-- levels that wait
abbrev around : List Level → ℕ
around [] = 0
around (l ∷ outer) = units (config_weight l.config) (unit (room outer)) + around outer

abbrev weight_with : Config → List Level → ℕ
weight_with x outer = units (suc (config_weight x)) (unit (room outer)) + around outer

abbrev pub levels_weight : Levels → ℕ
levels_weight a = weight_with a.inner.config a.outer

-- ---- moves

-- what one is, whose levels weigh m
abbrev pub Lighter : ℕ → Move → Type 0
Lighter m (On charge [] a) = Charge charge (levels_weight a < m)
Lighter m (On charge (mark ∷ []) a) = IsMark mark × (charge ≡ 0) × (levels_weight a < m)
Lighter m (On charge (mark ∷ other ∷ marks) a) = ⊥
Lighter m (Host op go) = (r : Reply) → levels_weight (go r) < m
Lighter m (Over outcome) = Unit {0}
Lighter m Nowhere = Unit {0}

-- a lighter configuration of the same level
lighter : (x y : Config) (outer : List Level) → config_weight y < config_weight x → weight_with y outer < weight_with x outer
lighter x y outer lt =
    let less = units_grow (suc (suc (config_weight y))) (suc (config_weight x)) (unit (room outer)) (omega (arith, lt)) in
    let one = unit_counts (room outer) in
    omega (arith, less, one, units_step (suc (config_weight y)) (unit (room outer)))

-- back to a level that waits
lighter_back : (l : Level) (outer : List Level) (y x : Config) → config_weight y < config_weight l.config → weight_with y outer < weight_with x (l ∷ outer)
lighter_back l outer y x lt =
    let less = units_grow (suc (config_weight y)) (config_weight l.config) (unit (room outer)) (omega (arith, lt)) in
    let one = unit_counts (room (l ∷ outer)) in
    omega (arith, less, one, units_step (config_weight x) (unit (room (l ∷ outer))))

back_by_lighter : (l : Level) (outer : List Level) (s : State) (q : Seq) (status : ℕ) (answer : ℤ) (mark : TraceStep) (x : Config) (n : Next) → IsMark mark → l.config ≡ Running s q → Ending (weight q) n →
    Lighter (weight_with x (l ∷ outer)) (back_by l outer s status answer mark n)
back_by_lighter l outer s q status answer mark x (Asks (Ask c e v) go) is here g =
    let r = reply.I32 (pos status) in
    let less = g r in
    let weighs : config_weight l.config ≡ suc (weight q) = ap config_weight here in
    (is, refl, lighter_back l outer (Running s (go r)) x (omega (arith, less, weighs)))
back_by_lighter l outer s q status answer mark x (Asks (Of op) go) is here g = tt
back_by_lighter l outer s q status answer mark x (Asks Answer go) is here g = tt
back_by_lighter l outer s q status answer mark x (Goes charge s' q') is here g = tt
back_by_lighter l outer s q status answer mark x (Traps charge t) is here g = tt
back_by_lighter l outer s q status answer mark x (Branches charge k vs) is here g = tt
back_by_lighter l outer s q status answer mark x (Returns charge vs) is here g = tt
back_by_lighter l outer s q status answer mark x (Ended vs) is here g = tt
back_by_lighter l outer s q status answer mark x Stuck is here g = tt

back_lighter : (l : Level) (outer : List Level) (status : ℕ) (answer : ℤ) (mark : TraceStep) (x y : Config) → IsMark mark → l.config ≡ y → Lighter (weight_with x (l ∷ outer)) (back_to l outer status answer mark y)
back_lighter l outer status answer mark x (Running s q) is here = back_by_lighter l outer s q status answer mark x (next l.contract s q) is here (weighed l.contract 0 s [] q)
back_lighter l outer status answer mark x (Trap s t) is here = tt

returned_lighter : (vs : List Value) (outer : List Level) (x : Config) → Lighter (weight_with x outer) (returned vs outer)
returned_lighter vs [] x = tt
returned_lighter [] (l ∷ outer) x = tt
returned_lighter (v ∷ []) (l ∷ outer) x = back_lighter l outer 0 (signed_of v) Kept x l.config tt refl
returned_lighter (v ∷ w ∷ vs) (l ∷ outer) x = tt

fallen_lighter : (t : TrapCode) (outer : List Level) (x : Config) → Lighter (weight_with x outer) (fallen t outer)
fallen_lighter t [] x = tt
fallen_lighter t (l ∷ outer) x = back_lighter l outer (trap_status t) no_answer Dropped x l.config tt refl

-- a fresh level has two invocations at most
started_weighs : (start : Option ℕ) (q : Seq) → weight (after_start start q) ≤ 3 + weight q
started_weighs None q = omega arith
started_weighs (Some f) q = omega arith

first_weighs : (c : Contract) (f : ℕ) (x : ℤ) → config_weight (first c f (value.I64 x ∷ [])) ≤ 7
first_weighs c f x = let most = started_weighs c.deployed.tree.start (arguments (value.I64 x ∷ []) (Invoke f End)) in omega (arith, most)

asked_below : (setting : Setting) (level n e : ℕ) (b : Bool) (c : Contract) (f : ℕ) → cond b (by_asked_contract setting.version n e (slice_get setting.contracts n)) (Refused 11) ≡ Opens c f → b ≡ true
asked_below setting level n e true c f is = refl
asked_below setting level n e false c f is = absurd (cc)

module _ (setting : Setting) where
  module _ (l : Level) (outer : List Level) (s : State) (q : Seq) (here : l.config ≡ Running s q) where
    entered_lighter : (c : Contract) (f : ℕ) (x : ℤ) → nat_lt (length outer) level_limit ≡ true → weight_with (first c f (value.I64 x ∷ [])) (l ∷ outer) < weight_with (Running s q) outer
    entered_lighter c f x below =
        let inside : unit (room outer) ≡ 9 * unit (room (l ∷ outer)) = ap unit (room_inside l outer below) in
        let least = unit_counts (room (l ∷ outer)) in
        let most = units_grow (suc (config_weight (first c f (value.I64 x ∷ [])))) 8 (unit (room (l ∷ outer))) (let w = first_weighs c f x in omega (arith, w)) in
        let waits : units (config_weight l.config) (unit (room outer)) ≡ units (suc (weight q)) (unit (room outer)) = ap (λ (y : Config). units (config_weight y) (unit (room outer))) here in
        omega (arith, inside, least, most, waits, units_step (suc (weight q)) (unit (room outer)))

    entering_lighter : (n e : ℕ) (x : ℤ) (go : Reply → Seq) (o : Opening) → asked setting (length outer) n e ≡ o → ((r : Reply) → weight (go r) < weight q) → Lighter (weight_with (Running s q) outer) (entering l outer s go x o)
    entering_lighter n e x go (Opens c f) opens less = (tt, refl, entered_lighter c f x (asked_below setting (length outer) n e (nat_lt (length outer) level_limit) c f opens))
    entering_lighter n e x go (Refused status) opens less = free refl (lighter (Running s q) (Running s (go (reply.I32 (pos status)))) outer (let lt = less (reply.I32 (pos status)) in omega (arith, lt)))

    freely : (charge : ℕ) (y : Config) (P : Type 0) → (P → config_weight y < config_weight (Running s q)) → Charge charge P → Charge charge (weight_with y outer < weight_with (Running s q) outer)
    freely charge y P f (one_unit e) = one_unit e
    freely charge y P f (free e p) = free e (lighter (Running s q) y outer (f p))

    by_next_lighter : (n : Next) → Ending (weight q) n → Lighter (weight_with (Running s q) outer) (by_next setting l outer s n)
    by_next_lighter (Goes charge s' q') g = freely charge (Running s' q') (weight q' < weight q) (λ lt. omega (arith, lt)) g
    by_next_lighter (Traps charge t) g = freely charge (Trap s t) (Unit {0}) (λ _. omega arith) g
    by_next_lighter (Asks (Of op) go) g = λ r. lighter (Running s q) (Running s (go r)) outer (let lt = g r in omega (arith, lt))
    by_next_lighter (Asks (Ask n e x) go) g = entering_lighter n e x go (asked setting (length outer) n e) refl g
    by_next_lighter (Asks Answer go) g = free refl (lighter (Running s q) (Running s (go (reply.I64 l.answer))) outer (let lt = g (reply.I64 l.answer) in omega (arith, lt)))
    by_next_lighter (Branches charge k vs) g = tt
    by_next_lighter (Returns charge vs) g = tt
    by_next_lighter (Ended vs) g = returned_lighter vs outer (Running s q)
    by_next_lighter Stuck g = tt

  by_config_lighter : (l : Level) (outer : List Level) (x : Config) → l.config ≡ x → Lighter (weight_with x outer) (by_config setting l outer x)
  by_config_lighter l outer (Running s q) here = by_next_lighter l outer s q here (next l.contract s q) (weighed l.contract 0 s [] q)
  by_config_lighter l outer (Trap s t) here = fallen_lighter t outer (Trap s t)

  pub move_lighter : (a : Levels) → Lighter (levels_weight a) (move setting a)
  move_lighter a = by_config_lighter a.inner a.outer a.inner.config refl
