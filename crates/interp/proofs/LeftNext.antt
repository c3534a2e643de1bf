-- Whether the innermost level is left next.
use Rattle.std.proofs.Common.{◌≡◌, ◌≢◌, ℕ, ℤ, Bool, true, false, true≢false, refl, List, [], ◌∷◌, length, sym, ap, ◌∙◌, subst, arith}
use Rattle.std.specs.Prelude.{◌↔◌, IsTrue}
use Rattle.wtypes.specs.declared.TrapCode.{TrapCode}
use Rattle.spec_ledger.specs.declared.Outcome.{Outcome}
use Rattle.spec_ledger.specs.declared.Outcome.TheVariants.{Returned, Trapped}
use Rattle.spec_ledger.specs.declared.TraceStep.{TraceStep}
use Rattle.spec_execution.specs.Configuration.{Setting, State, Config, Running, Trap}
use Rattle.spec_execution.specs.Reduction.{Of, Ask, Answer, Next, Goes, Traps, Asks, Branches, Returns, Ended, Stuck}
use Rattle.spec_execution.specs.Run.{next, result_of}
use Rattle.spec_execution.specs.Levels.{Level, Levels, Move, On, Over, Nowhere, move, by_next, returned, fallen, back_by, back_to, IsChargedMove}
use Rattle.interp.specs.declared.turns.Status.{Status}
use Rattle.interp.specs.declared.turns.Status.TheVariants as status
use Rattle.interp.specs.Progress.{IsLeftNext, IsToStop, GoesOn, mark_of}
use Rattle.interp.specs.Machine.{Seen, levels, config_at, config_of, progress, IsMachine, IsLeaving}
use Rattle.laws_reduction.specs.Meaning.{Item, config, state}
use Rattle.laws_reduction.specs.Plain.{onto}
use Rattle.laws_reduction.specs.Tails.{with_tail}
use Rattle.interp.proofs.Around.{some_around}
use Rattle.interp.proofs.Turning.{end_values}
use Rattle.interp.proofs.Leaving.{leaving_kept, leaving_dropped}
use Rattle.interp.proofs.Outlook.{charged_move}

-- a level that is left, where the one around it is not stuck, leads to another configuration
module _ (setting : Setting) (a : Levels) (safe : move setting a ≡ Nowhere → ⊥) (l : Level) (outer : List Level) (told : ℕ) (answer : ℤ) (mark : TraceStep) where
  abbrev IsOn : Type 0
  IsOn = (b : Levels) × (move setting a ≡ On 0 (mark ∷ []) b)

  on_next : (s : State) (x : Next) → move setting a ≡ back_by l outer s told answer mark x → IsOn
  on_next s (Asks (Ask n e v) go) h = (_, h)
  on_next s (Asks (Of op) go) h = absurd (safe h)
  on_next s (Asks Answer go) h = absurd (safe h)
  on_next s (Goes charge s' q) h = absurd (safe h)
  on_next s (Traps charge t) h = absurd (safe h)
  on_next s (Branches charge k vs) h = absurd (safe h)
  on_next s (Returns charge vs) h = absurd (safe h)
  on_next s (Ended vs) h = absurd (safe h)
  on_next s Stuck h = absurd (safe h)

  pub on_back : (x : Config) → move setting a ≡ back_to l outer told answer mark x → IsOn
  on_back (Running s q) h = on_next s (next l.contract s q) h
  on_back (Trap s t) h = absurd (safe h)

-- by `leaving_kept` and `leaving_dropped` of Leaving
pub left_next : (s : Seen) (told : ℕ) (answer : ℤ) (keep : Bool) → IsLeaving s told answer keep → IsLeftNext (progress s)
left_next s told answer keep leaving =
    let there = on_back s.setting (levels s (config_of s)) (λ h. leaving.safe s.trace s.used (levels s (config_of s)) leaving.reached h) leaving.around leaving.others told answer (mark_of keep) leaving.around.config leaving.next in
    record { mark = mark_of keep; next = there.0; free = there.1 }

-- ---- it is not

charged_no_free : (m : Move) (mark : TraceStep) (b : Levels) → IsChargedMove m → m ≡ On 0 (mark ∷ []) b → ⊥
charged_no_free m mark b h e = let never : 0 ≡ 1 = subst IsChargedMove e h in omega (arith, never)

-- where an instruction is to come, as `stops_here` of Turning says
pub not_left_running : (s : Seen) → s.status ≡ status.Running → IsToStop (progress s) s.status → IsLeftNext (progress s) → ⊥
not_left_running s running stops left = charged_no_free _ left.mark left.next (subst (IsToStop (progress s)) running stops) left.free

-- where it is the end, as `ends_returned` of Outlook and `fallen` say
pub not_left_over : (s : Seen) (o : Outcome) → move s.setting (levels s (config_of s)) ≡ Over o → IsLeftNext (progress s) → ⊥
not_left_over s o over left = let no : Over o ≡ On 0 (left.mark ∷ []) left.next = sym over ∙ left.free in cc

-- where there is no level around
pub not_left_alone : (s : Seen) → IsMachine s → s.outer ≡ [] → GoesOn s.status → IsLeftNext (progress s) → ⊥
not_left_alone s m outermost goes left = by_status s.status goes refl
  where
    by_code : (is : List Item) → s.view.code ≡ is → s.status ≡ status.Running → ⊥
    by_code [] at_end running =
        not_left_over s (Returned (result_of (onto s.view.stack [])))
        (ap (λ (x : Status). move s.setting (levels s (with_tail s.tail (config_at s.view s.asked x)))) running
        ∙ ap (by_next s.setting (levels s (with_tail s.tail (config s.view))).inner s.outer (state s.view)) (end_values s m running at_end)
        ∙ ap (returned (onto s.view.stack [])) outermost) left
    by_code (i ∷ is) some running =
        charged_no_free _ left.mark left.next (charged_move s m running (λ e. let none = ap length (sym some ∙ e) in omega (arith, none)))
        (ap (λ (x : Status). move s.setting (levels s (with_tail s.tail (config_at s.view s.asked x)))) (sym running) ∙ left.free)

    by_status : (x : Status) → GoesOn x → s.status ≡ x → ⊥
    by_status status.Running g e = by_code s.view.code refl e
    by_status (status.Fallen t) g e =
        not_left_over s (Trapped t) (ap (λ (x : Status). move s.setting (levels s (with_tail s.tail (config_at s.view s.asked x)))) e ∙ ap (fallen t) outermost) left
    by_status (status.Asking op) g e = absurd g
    by_status status.Closing g e = absurd g
    by_status (status.Ended o) g e = absurd g
    by_status status.NoMemory g e = absurd g

-- where there is one, and the run goes on, by whether code is left
pub left_by_code : (s : Seen) → IsMachine s → s.status ≡ status.Running → (s.outer ≡ [] → ⊥) → (b : Bool) → (b ≡ true → s.view.code ≡ []) → (b ≡ false → s.view.code ≢ []) → IsTrue b ↔ IsLeftNext (progress s)
left_by_code s m running around true empty some = (λ e. left_next s 0 _ true (leaving_kept s m running (empty refl) (some_around s.outer around) _ refl), λ l. refl)
left_by_code s m running around false empty some = (
  λ e. absurd (true≢false (sym e)),
  λ left. absurd (charged_no_free _ left.mark left.next (charged_move s m running (some refl)) (ap (λ (x : Status). move s.setting (levels s (with_tail s.tail (config_at s.view s.asked x)))) (sym running) ∙ left.free)),
)

pub left_fallen : (s : Seen) → IsMachine s → (t : TrapCode) → s.status ≡ status.Fallen t → (s.outer ≡ [] → ⊥) → IsLeftNext (progress s)
left_fallen s m t e around = left_next s _ _ false (leaving_dropped s m t e (some_around s.outer around))
