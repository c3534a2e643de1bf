-- A level that has asked goes on, and a level is left.
use Rattle.std.proofs.Common.{◌≡◌, ℕ, ℤ, pos, ◌+◌, ◌-◌, ◌≤◌, Bool, true, false, List, [], ◌∷◌, ◌++◌, length, take, refl, sym, ap, ap₂, ◌∙◌, subst, arith, append-nil, inl, inr}
use Rattle.wtypes.specs.declared.Value.{Value}
use Rattle.wtypes.specs.declared.Value.TheVariants as value
use Rattle.spec_ledger.specs.declared.Reply.{Reply}
use Rattle.spec_ledger.specs.declared.Reply.TheVariants as reply
use Rattle.spec_ledger.specs.declared.TraceStep.{TraceStep}
use Rattle.spec_ledger.specs.declared.TraceStep.TheVariants.{Opened, Kept, Dropped}
use Rattle.wtypes.specs.declared.TrapCode.{TrapCode}
use Rattle.spec_execution.specs.Configuration.{Setting, Contract, Seq, End, Invoke, Config, Running, Trap, arguments, fresh}
use Rattle.spec_execution.specs.Reduction.{HostEffect, Ask, Asks, reduce, replied}
use Rattle.spec_execution.specs.Run.{next, ContractCall, opening, Opens, Refused, after_start, first, result_of}
use Rattle.spec_execution.specs.Levels as spec
use Rattle.spec_execution.specs.Levels.{Level, Levels, Move, On, Nowhere, move, by_next, wished, asked, entering, returned, back_by, back_to, fresh_level, first_level, trap_status, no_answer, Reached, moved, IsSafe}
use Rattle.spec_execution.specs.CallStates.{FreeMoves, one_more}
use Rattle.spec_execution.specs.Turns.{Frees}
use Rattle.spec_execution.proofs.Lifting.{frees_lifted}
use Rattle.interp.specs.declared.turns.Status.{Status}
use Rattle.interp.specs.declared.turns.Status.TheVariants as status
use Rattle.laws_reduction.specs.Meaning.{View, listed, height, whole, state, config, calling, invoking, IsOrdered, IsReady}
use Rattle.laws_reduction.specs.Plain.{onto}
use Rattle.laws_reduction.specs.Tails.{joined, with_tail, joined_next}
use Rattle.laws_reduction.specs.Joining.{reduce_joined}
use Rattle.interp.specs.Progress.{Pauses, IsSameCall, HasLeft, mark_of}
use Rattle.interp.specs.HostRequests.{args_taken, number_of}
use Rattle.interp.specs.Machine.{Seen, first_of, first_config, levels, config_at, config_of, progress, IsLive, IsMachine, IsCalling, IsBegunAs, HasGoneOn, IsLeaving, IsToClose, value_of_reply}
use Rattle.interp.proofs.Turning.{innermost, live_of, end_values_of, is_fallen, pauses_live, pauses_of, by_frees, shut_more}
use Rattle.interp.proofs.Around.{IsSome}
use Rattle.interp.proofs.Asking.{ordered_with, config_with, same_levels}

-- the whole level asks, what waits behind all that is open included
pub joined_asks : (s : Seen) (f : ℕ) (w : HostEffect) (go : Reply → Seq) → next s.contract (state s.view) (invoking s.view f) ≡ Asks w go → next s.contract (state s.view) (joined (invoking s.view f) s.tail) ≡ Asks w (λ r. joined (go r) s.tail)
joined_asks s f w go e = reduce_joined s.tail s.contract 0 (state s.view) [] (invoking s.view f) ∙ ap (joined_next s.tail (λ ws. reduce s.contract 0 (state s.view) ws s.tail)) e

-- what the innermost level does that asks
pub asks_move : (s : Seen) (f : ℕ) (w : HostEffect) (go : Reply → Seq) → next s.contract (state s.view) (invoking s.view f) ≡ Asks w go →
    move s.setting (levels s (with_tail s.tail (calling s.view f))) ≡ wished s.setting (levels s (with_tail s.tail (calling s.view f))).inner s.outer (state s.view) w (λ r. joined (go r) s.tail)
asks_move s f w go e = ap (by_next s.setting (levels s (with_tail s.tail (calling s.view f))).inner s.outer (state s.view)) (joined_asks s f w go e)

-- one free move with these marks, and free reductions of the level that it leads to
module _ (s t : Seen) (a : Levels) (marks : List TraceStep) (x : Config)
    (first : move s.setting a ≡ On 0 marks (levels t x)) (frees : Frees t.contract x (config_of t)) where
  pub free_then : FreeMoves s.setting a marks (progress t).config
  free_then = subst (λ (m : List TraceStep). FreeMoves s.setting a m (progress t).config) (append-nil marks)
      (one_more a (levels t x) (progress t).config marks [] first (frees_lifted s.setting (innermost t) t.outer x (config_of t) frees))

-- the same parts of a call
pub record IsBeside (s t : Seen) (marks : List TraceStep) : Type 0 where
  pub setting : t.setting ≡ s.setting
  pub call : t.call ≡ s.call
  pub first : t.first ≡ s.first
  pub func : t.func ≡ s.func
  pub trace : t.trace ≡ s.trace ++ marks
  pub used : t.used ≡ s.used

-- A run that has come to a configuration whose next move is free comes by it, with these marks, to the innermost level of another state of the machine.
module _ (s t : Seen) (a : Levels) (marks : List TraceStep) (x : Config) (beside : IsBeside s t marks)
    (reached : Reached s.setting (first_of s) s.call.fuel s.trace s.used a) (within : s.used ≤ s.call.fuel) (first : move s.setting a ≡ On 0 marks (levels t x)) where
  pub within_beside : t.used ≤ t.call.fuel
  within_beside = subst (λ n. n ≤ t.call.fuel) (sym beside.used) (subst (λ (k : ContractCall). s.used ≤ k.fuel) (sym beside.call) within)

  pub reached_beside : Reached t.setting (first_of t) t.call.fuel t.trace t.used (levels t x)
  reached_beside =
      subst (λ n. Reached t.setting (first_of t) t.call.fuel t.trace n (levels t x)) (sym beside.used)
      (subst (λ (u : List TraceStep). Reached t.setting (first_of t) t.call.fuel u s.used (levels t x)) (sym beside.trace)
      (subst (λ f. Reached t.setting (first_level t.first f t.call.args) t.call.fuel (s.trace ++ marks) s.used (levels t x)) (sym beside.func)
      (subst (λ (c : Contract). Reached t.setting (first_level c s.func t.call.args) t.call.fuel (s.trace ++ marks) s.used (levels t x)) (sym beside.first)
      (subst (λ (k : ContractCall). Reached t.setting (first_level s.first s.func k.args) k.fuel (s.trace ++ marks) s.used (levels t x)) (sym beside.call)
      (subst (λ (z : Setting). Reached z (first_of s) s.call.fuel (s.trace ++ marks) s.used (levels t x)) (sym beside.setting)
      (subst (λ n. Reached s.setting (first_of s) s.call.fuel (s.trace ++ marks) n (levels t x)) (let same : s.used + 0 ≡ s.used = omega arith in same)
      (moved s.trace s.used a 0 marks (levels t x) reached first (omega (arith, within)))))))))

  module _ (frees : Frees t.contract x (with_tail t.tail (config t.view))) (ordered : IsOrdered t.view) (ready : IsReady t.view) (last : t.view.code ≡ [] → t.tail ≡ End) where
    pub live_then : IsLive t
    live_then = record { reached = by_frees t t.trace t.used x (with_tail t.tail (config t.view)) reached_beside within_beside frees; ordered = ordered; ready = ready; last = last; within = within_beside }

pub same_call : (s t : Seen) (marks : List TraceStep) → IsBeside s t marks → IsSameCall (progress s) (progress t)
same_call s t marks b = record { setting = b.setting; call = b.call; contract = b.first; func = b.func }

-- ---- an import that asks for no cell

-- The innermost level has asked for something that the host is not asked for, and goes on with this reply, which a free move gives it.
module _ (s : Seen) (f : ℕ) (calls : IsCalling s f) (w : HostEffect) (room : height s.view.entries + args_taken w ≤ length s.view.stack)
    (asks : next s.contract (state s.view) (invoking s.view f) ≡ Asks w (λ r. whole s.view.entries (take (length s.view.stack - args_taken w) s.view.stack) s.view.locals (replied r (listed s.view.code End))))
    (r : Reply) (answer : ℤ) (stack : List Value) (taken : stack ≡ take (length s.view.stack - args_taken w) s.view.stack ++ value_of_reply r)
    (gives : (go : Reply → Seq) → wished s.setting (levels s (with_tail s.tail (calling s.view f))).inner s.outer (state s.view) w go ≡ On 0 [] (record { inner = record { contract = s.contract; config = Running (state s.view) (go r); answer = answer }; outer = s.outer })) where
  pub ordered_on : IsOrdered (record s.view { stack = stack })
  ordered_on = ordered_with s.view (args_taken w) r room calls.ordered stack taken

  module _ (v : View) (tail : Seq) (frees : Frees s.contract (with_tail s.tail (config (record s.view { stack = stack }))) (with_tail tail (config v))) (ordered : IsOrdered v) (ready : IsReady v) (last : v.code ≡ [] → tail ≡ End) (asked : ℕ) where
    abbrev on_seen : Seen
    on_seen = record s { view = v; tail = tail; answer = answer; status = status.Running; asked = asked }

    abbrev told_config : Config
    told_config = with_tail s.tail (Running (state s.view) (whole s.view.entries (take (length s.view.stack - args_taken w) s.view.stack) s.view.locals (replied r (listed s.view.code End))))

    first_move : move s.setting (levels s (with_tail s.tail (calling s.view f))) ≡ On 0 [] (levels on_seen told_config)
    first_move = asks_move s f w _ asks ∙ gives _

    told_frees : Frees s.contract told_config (with_tail tail (config v))
    told_frees = subst (λ (x : Config). Frees s.contract (with_tail s.tail x) (with_tail tail (config v))) (config_with s.view (args_taken w) r room calls.ordered stack taken) frees

    on_live : IsLive on_seen
    on_live = live_then s on_seen (levels s (with_tail s.tail (calling s.view f))) [] told_config (record { setting = refl; call = refl; first = refl; func = refl; trace = sym (append-nil s.trace); used = refl }) calls.reached calls.within first_move told_frees ordered ready last

    pub machine_on : IsMachine on_seen
    machine_on = record { opens = calls.opens; safe = calls.safe; at = on_live }

    pub gone_on : HasGoneOn s f [] on_seen
    gone_on = record {
      call = record { setting = refl; call = refl; contract = refl; func = refl };
      trace = sym (append-nil s.trace);
      used = refl;
      depth = omega arith;
      free = free_then s on_seen (levels s (with_tail s.tail (calling s.view f))) [] told_config first_move told_frees;
      pauses = pauses_live on_seen calls.safe on_live;
      goes_on = tt;
    }

-- an `ask` that opens nothing gives the status
pub refused_move : (s : Seen) (f number export : ℕ) (argument : ℤ) (told : ℕ) → asked s.setting (length s.outer) number export ≡ Refused told → (go : Reply → Seq) →
    wished s.setting (levels s (with_tail s.tail (calling s.view f))).inner s.outer (state s.view) (Ask number export argument) go ≡ On 0 [] (record { inner = record { contract = s.contract; config = Running (state s.view) (go (reply.I32 (pos told))); answer = no_answer }; outer = s.outer })
refused_move s f number export argument told e go = ap (entering (levels s (with_tail s.tail (calling s.view f))).inner s.outer (state s.view) go argument) e

-- ---- a level is left

-- a level at its end leaves one value, since it is not stuck
returned_next : (vs : List Value) (l : Level) (outer : List Level) → (returned vs (l ∷ outer) ≡ Nowhere → ⊥) → returned vs (l ∷ outer) ≡ back_to l outer 0 (number_of (result_of vs)) Kept l.config
returned_next [] l outer safe = absurd (safe refl)
returned_next (v ∷ []) l outer safe = refl
returned_next (v ∷ w ∷ vs) l outer safe = absurd (safe refl)

pub leaving_kept : (s : Seen) (m : IsMachine s) → s.status ≡ status.Running → s.view.code ≡ [] → IsSome s.outer → (answer : ℤ) → answer ≡ number_of (result_of (onto s.view.stack [])) → IsLeaving s 0 answer true
leaving_kept s m running at_end some answer is =
    let live = live_of s m running in
    let here : levels s (config_of s) ≡ levels s (with_tail s.tail (config s.view)) = ap (λ (x : Status). levels s (with_tail s.tail (config_at s.view s.asked x))) running in
    let next_is : move s.setting (levels s (config_of s)) ≡ returned (onto s.view.stack []) (some.around ∷ some.others) =
    ap (move s.setting) here ∙ ap (by_next s.setting (levels s (with_tail s.tail (config s.view))).inner s.outer (state s.view)) (end_values_of s live at_end) ∙ ap (returned (onto s.view.stack [])) some.is in
    let reached : Reached s.setting (first_of s) s.call.fuel s.trace s.used (levels s (config_of s)) = subst (λ (a : Levels). Reached s.setting (first_of s) s.call.fuel s.trace s.used a) (sym here) live.reached in
    record {
      around = some.around;
      others = some.others;
      outer = some.is;
      next = next_is ∙ returned_next (onto s.view.stack []) some.around some.others (λ h. m.safe s.trace s.used (levels s (config_of s)) reached (next_is ∙ h)) ∙ ap (λ (x : ℤ). back_to some.around some.others 0 x Kept some.around.config) (sym is);
      opens = m.opens;
      safe = m.safe;
      reached = reached;
      within = live.within;
    }

pub leaving_dropped : (s : Seen) (m : IsMachine s) (code : TrapCode) → s.status ≡ status.Fallen code → IsSome s.outer → IsLeaving s (trap_status code) no_answer false
leaving_dropped s m code fallen some =
    let at = is_fallen s m code fallen in
    let here : levels s (config_of s) ≡ levels s (Trap (state s.view) code) = ap (λ (x : Status). levels s (with_tail s.tail (config_at s.view s.asked x))) fallen in
    record {
      around = some.around;
      others = some.others;
      outer = some.is;
      next = ap (move s.setting) here ∙ ap (spec.fallen code) some.is;
      opens = m.opens;
      safe = m.safe;
      reached = subst (λ (a : Levels). Reached s.setting (first_of s) s.call.fuel s.trace s.used a) (sym here) at.reached;
      within = at.within;
    }

-- what a level does that is left, by those around it
abbrev left_to : (status : ℕ) (answer : ℤ) (mark : TraceStep) → List Level → Move
left_to status answer mark [] = Nowhere
left_to status answer mark (l ∷ ls) = back_to l ls status answer mark l.config

-- the level around goes on from its `ask`
module _ (s : Seen) (status_is : ℕ) (answer : ℤ) (keep : Bool) (leaving : IsLeaving s status_is answer keep)
    (c : Contract) (v : View) (tail : Seq) (f : ℕ) (before : ℤ) (others : List Level) (outer_is : s.outer ≡ record { contract = c; config = with_tail tail (calling v f); answer = before } ∷ others)
    (room : height v.entries + 3 ≤ length v.stack) (ordered : IsOrdered v) (number export : ℕ) (argument : ℤ)
    (asks : next c (state v) (invoking v f) ≡ Asks (Ask number export argument) (λ r. whole v.entries (take (length v.stack - 3) v.stack) v.locals (replied r (listed v.code End))))
    (stack : List Value) (taken : stack ≡ take (length v.stack - 3) v.stack ++ value.I32 (pos status_is) ∷ []) where
  pub ordered_back : IsOrdered (record v { stack = stack })
  ordered_back = ordered_with v 3 (reply.I32 (pos status_is)) room ordered stack taken

  module _ (w : View) (rest : Seq) (frees : Frees c (with_tail tail (config (record v { stack = stack }))) (with_tail rest (config w))) (ordered_w : IsOrdered w) (ready : IsReady w) (last : w.code ≡ [] → rest ≡ End)
      (trace : List TraceStep) (recorded : trace ≡ s.trace ++ mark_of keep ∷ []) (asked : ℕ) where
    abbrev back_seen : Seen
    back_seen = record s { trace = trace; contract = c; view = w; tail = rest; answer = answer; outer = others; status = status.Running; asked = asked }

    abbrev back_config : Config
    back_config = with_tail tail (Running (state v) (whole v.entries (take (length v.stack - 3) v.stack) v.locals (replied (reply.I32 (pos status_is)) (listed v.code End))))

    -- the whole level stands at its `ask`
    whole_asks : next c (state v) (joined (invoking v f) tail) ≡ Asks (Ask number export argument) (λ r. joined (whole v.entries (take (length v.stack - 3) v.stack) v.locals (replied r (listed v.code End))) tail)
    whole_asks = reduce_joined tail c 0 (state v) [] (invoking v f) ∙ ap (joined_next tail (λ ws. reduce c 0 (state v) ws tail)) asks

    back_move : move s.setting (levels s (config_of s)) ≡ On 0 (mark_of keep ∷ []) (levels back_seen back_config)
    back_move =
        leaving.next
        ∙ ap (left_to status_is answer (mark_of keep)) (sym leaving.outer ∙ outer_is)
        ∙ ap (back_by (record { contract = c; config = with_tail tail (calling v f); answer = before }) others (state v) status_is answer (mark_of keep)) whole_asks

    back_frees : Frees c back_config (with_tail rest (config w))
    back_frees = subst (λ (x : Config). Frees c (with_tail tail x) (with_tail rest (config w))) (config_with v 3 (reply.I32 (pos status_is)) room ordered stack taken) frees

    back_live : IsLive back_seen
    back_live = live_then s back_seen (levels s (config_of s)) (mark_of keep ∷ []) back_config (record { setting = refl; call = refl; first = refl; func = refl; trace = recorded; used = refl }) leaving.reached leaving.within back_move back_frees ordered_w ready last

    pub machine_back : IsMachine back_seen
    machine_back = record { opens = leaving.opens; safe = leaving.safe; at = back_live }

    pub has_left : HasLeft (progress s) keep (progress back_seen)
    has_left = record {
      same = record { setting = refl; call = refl; contract = refl; func = refl };
      trace = recorded;
      used = refl;
      depth = (let one : length s.outer ≡ length others + 1 = omega (arith, ap length outer_is) in one);
      left = inl (record { free = free_then s back_seen (levels s (config_of s)) (mark_of keep ∷ []) back_config back_move back_frees; pauses = pauses_live back_seen leaving.safe back_live; goes_on = tt });
    }

-- ---- the fuel is out

-- the innermost level is left without what it did, and the one around it is the innermost
module _ (s : Seen) (closes : IsToClose s) (opens : opening s.setting s.call ≡ Opens s.first s.func) (safe : IsSafe s.setting (first_of s) s.call.fuel)
    (c : Contract) (v : View) (tail : Seq) (f : ℕ) (before : ℤ) (others : List Level) (outer_is : s.outer ≡ record { contract = c; config = with_tail tail (calling v f); answer = before } ∷ others)
    (trace : List TraceStep) (recorded : trace ≡ s.trace ++ Dropped ∷ []) where
  abbrev closed_seen : Seen
  closed_seen = record s { trace = trace; contract = c; view = v; tail = tail; answer = before; outer = others; status = status.Closing; asked = f }

  abbrev same_as : IsSameCall (progress s) (progress closed_seen)
  same_as = record { setting = refl; call = refl; contract = refl; func = refl }

  pub machine_closed : IsMachine closed_seen
  machine_closed = record { opens = opens; safe = safe; at = shut_more s closed_seen _ closes.shut same_as outer_is recorded refl }

  pub has_closed : HasLeft (progress s) false (progress closed_seen)
  has_closed = record {
    same = same_as;
    trace = recorded;
    used = refl;
    depth = (let one : length s.outer ≡ length others + 1 = omega (arith, ap length outer_is) in one);
    left = inr (record { dropped = refl; out = closes.shut.out; stops = closes.stops; outer = outer_is; closing = refl });
  }

-- ---- a level is entered

-- its first configuration is reached, with the level that asks around it
module _ (s : Seen) (f : ℕ) (calls : IsCalling s f) (number export : ℕ) (argument : ℤ) (c : Contract) (entry : ℕ)
    (asks : next s.contract (state s.view) (invoking s.view f) ≡ Asks (Ask number export argument) (λ r. whole s.view.entries (take (length s.view.stack - 3) s.view.stack) s.view.locals (replied r (listed s.view.code End))))
    (opens : asked s.setting (length s.outer) number export ≡ Opens c entry)
    (t : Seen) (beside : IsBeside s t (Opened ∷ [])) (contract : t.contract ≡ c) (answer : t.answer ≡ no_answer) (tail : t.tail ≡ arguments (value.I64 argument ∷ []) (Invoke entry End))
    (outer : t.outer ≡ record { contract = s.contract; config = with_tail s.tail (calling s.view f); answer = s.answer } ∷ s.outer) where
  firsts : levels t (first_config t) ≡ record { inner = fresh_level c entry (value.I64 argument ∷ []); outer = record { contract = s.contract; config = with_tail s.tail (calling s.view f); answer = s.answer } ∷ s.outer }
  firsts =
      ap (λ (q : Seq). record { inner = record { contract = t.contract; config = Running (fresh t.contract.deployed.tree) (after_start t.contract.deployed.tree.start q); answer = t.answer }; outer = t.outer }) tail
      ∙ ap (λ (k : Contract). record { inner = record { contract = k; config = first k entry (value.I64 argument ∷ []); answer = t.answer }; outer = t.outer }) contract
      ∙ ap₂ (λ (a : ℤ) (ls : List Level). record { inner = record { contract = c; config = first c entry (value.I64 argument ∷ []); answer = a }; outer = ls }) answer outer

  pub enter_move : move s.setting (levels s (with_tail s.tail (calling s.view f))) ≡ On 0 (Opened ∷ []) (levels t (first_config t))
  enter_move = asks_move s f (Ask number export argument) _ asks ∙ ap (entering (levels s (with_tail s.tail (calling s.view f))).inner s.outer (state s.view) (λ (r : Reply). joined (whole s.view.entries (take (length s.view.stack - 3) s.view.stack) s.view.locals (replied r (listed s.view.code End))) s.tail) argument) opens ∙ ap (On 0 (Opened ∷ [])) (sym firsts)

  pub reached_entered : Reached t.setting (first_of t) t.call.fuel t.trace t.used (levels t (first_config t))
  reached_entered = reached_beside s t (levels s (with_tail s.tail (calling s.view f))) (Opened ∷ []) (first_config t) beside calls.reached calls.within enter_move

  module _ (same_depth : length t.outer ≡ length s.outer + 1) (u : Seen) (begun : IsBegunAs t u) (m : IsMachine u) where
    pub entered_on : HasGoneOn s f (Opened ∷ []) u
    entered_on = record {
      call = record { setting = begun.same.setting ∙ beside.setting; call = begun.same.call ∙ beside.call; contract = begun.same.first ∙ beside.first; func = begun.same.func ∙ beside.func };
      trace = begun.same.trace ∙ beside.trace;
      used = begun.same.used ∙ beside.used;
      depth = ap length begun.same.outer ∙ same_depth;
      free = subst (λ (b : Levels). FreeMoves s.setting (levels s (with_tail s.tail (calling s.view f))) (Opened ∷ []) b) (sym (same_levels t u begun.same.contract begun.same.answer begun.same.outer (config_of u)))
          (one_more (levels s (with_tail s.tail (calling s.view f))) (levels t (first_config t)) (levels t (config_of u)) (Opened ∷ []) [] enter_move (frees_lifted s.setting (innermost t) t.outer (first_config t) (config_of u) begun.frees));
      pauses = subst (λ (z : Setting). Pauses z (progress u).config) (begun.same.setting ∙ beside.setting) (pauses_of u m begun.goes_on);
      goes_on = begun.goes_on;
    }
