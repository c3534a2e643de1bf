-- A call of a function that was charged: of the module, or of the host.
use Rattle.std.proofs.Common.{◌≡◌, ◌≢◌, ℕ, ℤ, ◌+◌, ◌-◌, ◌<◌, ◌≤◌, List, [], ◌∷◌, ◌++◌, length, take, drop, refl, sym, ap, ap₂, ◌∙◌, subst, arith, Some, slice_get, length-append, append-nil}
use Rattle.std.proofs.lemmas.List.{length-take, take-append-le, drop-append-le}
use Rattle.wtypes.specs.declared.Value.{Value}
use Rattle.wtypes.specs.declared.HostCall.{HostCall}
use Rattle.wtypes.specs.declared.HostCall.TheVariants as host
use Rattle.wtypes.specs.declared.TrapCode.{TrapCode}
use Rattle.spec_ledger.specs.declared.Op.{Op}
use Rattle.spec_ledger.specs.declared.Reply.{Reply}
use Rattle.spec_ledger.specs.declared.Reply.TheVariants as reply
use Rattle.spec_ledger.specs.declared.TraceStep.{TraceStep}
use Rattle.spec_ledger.specs.declared.TraceStep.TheVariants.{Did, Opened}
use Rattle.spec_execution.specs.Configuration.{Setting, Contract, Seq, End, State, Config, Running, Trap}
use Rattle.spec_execution.specs.Reduction.{HostEffect, Of, Asks, reduce, effect_of, replied}
use Rattle.spec_execution.specs.Run.{Reduces, next, IsReply}
use Rattle.spec_execution.specs.Levels.{Level, Levels, On, by_next, move, Reached}
use Rattle.spec_execution.proofs.Lifting.{among, lifted, frees_lifted, reached_reduced, reached_replied}
use Rattle.spec_execution.proofs.Lifting.{at as at_level}
use Rattle.spec_execution.specs.Turns.{Frees, none, one_more, by_trap}
use Rattle.interp.specs.declared.turns.Turn.{Turn}
use Rattle.interp.specs.declared.turns.Turn.TheVariants as turn
use Rattle.interp.specs.declared.turns.Status.{Status}
use Rattle.interp.specs.declared.turns.Status.TheVariants as status
use Rattle.laws_reduction.specs.Meaning.{Open, View, listed, put, height, around, state, whole, config, calling, invoking, sequence, IsOrdered, IsFineCall, IsReady, ChargedCall}
use Rattle.laws_reduction.specs.Calls.{HasEntered}
use Rattle.laws_reduction.specs.Hosting.{arity_of, host_room, host_asks}
use Rattle.interp.specs.Progress as progress_of
use Rattle.interp.specs.Progress.{Pauses, IsAsking, HasMoved, HasStepped, HasAsked, HasAnswered, AnsweredAt, NextIs}
use Rattle.interp.specs.Machine.{Seen, on, first_of, levels, config_of, progress, Reaches, IsWaiting, IsAt, IsMachine, IsCalling, IsStarted, HasStarted, IsAskedFor, HasGoneOn, HasAskedFor, params_of, going_on, value_of_reply}
use Rattle.interp.specs.HostRequests.{args_taken}
use Rattle.laws_reduction.specs.Charging.{Stands_at, put-append}
use Rattle.laws_reduction.specs.Tails.{joined, with_tail, joined_next}
use Rattle.laws_reduction.specs.Joining.{reduce_joined, reduces_joined, stuck_joined, at_rest}
use Rattle.interp.proofs.Among.{moved_among}
use Rattle.interp.proofs.Turning.{innermost, live_of, by_frees, never_stuck, below, pauses_live, pauses_of}

-- the host is asked, by the innermost level
abbrev pub asking_among : (setting : Setting) (l : Level) (outer : List Level) (x : State) (q : Seq) (op : Op) (go : Reply → Seq) → next l.contract x q ≡ Asks (Of op) go → IsAsking setting (among l outer (Running x q)) op
asking_among setting l outer x q op go e = record { go = λ (r : Reply). among l outer (Running x (go r)); asks = ap (by_next setting (at_level l (Running x q)) outer x) e }

-- what a charged call leads to
pub calling_of : (s : Seen) (f : ℕ) (w : View) → IsMachine s → s.status ≡ status.Running → s.used ≢ s.call.fuel → ChargedCall s.contract s.view f w → IsCalling (record s { used = s.used + 1; view = w }) f
calling_of s f w m running left charge = record {
  opens = m.opens;
  safe = m.safe;
  reached = reached_reduced s.setting (innermost s) s.outer (first_of s) s.call.fuel s.trace s.used _ _ 1 (live_of s m running).reached (reduces_joined s.tail s.contract 1 (config s.view) (calling w f) charge.reduces) (below s m running left);
  ordered = charge.ordered;
  within = below s m running left;
}

pub fine_call : (s : Seen) (f : ℕ) → IsCalling s f → IsFineCall s.contract s.view f
fine_call s f calls = record { not_stuck = λ h. never_stuck s calls.safe _ _ _ _ calls.reached (stuck_joined s.tail s.contract (state s.view) (invoking s.view f) h) }

-- the same levels, of what is the same but for the parts of the innermost
pub same_levels : (s t : Seen) → t.contract ≡ s.contract → t.answer ≡ s.answer → t.outer ≡ s.outer → (x : Config) → levels t x ≡ levels s x
same_levels s t contract answer outer x =
    ap (λ (c : Contract). record { inner = record { contract = c; config = x; answer = t.answer }; outer = t.outer }) contract
    ∙ ap₂ (λ (a : ℤ) (ls : List Level). record { inner = record { contract = s.contract; config = x; answer = a }; outer = ls }) answer outer

-- a turn of a charged call, once its function has started
pub call_stepped : (s : Seen) (f : ℕ) (w : View) (t : Seen) → s.status ≡ status.Running → ChargedCall s.contract s.view f w → IsMachine t → IsStarted (record s { used = s.used + 1; view = w }) f t → HasStepped (progress s) (progress t)
call_stepped s f w t running charge m started = subst (λ (x : Status). HasStepped (progress (on s x)) (progress t)) (sym running) (record {
  same = record { setting = started.same.setting; call = started.same.call; contract = started.same.first; func = started.same.func };
  trace = started.same.trace;
  used = started.same.used;
  depth = ap length started.same.outer;
  turn = let same = same_levels s t started.same.contract started.same.answer started.same.outer (config_of t) in
      subst (λ (a : Levels). HasMoved s.setting (levels s (with_tail s.tail (config s.view))) [] a) (sym same)
      (moved_among s.setting (innermost s) s.outer (with_tail s.tail (config s.view)) (with_tail s.tail (calling w f)) (config_of t) (reduces_joined s.tail s.contract 1 (config s.view) (calling w f) charge.reduces) started.frees
      (subst (λ (a : Levels). Pauses s.setting a) same (subst (λ (z : Setting). Pauses z (progress t).config) started.same.setting (pauses_of t m started.goes_on))));
  goes_on = started.goes_on;
})

charged_call : (s : Seen) (f : ℕ) (w : View) → ChargedCall s.contract s.view f w → move s.setting (levels s (with_tail s.tail (config s.view))) ≡ On 1 [] (levels s (with_tail s.tail (calling w f)))
charged_call s f w charge = lifted s.setting (innermost s) s.outer (with_tail s.tail (config s.view)) (with_tail s.tail (calling w f)) 1 (reduces_joined s.tail s.contract 1 (config s.view) (calling w f) charge.reduces)

pub call_asked : (s : Seen) (f : ℕ) (w : View) (op : Op) (t : Seen) → s.status ≡ status.Running → ChargedCall s.contract s.view f w → IsAskedFor (record s { used = s.used + 1; view = w }) f op t → HasAsked (progress s) op (progress t)
call_asked s f w op t running charge asked = subst (λ (x : Status). HasAsked (progress (on s x)) op (progress t)) (sym running) (record {
  same = record { setting = asked.same.setting; call = asked.same.call; contract = asked.same.first; func = asked.same.func };
  trace = asked.same.trace;
  used = asked.same.used;
  depth = ap length asked.same.outer;
  charged = charged_call s f w charge ∙ ap (λ (a : Levels). On 1 [] a) (sym (same_levels s t asked.same.contract asked.same.answer asked.same.outer (config_of t) ∙ ap (levels s) asked.config));
  asking = asked.asking;
})

-- a turn of a charged call of `ask` or `answer`
pub call_gone : (s : Seen) (f : ℕ) (w : View) (marks : List TraceStep) (t : Seen) → ChargedCall s.contract s.view f w → HasGoneOn (record s { used = s.used + 1; view = w }) f marks t → HasMoved s.setting (levels s (with_tail s.tail (config s.view))) marks (progress t).config
call_gone s f w marks t charge gone = record { charged = levels s (with_tail s.tail (calling w f)); one = charged_call s f w charge; free = gone.free; pauses = gone.pauses }

module _ (s : Seen) (f : ℕ) (calls : IsCalling s f) where
  module _ (mid w : View) (tail : Seq) (enters : HasEntered s.contract s.view f mid) (frees : Frees s.contract (with_tail s.tail (config mid)) (with_tail tail (config w))) (ordered : IsOrdered w) (ready : IsReady w) (last : w.code ≡ [] → tail ≡ End) where
    abbrev started_seen : Seen
    started_seen = record s { view = w; tail = tail; status = status.Running }

    all_frees : Frees s.contract (with_tail s.tail (calling s.view f)) (with_tail tail (config w))
    all_frees = one_more _ _ _ (reduces_joined s.tail s.contract 0 (calling s.view f) (config mid) enters.reduces) frees

    come : Reaches started_seen (config w)
    come = by_frees s s.trace s.used _ _ calls.reached calls.within all_frees

    pub machine_started : IsMachine started_seen
    machine_started = record { opens = calls.opens; safe = calls.safe; at = record { reached = come; ordered = ordered; ready = ready; last = last; within = calls.within } }

    pub is_started : IsStarted s f started_seen
    is_started = record {
      same = record { setting = refl; call = refl; first = refl; func = refl; trace = refl; used = refl; contract = refl; answer = refl; outer = refl };
      frees = all_frees;
      at_rest = at_rest s.contract w tail (record { not_stuck = λ h. never_stuck s calls.safe _ _ _ _ come (stuck_joined tail s.contract (state w) (sequence w) h) }) ready last;
      goes_on = tt;
    }

  module _ (w : View) (t : TrapCode) (falls : Reduces s.contract (calling s.view f) 0 (Trap (state s.view) t)) (same : w ≡ s.view) where
    falls_joined : Frees s.contract (with_tail s.tail (calling s.view f)) (Trap (state s.view) t)
    falls_joined = one_more _ _ _ (reduces_joined s.tail s.contract 0 (calling s.view f) (Trap (state s.view) t) falls) (none _)

    abbrev fallen_seen : View → Seen
    fallen_seen v = record s { view = v; status = status.Fallen t }

    pub machine_trapped : IsMachine (fallen_seen w)
    machine_trapped = subst (λ (v : View). IsMachine (fallen_seen v)) (sym same) (record {
      opens = calls.opens;
      safe = calls.safe;
      at = record { reached = by_frees s s.trace s.used _ _ calls.reached calls.within falls_joined; within = calls.within };
    })

    pub is_trapped : IsStarted s f (fallen_seen w)
    is_trapped = subst (λ (v : View). IsStarted s f (fallen_seen v)) (sym same) (record {
      same = record { setting = refl; call = refl; first = refl; func = refl; trace = refl; used = refl; contract = refl; answer = refl; outer = refl };
      frees = falls_joined;
      at_rest = by_trap (state s.view) t;
      goes_on = tt;
    })

  -- a function of the host
  module _ (h : HostCall) (hosted : slice_get s.contract.deployed.hosts f ≡ Some h) (lt : f < length s.contract.deployed.hosts) where
    abbrev v : View
    v = s.view

    abbrev wish : HostEffect
    wish = effect_of s.contract.number h (drop (length v.stack - arity_of h) v.stack)

    taken : (h : HostCall) (xs : List Value) → args_taken (effect_of s.contract.number h xs) ≡ arity_of h
    taken host.Get xs = refl
    taken host.Has xs = refl
    taken host.Put xs = refl
    taken host.Del xs = refl
    taken host.Add xs = refl
    taken host.Total xs = refl
    taken host.Ask xs = refl
    taken host.Answer xs = refl

    pub room_of : height v.entries + arity_of h ≤ length v.stack
    room_of = host_room s.contract s.view f h (fine_call s f calls) calls.ordered hosted lt

    pub wish_room : (w : HostEffect) → w ≡ wish → height v.entries + args_taken w ≤ length v.stack
    wish_room w e = subst (λ (x : HostEffect). height v.entries + args_taken x ≤ length v.stack) (sym e) (subst (λ n. height v.entries + n ≤ length v.stack) (sym (taken h (drop (length v.stack - arity_of h) v.stack))) room_of)

    pub wish_asks : (w : HostEffect) → w ≡ wish → next s.contract (state v) (invoking v f) ≡ Asks w (λ r. whole v.entries (take (length v.stack - args_taken w) v.stack) v.locals (replied r (listed v.code End)))
    wish_asks w e = subst (λ (x : HostEffect). next s.contract (state v) (invoking v f) ≡ Asks x (λ r. whole v.entries (take (length v.stack - args_taken x) v.stack) v.locals (replied r (listed v.code End)))) (sym e)
        (host_asks s.contract s.view f h (fine_call s f calls) calls.ordered hosted lt
        ∙ ap (λ n. Asks wish (λ r. whole v.entries (take (length v.stack - n) v.stack) v.locals (replied r (listed v.code End)))) (sym (taken h (drop (length v.stack - arity_of h) v.stack))))

  -- the host is asked
  module _ (op : Op) (room : height s.view.entries + params_of op ≤ length s.view.stack) (asks : next s.contract (state s.view) (invoking s.view f) ≡ Asks (Of op) (going_on s.view op)) where
    abbrev asked_seen : Seen
    asked_seen = record s { status = status.Asking op; asked = f }

    pub machine_asking : IsMachine asked_seen
    machine_asking = record { opens = calls.opens; safe = calls.safe; at = record { reached = calls.reached; ordered = calls.ordered; within = calls.within; room = room; asks = asks } }

    pub is_asked_for : IsAskedFor s f op asked_seen
    is_asked_for = record { same = record { setting = refl; call = refl; first = refl; func = refl; trace = refl; used = refl; contract = refl; answer = refl; outer = refl }; config = refl; asking = refl }

-- ---- the host's reply

replied_is : (r : Reply) (rest : Seq) → replied r rest ≡ put (value_of_reply r) rest
replied_is reply.Nothing rest = refl
replied_is (reply.I32 x) rest = refl
replied_is (reply.I64 x) rest = refl

-- values on top of a stack, and the same values before the rest
pub whole_push : (es : List Open) (kept more locals : List Value) (x : Seq) → height es ≤ length kept → whole es (kept ++ more) locals x ≡ whole es kept locals (put more x)
whole_push es kept more locals x le =
    ap (λ b. around es b locals (put (drop (height es) (kept ++ more)) x)) (take-append-le (height es) kept more le)
    ∙ ap (λ vs. around es (take (height es) kept) locals (put vs x)) (drop-append-le (height es) kept more le)
    ∙ ap (around es (take (height es) kept) locals) (put-append (drop (height es) kept) more x)

-- parts with a reply in the place of so many arguments
module _ (v : View) (n : ℕ) (r : Reply) (room : height v.entries + n ≤ length v.stack) (ordered : IsOrdered v) (stack : List Value) (taken : stack ≡ take (length v.stack - n) v.stack ++ value_of_reply r) where
  abbrev kept : List Value
  kept = take (length v.stack - n) v.stack

  kept_high : height v.entries ≤ length kept
  kept_high = omega (arith, room, length-take (length v.stack - n) v.stack)

  pub ordered_with : IsOrdered (record v { stack = stack })
  ordered_with =
      subst (λ (x : List Value). IsOrdered (record v { stack = x })) (sym taken)
      (record { stands = Stands_at v.entries (length v.stack) _ (omega (arith, kept_high, length-append kept (value_of_reply r))) ordered.stands; each = ordered.each })

  pub config_with : config (record v { stack = stack }) ≡ Running (state v) (whole v.entries kept v.locals (replied r (listed v.code End)))
  config_with =
      ap (λ vs. config (record v { stack = vs })) taken
      ∙ ap (Running (state v))
      (whole_push v.entries kept (value_of_reply r) v.locals (listed v.code End) kept_high
      ∙ ap (whole v.entries kept v.locals) (sym (replied_is r (listed v.code End))))

module _ (s : Seen) (op : Op) (r : Reply) (m : IsMachine s) (waits : s.status ≡ status.Asking op) (fit : IsReply op r) (stack : List Value) (taken : stack ≡ take (length s.view.stack - params_of op) s.view.stack ++ value_of_reply r) where
  waiting : IsWaiting s op
  waiting = subst (IsAt s) waits m.at

  -- the parts with the reply in the place of the arguments
  pub ordered_reply : IsOrdered (record s.view { stack = stack })
  ordered_reply = ordered_with s.view (params_of op) r waiting.room waiting.ordered stack taken

  same_config : config (record s.view { stack = stack }) ≡ Running (state s.view) (going_on s.view op r)
  same_config = config_with s.view (params_of op) r waiting.room waiting.ordered stack taken

  joined_asks : next s.contract (state s.view) (joined (invoking s.view s.asked) s.tail) ≡ Asks (Of op) (λ x. joined (going_on s.view op x) s.tail)
  joined_asks = reduce_joined s.tail s.contract 0 (state s.view) [] (invoking s.view s.asked) ∙ ap (joined_next s.tail (λ ws. reduce s.contract 0 (state s.view) ws s.tail)) waiting.asks

  module _ (w : View) (tail : Seq) (frees : Frees s.contract (with_tail s.tail (config (record s.view { stack = stack }))) (with_tail tail (config w))) (ordered : IsOrdered w) (ready : IsReady w) (last : w.code ≡ [] → tail ≡ End) (trace : List TraceStep) (recorded : trace ≡ s.trace ++ Did op r ∷ []) where
    freed : Frees s.contract (Running (state s.view) (joined (going_on s.view op r) s.tail)) (with_tail tail (config w))
    freed = subst (λ (x : Config). Frees s.contract (with_tail s.tail x) (with_tail tail (config w))) same_config frees

    come_back : Reached s.setting (first_of s) s.call.fuel trace s.used (levels s (with_tail tail (config w)))
    come_back = subst (λ (t : List TraceStep). Reached s.setting (first_of s) s.call.fuel t s.used (levels s (with_tail tail (config w)))) (sym recorded)
        (by_frees s _ s.used _ _ (reached_replied s.setting (innermost s) s.outer (first_of s) s.call.fuel s.trace s.used _ _ op _ r waiting.reached joined_asks fit) waiting.within freed)

    abbrev answered_seen : Seen
    answered_seen = record s { trace = trace; view = w; tail = tail; status = status.Running }

    pub machine_answered : IsMachine answered_seen
    machine_answered = record { opens = m.opens; safe = m.safe; at = record { reached = come_back; ordered = ordered; ready = ready; last = last; within = waiting.within } }

    pub has_answered : HasAnswered (progress s) r (progress answered_seen)
    has_answered = subst (λ (x : Status). AnsweredAt (progress (on s x)) r (progress answered_seen) x) (sym waits) (record {
      same = record { setting = refl; call = refl; contract = refl; func = refl };
      trace = recorded;
      used = refl;
      depth = refl;
      asked = asking_among s.setting (innermost s) s.outer (state s.view) (joined (invoking s.view s.asked) s.tail) op (λ x. joined (going_on s.view op x) s.tail) joined_asks;
      frees = frees_lifted s.setting (innermost s) s.outer _ _ freed;
      pauses = pauses_live answered_seen m.safe (record { reached = come_back; ordered = ordered; ready = ready; last = last; within = waiting.within });
      running = refl;
    })

-- the turns of a charged call, by what they answer
pub asked_turn : (s : Seen) (f : ℕ) (w : View) (a : Turn) (t : Seen) → s.status ≡ status.Running → ChargedCall s.contract s.view f w → HasAskedFor (record s { used = s.used + 1; view = w }) f a t → NextIs (progress s) a (progress t)
asked_turn s f w turn.Stepped t running charge h = subst (λ (x : Status). HasStepped (progress (on s x)) (progress t)) (sym running)
    (record { same = record { setting = h.call.setting; call = h.call.call; contract = h.call.contract; func = h.call.func }; trace = h.trace ∙ append-nil s.trace; used = h.used; depth = omega (arith, h.depth); turn = call_gone s f w [] t charge h; goes_on = h.goes_on })
asked_turn s f w (turn.Host op) t running charge h = call_asked s f w op t running charge h
asked_turn s f w turn.Enter t running charge h = subst (λ (x : Status). progress_of.HasEntered (progress (on s x)) (progress t)) (sym running)
    (record { same = record { setting = h.call.setting; call = h.call.call; contract = h.call.contract; func = h.call.func }; trace = h.trace; used = h.used; depth = h.depth; turn = call_gone s f w (Opened ∷ []) t charge h; goes_on = h.goes_on })
asked_turn s f w (turn.Leave keep) t running charge h = absurd h
asked_turn s f w turn.NoMemory t running charge h = h
asked_turn s f w (turn.Done o) t running charge h = absurd h

pub started_turn : (s : Seen) (f : ℕ) (w : View) (a : Turn) (t : Seen) → s.status ≡ status.Running → ChargedCall s.contract s.view f w → IsMachine t → HasStarted (record s { used = s.used + 1; view = w }) f a t → NextIs (progress s) a (progress t)
started_turn s f w turn.Stepped t running charge m h = call_stepped s f w t running charge m h
started_turn s f w (turn.Host op) t running charge m h = absurd h
started_turn s f w turn.Enter t running charge m h = absurd h
started_turn s f w (turn.Leave keep) t running charge m h = absurd h
started_turn s f w turn.NoMemory t running charge m h = h
started_turn s f w (turn.Done o) t running charge m h = absurd h
