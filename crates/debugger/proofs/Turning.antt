-- What each turn keeps.
use Rattle.std.proofs.Common.{◌≡◌, ℕ, ◌+◌, ◌<◌, ◌==◌, Bool, true, false, List, [], ◌∷◌, ◌++◌, refl, sym, ap, ap₂, ◌∙◌, subst, arith, suc, Option, Some, None, is_some, inl, inr, append_assoc, append-nil}
use Rattle.std.specs.Prelude.{◌⊎◌, reverse}
use Rattle.std.proofs.lemmas.Bool.{eq-eqb}
use Rattle.spec_ledger.specs.declared.Op.{Op}
use Rattle.spec_ledger.specs.declared.Inverse.{Inverse}
use Rattle.spec_ledger.specs.declared.Reply.{Reply}
use Rattle.spec_ledger.specs.declared.TraceStep.{TraceStep}
use Rattle.spec_ledger.specs.declared.TraceStep.TheVariants.{Did, Opened}
use Rattle.spec_ledger.specs.declared.Outcome.{Outcome}
use Rattle.spec_ledger.specs.Cells.{Cells, reply_to, cells_after}
use Rattle.spec_ledger.specs.Book.{unmarked, stepped, folded, GetsReplies}
use Rattle.spec_ledger.proofs.Traces.{IsMark, folded-append, GetsReplies-push, GetsReplies-mark}
use Rattle.spec_execution.specs.Configuration.{Setting, Contract}
use Rattle.spec_execution.specs.Run.{ContractCall, Opening, opening, Opens, IsReply}
use Rattle.spec_execution.specs.Levels.{Levels, Move, On, Host, Over, Nowhere, move, first_level, IsChargedMove, Ends, over, exhausted}
use Rattle.spec_execution.specs.Turns.{shown, place_of}
use Rattle.spec_execution.specs.CallStates.{FreeMoves, none, one_more, Rests, to_come, ended, IsTurn, IsAnswered, not_asked, asked, Turned, opened, turned}
use Rattle.interp.specs.declared.turns.Status.{Status}
use Rattle.interp.specs.declared.turns.Status.TheVariants as status
use Rattle.interp.specs.Progress.{Progress, GoesOn, Pauses, rests, leaves, IsProgress, IsProgressAt, IsOnRun, IsSameCall, IsStartOf, HasStepped, HasEntered, HasAsked, HasAnswered as HasTaken, AnsweredAt, HasReplied, HasLeft, HasGoneBack, HasClosed, IsToStop, IsDone, EndsAt, IsFree, IsLeftNext, mark_of}
use Rattle.interp.specs.MachineViews.{IsShown, ending, ending_at, ending_of, ending_by, shown_at, config_shown, place_shown, outermost}
use Rattle.interp.specs.Starting.{IsOpened}
use Rattle.debugger.specs.declared.place.Place.{Place}
use Rattle.debugger.specs.Cursors.{HasTurned, HasBegun, HasAnswered}
use Rattle.debugger.specs.Undoing.{GoBack, AreNoted}
use Rattle.debugger.specs.SessionView.{IsSessionView, session_view_of, level_shown}

on_run : (p : Progress) (x : Status) → GoesOn x → IsProgressAt p x → IsOnRun p
on_run p status.Running g h = h
on_run p (status.Fallen t) g h = h
on_run p (status.Asking op) g h = absurd g
on_run p status.Closing g h = absurd g
on_run p (status.Ended o) g h = absurd g
on_run p status.NoMemory g h = absurd g

pub is_free : (x : Status) → GoesOn x → IsFree x
is_free status.Running g = tt
is_free (status.Fallen t) g = tt
is_free (status.Asking op) g = absurd g
is_free status.Closing g = absurd g
is_free (status.Ended o) g = absurd g
is_free status.NoMemory g = absurd g

pub is_shown : (x : Status) → GoesOn x → IsShown x
is_shown status.Running g = tt
is_shown (status.Fallen t) g = tt
is_shown (status.Asking op) g = absurd g
is_shown status.Closing g = absurd g
is_shown (status.Ended o) g = absurd g
is_shown status.NoMemory g = absurd g

-- what is shown of a run that goes on does not depend on its status

module _ (p : Progress) where
  ending_by_status : (x : Status) → GoesOn x → ending_at p x ≡ ending_of p.setting p.call.fuel p.used p.config
  ending_by_status status.Running g = refl
  ending_by_status (status.Fallen t) g = refl
  ending_by_status (status.Asking op) g = absurd g
  ending_by_status status.Closing g = absurd g
  ending_by_status (status.Ended o) g = absurd g
  ending_by_status status.NoMemory g = absurd g

  pub ending_is : GoesOn p.status → ending p ≡ ending_of p.setting p.call.fuel p.used p.config
  ending_is g = ending_by_status p.status g

  shown_by_status : (x : Status) → GoesOn x → shown_at p x ≡ shown p.config.inner.contract p.call.fuel p.used p.config.inner.config
  shown_by_status status.Running g = refl
  shown_by_status (status.Fallen t) g = refl
  shown_by_status (status.Asking op) g = absurd g
  shown_by_status status.Closing g = absurd g
  shown_by_status (status.Ended o) g = absurd g
  shown_by_status status.NoMemory g = absurd g

  pub shown_is : GoesOn p.status → config_shown p ≡ shown p.config.inner.contract p.call.fuel p.used p.config.inner.config
  shown_is g = shown_by_status p.status g

  pub place_is : GoesOn p.status → place_shown p ≡ place_of (shown p.config.inner.contract p.call.fuel p.used p.config.inner.config)
  place_is g = ap place_of (shown_is g)

-- ---- the first state

pub started : (lent : Setting) (call : ContractCall) (p : Progress) → IsStartOf lent call p → IsProgress p → HasTurned p
started lent call p s m = record {
  opens = (on_run p p.status s.goes_on m.at).opens;
  turned = subst (λ (n : ℕ). Turned p.setting (first_level p.contract p.func p.call.args) p.call.fuel n p.trace p.config) (sym s.used)
      (subst (λ (t : List TraceStep). Turned p.setting (first_level p.contract p.func p.call.args) p.call.fuel 0 t p.config) (sym s.trace) (opened p.config [] s.frees s.at_rest));
  goes_on = s.goes_on;
}

pub answered_none : (t : List TraceStep) (start now : Cells) (is : List Inverse) (ms : List ℕ) → t ≡ [] → now ≡ start → ms ≡ [] → HasAnswered t start now is ms
answered_none t start now is ms no_steps same no_marks = record {
  replies = subst (λ (u : List TraceStep). GetsReplies u start) (sym no_steps) tt;
  noted = subst (λ (u : List TraceStep). AreNoted is ms now (folded cells_after u (unmarked start))) (sym no_steps)
      (record { now_is = same; back = subst (λ (x : List ℕ). GoBack is (reverse x) now []) (sym no_marks) tt });
}

opens_is : (o : Opening) (c : Contract) (f : ℕ) → o ≡ Opens c f → IsOpened o
opens_is o c f e = subst IsOpened (sym e) tt

pub is_opened : (lent : Setting) (call : ContractCall) (p : Progress) → IsStartOf lent call p → IsProgress p → IsOpened (opening lent call)
is_opened lent call p s m =
    let r : IsOnRun p = on_run p p.status s.goes_on m.at in
    opens_is (opening lent call) p.contract p.func (ap₂ opening (sym s.setting) (sym s.call_is) ∙ r.opens)

-- ---- cells that answer one step more

module _ (t u : List TraceStep) (start now next : Cells) (is js : List Inverse) (ms ns : List ℕ) (h : HasAnswered t start now is ms) where
  at_end : (s : TraceStep) → u ≡ t ++ s ∷ [] → folded cells_after u (unmarked start) ≡ stepped cells_after s (folded cells_after t (unmarked start))
  at_end s e = ap (λ (x : List TraceStep). folded cells_after x (unmarked start)) e ∙ folded-append cells_after t (s ∷ []) (unmarked start)

  pub did : (op : Op) (r : Reply) → u ≡ t ++ Did op r ∷ [] → r ≡ reply_to op now → AreNoted js ns next (stepped cells_after (Did op r) (folded cells_after t (unmarked start))) → HasAnswered u start next js ns
  did op r e reply noted = record {
    replies = subst (λ (x : List TraceStep). GetsReplies x start) (sym e) (GetsReplies-push t op r start h.replies (reply ∙ ap (reply_to op) h.noted.now_is));
    noted = subst (AreNoted js ns next) (sym (at_end (Did op r) e)) noted;
  }

  pub marked : (s : TraceStep) → IsMark s → u ≡ t ++ s ∷ [] → AreNoted js ns next (stepped cells_after s (folded cells_after t (unmarked start))) → HasAnswered u start next js ns
  marked s mark e noted = record {
    replies = subst (λ (x : List TraceStep). GetsReplies x start) (sym e) (GetsReplies-mark t s start mark h.replies);
    noted = subst (AreNoted js ns next) (sym (at_end s e)) noted;
  }

pub answered_same : (t u : List TraceStep) (start now : Cells) (is : List Inverse) (ms : List ℕ) → HasAnswered t start now is ms → u ≡ t → HasAnswered u start now is ms
answered_same t u start now is ms h e = subst (λ (x : List TraceStep). HasAnswered x start now is ms) (sym e) h

pub left_mark : (keep : Bool) → IsMark (mark_of keep)
left_mark true = tt
left_mark false = tt

-- ---- moves

frees_on : (setting : Setting) (a b d : Levels) (t u : List TraceStep) → FreeMoves setting a t b → FreeMoves setting b u d → FreeMoves setting a (t ++ u) d
frees_on setting a b d t u (none x) g = g
frees_on setting a b d t u (one_more x y z marks steps m f) g =
    subst (λ (s : List TraceStep). FreeMoves setting a s d) (sym (append_assoc marks steps u)) (one_more a y d marks (steps ++ u) m (frees_on setting y b d steps u f g))

charged_no_free : (m : Move) (marks : List TraceStep) (b : Levels) → IsChargedMove m → m ≡ On 0 marks b → ⊥
charged_no_free m marks b h e = let never : 0 ≡ 1 = subst IsChargedMove e h in omega (arith, never)

rests_no_free : (setting : Setting) (a b : Levels) (marks : List TraceStep) → Rests setting a → move setting a ≡ On 0 marks b → ⊥
rests_no_free setting a b marks (to_come x charged) e = charged_no_free (move setting a) marks b charged e
rests_no_free setting a b marks (ended x o at_end) e = let no : Over o ≡ On 0 marks b = sym at_end ∙ e in absurd (cc)

no_first : (setting : Setting) (a b : Levels) (mark : TraceStep) (t : List TraceStep) → FreeMoves setting a t b → t ≡ mark ∷ [] → Rests setting a → ⊥
no_first setting a b mark t (none x) e r = absurd (cc)
no_first setting a b mark t (one_more x y z marks steps m f) e r = rests_no_free setting a y marks r m

rests_at : (setting : Setting) (start : Levels) (limit k : ℕ) (t : List TraceStep) (a : Levels) → Turned setting start limit k t a → Rests setting a
rests_at setting start limit k t a (opened x marks f r) = r
rests_at setting start limit k t a (turned n front steps x y w lt turn) = turn.at_rest

rests_of : (setting : Setting) (a : Levels) → Pauses setting a → ((mark : TraceStep) (b : Levels) → move setting a ≡ On 0 (mark ∷ []) b → ⊥) → Rests setting a
rests_of setting a (rests x r) h = r
rests_of setting a (leaves x b mark e) h = absurd (h mark b e)

-- ---- the beginning of a turn

same_on : (p q s : Progress) → IsSameCall p q → IsSameCall q s → IsSameCall p s
same_on p q s g h = record { setting = h.setting ∙ g.setting; call = h.call ∙ g.call; contract = h.contract ∙ g.contract; func = h.func ∙ g.func }

below : (p q : Progress) → IsSameCall p q → q.used ≡ p.used + 1 → GoesOn q.status → IsProgress q → p.used < p.call.fuel
below p q same used g m = let within = (on_run q q.status g m.at).within in omega (arith, within, used, ap (λ (k : ContractCall). k.fuel) same.call)

pub begun_stepped : (p q : Progress) → HasStepped p q → IsProgress q → HasBegun p q
begun_stepped p q s m = record {
  same = s.same;
  below = below p q s.same s.used s.goes_on m;
  used = s.used;
  charged = s.turn.charged;
  one = s.turn.one;
  reply = [];
  replied = s.turn.charged;
  answer = not_asked s.turn.charged;
  marks = [];
  free = s.turn.free;
  trace = s.trace ∙ sym (append-nil p.trace);
  pauses = subst (λ (ds : Setting). Pauses ds q.config) (sym s.same.setting) s.turn.pauses;
  goes_on = s.goes_on;
}

pub begun_entered : (p q : Progress) → HasEntered p q → IsProgress q → HasBegun p q
begun_entered p q s m = record {
  same = s.same;
  below = below p q s.same s.used s.goes_on m;
  used = s.used;
  charged = s.turn.charged;
  one = s.turn.one;
  reply = [];
  replied = s.turn.charged;
  answer = not_asked s.turn.charged;
  marks = Opened ∷ [];
  free = s.turn.free;
  trace = s.trace;
  pauses = subst (λ (ds : Setting). Pauses ds q.config) (sym s.same.setting) s.turn.pauses;
  goes_on = s.goes_on;
}

module _ (p q s : Progress) (op : Op) (r : Reply) (a : HasAsked p op q) (answer : HasTaken q r s) where
  pub replied_is : HasReplied q op r s
  replied_is = subst (λ (x : Status). AnsweredAt q r s x) a.asking answer

  pub replied_trace : s.trace ≡ p.trace ++ Did op r ∷ []
  replied_trace = replied_is.trace ∙ ap (λ (t : List TraceStep). t ++ Did op r ∷ []) a.trace

  goes : GoesOn s.status
  goes = subst GoesOn (sym replied_is.running) tt

  pub begun_asked : IsReply op r → IsProgress s → HasBegun p s
  begun_asked fits m =
      let both : IsSameCall p s = same_on p q s a.same replied_is.same in
      let used : s.used ≡ p.used + 1 = replied_is.used ∙ a.used in
      record {
        same = both;
        below = below p s both used goes m;
        used = used;
        charged = q.config;
        one = a.charged;
        reply = Did op r ∷ [];
        replied = replied_is.asked.go r;
        answer = subst (λ (ds : Setting). IsAnswered ds q.config (Did op r ∷ []) (replied_is.asked.go r)) a.same.setting (asked q.config op replied_is.asked.go r replied_is.asked.asks fits);
        marks = [];
        free = subst (λ (ds : Setting). FreeMoves ds (replied_is.asked.go r) [] s.config) a.same.setting replied_is.frees;
        trace = replied_trace;
        pauses = subst (λ (ds : Setting). Pauses ds s.config) (sym replied_is.same.setting) replied_is.pauses;
        goes_on = goes;
      }

-- ---- a run that has not ended begins a turn

ends_out : (out : Bool) (m : Move) → out ≡ true → IsChargedMove m → ending_by out m ≡ None → ⊥
ends_out true (On charge marks c) e h no_end =
    let told : ending_by true (On 1 marks c) ≡ None = subst (λ (n : ℕ). ending_by true (On n marks c) ≡ None) h no_end in
    absurd (cc)
ends_out false (On charge marks c) e h no_end = absurd (cc)
ends_out out (Host op go) e h no_end = absurd h
ends_out out (Over o) e h no_end = absurd h
ends_out out Nowhere e h no_end = absurd h

ends_told : (setting : Setting) (limit used : ℕ) (a : Levels) (o : Outcome) (t : List TraceStep) → Ends setting limit used a o t → ending_of setting limit used a ≡ None → ⊥
ends_told setting limit used a o t (over n c outcome e) h = let told : Some outcome ≡ None = ap (ending_by (used == limit)) (sym e) ∙ h in absurd (cc)
ends_told setting limit used a o t (exhausted c charged) h = ends_out (used == limit) (move setting a) (eq-eqb used limit refl) charged h

module _ (p : Progress) where
  stops_charged : (x : Status) → GoesOn x → IsToStop p x → IsChargedMove (move p.setting p.config)
  stops_charged status.Running g h = h
  stops_charged (status.Fallen t) g h = absurd h
  stops_charged (status.Asking op) g h = absurd g
  stops_charged status.Closing g h = absurd g
  stops_charged (status.Ended o) g h = absurd g
  stops_charged status.NoMemory g h = absurd g

  ends_of : (o : Outcome) (x : Status) → GoesOn x → EndsAt p o x → Ends p.setting p.call.fuel p.used p.config o []
  ends_of o status.Running g h = h
  ends_of o (status.Fallen t) g h = h
  ends_of o (status.Asking op) g h = absurd g
  ends_of o status.Closing g h = absurd g
  ends_of o (status.Ended r) g h = absurd g
  ends_of o status.NoMemory g h = absurd g

  module _ (h : HasTurned p) (goes_on : ending p ≡ None) where
    not_ended : ending_of p.setting p.call.fuel p.used p.config ≡ None
    not_ended = sym (ending_is p h.goes_on) ∙ goes_on

    pub not_done : (q : Progress) (o : Outcome) → IsDone p o q → ⊥
    not_done q o d = ends_told p.setting p.call.fuel p.used p.config o [] (ends_of o p.status h.goes_on d.ends) not_ended

    left_not : (q : Progress) (keep : Bool) → HasGoneBack p q keep ⊎ HasClosed p q keep → ⊥
    left_not q keep (inl back) = no_first p.setting p.config q.config (mark_of keep) (mark_of keep ∷ []) back.free refl (rests_at p.setting _ p.call.fuel p.used p.trace p.config h.turned)
    left_not q keep (inr shut) = ends_out (p.used == p.call.fuel) (move p.setting p.config) (eq-eqb p.used p.call.fuel shut.out) (stops_charged p.status h.goes_on shut.stops) not_ended

    pub not_left : (q : Progress) (keep : Bool) → HasLeft p keep q → ⊥
    not_left q keep l = left_not q keep l.left

-- ---- a level is left in a turn

module _ (q : Progress) (goes_on : GoesOn q.status) (left : IsLeftNext q) where
  ends_no_free : (setting : Setting) (limit used : ℕ) (a b : Levels) (mark : TraceStep) (o : Outcome) (t : List TraceStep) → Ends setting limit used a o t → move setting a ≡ On 0 (mark ∷ []) b → ⊥
  ends_no_free setting limit used a b mark o t (over n c outcome e) f = let no : Over outcome ≡ On 0 (mark ∷ []) b = sym e ∙ f in absurd (cc)
  ends_no_free setting limit used a b mark o t (exhausted c charged) f = charged_no_free (move setting a) (mark ∷ []) b charged f

  no_charge : (b : Levels) → move q.setting q.config ≡ On 1 [] b → ⊥
  no_charge b e = let no : On 1 [] b ≡ On 0 (left.mark ∷ []) left.next = sym e ∙ left.free in absurd (cc)

  pub steps_not : (s : Progress) → HasStepped q s → ⊥
  steps_not s h = no_charge h.turn.charged h.turn.one

  pub enters_not : (s : Progress) → HasEntered q s → ⊥
  enters_not s h = no_charge h.turn.charged h.turn.one

  pub asks_not : (s : Progress) (op : Op) → HasAsked q op s → ⊥
  asks_not s op h = no_charge s.config h.charged

  pub ends_not : (s : Progress) (o : Outcome) → IsDone q o s → ⊥
  ends_not s o h = ends_no_free q.setting q.call.fuel q.used q.config left.next left.mark o [] (ends_of q o q.status goes_on h.ends) left.free

  back_of : (s : Progress) (keep : Bool) → HasGoneBack q s keep ⊎ HasClosed q s keep → HasGoneBack q s keep
  back_of s keep (inl back) = back
  back_of s keep (inr shut) = absurd (charged_no_free (move q.setting q.config) (left.mark ∷ []) left.next (stops_charged q q.status goes_on shut.stops) left.free)

  module _ (s : Progress) (keep : Bool) (l : HasLeft q keep s) where
    back : HasGoneBack q s keep
    back = back_of s keep l.left

    pub left_goes_on : GoesOn s.status
    left_goes_on = back.goes_on

    pub begun_left : (p : Progress) → HasBegun p q → HasBegun p s
    begun_left p h =
        let mark : List TraceStep = mark_of keep ∷ [] in
        record {
          same = same_on p q s h.same l.same;
          below = h.below;
          used = l.used ∙ h.used;
          charged = h.charged;
          one = h.one;
          reply = h.reply;
          replied = h.replied;
          answer = h.answer;
          marks = h.marks ++ mark;
          free = frees_on p.setting h.replied q.config s.config h.marks mark h.free (subst (λ (ds : Setting). FreeMoves ds q.config mark s.config) h.same.setting back.free);
          trace = l.trace ∙ ap (λ (t : List TraceStep). t ++ mark) h.trace ∙ append_assoc p.trace (h.reply ++ h.marks) mark ∙ ap (λ (t : List TraceStep). p.trace ++ t) (append_assoc h.reply h.marks mark);
          pauses = subst (λ (ds : Setting). Pauses ds s.config) (sym l.same.setting) back.pauses;
          goes_on = back.goes_on;
        }

-- ---- a turn

module _ (p q : Progress) (same : IsSameCall p q) where
  carried : (n : ℕ) (t : List TraceStep) → Turned p.setting (first_level p.contract p.func p.call.args) p.call.fuel n t q.config → q.used ≡ n → q.trace ≡ t → Turned q.setting (first_level q.contract q.func q.call.args) q.call.fuel q.used q.trace q.config
  carried n t h used trace =
      subst (λ (ds : Setting). Turned ds (first_level q.contract q.func q.call.args) q.call.fuel q.used q.trace q.config) (sym same.setting)
      (subst (λ (c : Contract). Turned p.setting (first_level c q.func q.call.args) q.call.fuel q.used q.trace q.config) (sym same.contract)
      (subst (λ (f : ℕ). Turned p.setting (first_level p.contract f q.call.args) q.call.fuel q.used q.trace q.config) (sym same.func)
      (subst (λ (k : ContractCall). Turned p.setting (first_level p.contract p.func k.args) k.fuel q.used q.trace q.config) (sym same.call)
      (subst (λ (m : ℕ). Turned p.setting (first_level p.contract p.func p.call.args) p.call.fuel m q.trace q.config) (sym used)
      (subst (λ (u : List TraceStep). Turned p.setting (first_level p.contract p.func p.call.args) p.call.fuel n u q.config) (sym trace) h)))))

  opens_still : opening p.setting p.call ≡ Opens p.contract p.func → opening q.setting q.call ≡ Opens q.contract q.func
  opens_still o = ap₂ opening same.setting same.call ∙ o ∙ ap₂ Opens (sym same.contract) (sym same.func)

-- no level is left next, so the turn is whole
pub whole : (p q : Progress) → HasTurned p → HasBegun p q → (IsLeftNext q → ⊥) → HasTurned q
whole p q h b no_more =
    let steps : List TraceStep = b.reply ++ b.marks in
    let turn : IsTurn p.setting p.config steps q.config = record {
      charged = b.charged;
      one = b.one;
      reply = b.reply;
      replied = b.replied;
      answer = b.answer;
      marks = b.marks;
      free = b.free;
      at_rest = subst (λ (ds : Setting). Rests ds q.config) b.same.setting (rests_of q.setting q.config b.pauses (λ mark c e. no_more (record { mark = mark; next = c; free = e })));
      steps_are = refl;
    } in
    record {
      opens = opens_still p q b.same h.opens;
      turned = carried p q b.same (p.used + 1) (p.trace ++ steps)
          (subst (λ (n : ℕ). Turned p.setting (first_level p.contract p.func p.call.args) p.call.fuel n (p.trace ++ steps) q.config) (let e : suc p.used ≡ p.used + 1 = omega arith in e)
          (turned p.used p.trace steps p.config q.config h.turned b.below turn)) b.used b.trace;
      goes_on = b.goes_on;
    }

-- ---- whose globals and memory are shown

pub none_when : (o : Option Outcome) → is_some o ≡ false → o ≡ None
none_when None e = refl
none_when (Some r) e = absurd (cc)

pub shown_last : (o : Option Outcome) (c : Levels) → is_some o ≡ true → level_shown o c ≡ outermost c
shown_last None c e = absurd (cc)
shown_last (Some r) c e = refl

pub shown_inner : (o : Option Outcome) (c : Levels) → is_some o ≡ false → level_shown o c ≡ c.inner
shown_inner None c e = refl
shown_inner (Some r) c e = absurd (cc)

-- ---- what a session shows is the state

abbrev pub is_sight : (p : Progress) (start : Cells) (breaks : List Place) → HasTurned p → GetsReplies p.trace start → IsSessionView (session_view_of p start breaks)
is_sight p start breaks h replies = record { func = p.func; opens = h.opens; state = record { contract = p.contract; func = p.func; starts = h.opens; trace = p.trace; turns = h.turned; replies = replies }; trace_is = refl }
