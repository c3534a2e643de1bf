-- Lines are answered one after another.
use Rattle.std.proofs.Common.{◌≡◌, ◌≢◌, ℕ, zero, suc, ◌+◌, ◌<◌, ◌≤◌, ◌↔◌, ◌⊎◌, List, [], ◌∷◌, ◌++◌, Bool, true, false, IsTrue, Result, Ok, Err, OnOk, OnErr, Option, Some, None, IsSome, IfSome, flat_map, length, option_map, string_bytes, take, refl, sym, ap, subst, ◌∙◌, inl, inr, arith, append_assoc, append-nil}
use Rattle.std.proofs.lemmas.Bool.{both_ways}
use Rattle.std.proofs.lemmas.List.{flat_map_more, length-append, take-append-le, take_all}
use Rattle.byte_sinks.specs.Putting.{IsCutShort}
use Rattle.spec_block.specs.Worlds.{World}
use Rattle.world.specs.Views.{world_view}
use Rattle.wblock_io.specs.Holding.{Holding}
use Rattle.wblock_line.specs.Answers.{memory_line}
use Rattle.wblock_line.specs.declared.perform.Status.{Status}
use Rattle.wblock_line.specs.declared.perform.Status.TheVariants as status
use Rattle.wblock_chain.specs.Answered.{AnswersRequest, Gets, session_after}
use Rattle.wblock_chain.specs.Replies.{reply}
use Rattle.wblock_chain.specs.Requests.{AreShort, IsAskedLine, IsRequest}
use Rattle.wblock_chain.specs.Sessions.{AreFull, Exchange, HasQuit, IsAnswered, IsRun, IsSessionOver, IsStoppedOver, IsQuit, IsToldInPart, IsUnfinished, Runs, Session, behind, lines_in, reply_in}
use Rattle.wblock_chain.specs.Words.{AsksCalls}
use Rattle.wblock_chain.specs.declared.request.Request.{Request}
use Rattle.wblock_chain.specs.declared.request.Request.TheVariants.{Text, TooLong, NotUtf8}
use Rattle.wblock_chain.specs.declared.session.Answered.{Answered}

abbrev pub session : Holding → World → Session
session files w = record { files = files; world = w }

-- none of them was `quit`
abbrev pub AreOpen : List ℕ → List Exchange → Type 0
AreOpen name [] = Unit {0}
AreOpen name (e ∷ es) = (¬ IsQuit name e) × AreOpen name es

-- these exchanges so far, and what they told
pub record SoFar (name : List ℕ) (world : World) (lines rest : List (List ℕ)) (old new : Holding) (last : World) (before after : List ℕ) : Type 0 where
  pub exchanges : List Exchange
  pub run : IsRun name exchanges lines rest (session old world) (session new last)
  pub are_open : AreOpen name exchanges
  pub told : after ≡ before ++ flat_map reply_in exchanges

pub begun : (name : List ℕ) (w : World) (lines : List (List ℕ)) (files : Holding) (before : List ℕ) → SoFar name w lines lines files files w before before
begun name w lines files before = record { exchanges = []; run = record { runs = refl; lines_are = refl }; are_open = tt; told = sym (append-nil before) }

-- ---- one line more

-- a line was taken and answered
pub record Next (name : List ℕ) (mid rest : List (List ℕ)) (old new : Holding) (w : World) (a : Answered) : Type 0 where
  pub exchange : Exchange
  pub answered : IsAnswered name exchange (session old w) (session_after new a)
  pub lines_are : mid ≡ lines_in exchange ++ rest
  pub reply_is : a.reply.items ≡ reply_in exchange
  pub quits : (a.quits ≡ true) ↔ IsQuit name exchange

taken : (name line : List ℕ) (calls : Option (List (List ℕ))) (mid rest : List (List ℕ)) (old new : Holding) (w : World) (a : Answered) → IsAskedLine line calls mid rest → Gets name line calls old new w a → Next name mid rest old new w a
taken name line calls mid rest old new w a asked gets =
    let e = gets.exchange in
    let of_line = subst (λ (l : List ℕ). IsSome calls ↔ AsksCalls l) (sym gets.line_is) asked.asked in record {
      exchange = e;
      answered = record {
        taken = record {
          asked = subst (λ (cs : Option (List (List ℕ))). IsSome cs ↔ AsksCalls e.line) (sym gets.calls_are) of_line;
          full = subst (λ (cs : Option (List (List ℕ))). IfSome cs AreFull) (sym gets.calls_are) asked.full;
        };
        said = gets.said;
        answer = gets.answer;
      };
      lines_are = asked.lines_are ∙ (ap (λ (l : List ℕ). l ∷ (behind calls ++ rest)) (sym gets.line_is) ∙ ap (λ (cs : Option (List (List ℕ))). e.line ∷ (behind cs ++ rest)) (sym gets.calls_are));
      reply_is = gets.reply_is;
      quits = gets.quits;
    }

pub next : (name : List ℕ) (request : Request) (mid rest : List (List ℕ)) (old new : Holding) (w : World) (a : Answered) → IsRequest mid (Some request) rest → AnswersRequest name request old new w a → Next name mid rest old new w a
next name (Text line text) mid rest old new w a is answers = taken name (string_bytes line) is.0 mid rest old new w a is.1 (answers is.0 (sym is.4))
next name TooLong mid rest old new w a is answers = taken name is.0 is.1 mid rest old new w a is.2 (answers is.0 is.1 is.3)
next name NotUtf8 mid rest old new w a is answers = taken name is.0 None mid rest old new w a is.1 (answers is.0 is.2)

runs_push : (name : List ℕ) (es : List Exchange) (e : Exchange) (old mid new : Session) → AreOpen name es → Runs name es old mid → IsAnswered name e mid new → Runs name (es ++ e ∷ []) old new
runs_push name [] e old mid new are runs answered = (new, subst (λ (s : Session). IsAnswered name e s new) runs answered, λ quits. refl, refl)
runs_push name (f ∷ es) e old mid new are runs answered = (runs.0, runs.1, λ quits. absurd (are.0 quits), runs_push name es e runs.0 mid new are.1 runs.3 answered)

run_push : (name : List ℕ) (es : List Exchange) (lines mid rest : List (List ℕ)) (start : Session) (old files : Holding) (w : World) (a : Answered) → AreOpen name es → IsRun name es lines mid start (session old w) → (n : Next name mid rest old files w a) → IsRun name (es ++ n.exchange ∷ []) lines rest start (session_after files a)
run_push name es lines mid rest start old files w a are run n = record {
  runs = runs_push name es n.exchange start (session old w) (session_after files a) are run.runs n.answered;
  lines_are =
      run.lines_are
      ∙ (ap (λ (ls : List (List ℕ)). flat_map lines_in es ++ ls) n.lines_are
      ∙ (sym (append_assoc (flat_map lines_in es) (lines_in n.exchange) rest) ∙ ap (λ (ls : List (List ℕ)). ls ++ rest) (flat_map_more lines_in [] es n.exchange)));
}

open_push : (name : List ℕ) (es : List Exchange) (e : Exchange) → AreOpen name es → (IsQuit name e → ⊥) → AreOpen name (es ++ e ∷ [])
open_push name [] e are never = (never, tt)
open_push name (f ∷ es) e are never = (are.0, open_push name es e are.1 never)

-- a session that goes on was not asked to end
goes_on : (name : List ℕ) (mid rest : List (List ℕ)) (old files : Holding) (w : World) (a : Answered) (n : Next name mid rest old files w a) → a.quits ≡ false → IsQuit name n.exchange → ⊥
goes_on name mid rest old files w a n never is = both_ways a.quits never (n.quits.1 is)

told_push : (es : List Exchange) (e : Exchange) (before after later bytes : List ℕ) → after ≡ before ++ flat_map reply_in es → bytes ≡ reply_in e → later ≡ after ++ bytes → later ≡ before ++ flat_map reply_in (es ++ e ∷ [])
told_push es e before after later bytes told is more = more ∙ (ap (λ (b : List ℕ). after ++ b) is ∙ (ap (λ (b : List ℕ). b ++ reply_in e) told ∙ flat_map_more reply_in before es e))

pub one_more : (name : List ℕ) (w last : World) (lines mid rest : List (List ℕ)) (old files new : Holding) (a : Answered) (before after later : List ℕ) → SoFar name w lines mid old files last before after → Next name mid rest files new last a
    → later ≡ after ++ a.reply.items → a.quits ≡ false → SoFar name w lines rest old new (world_view a.world) before later
one_more name w last lines mid rest old files new a before after later far n more goes = record {
  exchanges = far.exchanges ++ n.exchange ∷ [];
  run = run_push name far.exchanges lines mid rest (session old w) files new last a far.are_open far.run n;
  are_open = open_push name far.exchanges n.exchange far.are_open (goes_on name mid rest files new last a n goes);
  told = told_push far.exchanges n.exchange before after later a.reply.items far.told n.reply_is more;
}

-- ---- the end

pub quit : (name : List ℕ) (w last : World) (lines mid rest : List (List ℕ)) (old files new : Holding) (a : Answered) (before after later : List ℕ) → SoFar name w lines mid old files last before after → Next name mid rest files new last a
    → later ≡ after ++ a.reply.items → a.quits ≡ true → IsSessionOver name w lines old new before later
quit name w last lines mid rest old files new a before after later far n more quits = record {
  last = world_view a.world;
  exchanges = far.exchanges ++ n.exchange ∷ [];
  rest = rest;
  run = run_push name far.exchanges lines mid rest (session old w) files new last a far.are_open far.run n;
  ended = inl (record { front = far.exchanges; last = n.exchange; are = refl; quits = n.quits.0 quits });
  told = told_push far.exchanges n.exchange before after later a.reply.items far.told n.reply_is more;
}

pub ended : (name : List ℕ) (w last : World) (lines mid rest : List (List ℕ)) (old files : Holding) (before after : List ℕ) → SoFar name w lines mid old files last before after → IsRequest mid None rest → IsSessionOver name w lines old files before after
ended name w last lines mid rest old files before after far is = record { last = last; exchanges = far.exchanges; rest = mid; run = far.run; ended = inr is.0; told = far.told }

-- ---- where it is stopped

take_past : (xs ys : List ℕ) (n : ℕ) → take (length xs + n) (xs ++ ys) ≡ xs ++ take n ys
take_past [] ys n = let e : zero + n ≡ n = omega arith in ap (λ (m : ℕ). take m ys) e
take_past (x ∷ xs) ys n = let e : suc (length xs) + n ≡ suc (length xs + n) = omega arith in ap (λ (m : ℕ). take m (x ∷ (xs ++ ys))) e ∙ ap (λ (zs : List ℕ). x ∷ zs) (take_past xs ys n)

told_in_part : (front bytes before after later : List ℕ) → after ≡ before ++ front → IsToldInPart bytes after later → IsToldInPart (front ++ bytes) before later
told_in_part front bytes before after later told part = (
  length front + part.0,
  part.1 ∙ (ap (λ (b : List ℕ). b ++ take part.0 bytes) told ∙ (append_assoc before front (take part.0 bytes) ∙ ap (λ (b : List ℕ). before ++ b) (sym (take_past front bytes part.0)))),
)

-- between two lines
pub stopped : (name : List ℕ) (w last : World) (lines mid : List (List ℕ)) (old files : Holding) (said : List ℕ) (s : Status) (before after later : List ℕ) → SoFar name w lines mid old files last before after → IsToldInPart (reply [] said s) after later
    → IsStoppedOver name w lines s old files before later
stopped name w last lines mid old files said s before after later far part = record {
  last = last;
  exchanges = far.exchanges;
  rest = mid;
  run = far.run;
  said = said;
  told = told_in_part (flat_map reply_in far.exchanges) (reply [] said s) before after later far.told part;
}

-- a part of the last answer alone was told
cut : (es : List Exchange) (e : Exchange) (bytes end before after later : List ℕ) → after ≡ before ++ flat_map reply_in es → bytes ≡ reply_in e → IsCutShort after later bytes → IsToldInPart (flat_map reply_in (es ++ e ∷ []) ++ end) before later
cut es e bytes end before after later told is short =
    let front = flat_map reply_in es in
    let whole : front ++ reply_in e ≡ flat_map reply_in (es ++ e ∷ []) = flat_map_more reply_in [] es e in
    let within : short.count < length (reply_in e) = subst (λ (b : List ℕ). short.count < length b) is short.within in
    let lengths = length-append front (reply_in e) in
    let taken : take (length front + short.count) ((front ++ reply_in e) ++ end) ≡ front ++ take short.count (reply_in e) =
    take-append-le (length front + short.count) (front ++ reply_in e) end (omega (arith, within, lengths)) ∙ take_past front (reply_in e) short.count in (
      length front + short.count,
      short.told
          ∙ (ap (λ (b : List ℕ). b ++ take short.count bytes) told
          ∙ (append_assoc before front (take short.count bytes)
          ∙ ap (λ (b : List ℕ). before ++ b) (ap (λ (b : List ℕ). front ++ take short.count b) is ∙ (sym taken ∙ ap (λ (b : List ℕ). take (length front + short.count) (b ++ end)) whole)))),
    )

pub cut_off : (name : List ℕ) (w last : World) (lines mid rest : List (List ℕ)) (old files new : Holding) (a : Answered) (s : Status) (before after later : List ℕ) → SoFar name w lines mid old files last before after → Next name mid rest files new last a
    → IsCutShort after later a.reply.items → IsStoppedOver name w lines s old new before later
cut_off name w last lines mid rest old files new a s before after later far n short = record {
  last = world_view a.world;
  exchanges = far.exchanges ++ n.exchange ∷ [];
  rest = rest;
  run = run_push name far.exchanges lines mid rest (session old w) files new last a far.are_open far.run n;
  said = [];
  told = cut far.exchanges n.exchange a.reply.items (reply [] [] s) before after later far.told n.reply_is short;
}

-- all of the bytes or a beginning of them were told
pub in_part : {T E : Type 0} (r : Result T E) (tells : Bool) (bytes before after : List ℕ) → OnOk r (IsTrue tells → after ≡ before ++ bytes) → OnErr r (IsTrue tells → IsCutShort before after bytes) → IsTrue tells → IsToldInPart bytes before after
in_part (Ok x) tells bytes before after put cut t = (length bytes, put t ∙ ap (λ (b : List ℕ). before ++ b) (sym (take_all (length bytes) bytes (omega arith))))
in_part (Err e) tells bytes before after put cut t = ((cut t).count, (cut t).told)

-- ---- how a session ends

abbrev IsFault : Status → Type 0
IsFault s = (s ≡ status.File) ⊎ (s ≡ status.Memory)

done_not_refused : (s : Status) → s ≡ status.Done → s ≡ status.Refused → ⊥
done_not_refused s d r = let e : status.Done ≡ status.Refused = sym d ∙ r in absurd cc

done_not_usage : (s : Status) → s ≡ status.Done → s ≡ status.Usage → ⊥
done_not_usage s d u = let e : status.Done ≡ status.Usage = sym d ∙ u in absurd cc

refused_not_usage : (s : Status) → s ≡ status.Refused → s ≡ status.Usage → ⊥
refused_not_usage s r u = let e : status.Refused ≡ status.Usage = sym r ∙ u in absurd cc

pub fault_not_done : (s : Status) → IsFault s → s ≡ status.Done → ⊥
fault_not_done s (inl f) d = let e : status.File ≡ status.Done = sym f ∙ d in absurd cc
fault_not_done s (inr m) d = let e : status.Memory ≡ status.Done = sym m ∙ d in absurd cc

pub fault_not_refused : (s : Status) → IsFault s → s ≡ status.Refused → ⊥
fault_not_refused s (inl f) r = let e : status.File ≡ status.Refused = sym f ∙ r in absurd cc
fault_not_refused s (inr m) r = let e : status.Memory ≡ status.Refused = sym m ∙ r in absurd cc

pub fault_not_usage : (s : Status) → IsFault s → s ≡ status.Usage → ⊥
fault_not_usage s (inl f) u = let e : status.File ≡ status.Usage = sym f ∙ u in absurd cc
fault_not_usage s (inr m) u = let e : status.Memory ≡ status.Usage = sym m ∙ u in absurd cc

pub ended_not_refused : (s : Status) → (s ≡ status.Done) ⊎ IsFault s → s ≡ status.Refused → ⊥
ended_not_refused s (inl d) r = done_not_refused s d r
ended_not_refused s (inr f) r = fault_not_refused s f r

pub ended_not_usage : (s : Status) → (s ≡ status.Done) ⊎ IsFault s → s ≡ status.Usage → ⊥
ended_not_usage s (inl d) u = done_not_usage s d u
ended_not_usage s (inr f) u = fault_not_usage s f u

pub refused_not_done : (s : Status) → (s ≡ status.Refused) ⊎ IsFault s → s ≡ status.Done → ⊥
refused_not_done s (inl r) d = done_not_refused s d r
refused_not_done s (inr f) d = fault_not_done s f d

pub refusal_not_usage : (s : Status) → (s ≡ status.Refused) ⊎ IsFault s → s ≡ status.Usage → ⊥
refusal_not_usage s (inl r) u = refused_not_usage s r u
refusal_not_usage s (inr f) u = fault_not_usage s f u

-- a session that is done, or whose world was refused, says nothing
pub ran_quiet : (s : Status) (P : Type 0) → (s ≡ status.Done) ⊎ IsFault s → (s ≡ status.Done → P) → (s ≡ status.Done) ⊎ (s ≡ status.Refused) → P
ran_quiet s P ended quiet (inl d) = quiet d
ran_quiet s P ended quiet (inr r) = absurd (ended_not_refused s ended r)

pub refusal_quiet : (s : Status) (P : Type 0) → (s ≡ status.Refused) ⊎ IsFault s → (s ≡ status.Refused → P) → (s ≡ status.Done) ⊎ (s ≡ status.Refused) → P
refusal_quiet s P is quiet (inl d) = absurd (refused_not_done s is d)
refusal_quiet s P is quiet (inr r) = quiet r

pub fault_quiet : (s : Status) (P : Type 0) → IsFault s → (s ≡ status.Done) ⊎ (s ≡ status.Refused) → P
fault_quiet s P is (inl d) = absurd (fault_not_done s is d)
fault_quiet s P is (inr r) = absurd (fault_not_refused s is r)

-- what was told for lack of memory
pub told_of_memory : (s : Status) (before after : List ℕ) → s ≡ status.Memory → IsToldInPart (reply [] memory_line status.Memory) before after → (said : List ℕ) × IsToldInPart (reply [] said s) before after
told_of_memory s before after is part = (memory_line, subst (λ (x : Status). IsToldInPart (reply [] memory_line x) before after) (sym is) part)

pub stopped_with : (name : List ℕ) (w last : World) (lines mid : List (List ℕ)) (old files new : Holding) (said : List ℕ) (s t : Status) (before after later : List ℕ) → SoFar name w lines mid old files last before after → new ≡ files → t ≡ s → IsToldInPart (reply [] said s) after later
    → IsStoppedOver name w lines t old new before later
stopped_with name w last lines mid old files new said s t before after later far kept is part =
    subst (λ (h : Holding). IsStoppedOver name w lines t old h before later) (sym kept) (subst (λ (x : Status). IsStoppedOver name w lines x old files before later) (sym is) (stopped name w last lines mid old files said s before after later far part))
