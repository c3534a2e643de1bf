-- What a line gets.
use Rattle.std.proofs.Common.{◌≡◌, ◌≢◌, ◌↔◌, ℕ, ◌<◌, ◌≤◌, ◌⊎◌, List, [], ◌∷◌, ◌++◌, ◌==◌, Bool, true, false, Option, Some, None, IsSome, is_some, IfSome, Bor, String, Vec, Global, Result, Ok, Err, OnErr, codes, length, map, option_map, string_bytes, vec_len, refl, sym, ap, ap₂, subst, ◌∙◌, inl, inr, arith, append_assoc, append-nil}
use Rattle.std.proofs.lemmas.Bool.{both_ways, false≢true}
use Rattle.std.proofs.lemmas.List.{length-map, map-append, same_from_push}
use Rattle.std.proofs.lemmas.Option.{none-some, same_Some}
use Rattle.sha2.specs.Sha256.{sha256}
use Rattle.link.specs.declared.deployed.Deployed.{Deployed}
use Rattle.spec_block.specs.Worlds.{Contract, World}
use Rattle.spec_block.specs.Bytes.{world_bytes}
use Rattle.spec_block.specs.Verdicts.{Verdict, Accept, Malformed, WrongWorld, WrongCalls, BadOrder, OverBudget, RoomLeft, BadTurns, Deviates, WrongEnd}
use Rattle.world.specs.Views.{contract_view, world_view}
use Rattle.wblock_calls.specs.Words.{texts}
use Rattle.wblock_io.specs.Holding.{Holding, Changes}
use Rattle.wblock_line.specs.Answers.{EndsLine, IsOneOf, Upshot, Written, Wrote, WroteBefore, WroteSome, file_line, sentence_line, write_of}
use Rattle.wblock_line.specs.Inputs.{HoldsWorld}
use Rattle.wblock_line.specs.Words.{Line, split}
use Rattle.wblock_line.specs.Transitions.{WritesBeside, leaving, next_write}
use Rattle.wblock_line.specs.declared.answer.Write.{Write}
use Rattle.wblock_line.specs.declared.perform.Status.{Status}
use Rattle.wblock_line.specs.declared.perform.Status.TheVariants as status
use Rattle.wblock_line.specs.declared.transition.Change.{Change}
use Rattle.wblock_line.specs.declared.transition.NextWorld.{NextWorld}
use Rattle.wblock_line.specs.declared.transition.Transition.{Transition}
use Rattle.wblock_line.specs.declared.transition.Transition.TheVariants as transition
use Rattle.wblock_blocks.specs.Validates.{TellsVerdict, Validates, next_writes}
use Rattle.wblock_blocks.specs.Mines.{Mines}
use Rattle.wblock_blocks.specs.declared.mine.Mining.{Mining}
use Rattle.wblock_blocks.specs.declared.validate.Validation.{Validation}
use Rattle.wblock_call.specs.Calling.{Calls}
use Rattle.wblock_call.specs.declared.called.Calling.{Calling}
use Rattle.wblock_modules.specs.Deploys.{AreHeld, Deploys, Extends, IsDeployedText, IsDone, IsOld, IsReadBehind, extended}
use Rattle.wblock_modules.specs.Objects.{deployed_data}
use Rattle.wblock_modules.specs.declared.deploy.Modules.TheVariants as modules
use Rattle.wblock_commands.specs.Does.{Reads}
use Rattle.wblock_commands.specs.declared.command.Command.{Command}
use Rattle.wblock_commands.specs.declared.command.Command.TheVariants.{Stored, Help, Version, Asm, Text, Check, Deploy, Mine, Validate, Call, Debug, Show}
use Rattle.wblock_commands.specs.declared.command.Deploying.{Deploying}
use Rattle.wblock_chain.specs.Answered.{AnswersAsked, AnswersLine, AnswersWords, AreApart, Gets, IsCarriedOut, IsExtended, IsFileReply, IsNotSaved, IsSaved, IsTold, IsUndone, IsUsageReply, MovesOn, Quits, Settles, SettlesTransition, session_after, world_left}
use Rattle.wblock_chain.specs.Plans.{FitsBeside, IsNoted, IsPlan, most_beside}
use Rattle.wblock_chain.specs.Replies.{block_line, digest_line, saved_line}
use Rattle.wblock_chain.specs.Requests.{AreShort}
use Rattle.wblock_chain.specs.Sessions.{ComesTo, Exchange, IsKeptName, IsQuit, Session, TellsBlock, Uses, standing, text_of_calls}
use Rattle.wblock_chain.specs.Words.{Asks, IsAsked, IsOver, calls_here, named, told_block}
use Rattle.wblock_chain.specs.declared.asked.SessionCommand.{SessionCommand}
use Rattle.wblock_chain.specs.declared.asked.SessionCommand.TheVariants.{Single, Save, Digest, Quit}
use Rattle.wblock_chain.specs.declared.plan.Plan.TheVariants.{Made, Linked}
use Rattle.wblock_chain.specs.declared.session.Answered.{Answered}
use Rattle.wblock_chain.proofs.Asking.{no_quit}
use Rattle.wblock_chain.proofs.Planning.{free, old_world}
use Rattle.wblock_chain.proofs.Standing.{kept, next_world, told, written}

-- ---- what is said, and what stays

pub file_said : (file why : List ℕ) → EndsLine (file_line file ++ sentence_line why)
file_said file [] = (codes "file " ++ file, append-nil (file_line file))
file_said file (c ∷ cs) = (file_line file ++ (c ∷ cs), sym (append_assoc (file_line file) (c ∷ cs) (10 ∷ [])))

-- a sentence that is not empty has a line of its own
pub sentence_is : (b : Bool) (why : List ℕ) → b ≡ (length why == 0) → b ≡ false → sentence_line why ≡ why ++ 10 ∷ []
sentence_is b [] is e = let never : (0 == 0) ≡ false = sym is ∙ e in absurd cc
sentence_is b (c ∷ cs) is e = refl

abbrev session : Holding → World → Session
session files w = record { files = files; world = w }

same_session : (old new : Holding) (w : World) (a : Answered) → new ≡ old → world_view a.world ≡ w → session_after new a ≡ session old w
same_session old new w a files world = ap₂ session files world

-- a session that moves on ends where the line was `quit`, which it was not
stays : (name : List ℕ) (e : Exchange) (w : World) (text said : List ℕ) (s : Status) (a : Answered) → MovesOn w text said s a → (IsQuit name e → ⊥) → (a.quits ≡ true) ↔ IsQuit name e
stays name e w text said s a moves never = (λ quits. absurd (both_ways a.quits moves.goes_on quits), λ is. absurd (never is))

-- what is not done is no `quit`
not_done : (name : List ℕ) (e : Exchange) (s : Status) → e.status ≡ s → (s ≡ status.Done → ⊥) → IsQuit name e → ⊥
not_done name e s is never quits = never (sym is ∙ quits.status_is)

usage_not_done : status.Usage ≡ status.Done → ⊥
usage_not_done e = absurd cc

file_not_done : status.File ≡ status.Done → ⊥
file_not_done e = absurd cc

refused_not_done : status.Refused ≡ status.Done → ⊥
refused_not_done e = absurd cc

-- ---- nothing is asked for, or a file failed

pub asks_nothing : (name line : List ℕ) (calls : Option (List (List ℕ))) (old new : Holding) (w : World) (a : Answered) → new ≡ old → IsUsageReply w a
    → ((1048576 < length line) ⊎ ¬ IfSome calls AreShort) ⊎ ((c : SessionCommand) → ¬ Asks name line c) → Gets name line calls old new w a
asks_nothing name line calls old new w a same reply nothing =
    let e : Exchange = record { line = line; calls = calls; status = status.Usage; text = []; said = reply.said } in record {
      exchange = e;
      line_is = refl;
      calls_are = refl;
      said = inr reply.ends_line;
      reply_is = reply.moves.reply_is;
      answer = inl (record { status_is = refl; nothing = nothing; same = same_session old new w a same reply.moves.world_is; text_is = refl });
      quits = stays name e w [] reply.said status.Usage a reply.moves (not_done name e status.Usage refl usage_not_done);
    }

pub fails : (name line : List ℕ) (calls : Option (List (List ℕ))) (c : SessionCommand) (old new : Holding) (w : World) (file : List ℕ) (a : Answered) → Asks name line c → new ≡ old
    → Uses c (standing name w (text_of_calls calls) None old) file → IsFileReply w file a → Gets name line calls old new w a
fails name line calls c old new w file a asks same uses reply =
    let said = file_line file ++ sentence_line reply.why in
    let e : Exchange = record { line = line; calls = calls; status = status.File; text = []; said = said } in record {
      exchange = e;
      line_is = refl;
      calls_are = refl;
      said = inr (file_said file reply.why);
      reply_is = reply.moves.reply_is;
      answer = inr (inl (record {
        status_is = refl;
        command = c;
        asks = asks;
        file = file;
        uses = uses;
        why = reply.why;
        said_is = refl;
        same = same_session old new w a same reply.moves.world_is;
        text_is = refl;
      }));
      quits = stays name e w [] said status.File a reply.moves (not_done name e status.File refl file_not_done);
    }

-- the one write is the one that is told
pub apart_told : (all rest : List Write) (last : Write) → all ≡ rest ++ last ∷ [] → IsTold (map write_of all) → AreApart (map write_of all) (Some last.bytes.items) (map write_of rest)
apart_told all rest last e told =
    let pushed : map write_of all ≡ map write_of rest ++ write_of last ∷ [] = ap (map write_of) e ∙ map-append write_of rest (last ∷ []) in
    let same = same_from_push (map write_of rest) [] (write_of last) (told_block, told.bytes) (sym pushed ∙ told.are) in
    let bytes : last.bytes.items ≡ told.bytes = ap (λ (v : Written). v.1) same.1 in
    (told.are ∙ ap (λ (b : List ℕ). (told_block, b) ∷ []) (sym bytes), same.0)

-- where there is no write, none is told
pub none_told : (writes : Vec Write Global) → vec_len writes ≡ 0 → IsTold (map write_of writes.items) → ⊥
none_told writes none told =
    let size = writes.ok.0 in
    let count = length-map writes.items write_of in
    let one = ap (λ (ws : List Written). length ws) told.are in
    omega (arith, size, count, one, none)

-- ---- how the writes of a command stand: the block of `mine`, if any, and the world behind it

pub record IsBlock (name : List ℕ) (c : Command) (writes : List Written) : Type 0 where
  pub file : List ℕ
  pub bytes : List ℕ
  pub is : writes ≡ (file, bytes) ∷ []
  pub no_world : file ≢ name
  pub no_calls : file ≢ calls_here
  pub tells : file ≡ told_block → TellsBlock c

pub record Stands (name : List ℕ) (c : Command) (writes : List Written) (next : Option NextWorld) : Type 0 where
  pub left : IfSome next (λ n. n.name.now ≡ name)
  pub beside : (writes ≡ []) ⊎ IsBlock name c writes

first : (v w : Written) (vs ws : List Written) → v ∷ vs ≡ w ∷ ws → v ≡ w
first v w vs ws e = cc

others : (v w : Written) (vs ws : List Written) → v ∷ vs ≡ w ∷ ws → vs ≡ ws
others v w vs ws e = cc

one_left : (name file bytes : List ℕ) (next : Option NextWorld) → next_write next ≡ (file, bytes) ∷ [] → file ≡ name → IfSome next (λ n. n.name.now ≡ name)
one_left name file bytes None e same = tt
one_left name file bytes (Some n) e same = ap (λ (v : Written). v.0) (first _ _ _ _ e) ∙ same

none_left : (name : List ℕ) (next : Option NextWorld) → next_write next ≡ [] → IfSome next (λ n. n.name.now ≡ name)
none_left name None e = tt
none_left name (Some n) e = absurd cc

-- the world alone is written
one_stands : (name : List ℕ) (c : Command) (writes : List Written) (next : Option NextWorld) (file bytes : List ℕ) → length writes ≤ 0 → writes ++ next_write next ≡ (file, bytes) ∷ [] → file ≡ name → Stands name c writes next
one_stands name c [] next file bytes few e same = record { left = one_left name file bytes next e same; beside = inl refl }
one_stands name c (v ∷ vs) next file bytes few e same = absurd (omega (arith, few))

-- nothing is written
none_stands : (name : List ℕ) (c : Command) (writes : List Written) (next : Option NextWorld) → writes ++ next_write next ≡ [] → Stands name c writes next
none_stands name c [] next e = record { left = none_left name next e; beside = inl refl }
none_stands name c (v ∷ vs) next e = absurd cc

-- the block and then the world are written
two_stand : (name : List ℕ) (task : Mining) (writes : List Written) (next : Option NextWorld) (block world : List ℕ) → length writes ≤ 1 → writes ++ next_write next ≡ (task.block.now, block) ∷ (task.next.now, world) ∷ [] → IsOver name (Mine task) → Stands name (Mine task) writes next
two_stand name task [] None block world few e over = absurd cc
two_stand name task [] (Some n) block world few e over = let none = others _ _ _ _ e in absurd cc
two_stand name task (v ∷ []) next block world few e over = record {
  left = one_left name task.next.now world next (others _ _ _ _ e) over.1;
  beside = inr (record {
    file = task.block.now;
    bytes = block;
    is = ap (λ (w : Written). w ∷ []) (first _ _ _ _ e);
    no_world = over.2.block_is;
    no_calls = over.2.apart;
    tells = λ same. same;
  });
}
two_stand name task (v ∷ w ∷ vs) next block world few e over = absurd (omega (arith, few))

abbrev IsDoneBy : Upshot → Type 0
IsDoneBy u = u.status ≡ status.Done

-- what is done is not refused
not_refused : (s : Status) → s ≡ status.Done → s ≡ status.Refused → ⊥
not_refused s done refused = let e : status.Done ≡ status.Refused = sym done ∙ refused in absurd cc

accepted : (json : Bool) (next : Option (Bor (List ℕ))) (v : Verdict) (u : Upshot) → IsDoneBy u → TellsVerdict json next v u → (w : World) × (u.writes ≡ next_writes next w)
accepted json next (Accept w) u done tells = (w, tells.writes)
accepted json next Malformed u done tells = absurd (not_refused u.status done tells.status_is)
accepted json next WrongWorld u done tells = absurd (not_refused u.status done tells.status_is)
accepted json next WrongCalls u done tells = absurd (not_refused u.status done tells.status_is)
accepted json next (BadOrder p) u done tells = absurd (not_refused u.status done tells.status_is)
accepted json next OverBudget u done tells = absurd (not_refused u.status done tells.status_is)
accepted json next (RoomLeft c) u done tells = absurd (not_refused u.status done tells.status_is)
accepted json next (BadTurns p) u done tells = absurd (not_refused u.status done tells.status_is)
accepted json next (Deviates p) u done tells = absurd (not_refused u.status done tells.status_is)
accepted json next WrongEnd u done tells = absurd (not_refused u.status done tells.status_is)

next_stands : (name : List ℕ) (c : Command) (writes : List Written) (next : Option NextWorld) (to : Option (Bor (List ℕ))) (w : World) → length writes ≤ 0 → writes ++ next_write next ≡ next_writes to w → IsOld to name → Stands name c writes next
next_stands name c writes next None w few e old = absurd old
next_stands name c writes next (Some file) w few e old = one_stands name c writes next file.now (world_bytes w) few e (sym old)

deploy_stands : (name : List ℕ) (task : Deploying) (holds : Holding) (writes : List Written) (next : Option NextWorld) (u : Upshot) → u.writes ≡ writes ++ next_write next → IsDoneBy u → length writes ≤ 0 → task.world.now ≡ name
    → Deploys task.json holds task.world.now task.onto (texts task.modules.now) u → Stands name (Deploy task) writes next
deploy_stands name task holds writes next u are done few over (inl refuses) = absurd (not_refused u.status done refuses.told.status_is)
deploy_stands name task holds writes next u are done few over (inr onto) = of_extends onto.base onto.extends
  where
    of_extends : (base : World) → Extends task.json holds task.world.now task.onto base (texts task.modules.now) u → Stands name (Deploy task) writes next
    of_extends base (inl tells) = one_stands name (Deploy task) writes next task.world.now _ few (sym are ∙ tells.is.writes) over
    of_extends base (inr refuses) = absurd (not_refused u.status done refuses.status_is)

mine_stands : (name : List ℕ) (task : Mining) (holds : Holding) (writes : List Written) (next : Option NextWorld) (u : Upshot) → u.writes ≡ writes ++ next_write next → IsDoneBy u → length writes ≤ 1 → IsOver name (Mine task) → Mines holds task u → Stands name (Mine task) writes next
mine_stands name task holds writes next u are done few over (inl refuses) = absurd (not_refused u.status done refuses.told.status_is)
mine_stands name task holds writes next u are done few over (inr mined) = two_stand name task writes next _ _ few (sym are ∙ mined.mines.done.writes) over

validate_stands : (name : List ℕ) (task : Validation) (holds : Holding) (writes : List Written) (next : Option NextWorld) (u : Upshot) → u.writes ≡ writes ++ next_write next → IsDoneBy u → length writes ≤ 0 → IsOld task.next name → Validates holds task u → Stands name (Validate task) writes next
validate_stands name task holds writes next u are done few over (inl refuses) = absurd (not_refused u.status done refuses.told.status_is)
validate_stands name task holds writes next u are done few over (inr judged) =
    let accepts = accepted task.json task.next judged.validates.verdict u done judged.validates.tells in
    next_stands name (Validate task) writes next task.next accepts.0 few (sym are ∙ accepts.1) over

call_stands : (name : List ℕ) (task : Calling) (holds : Holding) (writes : List Written) (next : Option NextWorld) (u : Upshot) → u.writes ≡ writes ++ next_write next → IsDoneBy u → Calls holds task u → Stands name (Call task) writes next
call_stands name task holds writes next u are done (inl refuses) = absurd (not_refused u.status done refuses.told.status_is)
call_stands name task holds writes next u are done (inr ran) = none_stands name (Call task) writes next (sym are ∙ ran.tells.told.writes)

few_writes : (change : Change) (most : ℕ) → vec_len change.writes ≤ most → length (map write_of change.writes.items) ≤ most
few_writes change most few =
    let count = change.writes.ok.0 in
    let mapped = length-map change.writes.items write_of in
    omega (arith, few, count, mapped)

stands : (name : List ℕ) (c : Command) (holds : Holding) (change : Change) → IsOver name c → ComesTo c holds (leaving (transition.Done change)) → vec_len change.writes ≤ most_beside c → Stands name c (map write_of change.writes.items) change.next
stands name (Deploy task) holds change over comes few = deploy_stands name task holds _ change.next (leaving (transition.Done change)) refl refl (few_writes change 0 few) over.0 comes.deploys
stands name (Mine task) holds change over comes few = mine_stands name task holds _ change.next (leaving (transition.Done change)) refl refl (few_writes change 1 few) over comes
stands name (Validate task) holds change over comes few = validate_stands name task holds _ change.next (leaving (transition.Done change)) refl refl (few_writes change 0 few) over.1 comes
stands name (Call task) holds change over comes few = call_stands name task holds _ change.next (leaving (transition.Done change)) refl refl comes
stands name Stored holds change over comes few = absurd over
stands name (Help words) holds change over comes few = absurd over
stands name Version holds change over comes few = absurd over
stands name (Asm text target json) holds change over comes few = absurd over
stands name (Text source target unchecked json) holds change over comes few = absurd over
stands name (Check target heap json) holds change over comes few = absurd over
stands name (Debug task) holds change over comes few = absurd over
stands name (Show task) holds change over comes few = absurd over

-- ---- the writes, over the files that stand

pub record WritesOver (name : List ℕ) (c : Command) (calls : Option (List ℕ)) (old new : Holding) (w next : World) (writes : List Written) (block : Option (List ℕ)) : Type 0 where
  pub tells : IsSome block → TellsBlock c
  pub wrote : Wrote writes (standing name w calls None old) (standing name next calls block new)
  pub kept_names : (other : List ℕ) → IsKeptName name other → new other ≡ old other

left_over : (name : List ℕ) (w : World) (calls block : Option (List ℕ)) (files : Holding) (next : Option NextWorld) → IfSome next (λ n. n.name.now ≡ name) → Wrote (next_write next) (standing name w calls block files) (standing name (world_left next w) calls block files)
left_over name w calls block files None left = refl
left_over name w calls block files (Some n) left = (standing name (world_view n.world) calls block files, next_world name w (world_view n.world) calls block files n.name.now left, refl)

no_files : (name : List ℕ) (c : Command) (calls : Option (List ℕ)) (old new : Holding) (w : World) (next : Option NextWorld) → IfSome next (λ n. n.name.now ≡ name) → new ≡ old → WritesOver name c calls old new w (world_left next w) (next_write next) None
no_files name c calls old new w next left same = record {
  tells = λ some. absurd (false≢true some);
  wrote = subst (λ (h : Holding). Wrote (next_write next) (standing name w calls None old) (standing name (world_left next w) calls None h)) (sym same) (left_over name w calls None old next left);
  kept_names = λ other is. ap (λ (h : Holding). h other) same;
}

no_block : (name : List ℕ) (c : Command) (calls : Option (List ℕ)) (old new : Holding) (w : World) (next : Option NextWorld) (block : Option (List ℕ)) (files : List Written) → IfSome next (λ n. n.name.now ≡ name) → AreApart [] block files → Wrote files old new
    → WritesOver name c calls old new w (world_left next w) (next_write next) block
no_block name c calls old new w next (Some b) files left apart wrote = let never = apart.0 in absurd cc
no_block name c calls old new w next None files left apart wrote = no_files name c calls old new w next left (subst (λ (ws : List Written). Wrote ws old new) (sym apart.0) wrote)

told_over : (name : List ℕ) (c : Command) (calls : Option (List ℕ)) (old new : Holding) (w : World) (next : Option NextWorld) (file bytes : List ℕ) → IfSome next (λ n. n.name.now ≡ name) → file ≢ name → file ≡ told_block → TellsBlock c → new ≡ old
    → WritesOver name c calls old new w (world_left next w) ((file, bytes) ∷ next_write next) (Some bytes)
told_over name c calls old new w next file bytes left no_world is tells same = record {
  tells = λ some. tells;
  wrote = (
    standing name w calls (Some bytes) old,
    told name w calls bytes old file no_world is,
    subst (λ (h : Holding). Wrote (next_write next) (standing name w calls (Some bytes) old) (standing name (world_left next w) calls (Some bytes) h)) (sym same) (left_over name w calls (Some bytes) old next left),
  );
  kept_names = λ other k. ap (λ (h : Holding). h other) same;
}

written_over : (name : List ℕ) (c : Command) (calls : Option (List ℕ)) (old new : Holding) (w : World) (next : Option NextWorld) (file bytes : List ℕ) → IfSome next (λ n. n.name.now ≡ name) → file ≢ name → file ≢ calls_here → file ≢ told_block → Changes old new file bytes
    → WritesOver name c calls old new w (world_left next w) ((file, bytes) ∷ next_write next) None
written_over name c calls old new w next file bytes left no_world no_calls untold changes = record {
  tells = λ some. absurd (false≢true some);
  wrote = (standing name w calls None new, written name w calls old new file bytes no_world no_calls untold changes, left_over name w calls None new next left);
  kept_names = kept name old new file bytes no_world no_calls untold changes;
}

pub one_written : (old new : Holding) (file bytes : List ℕ) → Wrote ((file, bytes) ∷ []) old new → Changes old new file bytes
one_written old new file bytes wrote = subst (λ (h : Holding). Changes old h file bytes) (sym wrote.2) wrote.1

one_block : (name : List ℕ) (c : Command) (calls : Option (List ℕ)) (old new : Holding) (w : World) (next : Option NextWorld) (block : Option (List ℕ)) (files : List Written) (file bytes : List ℕ) → IfSome next (λ n. n.name.now ≡ name)
    → file ≢ name → file ≢ calls_here → (file ≡ told_block → TellsBlock c) → AreApart ((file, bytes) ∷ []) block files → Wrote files old new → WritesOver name c calls old new w (world_left next w) ((file, bytes) ∷ next_write next) block
one_block name c calls old new w next (Some b) files file bytes left no_world no_calls tells apart wrote =
    let same = first _ _ _ _ apart.0 in
    let is : file ≡ told_block = ap (λ (v : Written). v.0) same in
    subst (λ (x : List ℕ). WritesOver name c calls old new w (world_left next w) ((file, bytes) ∷ next_write next) (Some x)) (ap (λ (v : Written). v.1) same)
    (told_over name c calls old new w next file bytes left no_world is (tells is) (subst (λ (ws : List Written). Wrote ws old new) apart.1 wrote))
one_block name c calls old new w next None files file bytes left no_world no_calls tells apart wrote =
    let changes = one_written old new file bytes (subst (λ (ws : List Written). Wrote ws old new) (sym apart.0) wrote) in
    written_over name c calls old new w next file bytes left no_world no_calls (λ e. apart.1 (record { bytes = bytes; are = ap (λ (f : List ℕ). (f, bytes) ∷ []) e })) changes

over_beside : (name : List ℕ) (c : Command) (calls : Option (List ℕ)) (old new : Holding) (w : World) (next : Option NextWorld) (writes : List Written) (block : Option (List ℕ)) (files : List Written) → IfSome next (λ n. n.name.now ≡ name) → (writes ≡ []) ⊎ IsBlock name c writes
    → AreApart writes block files → Wrote files old new → WritesOver name c calls old new w (world_left next w) (writes ++ next_write next) block
over_beside name c calls old new w next writes block files left (inl none) apart wrote =
    subst (λ (ws : List Written). WritesOver name c calls old new w (world_left next w) (ws ++ next_write next) block) (sym none) (no_block name c calls old new w next block files left (subst (λ (ws : List Written). AreApart ws block files) none apart) wrote)
over_beside name c calls old new w next writes block files left (inr one) apart wrote =
    subst (λ (ws : List Written). WritesOver name c calls old new w (world_left next w) (ws ++ next_write next) block) (sym one.is)
    (one_block name c calls old new w next block files one.file one.bytes left one.no_world one.no_calls one.tells (subst (λ (ws : List Written). AreApart ws block files) one.is apart) wrote)

-- ---- single commands

carried : (name line : List ℕ) (calls : Option (List (List ℕ))) (c : Command) (old new : Holding) (w : World) (change : Change) (a : Answered) → Asks name line (Single c) → IsOver name c → ComesTo c (standing name w (text_of_calls calls) None old) (leaving (transition.Done change))
    → vec_len change.writes ≤ most_beside c → IsNoted (Made (transition.Done change)) → IsCarriedOut change old new w a → Gets name line calls old new w a
carried name line calls c old new w change a asks over comes few noted out =
    let stand = stands name c (standing name w (text_of_calls calls) None old) change over comes few in
    let writes = map write_of change.writes.items in
    let does = over_beside name c (text_of_calls calls) old new w change.next writes out.block out.files stand.left stand.beside out.apart out.wrote in
    let text = string_bytes change.text ++ block_line out.block in
    let said = string_bytes change.note in
    let e : Exchange = record { line = line; calls = calls; status = status.Done; text = text; said = said } in record {
      exchange = e;
      line_is = refl;
      calls_are = refl;
      said = noted;
      reply_is = out.moves.reply_is;
      answer = inr (inr (record {
        command = Single c;
        asks = asks;
        does = record {
          upshot = leaving (transition.Done change);
          comes = comes;
          status_is = refl;
          block = out.block;
          tells_block = does.tells;
          wrote = subst (λ (v : World). Wrote (writes ++ next_write change.next) (standing name w (text_of_calls calls) None old) (standing name v (text_of_calls calls) out.block new)) (sym out.moves.world_is) does.wrote;
          kept = does.kept_names;
          text_is = refl;
        };
      }));
      quits = stays name e (world_left change.next w) text said status.Done a out.moves (λ is. no_quit name line (Single c) tt asks is.asks);
    }

done : (name line : List ℕ) (calls : Option (List (List ℕ))) (c : Command) (old new : Holding) (w : World) (change : Change) (a : Answered) → Asks name line (Single c) → IsOver name c → ComesTo c (standing name w (text_of_calls calls) None old) (leaving (transition.Done change))
    → vec_len change.writes ≤ most_beside c → IsNoted (Made (transition.Done change)) → Settles change old new w a → Gets name line calls old new w a
done name line calls c old new w change a asks over comes few noted (inl out) = carried name line calls c old new w change a asks over comes few noted out
done name line calls c old new w change a asks over comes few noted (inr undone) =
    fails name line calls (Single c) old new w undone.file a asks undone.same
    (inr (leaving (transition.Done change), comes, (undone.bytes, undone.others ++ next_write change.next, ap (λ (ws : List Written). ws ++ next_write change.next) undone.writes))) undone.reply

refused : (name line : List ℕ) (calls : Option (List (List ℕ))) (c : Command) (old new : Holding) (w : World) (told why : String Global) (a : Answered) → Asks name line (Single c) → ComesTo c (standing name w (text_of_calls calls) None old) (leaving (transition.Refused told why)) → new ≡ old
    → MovesOn w (string_bytes told) (string_bytes why ++ 10 ∷ []) status.Refused a → Gets name line calls old new w a
refused name line calls c old new w told why a asks comes same moves =
    let e : Exchange = record { line = line; calls = calls; status = status.Refused; text = string_bytes told; said = string_bytes why ++ 10 ∷ [] } in record {
      exchange = e;
      line_is = refl;
      calls_are = refl;
      said = inr (string_bytes why, refl);
      reply_is = moves.reply_is;
      answer = inr (inr (record {
        command = Single c;
        asks = asks;
        does = record {
          upshot = leaving (transition.Refused told why);
          comes = comes;
          status_is = refl;
          block = None;
          tells_block = λ some. absurd (false≢true some);
          wrote = ap₂ (λ (v : World) (h : Holding). standing name v (text_of_calls calls) None h) moves.world_is same;
          kept = λ other is. ap (λ (h : Holding). h other) same;
          text_is = sym (append-nil (string_bytes told));
        };
      }));
      quits = stays name e w (string_bytes told) (string_bytes why ++ 10 ∷ []) status.Refused a moves (not_done name e status.Refused refl refused_not_done);
    }

held_count : (holds : Holding) (names : List (List ℕ)) (cs : List Contract) → AreHeld holds names cs → length names ≡ length cs
held_count holds [] [] are = refl
held_count holds [] (c ∷ cs) are = absurd are
held_count holds (n ∷ names) [] are = absurd are
held_count holds (n ∷ names) (c ∷ cs) are = let rest = held_count holds names cs are.1 in omega (arith, rest)

told_onto : (json : Bool) (count : ℕ) (name : Bor (List ℕ)) (onto : Option (Bor (List ℕ))) (old : List ℕ) (before : ℕ) (text : List ℕ) → IsOld onto old → IsDeployedText json count (Some name) before text → IsDeployedText json count onto before text
unfolding deployed_data
told_onto json count name None old before text is told = absurd is
told_onto false count name (Some o) old before text is told = told
told_onto true count name (Some o) old before text is told = told

deployed : (name line : List ℕ) (calls : Option (List (List ℕ))) (task : Deploying) (old new : Holding) (w : World) (contracts : Vec (Deployed Global) Global) (json : Bool) (a : Answered) → Asks name line (Single (Deploy task)) → IsOver name (Deploy task)
    → IsPlan (Deploy task) (standing name w (text_of_calls calls) None old) w (Linked contracts json) → new ≡ old → IsExtended json w (map contract_view contracts.items) a → Gets name line calls old new w a
deployed name line calls task old new w contracts json a asks over plan same ext =
    let holds = standing name w (text_of_calls calls) None old in
    let cs = map contract_view contracts.items in
    let next = extended w cs in
    let names = texts task.modules.now in
    let read : IsReadBehind json holds w names (modules.Linked contracts) = plan.2 in
    let counts : length cs ≡ length names = sym (held_count holds names cs read.1) in
    let text_is = told_onto json (length cs) ext.name task.onto name (length w.contracts) ext.text over.1 ext.text_is in
    let text_of_task = subst (λ (j : Bool). IsDeployedText j (length names) task.onto (length w.contracts) ext.text) plan.0 (subst (λ (n : ℕ). IsDeployedText json n task.onto (length w.contracts) ext.text) counts text_is) in
    let u : Upshot = record { status = status.Done; writes = (task.world.now, world_bytes next) ∷ []; text = ext.text; why = [] } in
    let comes : ComesTo (Deploy task) holds u = record {
      free = free name task holds over;
      deploys = inr (record {
        base = w;
        room = record { is_base = old_world holds name w task.onto over.1 (subst (λ (n : List ℕ). HoldsWorld holds n w) over.0 plan.1); room = read.0 };
        extends = inl (record { contracts = cs; held = read.1; is = record { status_is = refl; writes = refl; text = text_of_task } });
      });
    } in
    let e : Exchange = record { line = line; calls = calls; status = status.Done; text = ext.text; said = [] } in record {
      exchange = e;
      line_is = refl;
      calls_are = refl;
      said = inl refl;
      reply_is = ext.moves.reply_is;
      answer = inr (inr (record {
        command = Single (Deploy task);
        asks = asks;
        does = record {
          upshot = u;
          comes = comes;
          status_is = refl;
          block = None;
          tells_block = λ some. absurd (false≢true some);
          wrote = (
            standing name ext.next (text_of_calls calls) None old,
            subst (λ (bytes : List ℕ). Changes holds (standing name ext.next (text_of_calls calls) None old) task.world.now bytes) ext.bytes_are (next_world name w ext.next (text_of_calls calls) None old task.world.now over.0),
            ap₂ (λ (v : World) (h : Holding). standing name v (text_of_calls calls) None h) ext.moves.world_is same,
          );
          kept = λ other is. ap (λ (h : Holding). h other) same;
          text_is = sym (append-nil ext.text);
        };
      }));
      quits = stays name e ext.next ext.text [] status.Done a ext.moves (λ is. no_quit name line (Single (Deploy task)) tt asks is.asks);
    }

linked : (name line : List ℕ) (calls : Option (List (List ℕ))) (c : Command) (old new : Holding) (w : World) (contracts : Vec (Deployed Global) Global) (json : Bool) (a : Answered) → Asks name line (Single c) → IsOver name c
    → IsPlan c (standing name w (text_of_calls calls) None old) w (Linked contracts json) → new ≡ old → IsExtended json w (map contract_view contracts.items) a → Gets name line calls old new w a
linked name line calls (Deploy task) old new w contracts json a asks over plan same ext = deployed name line calls task old new w contracts json a asks over plan same ext
linked name line calls (Mine task) old new w contracts json a asks over plan same ext = absurd plan
linked name line calls (Validate task) old new w contracts json a asks over plan same ext = absurd plan
linked name line calls (Call task) old new w contracts json a asks over plan same ext = absurd plan
linked name line calls Stored old new w contracts json a asks over plan same ext = absurd plan
linked name line calls (Help words) old new w contracts json a asks over plan same ext = absurd plan
linked name line calls Version old new w contracts json a asks over plan same ext = absurd plan
linked name line calls (Asm text target json-2) old new w contracts json a asks over plan same ext = absurd plan
linked name line calls (Text source target unchecked json-2) old new w contracts json a asks over plan same ext = absurd plan
linked name line calls (Check target heap json-2) old new w contracts json a asks over plan same ext = absurd plan
linked name line calls (Debug task) old new w contracts json a asks over plan same ext = absurd plan
linked name line calls (Show task) old new w contracts json a asks over plan same ext = absurd plan

-- what is left behind no other files is the world of these bytes
left_some : (writes : List Written) (next : Option NextWorld) (file bytes : List ℕ) → length writes ≤ 0 → writes ++ next_write next ≡ (file, bytes) ∷ [] → next ≡ None → ⊥
left_some [] None file bytes few e none = absurd cc
left_some [] (Some n) file bytes few e none = absurd cc
left_some (v ∷ vs) next file bytes few e none = omega (arith, few)

left_bytes : (writes : List Written) (n : NextWorld) (file bytes : List ℕ) → length writes ≤ 0 → writes ++ next_write (Some n) ≡ (file, bytes) ∷ [] → world_bytes (world_view n.world) ≡ bytes
left_bytes [] n file bytes few e = ap (λ (v : Written). v.1) (first _ _ _ _ e)
left_bytes (v ∷ vs) n file bytes few e = absurd (omega (arith, few))

pub leaves_some : (change : Change) (file bytes : List ℕ) → WritesBeside 0 (transition.Done change) → (leaving (transition.Done change)).writes ≡ (file, bytes) ∷ [] → change.next ≡ None → ⊥
leaves_some change file bytes none e missing = left_some (map write_of change.writes.items) change.next file bytes (few_writes change 0 (let same : vec_len change.writes ≡ 0 = none in omega (arith, same))) e missing

pub leaves_bytes : (change : Change) (n : NextWorld) (file bytes : List ℕ) → WritesBeside 0 (transition.Done change) → (leaving (transition.Done change)).writes ≡ (file, bytes) ∷ [] → change.next ≡ Some n → world_bytes (world_view n.world) ≡ bytes
leaves_bytes change n file bytes none e is =
    left_bytes (map write_of change.writes.items) n file bytes (few_writes change 0 (let same : vec_len change.writes ≡ 0 = none in omega (arith, same))) (subst (λ (o : Option NextWorld). map write_of change.writes.items ++ next_write o ≡ (file, bytes) ∷ []) is e)

pub leaves_next : (change : Change) (next : Option NextWorld) (file bytes : List ℕ) → change.next ≡ next → WritesBeside 0 (transition.Done change) → (leaving (transition.Done change)).writes ≡ (file, bytes) ∷ [] → IsSome change.next
leaves_next change None file bytes is none e = absurd (leaves_some change file bytes none e is)
leaves_next change (Some n) file bytes is none e = ap is_some is

extended_by : (json : Bool) (name : Bor (List ℕ)) (base : World) (cs : List Contract) (count : ℕ) (change : Change) (next : Option NextWorld) (a : Answered) → change.next ≡ next → count ≡ length cs → WritesBeside 0 (transition.Done change)
    → IsDone json name.now (world_bytes (extended base cs)) count (Some name) (length base.contracts) (leaving (transition.Done change)) → IfSome next (λ n. MovesOn (world_view n.world) (string_bytes change.text) [] status.Done a) → IsExtended json base cs a
extended_by json name base cs count change None a is few none done moves = absurd (leaves_some change name.now (world_bytes (extended base cs)) none done.writes is)
extended_by json name base cs count change (Some n) a is few none done moves = record {
  name = name;
  text = string_bytes change.text;
  text_is = subst (λ (k : ℕ). IsDeployedText json k (Some name) (length base.contracts) (string_bytes change.text)) few done.text;
  next = world_view n.world;
  bytes_are = leaves_bytes change n name.now (world_bytes (extended base cs)) none done.writes is;
  moves = moves;
}

pub goes_on_with : (json : Bool) (name : Bor (List ℕ)) (base : World) (contracts : Vec (Deployed Global) Global) (change : Change) (a : Answered) → WritesBeside 0 (transition.Done change)
    → IsDone json name.now (world_bytes (extended base (map contract_view contracts.items))) (vec_len contracts) (Some name) (length base.contracts) (leaving (transition.Done change)) → IfSome change.next (λ n. MovesOn (world_view n.world) (string_bytes change.text) [] status.Done a)
    → IsExtended json base (map contract_view contracts.items) a
goes_on_with json name base contracts change a none done moves =
    let count = contracts.ok.0 in
    let mapped = length-map contracts.items contract_view in
    let same : vec_len contracts ≡ length (map contract_view contracts.items) = omega (arith, count, mapped) in
    extended_by json name base (map contract_view contracts.items) (vec_len contracts) change change.next a refl same none done moves

-- ---- what is carried out, or undone

-- where at most one file is to be written and one failed, none was written
none_before : (name : List ℕ) (files : List Written) (old new : Holding) → length files ≤ 1 → WroteBefore name files old new → new ≡ old
none_before name [] old new few before = absurd before
none_before name (v ∷ []) old new few (inl first) = first.1
none_before name (v ∷ []) old new few (inr more) = absurd more.2
none_before name (v ∷ w ∷ vs) old new few before = absurd (omega (arith, few))

only_first : (name : List ℕ) (files : List Written) (old new : Holding) → length files ≤ 1 → WroteSome name files old new → new ≡ old
only_first name files old new few (inl none) = none.1
only_first name files old new few (inr before) = none_before name files old new few before

-- it is the first of the writes
names_one : (name : List ℕ) (files : List Written) (old new : Holding) → WroteBefore name files old new → IsOneOf name files
names_one name [] old new before = before
names_one name (v ∷ vs) old new (inl first) = inl first.0
names_one name (v ∷ vs) old new (inr more) = inr (names_one name vs more.0 new more.2)

one_of_first : (name : List ℕ) (files : List Written) → length files ≤ 1 → IsOneOf name files → (bytes : List ℕ) × (files ≡ (name, bytes) ∷ [])
one_of_first name [] few one = absurd one
one_of_first name (v ∷ []) few (inl same) = (v.1, ap (λ (n : List ℕ). (n, v.1) ∷ []) (sym same))
one_of_first name (v ∷ []) few (inr more) = absurd more
one_of_first name (v ∷ w ∷ vs) few one = absurd (omega (arith, few))

is_first : (name : List ℕ) (files : List Written) (old new : Holding) → length files ≤ 1 → WroteSome name files old new → (bytes : List ℕ) × (files ≡ (name, bytes) ∷ [])
is_first name files old new few (inl none) = one_of_first name files few none.0
is_first name files old new few (inr before) = one_of_first name files few (names_one name files old new before)

-- a block that is told leaves no file to be written
few_files : (writes : List Written) (block : Option (List ℕ)) (files : List Written) → length writes ≤ 1 → AreApart writes block files → length files ≤ 1
few_files writes (Some b) files few apart = let none = ap (λ (ws : List Written). length ws) apart.1 in omega (arith, none)
few_files writes None files few apart = let same = ap (λ (ws : List Written). length ws) apart.0 in omega (arith, few, same)

are_files : (writes : List Written) (block : Option (List ℕ)) (files : List Written) (name bytes : List ℕ) → AreApart writes block files → files ≡ (name, bytes) ∷ [] → writes ≡ (name, bytes) ∷ []
are_files writes (Some b) files name bytes apart is = let none : [] ≡ (name, bytes) ∷ [] = sym apart.1 ∙ is in absurd cc
are_files writes None files name bytes apart is = apart.0 ∙ is

pub nothing_written : (change : Change) (block : Option (List ℕ)) (files : List Written) (name : List ℕ) (old new : Holding) → vec_len change.writes ≤ 1 → AreApart (map write_of change.writes.items) block files → WroteSome name files old new → new ≡ old
nothing_written change block files name old new few apart some = only_first name files old new (few_files (map write_of change.writes.items) block files (few_writes change 1 few) apart) some

pub undone : (change : Change) (block : Option (List ℕ)) (files : List Written) (name : List ℕ) (old new : Holding) (w : World) (a : Answered) → vec_len change.writes ≤ 1 → AreApart (map write_of change.writes.items) block files → WroteSome name files old new
    → IsFileReply w name a → IsUndone change old new w a
undone change block files name old new w a few apart some reply =
    let all = map write_of change.writes.items in
    let most = few_writes change 1 few in
    let first = is_first name files old new (few_files all block files most apart) some in record {
      file = name;
      bytes = first.0;
      others = [];
      writes = are_files all block files name first.0 apart first.1;
      same = nothing_written change block files name old new few apart some;
      reply = reply;
    }

-- where one file was to be written and one failed, none was written
pub wrote_none : (file bytes name : List ℕ) (old new : Holding) → WroteSome name ((file, bytes) ∷ []) old new → new ≡ old
wrote_none file bytes name old new some = only_first name ((file, bytes) ∷ []) old new (omega arith) some

-- an answer of other, equal parts
pub moved : (w : World) (text told said why : List ℕ) (s : Status) (a : Answered) → text ≡ told → said ≡ why → MovesOn w text said s a → MovesOn w told why s a
moved w text told said why s a t y moves = subst (λ (b : List ℕ). MovesOn w told b s a) y (subst (λ (b : List ℕ). MovesOn w b said s a) t moves)

-- ---- what answers each line that asks for it

abbrev stood : List ℕ → World → Holding → Option (List ℕ) → Holding
stood name w files behind = standing name w behind None files

answers_done : (name : List ℕ) (c : Command) (behind : Option (List ℕ)) (old new : Holding) (w : World) (change : Change) (a : Answered) → IsOver name c → IsPlan c (standing name w behind None old) w (Made (transition.Done change))
    → FitsBeside c (Made (transition.Done change)) → IsNoted (Made (transition.Done change)) → Settles change old new w a → AnswersAsked name (Single c) behind old new w a
answers_done name c behind old new w change a over plan few noted settles line calls same asks =
    done name line calls c old new w change a asks over (subst (λ (b : Option (List ℕ)). ComesTo c (stood name w old b) (leaving (transition.Done change))) (sym same) plan) few noted settles

answers_refused : (name : List ℕ) (c : Command) (behind : Option (List ℕ)) (old new : Holding) (w : World) (told why : String Global) (a : Answered) → IsPlan c (standing name w behind None old) w (Made (transition.Refused told why)) → new ≡ old
    → MovesOn w (string_bytes told) (string_bytes why ++ 10 ∷ []) status.Refused a → AnswersAsked name (Single c) behind old new w a
answers_refused name c behind old new w told why a plan files moves line calls same asks =
    refused name line calls c old new w told why a asks (subst (λ (b : Option (List ℕ)). ComesTo c (stood name w old b) (leaving (transition.Refused told why))) (sym same) plan) files moves

pub answers_made : (name : List ℕ) (c : Command) (behind : Option (List ℕ)) (old mid new : Holding) (w : World) (t : Transition) (a : Answered) → IsOver name c → IsPlan c (standing name w behind None old) w (Made t)
    → FitsBeside c (Made t) → IsNoted (Made t) → mid ≡ old → SettlesTransition t mid new w a → AnswersAsked name (Single c) behind old new w a
answers_made name c behind old mid new w (transition.Done change) a over plan few noted kept settles = answers_done name c behind old new w change a over plan few noted (subst (λ (h : Holding). Settles change h new w a) kept settles)
answers_made name c behind old mid new w (transition.Refused told why) a over plan few noted kept settles = answers_refused name c behind old new w told why a plan (settles.0 ∙ kept) settles.1

pub answers_linked : (name : List ℕ) (c : Command) (behind : Option (List ℕ)) (old new : Holding) (w : World) (contracts : Vec (Deployed Global) Global) (json : Bool) (a : Answered) → IsOver name c → IsPlan c (standing name w behind None old) w (Linked contracts json) → new ≡ old
    → IsExtended json w (map contract_view contracts.items) a → AnswersAsked name (Single c) behind old new w a
answers_linked name c behind old new w contracts json a over plan files ext line calls same asks =
    linked name line calls c old new w contracts json a asks over (subst (λ (b : Option (List ℕ)). IsPlan c (stood name w old b) w (Linked contracts json)) (sym same) plan) files ext

pub answers_failed : (name : List ℕ) (c : Command) (behind : Option (List ℕ)) (old new : Holding) (w : World) (file : List ℕ) (a : Answered) → Reads c (standing name w behind None old) file → new ≡ old → IsFileReply w file a → AnswersAsked name (Single c) behind old new w a
answers_failed name c behind old new w file a reads files reply line calls same asks =
    fails name line calls (Single c) old new w file a asks files (inl (subst (λ (b : Option (List ℕ)). Reads c (stood name w old b) file) (sym same) reads)) reply

-- ---- `save`, `digest` and `quit`

saved : (name line : List ℕ) (calls : Option (List (List ℕ))) (file : Bor (List ℕ)) (old new : Holding) (w : World) (a : Answered) → Asks name line (Save file) → IsSaved file.now old new w a ⊎ IsNotSaved file.now old new w a → Gets name line calls old new w a
saved name line calls file old new w a asks (inl is) =
    let e : Exchange = record { line = line; calls = calls; status = status.Done; text = saved_line (length (world_bytes w)); said = [] } in record {
      exchange = e;
      line_is = refl;
      calls_are = refl;
      said = inl refl;
      reply_is = is.moves.reply_is;
      answer = inr (inr (record {
        command = Save file;
        asks = asks;
        does = record { status_is = refl; changes = is.changes; world = is.moves.world_is; text_is = refl };
      }));
      quits = stays name e w (saved_line (length (world_bytes w))) [] status.Done a is.moves (λ quits. no_quit name line (Save file) tt asks quits.asks);
    }
saved name line calls file old new w a asks (inr is) = fails name line calls (Save file) old new w file.now a asks is.same refl is.reply

pub answers_save : (name : List ℕ) (file : Bor (List ℕ)) (behind : Option (List ℕ)) (old new : Holding) (w : World) (a : Answered) → IsSaved file.now old new w a ⊎ IsNotSaved file.now old new w a → AnswersAsked name (Save file) behind old new w a
answers_save name file behind old new w a is line calls same asks = saved name line calls file old new w a asks is

pub answers_digest : (name : List ℕ) (behind : Option (List ℕ)) (old new : Holding) (w : World) (a : Answered) → new ≡ old → MovesOn w (digest_line (sha256 (world_bytes w))) [] status.Done a → AnswersAsked name Digest behind old new w a
answers_digest name behind old new w a files moves line calls same asks =
    let e : Exchange = record { line = line; calls = calls; status = status.Done; text = digest_line (sha256 (world_bytes w)); said = [] } in record {
      exchange = e;
      line_is = refl;
      calls_are = refl;
      said = inl refl;
      reply_is = moves.reply_is;
      answer = inr (inr (record {
        command = Digest;
        asks = asks;
        does = record { status_is = refl; same = same_session old new w a files moves.world_is; text_is = refl };
      }));
      quits = stays name e w (digest_line (sha256 (world_bytes w))) [] status.Done a moves (λ quits. no_quit name line Digest tt asks quits.asks);
    }

pub answers_quit : (name : List ℕ) (behind : Option (List ℕ)) (old new : Holding) (w : World) (a : Answered) → new ≡ old → Quits w a → AnswersAsked name Quit behind old new w a
answers_quit name behind old new w a files is line calls same asks = record {
  exchange = record { line = line; calls = calls; status = status.Done; text = []; said = [] };
  line_is = refl;
  calls_are = refl;
  said = inl refl;
  reply_is = is.reply_is;
  answer = inr (inr (record {
    command = Quit;
    asks = asks;
    does = record { status_is = refl; same = same_session old new w a files is.world_is; text_is = refl };
  }));
  quits = (λ ends. record { status_is = refl; asks = asks }, λ quits. is.ends);
}

-- ---- what answers each text of a line

-- the line asks for nothing
pub line_refused : (name : List ℕ) (l : Line) (behind : Option (List ℕ)) (files : Holding) (w : World) (a : Answered) → IsUsageReply w a → ((c : SessionCommand) → ¬ IsAsked name l c) → AnswersLine name l behind files files w a
line_refused name l behind files w a reply none text utf8 is calls same =
    asks_nothing name text calls files files w a refl reply (inr (λ c asks. none c (subst (λ (m : Line). IsAsked name m c) (same_Some asks.line l (sym asks.is_split ∙ is)) asks.asked)))

pub line_answered : (name : List ℕ) (l : Line) (c : SessionCommand) (behind : Option (List ℕ)) (old new : Holding) (w : World) (a : Answered) → IsAsked name l c → AnswersAsked name c behind old new w a → AnswersLine name l behind old new w a
line_answered name l c behind old new w a asks answers text utf8 is calls same = answers text calls same (record { utf8 = utf8; line = l; is_split = is; asked = asks })

pub words_refused : (name : List ℕ) (words : List (List ℕ)) (behind : Option (List ℕ)) (files : Holding) (w : World) (a : Answered) → IsUsageReply w a → None ≡ split words → AnswersWords name words behind files files w a
words_refused name words behind files w a reply none text utf8 are calls same =
    asks_nothing name text calls files files w a refl reply (inr (λ c asks. none-some asks.line (none ∙ (sym (ap split are) ∙ asks.is_split))))

pub words_answered : (name : List ℕ) (words : List (List ℕ)) (l : Line) (behind : Option (List ℕ)) (old new : Holding) (w : World) (a : Answered) → Some l ≡ split words → AnswersLine name l behind old new w a → AnswersWords name words behind old new w a
words_answered name words l behind old new w a is answers text utf8 are = answers text utf8 (ap split are ∙ sym is)

-- what is so is so where a call is refused
pub on_err : {T E : Type 0} (r : Result T E) (P : Type 0) → P → OnErr r P
on_err (Ok x) P p = tt
on_err (Err e) P p = p
