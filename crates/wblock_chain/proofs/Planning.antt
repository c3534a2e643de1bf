-- What a command comes to over the files that stand.
use Rattle.std.proofs.Common.{◌≡◌, ◌≢◌, ℕ, zero, suc, ◌+◌, ◌≤◌, ◌⊎◌, List, [], ◌∷◌, ◌++◌, Bool, Option, Some, None, Bor, String, Vec, Global, length, map, take, slice_get, string_bytes, vec_len, refl, sym, ap, subst, ◌∙◌, inl, inr, arith, append-nil}
use Rattle.std.proofs.lemmas.List.{length-map}
use Rattle.std.proofs.lemmas.Option.{none-some, same_Some}
use Rattle.link.specs.declared.deployed.Deployed.{Deployed}
use Rattle.spec_block.specs.Worlds.{Call as TheCall, Contract, World}
use Rattle.spec_block.specs.Bytes.{SpellsWorld, world_bytes}
use Rattle.world.specs.Views.{contract_view}
use Rattle.wblock_calls.specs.Texts.{SpellsCalls}
use Rattle.wblock_calls.specs.Words.{texts}
use Rattle.wblock_io.specs.Holding.{Holding}
use Rattle.wblock_line.specs.Answers.{Upshot, Written, upshot_of, write_of, writes_of}
use Rattle.wblock_line.specs.declared.answer.Answer.{Answer}
use Rattle.wblock_line.specs.declared.answer.Answer.TheVariants as answer
use Rattle.wblock_line.specs.declared.answer.Write.{Write}
use Rattle.wblock_line.specs.declared.perform.Status.TheVariants as status
use Rattle.wblock_line.specs.Inputs.{HoldsCalls, HoldsWorld, IsNextInput, TellsNoCalls}
use Rattle.wblock_line.specs.Transitions.{leaving, WritesBeside}
use Rattle.wblock_line.specs.Upshots.{IsRefusalWith}
use Rattle.wblock_line.specs.declared.transition.Transition.{Transition}
use Rattle.wblock_line.specs.declared.transition.Transition.TheVariants as transition
use Rattle.wblock_blocks.specs.Mines.{MinesOver}
use Rattle.wblock_blocks.specs.Validates.{IsNextFile, ValidatesOver}
use Rattle.wblock_blocks.specs.declared.mine.Mining.{Mining}
use Rattle.wblock_blocks.specs.declared.validate.Validation.{Validation}
use Rattle.wblock_call.specs.Calling.{Calls, TellsExecution}
use Rattle.wblock_call.specs.declared.called.Calling.{Calling}
use Rattle.wblock_modules.specs.Deploys.{AreHeld, Holds, IsBase, IsNextModule, IsOld, IsReadBehind, TellsRefusal}
use Rattle.wblock_modules.specs.declared.deploy.Modules.TheVariants as modules
use Rattle.wblock_commands.specs.Deploying.{IsFree}
use Rattle.wblock_commands.specs.Does.{Reads}
use Rattle.wblock_commands.specs.Words.{IsApart}
use Rattle.wblock_commands.specs.declared.command.Command.{Command}
use Rattle.wblock_commands.specs.declared.command.Command.TheVariants.{Stored, Help, Version, Asm, Text, Check, Deploy, Mine, Validate, Call, Debug, Show}
use Rattle.wblock_commands.specs.declared.command.Deploying.{Deploying}
use Rattle.wblock_chain.specs.declared.plan.Plan.{Plan}
use Rattle.wblock_chain.specs.declared.plan.Plan.TheVariants.{Made, Linked}
use Rattle.wblock_chain.specs.Plans.{FitsBeside, FitsOne, IsPlan, IsPlanned, most_beside}
use Rattle.wblock_chain.specs.Sessions.{ComesTo, standing}
use Rattle.wblock_chain.specs.Words.{IsOver}
use Rattle.wblock_chain.proofs.Standing.{at_lone, at_other, at_world, held_world}

-- ---- an answer that leaves no world

abbrev done_with : List ℕ → List Written → Upshot
done_with text writes = record { status = status.Done; writes = writes; text = text; why = [] }

pub without_world : (a : Answer) (writes : Vec Write Global) (text note : String Global) → a ≡ answer.Done writes text → leaving (transition.Done (record { writes = writes; next = None; text = text; note = note })) ≡ upshot_of a
without_world a writes text note is = ap (done_with (string_bytes text)) (append-nil (map write_of writes.items)) ∙ sym (ap upshot_of is)

pub none_beside : (a : Answer) (writes : Vec Write Global) (text : String Global) → a ≡ answer.Done writes text → writes_of a ≡ [] → vec_len writes ≡ 0
none_beside a writes text is none =
    let mapped : map write_of writes.items ≡ [] = sym (ap writes_of is) ∙ none in
    let size = writes.ok.0 in
    let count = length-map writes.items write_of in
    let zeros = ap (λ (ws : List Written). length ws) mapped in
    omega (arith, size, count, zeros)

-- ---- mine and validate

held_calls : (holds : Holding) (file text : List ℕ) (calls : List TheCall) → holds file ≡ Some text → SpellsCalls text calls → length calls ≤ 65535 → HoldsCalls holds file calls
held_calls holds file text calls held is few = (record { bytes = text; held = held; is = is }, few)

pub mined : (name : List ℕ) (w : World) (behind : Option (List ℕ)) (files : Holding) (task : Mining) (text : List ℕ) (calls : List TheCall) (u : Upshot) → SpellsWorld (world_bytes w) w → IsOver name (Mine task)
    → standing name w behind None files task.calls.now ≡ Some text → SpellsCalls text calls → length calls ≤ 65535 → MinesOver w calls task u → ComesTo (Mine task) (standing name w behind None files) u
mined name w behind files task text calls u spelled over held is few mines = inr (record {
  world = w;
  held_world = held_world name w behind None files task.world.now over.0 spelled;
  calls = calls;
  held_calls = held_calls (standing name w behind None files) task.calls.now text calls held is few;
  mines = mines;
})

pub no_calls_to_mine : (name : List ℕ) (w : World) (behind : Option (List ℕ)) (files : Holding) (task : Mining) (text line : List ℕ) (u : Upshot) → SpellsWorld (world_bytes w) w → IsOver name (Mine task)
    → standing name w behind None files task.calls.now ≡ Some text → TellsNoCalls text line → IsRefusalWith task.json line u → ComesTo (Mine task) (standing name w behind None files) u
no_calls_to_mine name w behind files task text line u spelled over held why told = inl (record {
  line = line;
  why = inr (w, held_world name w behind None files task.world.now over.0 spelled, record { bytes = text; held = held; is = why });
  told = told;
})

pub reads_calls : (name : List ℕ) (w : World) (behind : Option (List ℕ)) (files : Holding) (world calls file : List ℕ) → SpellsWorld (world_bytes w) w → world ≡ name → file ≡ calls → IsNextInput (standing name w behind None files) world calls file
reads_calls name w behind files world calls file spelled over same = inr (w, held_world name w behind None files world over spelled, same)

pub validated : (name : List ℕ) (w : World) (behind : Option (List ℕ)) (files : Holding) (task : Validation) (text bytes : List ℕ) (calls : List TheCall) (u : Upshot) → SpellsWorld (world_bytes w) w → IsOver name (Validate task)
    → standing name w behind None files task.calls.now ≡ Some text → SpellsCalls text calls → length calls ≤ 65535 → files task.block.now ≡ Some bytes → ValidatesOver w calls bytes task u → ComesTo (Validate task) (standing name w behind None files) u
validated name w behind files task text bytes calls u spelled over held is few block validates = inr (record {
  world = w;
  held_world = held_world name w behind None files task.world.now over.0 spelled;
  calls = calls;
  held_calls = held_calls (standing name w behind None files) task.calls.now text calls held is few;
  bytes = bytes;
  held_block = at_other name w behind files task.block.now over.2.block_is over.2.apart ∙ block;
  validates = validates;
})

pub no_calls_to_validate : (name : List ℕ) (w : World) (behind : Option (List ℕ)) (files : Holding) (task : Validation) (text line : List ℕ) (u : Upshot) → SpellsWorld (world_bytes w) w → IsOver name (Validate task)
    → standing name w behind None files task.calls.now ≡ Some text → TellsNoCalls text line → IsRefusalWith task.json line u → ComesTo (Validate task) (standing name w behind None files) u
no_calls_to_validate name w behind files task text line u spelled over held why told = inl (record {
  line = line;
  why = inr (w, held_world name w behind None files task.world.now over.0 spelled, record { bytes = text; held = held; is = why });
  told = told;
})

pub reads_block : (name : List ℕ) (w : World) (behind : Option (List ℕ)) (files : Holding) (task : Validation) (text file : List ℕ) (calls : List TheCall) → SpellsWorld (world_bytes w) w → IsOver name (Validate task)
    → standing name w behind None files task.calls.now ≡ Some text → SpellsCalls text calls → length calls ≤ 65535 → file ≡ task.block.now → IsNextFile (standing name w behind None files) task file
reads_block name w behind files task text file calls spelled over held is few same = inr (
  record {
    world = w;
    held_world = held_world name w behind None files task.world.now over.0 spelled;
    calls = calls;
    held_calls = held_calls (standing name w behind None files) task.calls.now text calls held is few;
  },
  same,
)

-- ---- call

pub called : (w : World) (task : Calling) (u : Upshot) (holds : Holding) → SpellsWorld (world_bytes w) w → TellsExecution task.style w task.call u → holds task.world.now ≡ Some (world_bytes w) → Calls holds task u
called w task u holds spelled tells held = inr (record { world = w; held = record { bytes = world_bytes w; held = held; is = spelled }; tells = tells })

-- ---- deploy

apart_at : (name : List ℕ) (names : List (List ℕ)) (number : ℕ) (file : List ℕ) → IsApart name names → slice_get names number ≡ Some file → file ≢ name
apart_at name [] number file apart there = absurd (none-some file there)
apart_at name (n ∷ names) zero file apart there = λ e. apart.0 (same_Some n file there ∙ e)
apart_at name (n ∷ names) (suc number) file apart there = apart_at name names number file apart.1 there

lone_held : (name : List ℕ) (w : World) (files : Holding) (names : List (List ℕ)) (cs : List Contract) → IsApart name names → AreHeld files names cs → AreHeld (standing name w None None files) names cs
lone_held name w files [] [] apart are = tt
lone_held name w files [] (c ∷ cs) apart are = absurd are
lone_held name w files (n ∷ names) [] apart are = absurd are
lone_held name w files (n ∷ names) (c ∷ cs) apart are = (
  record { bytes = are.0.bytes; held = at_lone name w files n apart.0 ∙ are.0.held; is = are.0.is },
  lone_held name w files names cs apart.1 are.1,
)

apart_take : (name : List ℕ) (number : ℕ) (names : List (List ℕ)) → IsApart name names → IsApart name (take number names)
apart_take name zero names apart = tt
apart_take name (suc number) [] apart = tt
apart_take name (suc number) (n ∷ names) apart = (apart.0, apart_take name number names apart.1)

pub lone_read : (json : Bool) (name : List ℕ) (w : World) (files : Holding) (names : List (List ℕ)) (contracts : Vec (Deployed Global) Global) → IsApart name names → IsReadBehind json files w names (modules.Linked contracts)
    → IsReadBehind json (standing name w None None files) w names (modules.Linked contracts)
lone_read json name w files names contracts apart is = (is.0, lone_held name w files names (map contract_view contracts.items) apart is.1)

pub lone_next : (name : List ℕ) (w : World) (files : Holding) (names : List (List ℕ)) (file : List ℕ) → IsApart name names → IsNextModule files names file → IsNextModule (standing name w None None files) names file
lone_next name w files names file apart next = record {
  number = next.number;
  before = next.before;
  held_before = lone_held name w files (take next.number names) next.before (apart_take name next.number names apart) next.held_before;
  there = next.there;
}

lone_refusal : (json : Bool) (name : List ℕ) (w : World) (files : Holding) (names : List (List ℕ)) (told sentence : List ℕ) → IsApart name names → TellsRefusal json files names told sentence → TellsRefusal json (standing name w None None files) names told sentence
lone_refusal json name w files names told sentence apart is = record {
  number = is.number;
  before = is.before;
  held_before = lone_held name w files (take is.number names) is.before (apart_take name is.number names apart) is.held_before;
  name = is.name;
  there = is.there;
  bytes = is.bytes;
  held = at_lone name w files is.name (apart_at name names is.number is.name apart is.there) ∙ is.held;
  refusal = is.refusal;
  why = is.why;
  line_is = is.line_is;
}

-- OLD is WORLD
pub old_world : (holds : Holding) (name : List ℕ) (w : World) (onto : Option (Bor (List ℕ))) → IsOld onto name → HoldsWorld holds name w → IsBase holds onto w
old_world holds name w None old held = absurd old
old_world holds name w (Some o) old held = subst (λ (n : List ℕ). HoldsWorld holds n w) old held

pub free : (name : List ℕ) (task : Deploying) (holds : Holding) → IsOver name (Deploy task) → IsFree task holds
free name task holds over = inr (inr (subst (IsOld task.onto) (sym over.0) over.1))

refused_behind : (name : List ℕ) (w : World) (files : Holding) (task : Deploying) (told why : String Global) → SpellsWorld (world_bytes w) w → IsOver name (Deploy task)
    → IsReadBehind task.json files w (texts task.modules.now) (modules.Refused told why) → ComesTo (Deploy task) (standing name w None None files) (leaving (transition.Refused told why))
refused_behind name w files task told why spelled over (inl many) =
    let holds = standing name w None None files in
    let is = old_world holds name w task.onto over.1 (held_world name w None None files name refl spelled) in record {
      free = free name task holds over;
      deploys = inl (record {
        line = many.line;
        why = inr (record { base = w; is_base = is; crowd = many.crowd });
        told = record { status_is = refl; writes = refl; line = many.told_is };
      });
    }
refused_behind name w files task told why spelled over (inr one) =
    let holds = standing name w None None files in
    let is = old_world holds name w task.onto over.1 (held_world name w None None files name refl spelled) in record {
      free = free name task holds over;
      deploys = inr (record {
        base = w;
        room = record { is_base = is; room = one.0 };
        extends = inr (record { status_is = refl; writes = refl; line = lone_refusal task.json name w files (texts task.modules.now) (string_bytes told) (string_bytes why) over.2 one.1 });
      });
    }

-- the modules are refused
pub no_modules : (name : List ℕ) (w : World) (files : Holding) (task : Deploying) (told why : String Global) → SpellsWorld (world_bytes w) w → IsOver name (Deploy task)
    → IsReadBehind task.json files w (texts task.modules.now) (modules.Refused told why) → IsPlan (Deploy task) (standing name w None None files) w (Made (transition.Refused told why))
no_modules name w files task told why spelled over is = refused_behind name w files task told why spelled over is

-- the modules are contracts
pub linked : (name : List ℕ) (w : World) (files : Holding) (task : Deploying) (contracts : Vec (Deployed Global) Global) → SpellsWorld (world_bytes w) w → IsOver name (Deploy task)
    → IsReadBehind task.json files w (texts task.modules.now) (modules.Linked contracts) → IsPlan (Deploy task) (standing name w None None files) w (Linked contracts task.json)
linked name w files task contracts spelled over is = (refl, held_world name w None None files task.world.now over.0 spelled, lone_read task.json name w files (texts task.modules.now) contracts over.2 is)

pub reads_module : (name : List ℕ) (w : World) (files : Holding) (task : Deploying) (file : List ℕ) → SpellsWorld (world_bytes w) w → IsOver name (Deploy task) → length w.contracts + length task.modules.now ≤ 1024
    → IsNextModule files (texts task.modules.now) file → Reads (Deploy task) (standing name w None None files) file
reads_module name w files task file spelled over fits next =
    let holds = standing name w None None files in
    let count = length-map task.modules.now (λ (m : Bor (List ℕ)). m.now) in record {
      free = free name task holds over;
      next = inr (record {
        base = w;
        room = record { is_base = old_world holds name w task.onto over.1 (held_world name w None None files name refl spelled); room = omega (arith, count, fits) };
        next = lone_next name w files (texts task.modules.now) file over.2 next;
      });
    }

-- ---- what is written beside the world, and what is said

pub fits : (c : Command) (t : Transition) (count : ℕ) → count ≤ most_beside c → WritesBeside count t → FitsBeside c (Made t)
fits c (transition.Done change) count most beside = let same : vec_len change.writes ≡ count = beside in omega (arith, most, same)
fits c (transition.Refused line why) count most beside = tt

-- what is true of a plan follows from what is true of its transition
pub as_planned : (P : Transition → Type 0) (R : Plan → Type 0) (p : Plan) → ((t : Transition) → P t → R (Made t)) → IsPlanned P p → R p
as_planned P R (Made t) follows is = follows t is
as_planned P R (Linked contracts json) follows is = absurd is

one_most : (c : Command) → most_beside c ≤ 1
one_most (Mine task) = omega arith
one_most c = omega arith

pub fits_one : (c : Command) (t : Transition) → FitsBeside c (Made t) → FitsOne t
fits_one c (transition.Done change) few = let most = one_most c in omega (arith, few, most)
fits_one c (transition.Refused line why) few = tt

-- a session has no other command
pub none_other : (name : List ℕ) (c : Command) → IsOver name c → ((task : Mining) → c ≡ Mine task → ⊥) → ((task : Validation) → c ≡ Validate task → ⊥) → ((task : Calling) → c ≡ Call task → ⊥) → ((task : Deploying) → c ≡ Deploy task → ⊥) → ⊥
none_other name (Mine task) over mine validate call deploy = mine task refl
none_other name (Validate task) over mine validate call deploy = validate task refl
none_other name (Call task) over mine validate call deploy = call task refl
none_other name (Deploy task) over mine validate call deploy = deploy task refl
none_other name Stored over mine validate call deploy = over
none_other name (Help words) over mine validate call deploy = over
none_other name Version over mine validate call deploy = over
none_other name (Asm text target json) over mine validate call deploy = over
none_other name (Text source target unchecked json) over mine validate call deploy = over
none_other name (Check target heap json) over mine validate call deploy = over
none_other name (Debug task) over mine validate call deploy = over
none_other name (Show task) over mine validate call deploy = over
