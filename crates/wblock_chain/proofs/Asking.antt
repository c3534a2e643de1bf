-- What the words of a line ask for is over the session's world.
use Rattle.std.proofs.Common.{◌≡◌, ◌≢◌, ℕ, ◌+◌, ◌≤◌, ◌⊎◌, List, [], ◌∷◌, ◌++◌, Bool, true, false, ◌||◌, ◌==◌, Option, Some, None, IfSome, MatchOption, Bor, Vec, Global, vec_len, bytes_eq, codes, length, if◌then◌else◌, refl, sym, ap, subst, ◌∙◌, inl, inr, arith}
use Rattle.std.proofs.lemmas.Bool.{and_parts, or_cases, both_ways, cond-true, cond-false, false≢true}
use Rattle.std.proofs.lemmas.List.{length-map}
use Rattle.std.proofs.lemmas.Option.{none-some, same_Some}
use Rattle.std.proofs.lemmas.Slice.Eq.{bytes_eq-Decides}
use Rattle.wblock_calls.specs.Words.{texts}
use Rattle.wblock_line.specs.Words.{Choice, Line, choices, is_option, split, with_front}
use Rattle.wblock_blocks.specs.declared.mine.Mining.{Mining}
use Rattle.wblock_blocks.specs.declared.validate.Validation.{Validation}
use Rattle.wblock_call.specs.declared.called.Calling.{Calling}
use Rattle.wblock_call.specs.Calling.{AsksCall}
use Rattle.wblock_modules.specs.Deploys.{IsOld}
use Rattle.wblock_commands.specs.Options.{IsNameOrNone, IsNumber, IsNumberOr, values_in}
use Rattle.wblock_commands.specs.Words.{AsksDeploy, AsksMine, AsksValidate, HasFew, IsApart, IsLineOf}
use Rattle.wblock_commands.specs.declared.command.Command.{Command}
use Rattle.wblock_commands.specs.declared.command.Command.TheVariants.{Stored, Help, Version, Asm, Text, Check, Deploy, Mine, Validate, Call, Debug, Show}
use Rattle.wblock_commands.specs.declared.command.Deploying.{Deploying}
use Rattle.wblock_chain.specs.declared.asked.SessionCommand.{SessionCommand}
use Rattle.wblock_chain.specs.declared.asked.SessionCommand.TheVariants.{Single, Save, Digest, Quit}
use Rattle.wblock_chain.specs.Plans.{AreLoneWords, IsLone, IsLoneAsked}
use Rattle.wblock_chain.specs.Words.{AreBeside, Asks, AsksChain, IsAsked, IsChain, IsFewAsked, IsOver, IsOverAsked, IsOverWorld, IsOwn, calls_here, has_calls, named, named_behind, single_behind, single_line, single_options, single_words, takes_calls}

-- ---- lists

push_is_some : (xs : List (List ℕ)) (x : List ℕ) → xs ++ x ∷ [] ≡ [] → ⊥
push_is_some [] x e = absurd cc
push_is_some (y ∷ xs) x e = absurd cc

only : (xs : List (List ℕ)) (x y : List ℕ) → xs ++ x ∷ [] ≡ y ∷ [] → x ≡ y
only [] x y e = cc
only (z ∷ xs) x y e = let rest : xs ++ x ∷ [] ≡ [] = cc in absurd (push_is_some xs x rest)

third : (xs : List (List ℕ)) (x a b c : List ℕ) → xs ++ x ∷ [] ≡ a ∷ b ∷ c ∷ [] → x ≡ c
third [] x a b c e = absurd cc
third (y ∷ []) x a b c e = absurd cc
third (y ∷ z ∷ xs) x a b c e = let rest : xs ++ x ∷ [] ≡ c ∷ [] = cc in only xs x c rest

heads : (v w : List ℕ) (vs ws : List (List ℕ)) → v ∷ vs ≡ w ∷ ws → v ≡ w
heads v w vs ws e = cc

tails : (v w : List ℕ) (vs ws : List (List ℕ)) → v ∷ vs ≡ w ∷ ws → vs ≡ ws
tails v w vs ws e = cc

-- lines of different first words are different
differ : (v w : List ℕ) (vs ws : List (List ℕ)) → bytes_eq v w ≡ false → v ∷ vs ≡ w ∷ ws → ⊥
differ v w vs ws never e = both_ways (bytes_eq v w) never ((bytes_eq-Decides v w).1 (heads v w vs ws e))

-- ---- the program's line

-- WORLD stands behind the first word
pub record IsSecond (name : List ℕ) (words : List (List ℕ)) (command world : List ℕ) (rest : List (List ℕ)) : Type 0 where
  pub others : List (List ℕ)
  pub words_are : words ≡ command ∷ others
  pub world_is : world ≡ name
  pub rest_is : single_behind name command others ≡ rest

world_second : (name : List ℕ) (words : List (List ℕ)) (command world : List ℕ) (rest : List (List ℕ)) → single_words name words ≡ command ∷ world ∷ rest → IsSecond name words command world rest
world_second name [] command world rest e = absurd cc
world_second name (w ∷ others) command world rest e =
    let first : w ≡ command = heads w command (name ∷ single_behind name w others) (world ∷ rest) e in
    let behind : name ∷ single_behind name w others ≡ world ∷ rest = tails w command (name ∷ single_behind name w others) (world ∷ rest) e in
    record {
      others = others;
      words_are = ap (λ (v : List ℕ). v ∷ others) first;
      world_is = sym (heads name world (single_behind name w others) rest behind);
      rest_is = subst (λ (v : List ℕ). single_behind name v others ≡ rest) first (tails name world (single_behind name w others) rest behind);
    }

kept : (b : Bool) (v : List ℕ) (all front back : List (List ℕ)) → all ≡ front ++ back → (if b then v ∷ all else all) ≡ (if b then v ∷ front else front) ++ back
kept true v all front back e = ap (λ (xs : List (List ℕ)). v ∷ xs) e
kept false v all front back e = e

values_behind : (option : List ℕ) (front back : List Choice) → values_in option (front ++ back) ≡ values_in option front ++ values_in option back
values_behind option [] back = refl
values_behind option (o ∷ os) back = kept (bytes_eq o.0 option) o.1 (values_in option (os ++ back)) (values_in option os) (values_in option back) (values_behind option os back)

-- the one value of an option that stands last
last_value : (name : List ℕ) (values : List (List ℕ)) (given : Option (Bor (List ℕ))) → IsNameOrNone (values ++ name ∷ []) given → IsOld given name
last_value name values None e = push_is_some values name e
last_value name values (Some old) e = only values name old.now e

next_beside : (name calls block : List ℕ) (next : Option (Bor (List ℕ))) → IsOld next name → IfSome next (λ n. (calls ≢ n.now) × (block ≢ n.now)) → block ≢ calls_here → AreBeside name calls block
next_beside name calls block None old apart here = absurd old
next_beside name calls block (Some n) old apart here = record { calls_are = λ e. apart.0 (e ∙ old); block_is = λ e. apart.1 (e ∙ old); apart = here }

deploy_over : (name : List ℕ) (line : Line) (task : Deploying) → AsksDeploy (single_line name line) task → IsOver name (Deploy task)
deploy_over name line task asks =
    let is = world_second name line.words (codes "deploy") task.world.now (texts task.modules.now) asks.names.words_are in
    let options : single_options name line.words line.options ≡ line.options ++ (codes "--onto", name) ∷ [] = ap (λ (ws : List (List ℕ)). single_options name ws line.options) is.words_are in
    let values : values_in (codes "--onto") (single_options name line.words line.options) ≡ values_in (codes "--onto") line.options ++ name ∷ [] = ap (values_in (codes "--onto")) options ∙ values_behind (codes "--onto") line.options ((codes "--onto", name) ∷ []) in (
      is.world_is,
      last_value name (values_in (codes "--onto") line.options) task.onto (subst (λ (vs : List (List ℕ)). IsNameOrNone vs task.onto) values asks.onto),
      subst (λ (w : List ℕ). IsApart w (texts task.modules.now)) is.world_is asks.names.apart,
    )

mine_over : (name : List ℕ) (line : Line) (task : Mining) → AsksMine (single_line name line) task → task.block.now ≢ calls_here → IsOver name (Mine task)
mine_over name line task asks here =
    let is = world_second name line.words (codes "mine") task.world.now (task.calls.now ∷ task.block.now ∷ task.next.now ∷ []) asks.words in
    let next : name ≡ task.next.now = third is.others name task.calls.now task.block.now task.next.now is.rest_is in (
      is.world_is,
      sym next,
      record {
        calls_are = λ e. asks.apart.list (e ∙ next);
        block_is = λ e. asks.apart.world (is.world_is ∙ sym e);
        apart = here;
      },
    )

validate_over : (name : List ℕ) (line : Line) (task : Validation) → AsksValidate (single_line name line) task → task.block.now ≢ calls_here → IsOver name (Validate task)
validate_over name line task asks here =
    let is = world_second name line.words (codes "validate") task.world.now (task.calls.now ∷ task.block.now ∷ []) asks.spells.counts.words in
    let options : single_options name line.words line.options ≡ line.options ++ (codes "--next", name) ∷ [] = ap (λ (ws : List (List ℕ)). single_options name ws line.options) is.words_are in
    let values : values_in (codes "--next") (single_options name line.words line.options) ≡ values_in (codes "--next") line.options ++ name ∷ [] = ap (values_in (codes "--next")) options ∙ values_behind (codes "--next") line.options ((codes "--next", name) ∷ []) in
    let old = last_value name (values_in (codes "--next") line.options) task.next (subst (λ (vs : List (List ℕ)). IsNameOrNone vs task.next) values asks.spells.next) in (
      is.world_is,
      old,
      next_beside name task.calls.now task.block.now task.next old asks.apart here,
    )

call_over : (name : List ℕ) (line : Line) (task : Calling) → AsksCall (single_line name line) task → IsOver name (Call task)
call_over name line task asks = (world_second name line.words (codes "call") task.world.now asks.spelling asks.words).world_is

-- a command of the session is over its world
pub is_over : (name : List ℕ) (line : Line) (c : Command) → IsLineOf (single_line name line) c → IsOverWorld c → IsOver name c
is_over name line Stored asks over = absurd over
is_over name line (Help words) asks over = absurd over
is_over name line Version asks over = absurd over
is_over name line (Asm text target json) asks over = absurd over
is_over name line (Text source target unchecked json) asks over = absurd over
is_over name line (Check target heap json) asks over = absurd over
is_over name line (Deploy task) asks over = deploy_over name line task asks
is_over name line (Mine task) asks over = mine_over name line task asks over
is_over name line (Validate task) asks over = validate_over name line task asks over
is_over name line (Call task) asks over = call_over name line task asks
is_over name line (Debug task) asks over = absurd over
is_over name line (Show task) asks over = absurd over

-- ---- numbers

within : (usual least most n : ℕ) (values : List (List ℕ)) → least ≤ usual → usual ≤ most → IsNumberOr usual values least most n → (least ≤ n) × (n ≤ most)
within usual least most n values low high (inl e) = let same = e.1 in (omega (arith, low, same), omega (arith, high, same))
within usual least most n values low high (inr is) = (is.enough, is.few)

-- a line asks for few workers, tries and modules
pub has_few : (line : Line) (c : Command) → IsLineOf line c → HasFew c
has_few line Stored asks = tt
has_few line (Help words) asks = tt
has_few line Version asks = tt
has_few line (Asm text target json) asks = tt
has_few line (Text source target unchecked json) asks = tt
has_few line (Check target heap json) asks = tt
has_few line (Deploy task) asks =
    let few = asks.names.few in
    let count = length-map task.modules.now (λ (w : Bor (List ℕ)). w.now) in
    omega (arith, few, count)
has_few line (Mine task) asks = (within 4 1 64 task.workers _ (omega arith) (omega arith) asks.workers, within 3 1 16 task.tries _ (omega arith) (omega arith) asks.tries)
has_few line (Validate task) asks = within 4 1 64 task.workers _ (omega arith) (omega arith) asks.spells.counts.workers_are
has_few line (Call task) asks = tt
has_few line (Debug task) asks = tt
has_few line (Show task) asks = tt

-- ---- what is no single command's

-- words that are none of the session's own ask for none of these
pub nothing_own : (line : Line) → ((file : List ℕ) → line.words ≡ codes "save" ∷ file ∷ [] → line.options ≡ [] → ⊥) → (line.words ≡ codes "digest" ∷ [] → line.options ≡ [] → ⊥) → (line.words ≡ codes "quit" ∷ [] → line.options ≡ [] → ⊥) → (c : SessionCommand) → IsOwn line c → ⊥
nothing_own line save digest quit (Single c) is = is
nothing_own line save digest quit (Save file) is = save file.now is.0 is.1
nothing_own line save digest quit Digest is = digest is.0 is.1
nothing_own line save digest quit Quit is = quit is.0 is.1

-- a line that has options
pub has_options : (os : Vec (Bor (List ℕ) × Bor (List ℕ)) Global) (b : Bool) → b ≡ (vec_len os == 0) → b ≡ false → choices os.items ≡ [] → ⊥
has_options os b is e none =
    let size = os.ok.0 in
    let count = length-map {B = Choice} os.items (λ (o : Bor (List ℕ) × Bor (List ℕ)). (o.0.now, o.1.now)) in
    let zeros = ap (λ (cs : List Choice). length cs) none in
    let empty : vec_len os ≡ 0 = omega (arith, size, count, zeros) in
    let never : (0 == 0) ≡ false = sym (ap (λ (n : ℕ). n == 0) empty) ∙ (sym is ∙ e) in
    absurd cc

-- ---- calls behind a line that deploys

abbrev BeginsWith : List ℕ → Line → Type 0
BeginsWith w line = (words : List (List ℕ)) × (line.words ≡ w ∷ words)

fronted : (w : List ℕ) (rest : Option Line) (line : Line) → with_front (w ∷ []) [] rest ≡ Some line → BeginsWith w line
fronted w None line e = absurd (none-some line e)
fronted w (Some l) line e = (l.words, sym (ap (λ (x : Line). x.words) (same_Some _ _ e)))

-- a first word that is no option stays the first
split_head : (w : List ℕ) (ws : List (List ℕ)) (line : Line) → is_option w ≡ false → split (w ∷ ws) ≡ Some line → BeginsWith w line
unfolding split
split_head w [] line never e = ([], sym (ap (λ (x : Line). x.words) (same_Some _ _ (sym (cond-false (is_option w) _ _ never) ∙ e))))
split_head w (v ∷ ws) line never e = fronted w (split (v ∷ ws)) line (sym (cond-false (is_option w) _ _ never) ∙ e)

no_deploying : (name : List ℕ) (line : Line) (task : Deploying) (command : List ℕ) (rest : List (List ℕ)) → is_option command ≡ false → bytes_eq command (codes "deploy") ≡ false → split (command ∷ rest) ≡ Some line → AsksDeploy (single_line name line) task → ⊥
no_deploying name line task command rest word never e asks =
    let begins = split_head command rest line word e in
    let is = world_second name line.words (codes "deploy") task.world.now (texts task.modules.now) asks.names.words_are in
    differ command (codes "deploy") begins.0 is.others never (sym begins.1 ∙ is.words_are)

begins_else : (name : List ℕ) (line : Line) (task : Deploying) (w : List ℕ) (others : List (List ℕ)) → (bytes_eq w (codes "mine") ≡ true) ⊎ (bytes_eq w (codes "validate") ≡ true) → split (w ∷ others) ≡ Some line → AsksDeploy (single_line name line) task → ⊥
begins_else name line task w others (inl t) e asks = no_deploying name line task (codes "mine") others refl refl (subst (λ (v : List ℕ). split (v ∷ others) ≡ Some line) ((bytes_eq-Decides w (codes "mine")).0 t) e) asks
begins_else name line task w others (inr t) e asks = no_deploying name line task (codes "validate") others refl refl (subst (λ (v : List ℕ). split (v ∷ others) ≡ Some line) ((bytes_eq-Decides w (codes "validate")).0 t) e) asks

taken_else : (name : List ℕ) (words : List (List ℕ)) (line : Line) (task : Deploying) → takes_calls words ≡ true → split (named words) ≡ Some line → AsksDeploy (single_line name line) task → ⊥
taken_else name [] line task takes e asks = false≢true takes
taken_else name (w ∷ []) line task takes e asks = false≢true takes
taken_else name (w ∷ v ∷ others) line task takes e asks =
    let first = (and_parts (has_calls w) (bytes_eq v (codes "-")) takes).0 in
    begins_else name line task w (named_behind w (v ∷ others)) (or_cases (bytes_eq w (codes "mine")) (bytes_eq w (codes "validate")) first) e asks

unless_taken : (name : List ℕ) (words : List (List ℕ)) (line : Line) (task : Deploying) (behind : Option (List ℕ)) → IfSome behind (λ calls. takes_calls words ≡ true) → split (named words) ≡ Some line → AsksDeploy (single_line name line) task → behind ≡ None
unless_taken name words line task None takes e asks = refl
unless_taken name words line task (Some calls) takes e asks = absurd (taken_else name words line task takes e asks)

is_lone : (name : List ℕ) (words : List (List ℕ)) (line : Line) (c : Command) (behind : Option (List ℕ)) → IfSome behind (λ calls. takes_calls words ≡ true) → split (named words) ≡ Some line → IsLineOf (single_line name line) c → IsLone c behind
is_lone name words line Stored behind takes e asks = tt
is_lone name words line (Help asked) behind takes e asks = tt
is_lone name words line Version behind takes e asks = tt
is_lone name words line (Asm text target json) behind takes e asks = tt
is_lone name words line (Text source target unchecked json) behind takes e asks = tt
is_lone name words line (Check target heap json) behind takes e asks = tt
is_lone name words line (Deploy task) behind takes e asks = unless_taken name words line task behind takes e asks
is_lone name words line (Mine task) behind takes e asks = tt
is_lone name words line (Validate task) behind takes e asks = tt
is_lone name words line (Call task) behind takes e asks = tt
is_lone name words line (Debug task) behind takes e asks = tt
is_lone name words line (Show task) behind takes e asks = tt

is_lone_asked : (name : List ℕ) (words : List (List ℕ)) (line : Line) (c : SessionCommand) (behind : Option (List ℕ)) → IfSome behind (λ calls. takes_calls words ≡ true) → split (named words) ≡ Some line → IsAsked name line c → IsLoneAsked c behind
is_lone_asked name words line (Single c) behind takes e asks = is_lone name words line c behind takes e asks.0
is_lone_asked name words line (Save file) behind takes e asks = tt
is_lone_asked name words line Digest behind takes e asks = tt
is_lone_asked name words line Quit behind takes e asks = tt

-- no calls stand behind a line that deploys
pub are_lone_words : (name : List ℕ) (words shown : List (List ℕ)) (behind : Option (List ℕ)) → IfSome behind (λ calls. takes_calls words ≡ true) → shown ≡ named words → AreLoneWords name shown behind
are_lone_words name words shown behind takes same line e c asks = is_lone_asked name words line c behind takes (ap split (sym same) ∙ e) asks

-- ---- a line asks for one thing

-- the word of a command that a session has
abbrev is_over_word : List ℕ → Bool
is_over_word w = bytes_eq w (codes "deploy") || (bytes_eq w (codes "mine") || (bytes_eq w (codes "validate") || bytes_eq w (codes "call")))

abbrev begins_over : List (List ℕ) → Bool
begins_over [] = false
begins_over (w ∷ ws) = is_over_word w

over_begins : (line : Line) (d : Command) → IsLineOf line d → IsOverWorld d → begins_over line.words ≡ true
over_begins line Stored asks over = absurd over
over_begins line (Help words) asks over = absurd over
over_begins line Version asks over = absurd over
over_begins line (Asm text target json) asks over = absurd over
over_begins line (Text source target unchecked json) asks over = absurd over
over_begins line (Check target heap json) asks over = absurd over
over_begins line (Deploy task) asks over = ap begins_over asks.names.words_are
over_begins line (Mine task) asks over = ap begins_over asks.words
over_begins line (Validate task) asks over = ap begins_over asks.spells.counts.words
over_begins line (Call task) asks over = ap begins_over asks.words
over_begins line (Debug task) asks over = absurd over
over_begins line (Show task) asks over = absurd over

-- words that begin otherwise are none of theirs
begins_not : (words shown : List (List ℕ)) → begins_over words ≡ true → words ≡ shown → begins_over shown ≡ false → ⊥
begins_not words shown begins same never = both_ways (begins_over shown) never (sym (ap begins_over same) ∙ begins)

block_of : (words : List (List ℕ)) (w a b c : List ℕ) (rest : List (List ℕ)) (v x y z : List ℕ) (others : List (List ℕ)) → words ≡ w ∷ a ∷ b ∷ c ∷ rest → words ≡ v ∷ x ∷ y ∷ z ∷ others → c ≡ z
block_of words w a b c rest v x y z others e f = let same : w ∷ a ∷ b ∷ c ∷ rest ≡ v ∷ x ∷ y ∷ z ∷ others = sym e ∙ f in cc

other_first : (words : List (List ℕ)) (w v : List ℕ) (ws vs : List (List ℕ)) → words ≡ w ∷ ws → words ≡ v ∷ vs → bytes_eq w v ≡ false → ⊥
other_first words w v ws vs e f never = differ w v ws vs never (sym e ∙ f)

mine_alike : (line : Line) (task : Mining) (d : Command) → AsksMine line task → IsLineOf line d → IsOverWorld d → task.block.now ≢ calls_here
mine_alike line task Stored is asks over = absurd over
mine_alike line task (Help words) is asks over = absurd over
mine_alike line task Version is asks over = absurd over
mine_alike line task (Asm text target json) is asks over = absurd over
mine_alike line task (Text source target unchecked json) is asks over = absurd over
mine_alike line task (Check target heap json) is asks over = absurd over
mine_alike line task (Deploy other) is asks over = absurd (other_first line.words (codes "mine") (codes "deploy") _ _ is.words asks.names.words_are refl)
mine_alike line task (Mine other) is asks over = λ here. over (sym (block_of line.words _ _ _ _ _ _ _ _ _ _ is.words asks.words) ∙ here)
mine_alike line task (Validate other) is asks over = absurd (other_first line.words (codes "mine") (codes "validate") _ _ is.words asks.spells.counts.words refl)
mine_alike line task (Call other) is asks over = absurd (other_first line.words (codes "mine") (codes "call") _ _ is.words asks.words refl)
mine_alike line task (Debug other) is asks over = absurd over
mine_alike line task (Show other) is asks over = absurd over

validate_alike : (line : Line) (task : Validation) (d : Command) → AsksValidate line task → IsLineOf line d → IsOverWorld d → task.block.now ≢ calls_here
validate_alike line task Stored is asks over = absurd over
validate_alike line task (Help words) is asks over = absurd over
validate_alike line task Version is asks over = absurd over
validate_alike line task (Asm text target json) is asks over = absurd over
validate_alike line task (Text source target unchecked json) is asks over = absurd over
validate_alike line task (Check target heap json) is asks over = absurd over
validate_alike line task (Deploy other) is asks over = absurd (other_first line.words (codes "validate") (codes "deploy") _ _ is.spells.counts.words asks.names.words_are refl)
validate_alike line task (Mine other) is asks over = absurd (other_first line.words (codes "validate") (codes "mine") _ _ is.spells.counts.words asks.words refl)
validate_alike line task (Validate other) is asks over = λ here. over (sym (block_of line.words _ _ _ _ _ _ _ _ _ _ is.spells.counts.words asks.spells.counts.words) ∙ here)
validate_alike line task (Call other) is asks over = absurd (other_first line.words (codes "validate") (codes "call") _ _ is.spells.counts.words asks.words refl)
validate_alike line task (Debug other) is asks over = absurd over
validate_alike line task (Show other) is asks over = absurd over

-- where a line asks for a command of a session, that is what the reader of words finds
over_alike : (line : Line) (c d : Command) → IsLineOf line c → IsLineOf line d → IsOverWorld d → IsOverWorld c
over_alike line Stored d is asks over = absurd (begins_not line.words [] (over_begins line d asks over) is.words refl)
over_alike line (Help words) d is asks over = absurd is
over_alike line Version d is asks over = absurd is
over_alike line (Asm text target json) d is asks over = absurd (begins_not line.words _ (over_begins line d asks over) is.words refl)
over_alike line (Text source target unchecked json) d is asks over = absurd (begins_not line.words _ (over_begins line d asks over) is.words refl)
over_alike line (Check target heap json) d is asks over = absurd (begins_not line.words _ (over_begins line d asks over) is.words refl)
over_alike line (Deploy task) d is asks over = tt
over_alike line (Mine task) d is asks over = mine_alike line task d is asks over
over_alike line (Validate task) d is asks over = validate_alike line task d is asks over
over_alike line (Call task) d is asks over = tt
over_alike line (Debug task) d is asks over = absurd (begins_not line.words _ (over_begins line d asks over) is.words.split.words_are refl)
over_alike line (Show task) d is asks over = absurd (begins_not line.words _ (over_begins line d asks over) is.spells.words refl)

pub own_few : (line : Line) (c : SessionCommand) → IsOwn line c → IsFewAsked c
own_few line (Single c) is = absurd is
own_few line (Save file) is = tt
own_few line Digest is = tt
own_few line Quit is = tt

pub own_over : (name : List ℕ) (line : Line) (c : SessionCommand) → IsOwn line c → IsOverAsked name c
own_over name line (Single c) is = absurd is
own_over name line (Save file) is = tt
own_over name line Digest is = tt
own_over name line Quit is = tt

pub own_asked : (name : List ℕ) (line : Line) (c : SessionCommand) → IsOwn line c → IsAsked name line c
own_asked name line (Single c) is = absurd is
own_asked name line (Save file) is = is
own_asked name line Digest is = is
own_asked name line Quit is = is

-- words that are none of the session's own and whose line is none of a command that it has
nothing_asked : (name : List ℕ) (line : Line) → ((c : SessionCommand) → IsOwn line c → ⊥) → ((c : Command) → IsLineOf (single_line name line) c → IsOverWorld c → ⊥) → (c : SessionCommand) → IsAsked name line c → ⊥
nothing_asked name line own single (Single c) asks = single c asks.0 asks.1
nothing_asked name line own single (Save file) asks = own (Save file) asks
nothing_asked name line own single Digest asks = own Digest asks
nothing_asked name line own single Quit asks = own Quit asks

pub no_line : (name : List ℕ) (line single : Line) → single ≡ single_line name line → ((c : SessionCommand) → IsOwn line c → ⊥) → ((c : Command) → IsLineOf single c → ⊥) → (c : SessionCommand) → IsAsked name line c → ⊥
no_line name line single same own none = nothing_asked name line own (λ c asks over. none c (subst (λ (l : Line). IsLineOf l c) (sym same) asks))

pub other_line : (name : List ℕ) (line single : Line) (c : Command) → single ≡ single_line name line → ((c : SessionCommand) → IsOwn line c → ⊥) → IsLineOf single c → (IsOverWorld c → ⊥) → (d : SessionCommand) → IsAsked name line d → ⊥
other_line name line single c same own is never = nothing_asked name line own (λ d asks over. never (over_alike single c d is (subst (λ (l : Line). IsLineOf l d) (sym same) asks) over))

-- ---- `quit`

abbrev pub IsOther : SessionCommand → Type 0
IsOther (Single c) = Unit {0}
IsOther (Save file) = Unit {0}
IsOther Digest = Unit {0}
IsOther Quit = ⊥

-- the word `quit` alone is no line of a command of the session
quits_none : (name : List ℕ) (line : Line) (d : Command) → line.words ≡ codes "quit" ∷ [] → IsLineOf (single_line name line) d → IsOverWorld d → ⊥
quits_none name line d quit asks over = begins_not (single_words name line.words) (codes "quit" ∷ name ∷ []) (over_begins (single_line name line) d asks over) (ap (single_words name) quit) refl

other_words : (name : List ℕ) (line : Line) (c : SessionCommand) → IsOther c → IsAsked name line c → line.words ≡ codes "quit" ∷ [] → ⊥
other_words name line (Single c) other is quit = quits_none name line c quit is.0 is.1
other_words name line (Save file) other is quit = other_first line.words (codes "quit") (codes "save") [] (file.now ∷ []) quit is.0 refl
other_words name line Digest other is quit = other_first line.words (codes "quit") (codes "digest") [] [] quit is.0 refl
other_words name line Quit other is quit = other

-- a line that asks for something else does not ask for `quit`
pub no_quit : (name text : List ℕ) (c : SessionCommand) → IsOther c → Asks name text c → Asks name text Quit → ⊥
no_quit name text c other asks quits =
    let same : asks.line ≡ quits.line = same_Some asks.line quits.line (sym asks.is_split ∙ quits.is_split) in
    other_words name quits.line c other (subst (λ (l : Line). IsAsked name l c) same asks.asked) quits.asked.0

-- ---- `chain WORLD`

pub no_chain : (words : List (List ℕ)) → None ≡ split words → (world : List ℕ) → AsksChain words world → ⊥
no_chain words e world asks = none-some asks.line (e ∙ asks.is_split)

pub asks_chain : (words : List (List ℕ)) (line : Line) (found : Option (Bor (List ℕ))) → Some line ≡ split words → MatchOption found ((world : List ℕ) → ¬ IsChain line world) (λ world. IsChain line world.now) → MatchOption found ((world : List ℕ) → ¬ AsksChain words world) (λ world. AsksChain words world.now)
asks_chain words line None e never = λ world asks. never world (subst (λ (l : Line). IsChain l world) (same_Some asks.line line (sym asks.is_split ∙ sym e)) asks.is)
asks_chain words line (Some w) e is = record { line = line; is_split = sym e; is = is }
