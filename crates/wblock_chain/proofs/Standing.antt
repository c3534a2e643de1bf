-- The files that stand to a single command.
use Rattle.std.proofs.Common.{◌≡◌, ◌≢◌, ℕ, ◌⊎◌, List, [], ◌∷◌, ◌++◌, Bool, true, false, Option, Some, None, bytes_eq, if◌then◌else◌, refl, sym, ap, ◌∙◌, inl, inr}
use Rattle.std.proofs.lemmas.Bool.{both_ways, cases_Bool, cond-true, cond-false, false_from_ne_true, false≢true}
use Rattle.std.proofs.lemmas.Slice.Eq.{bytes_eq-Decides}
use Rattle.spec_block.specs.Worlds.{World}
use Rattle.spec_block.specs.Bytes.{SpellsWorld, world_bytes}
use Rattle.wblock_io.specs.Holding.{Holding, Changes}
use Rattle.wblock_line.specs.Inputs.{HoldsWorld}
use Rattle.wblock_chain.specs.Words.{calls_here, told_block}
use Rattle.wblock_chain.specs.Sessions.{IsKeptName, over, standing}

-- ---- names

pub same_name : (n m : List ℕ) → n ≡ m → bytes_eq n m ≡ true
same_name n m e = (bytes_eq-Decides n m).1 e

pub other_name : (n m : List ℕ) → n ≢ m → bytes_eq n m ≡ false
other_name n m never = false_from_ne_true (bytes_eq n m) (λ e. never ((bytes_eq-Decides n m).0 e))

tested : (n m : List ℕ) → (bytes_eq n m ≡ true) ⊎ (bytes_eq n m ≡ false) → (n ≡ m) ⊎ (n ≢ m)
tested n m (inl t) = inl ((bytes_eq-Decides n m).0 t)
tested n m (inr f) = inr (λ e. both_ways (bytes_eq n m) f ((bytes_eq-Decides n m).1 e))

pub same_or_other : (n m : List ℕ) → (n ≡ m) ⊎ (n ≢ m)
same_or_other n m = tested n m (cases_Bool (bytes_eq n m))

block_is_no_calls : told_block ≢ calls_here
block_is_no_calls e = false≢true ((bytes_eq-Decides told_block calls_here).1 e)

-- ---- what stands at a name

pub at_world : (name : List ℕ) (w : World) (calls block : Option (List ℕ)) (files : Holding) (other : List ℕ) → other ≡ name → standing name w calls block files other ≡ Some (world_bytes w)
at_world name w calls block files other e = cond-true (bytes_eq other name) _ _ (same_name other name e)

beside_world : (name : List ℕ) (w : World) (calls block : Option (List ℕ)) (files : Holding) (other : List ℕ) → other ≢ name
    → standing name w calls block files other ≡ (if bytes_eq other calls_here then over calls (files other) else if bytes_eq other told_block then over block (files other) else files other)
beside_world name w calls block files other never = cond-false (bytes_eq other name) _ _ (other_name other name never)

pub at_calls : (name : List ℕ) (w : World) (calls block : Option (List ℕ)) (files : Holding) (other : List ℕ) → other ≢ name → other ≡ calls_here → standing name w calls block files other ≡ over calls (files other)
at_calls name w calls block files other never e = beside_world name w calls block files other never ∙ cond-true (bytes_eq other calls_here) _ _ (same_name other calls_here e)

beside_calls : (name : List ℕ) (w : World) (calls block : Option (List ℕ)) (files : Holding) (other : List ℕ) → other ≢ name → other ≢ calls_here
    → standing name w calls block files other ≡ (if bytes_eq other told_block then over block (files other) else files other)
beside_calls name w calls block files other never none = beside_world name w calls block files other never ∙ cond-false (bytes_eq other calls_here) _ _ (other_name other calls_here none)

at_block : (name : List ℕ) (w : World) (calls block : Option (List ℕ)) (files : Holding) (other : List ℕ) → other ≢ name → other ≢ calls_here → other ≡ told_block → standing name w calls block files other ≡ over block (files other)
at_block name w calls block files other never none e = beside_calls name w calls block files other never none ∙ cond-true (bytes_eq other told_block) _ _ (same_name other told_block e)

at_file : (name : List ℕ) (w : World) (calls block : Option (List ℕ)) (files : Holding) (other : List ℕ) → other ≢ name → other ≢ calls_here → other ≢ told_block → standing name w calls block files other ≡ files other
at_file name w calls block files other never none apart = beside_calls name w calls block files other never none ∙ cond-false (bytes_eq other told_block) _ _ (other_name other told_block apart)

untold : (name : List ℕ) (w : World) (calls : Option (List ℕ)) (files : Holding) (other : List ℕ) → other ≢ name → other ≢ calls_here → (other ≡ told_block) ⊎ (other ≢ told_block) → standing name w calls None files other ≡ files other
untold name w calls files other never none (inl e) = at_block name w calls None files other never none e
untold name w calls files other never none (inr apart) = at_file name w calls None files other never none apart

-- where no block is told, the file of a name that is neither that of WORLD nor that of the calls
pub at_other : (name : List ℕ) (w : World) (calls : Option (List ℕ)) (files : Holding) (other : List ℕ) → other ≢ name → other ≢ calls_here → standing name w calls None files other ≡ files other
at_other name w calls files other never none = untold name w calls files other never none (same_or_other other told_block)

lone : (name : List ℕ) (w : World) (files : Holding) (other : List ℕ) → other ≢ name → (other ≡ calls_here) ⊎ (other ≢ calls_here) → standing name w None None files other ≡ files other
lone name w files other never (inl e) = at_calls name w None None files other never e
lone name w files other never (inr none) = at_other name w None files other never none

-- where no calls stand behind the line, too, the file of any other name than that of WORLD
pub at_lone : (name : List ℕ) (w : World) (files : Holding) (other : List ℕ) → other ≢ name → standing name w None None files other ≡ files other
at_lone name w files other never = lone name w files other never (same_or_other other calls_here)

pub held_world : (name : List ℕ) (w : World) (calls block : Option (List ℕ)) (files : Holding) (other : List ℕ) → other ≡ name → SpellsWorld (world_bytes w) w → HoldsWorld (standing name w calls block files) other w
held_world name w calls block files other e spelled = record { bytes = world_bytes w; held = at_world name w calls block files other e; is = spelled }

-- ---- changes

-- the session goes on with another world
pub next_world : (name : List ℕ) (w next : World) (calls block : Option (List ℕ)) (files : Holding) (file : List ℕ) → file ≡ name → Changes (standing name w calls block files) (standing name next calls block files) file (world_bytes next)
next_world name w next calls block files file e = record {
  here = at_world name next calls block files file e;
  others = λ other never.
      let apart : other ≢ name = λ same. never (same ∙ sym e) in
      beside_world name next calls block files other apart ∙ sym (beside_world name w calls block files other apart);
}

same_unless_told : (name : List ℕ) (w : World) (calls : Option (List ℕ)) (bytes : List ℕ) (files : Holding) (other : List ℕ) → other ≢ told_block → (other ≡ name) ⊎ (other ≢ name) → (other ≡ calls_here) ⊎ (other ≢ calls_here)
    → standing name w calls (Some bytes) files other ≡ standing name w calls None files other
same_unless_told name w calls bytes files other apart (inl e) h = at_world name w calls (Some bytes) files other e ∙ sym (at_world name w calls None files other e)
same_unless_told name w calls bytes files other apart (inr never) (inl e) = at_calls name w calls (Some bytes) files other never e ∙ sym (at_calls name w calls None files other never e)
same_unless_told name w calls bytes files other apart (inr never) (inr none) = at_file name w calls (Some bytes) files other never none apart ∙ sym (at_file name w calls None files other never none apart)

-- a block is told
pub told : (name : List ℕ) (w : World) (calls : Option (List ℕ)) (bytes : List ℕ) (files : Holding) (file : List ℕ) → file ≢ name → file ≡ told_block → Changes (standing name w calls None files) (standing name w calls (Some bytes) files) file bytes
told name w calls bytes files file never e = record {
  here = at_block name w calls (Some bytes) files file never (λ same. block_is_no_calls (sym e ∙ same)) e;
  others = λ other apart. same_unless_told name w calls bytes files other (λ same. apart (same ∙ sym e)) (same_or_other other name) (same_or_other other calls_here);
}

-- a file of a name of its own is written
pub written : (name : List ℕ) (w : World) (calls : Option (List ℕ)) (old new : Holding) (file bytes : List ℕ) → file ≢ name → file ≢ calls_here → file ≢ told_block → Changes old new file bytes
    → Changes (standing name w calls None old) (standing name w calls None new) file bytes
written name w calls old new file bytes never none apart changes = record {
  here = at_file name w calls None new file never none apart ∙ changes.here;
  others = λ other unlike.
      ap (λ (held : Option (List ℕ)). if bytes_eq other name then Some (world_bytes w) else if bytes_eq other calls_here then over calls held else if bytes_eq other told_block then over None held else held) (changes.others other unlike);
}

pub kept : (name : List ℕ) (old new : Holding) (file bytes : List ℕ) → file ≢ name → file ≢ calls_here → file ≢ told_block → Changes old new file bytes → (other : List ℕ) → IsKeptName name other → new other ≡ old other
kept name old new file bytes never none apart changes other (inl e) = changes.others other (λ same. never (sym same ∙ e))
kept name old new file bytes never none apart changes other (inr (inl e)) = changes.others other (λ same. none (sym same ∙ e))
kept name old new file bytes never none apart changes other (inr (inr e)) = changes.others other (λ same. apart (sym same ∙ e))
