-- What is told of bytes.
use Rattle.std.specs.Prelude.{◌≡◌, ℕ, Bool, List, length}
use Rattle.spec_modules.specs.Syntax.{Module}
use Rattle.spec_block.specs.Worlds.{World}
use Rattle.spec_block.specs.Bytes.{SpellsWorld}
use Rattle.wblock_words.specs.Names.{AreNamesOf, Named}
use Rattle.wblock_line.specs.Modules.{IsValidOf}
use Rattle.wblock_contents.specs.ModuleText.{module_text}
use Rattle.wblock_contents.specs.WorldText.{world_text}

-- the bytes spell a valid module, and the text has its lines, with the names of functions that the bytes carry
pub record TellsModule (bytes text : List ℕ) : Type 0 where
  pub tree : Module
  pub valid : IsValidOf bytes tree
  pub names : List Named
  pub carried : AreNamesOf bytes names
  pub text_is : text ≡ module_text (length bytes) names tree

-- the bytes spell a world, and the text has its lines
pub record TellsWorld (signed : Bool) (bytes text : List ℕ) : Type 0 where
  pub world : World
  pub spelled : SpellsWorld bytes world
  pub text_is : text ≡ world_text signed world
