-- What `show` answers.
use Rattle.std.specs.Prelude.{◌≡◌, ◌≢◌, ◌⊎◌, ℕ, ◌≤◌, Option, Some, None, List, [], ◌∷◌, ◌++◌, codes, decimal, length, map, slice_get, string_bytes, Vec}
use Rattle.std.specs.Borrow.{Bor}
use Rattle.sha2.specs.Sha256.{sha256}
use Rattle.spec_block.specs.Worlds.{Block, Call, Position, order_of}
use Rattle.spec_block.specs.Bytes.{SpellsBlock, calls_bytes}
use Rattle.spec_block.specs.Verdicts.{IsLeast}
use Rattle.records.specs.declared.refusal.BlockRefusal.{BlockRefusal}
use Rattle.records.specs.declared.refusal.BlockRefusal.TheVariants.{Malformed, TooLarge, NoMemory}
use Rattle.block.specs.Refusals.{Refuses}
use Rattle.block.specs.Reading.{block_at}
use Rattle.records.specs.Reading.{whole}
use Rattle.figures.specs.Figures.{AreFigures}
use Rattle.figures.specs.declared.figures.Figures.{Figures}
use Rattle.wblock_io.specs.Holding.{Holding}
use Rattle.wblock_line.specs.declared.answer.Answer.{Answer}
use Rattle.wblock_line.specs.declared.answer.Answer.TheVariants.{Done, Refused}
use Rattle.wblock_line.specs.declared.perform.Status.TheVariants as status
use Rattle.wblock_line.specs.Answers.{writes_of, text_of, status_of}
use Rattle.wblock_line.specs.Inputs.{Holds, HoldsCalls, TellsNoCalls}
use Rattle.wblock_show.specs.declared.show.OtherCalls.{OtherCalls}
use Rattle.wblock_show.specs.declared.show.OtherCalls.TheVariants.{Digest, At}
use Rattle.wblock_show.specs.declared.file.Showing.{Showing}
use Rattle.wblock_show.specs.declared.file.Named.{Named}
use Rattle.wblock_show.specs.declared.file.Named.TheVariants as named
use Rattle.wblock_show.specs.Lines.{block_text}

-- `refused block 1 P`, where P is the first byte at which the bytes spell no block, or `refused block 2 -`, where the positions are too many
abbrev pub IsBlockLine : BlockRefusal → List ℕ → Type 0
IsBlockLine (Malformed at) line = line ≡ codes "refused block 1 " ++ decimal at ++ 10 ∷ []
IsBlockLine TooLarge line = line ≡ codes "refused block 2 -" ++ 10 ∷ []
IsBlockLine NoMemory line = ⊥

-- the bytes spell no block, and the line tells the first fault in them
pub record TellsNoBlock (bytes line : List ℕ) : Type 0 where
  pub none : (b : Block) → ¬ SpellsBlock bytes b
  pub refusal : BlockRefusal
  pub first : Refuses (length bytes) refusal (whole (block_at bytes))
  pub line_is : IsBlockLine refusal line

abbrev pub numbers_of : List Position → List ℕ
numbers_of positions = map (λ (p : Position). p.call) positions

-- a position names a call that is not there
abbrev pub NamesNoCall : List Call → List ℕ → ℕ → Type 0
NamesNoCall calls order position = (n : ℕ) × (slice_get order position ≡ Some n) × (length calls ≤ n)

-- the calls are those of the block, and each position names one of them
pub record AreTheCalls (b : Block) (calls : List Call) : Type 0 where
  pub digest : b.calls ≡ sha256 (calls_bytes calls)
  pub named : (position : ℕ) → ¬ NamesNoCall calls (order_of b) position

-- they have another digest; or they have that of the block, and this is the first position that names none of them
abbrev pub IsOther : Block → List Call → OtherCalls → Type 0
IsOther b calls Digest = b.calls ≢ sha256 (calls_bytes calls)
IsOther b calls (At position) = (b.calls ≡ sha256 (calls_bytes calls)) × IsLeast (NamesNoCall calls (order_of b)) position

-- `refused calls 3`, or `refused calls 4 POS`
abbrev pub other_line : OtherCalls → List ℕ
other_line Digest = codes "refused calls 3" ++ 10 ∷ []
other_line (At position) = codes "refused calls 4 " ++ decimal position ++ 10 ∷ []

-- the calls, where they are known, are not those of the block
abbrev pub IsOtherOf : Block → Option (List Call) → OtherCalls → Type 0
IsOtherOf b None other = ⊥
IsOtherOf b (Some calls) other = IsOther b calls other

-- the line says why
abbrev pub TellsOther : OtherCalls → Answer → Type 0
TellsOther other (Done writes text) = ⊥
TellsOther other (Refused line why) = string_bytes line ≡ other_line other

-- where the calls are known, they are those of the block
abbrev pub AreItsCalls : Block → Option (List Call) → Type 0
AreItsCalls b None = Unit {0}
AreItsCalls b (Some calls) = AreTheCalls b calls

-- the text of a block with its figures, and no file is to be written
pub record IsTextOf (b : Block) (calls : Option (List Call)) (a : Answer) : Type 0 where
  pub status : status_of a ≡ status.Done
  pub writes : writes_of a ≡ []
  pub figures : Figures
  pub are : AreFigures b figures
  pub text : text_of a ≡ block_text b calls figures

-- the calls are not those of the block, and the answer says why
pub record IsOfOther (b : Block) (calls : Option (List Call)) (a : Answer) : Type 0 where
  pub other : OtherCalls
  pub is : IsOtherOf b calls other
  pub tells : TellsOther other a

-- a block is shown where the calls, if they are known, are its own, or else it is said why they are not
abbrev pub ShowsIt : Block → Option (List Call) → Answer → Type 0
ShowsIt b calls a = (AreItsCalls b calls × IsTextOf b calls a) ⊎ IsOfOther b calls a

-- the block that the bytes spell is shown
pub record ShowsSpelled (bytes : List ℕ) (calls : Option (List Call)) (a : Answer) : Type 0 where
  pub block : Block
  pub spelled : SpellsBlock bytes block
  pub shows : ShowsIt block calls a

-- the bytes spell no block
abbrev pub IsUnspelled : List ℕ → Answer → Type 0
IsUnspelled bytes (Done writes text) = ⊥
IsUnspelled bytes (Refused line why) = TellsNoBlock bytes (string_bytes line)

-- the block is shown, or it is said why not
abbrev pub Shows : List ℕ → Option (List Call) → Answer → Type 0
Shows bytes calls a = IsUnspelled bytes a ⊎ ShowsSpelled bytes calls a

-- at most as many calls as a block has positions
abbrev pub HasFew : Option (List Call) → Type 0
HasFew None = Unit {0}
HasFew (Some calls) = length calls ≤ 65535

-- where a file of calls is named, it holds these; where none is, none are known
abbrev pub HoldsNamedCalls : Holding → Option (Bor (List ℕ)) → Option (List Call) → Type 0
HoldsNamedCalls holds None None = Unit {0}
HoldsNamedCalls holds None (Some calls) = ⊥
HoldsNamedCalls holds (Some name) None = ⊥
HoldsNamedCalls holds (Some name) (Some calls) = HoldsCalls holds name.now calls

-- a file of calls is named that spells none, and the line says where
abbrev pub TellsNamedCalls : Holding → Option (Bor (List ℕ)) → List ℕ → Type 0
TellsNamedCalls holds None line = ⊥
TellsNamedCalls holds (Some name) line = Holds holds name.now (λ text. TellsNoCalls text line)

abbrev pub known : {A : Type 0} → Option (Vec Call A) → Option (List Call)
known None = None
known (Some calls) = Some calls.items

-- what the file of calls gives
abbrev pub GivesCalls : Holding → Option (Bor (List ℕ)) → Named → Type 0
GivesCalls holds name (named.Calls calls) = HoldsNamedCalls holds name (known calls)
GivesCalls holds name (named.Refused line why) = TellsNamedCalls holds name (string_bytes line)

-- a text has at most 65,535 calls
abbrev pub HasNamedFew : Named → Type 0
HasNamedFew (named.Calls calls) = HasFew (known calls)
HasNamedFew (named.Refused line why) = Unit {0}

-- the answer tells why the file of calls is refused
abbrev pub TellsCallsRefusal : Holding → Option (Bor (List ℕ)) → Answer → Type 0
TellsCallsRefusal holds name (Done writes text) = ⊥
TellsCallsRefusal holds name (Refused line why) = TellsNamedCalls holds name (string_bytes line)

-- the block of its file is shown, with the calls of theirs where one is named; or it is said why not
pub record ShowsFile (holds : Holding) (task : Showing) (a : Answer) : Type 0 where
  pub calls : Option (List Call)
  pub held_calls : HoldsNamedCalls holds task.calls calls
  pub bytes : List ℕ
  pub held_block : holds task.file.now ≡ Some bytes
  pub shows : Shows bytes calls a

abbrev pub ShowsBlock : Holding → Showing → Answer → Type 0
ShowsBlock holds task a = TellsCallsRefusal holds task.calls a ⊎ ShowsFile holds task a

-- the file of calls is read first, if one is named, and then that of the block, where the calls are spelled
abbrev pub IsNamedCalls : Option (Bor (List ℕ)) → List ℕ → Type 0
IsNamedCalls None name = ⊥
IsNamedCalls (Some calls) name = name ≡ calls.now

abbrev pub IsNextFile : Holding → Showing → List ℕ → Type 0
IsNextFile holds task name = IsNamedCalls task.calls name ⊎ (((calls : Option (List Call)) × HoldsNamedCalls holds task.calls calls) × (name ≡ task.file.now))
