-- What a command comes to, and what it is to write and to print.
use Rattle.std.specs.Prelude.{◌≡◌, ℕ, ◌⊎◌, List, [], ◌∷◌, ◌++◌, codes, length, map, string_bytes, Bool, IsTrue}
use Rattle.byte_sinks.specs.Putting.{IsCutShort, IsRaised}
use Rattle.wblock_io.specs.Holding.{Holding, Changes, Failing, IsFailed}
use Rattle.wblock_line.specs.declared.answer.Answer.{Answer}
use Rattle.wblock_line.specs.declared.answer.Answer.TheVariants.{Done, Refused}
use Rattle.wblock_line.specs.declared.answer.Write.{Write}
use Rattle.wblock_line.specs.declared.answer.Fault.{Fault}
use Rattle.wblock_line.specs.declared.answer.Fault.TheVariants.{File, NoMemory}
use Rattle.wblock_line.specs.declared.perform.Status.{Status}
use Rattle.wblock_line.specs.declared.perform.Status.TheVariants as status
use Rattle.wblock_line.specs.Forms.{IsCountText}

-- a text ends with a newline
abbrev pub EndsLine : List ℕ → Type 0
EndsLine text = (front : List ℕ) × (text ≡ front ++ 10 ∷ [])

-- a file's name and all of its bytes
abbrev pub Written : Type 0
Written = List ℕ × List ℕ

abbrev pub write_of : Write → Written
write_of w = (w.name.now, w.bytes.items)

-- the files that are to be written, in their order
abbrev pub writes_of : Answer → List Written
writes_of (Done writes text) = map write_of writes.items
writes_of (Refused line why) = []

-- what is to be printed
abbrev pub text_of : Answer → List ℕ
text_of (Done writes text) = string_bytes text
text_of (Refused line why) = string_bytes line

-- the status of an answer that was printed
abbrev pub status_of : Answer → Status
status_of (Done writes text) = status.Done
status_of (Refused line why) = status.Refused

-- ---- what a command comes to, without where it lies in memory

-- the sentence that is said of a refusal
abbrev pub why_of : Answer → List ℕ
why_of (Done writes text) = []
why_of (Refused line why) = string_bytes why

pub record Upshot : Type 0 where
  pub status : Status
  pub writes : List Written
  pub text : List ℕ
  -- the sentence of a refusal
  pub why : List ℕ

abbrev pub upshot_of : Answer → Upshot
upshot_of a = record { status = status_of a; writes = writes_of a; text = text_of a; why = why_of a }

-- it is refused with a line of which this is true, and no file is to be written
pub record IsRefusal (u : Upshot) (Is : List ℕ → Type 0) : Type 0 where
  pub status_is : u.status ≡ status.Refused
  pub writes : u.writes ≡ []
  pub line : Is u.text

-- ---- answers

-- a file is to hold these bytes, and how many they are is to be printed behind this word, or as JSON
pub record IsCounted (json : Bool) (word target bytes : List ℕ) (a : Answer) : Type 0 where
  pub status : status_of a ≡ status.Done
  pub writes : writes_of a ≡ (target, bytes) ∷ []
  pub text : IsCountText json word (length bytes) (text_of a)

-- the files were written, one after another, and every other file is as it was
abbrev pub Wrote : List Written → Holding → Holding → Type 0
Wrote [] old new = new ≡ old
Wrote (w ∷ ws) old new = (mid : Holding) × Changes old mid w.0 w.1 × Wrote ws mid new

-- the files before the one of this name were written, and it and every other file are as they were
abbrev pub WroteBefore : List ℕ → List Written → Holding → Holding → Type 0
WroteBefore name [] old new = ⊥
WroteBefore name (w ∷ ws) old new = ((name ≡ w.0) × (new ≡ old)) ⊎ ((mid : Holding) × Changes old mid w.0 w.1 × WroteBefore name ws mid new)

-- one of the files has this name
abbrev pub IsOneOf : List ℕ → List Written → Type 0
IsOneOf name [] = ⊥
IsOneOf name (w ∷ ws) = (name ≡ w.0) ⊎ IsOneOf name ws

-- all files before the one of this name were written or none of them was, and it and every other file are as they were
abbrev pub WroteSome : List ℕ → List Written → Holding → Holding → Type 0
WroteSome name ws old new = (IsOneOf name ws × (new ≡ old)) ⊎ WroteBefore name ws old new

-- ---- what fails

-- the file of this name failed, and nothing else did: those before it were written or none was, every other is as it was, and nothing was printed
pub record FileFails (name : List ℕ) (a : Answer) (files output : Bool) (old new : Holding) (failed fails : Failing) (before after : List ℕ) (lost loses : ℕ) : Type 0 where
  pub counted : IsFailed name failed fails
  pub wrote : IsTrue files → WroteSome name (writes_of a) old new
  pub calm : loses ≡ lost
  pub told : IsTrue output → after ≡ before

-- the output failed, and nothing else did: all files were written, and the text was cut short
pub record OutputFails (name : List ℕ) (a : Answer) (files output : Bool) (old new : Holding) (failed fails : Failing) (before after : List ℕ) (lost loses : ℕ) : Type 0 where
  pub output_is : name ≡ codes "stdout"
  pub counted : IsRaised lost loses
  pub wrote : IsTrue files → Wrote (writes_of a) old new
  pub calm : fails ≡ failed
  pub told : IsTrue output → IsCutShort before after (text_of a)

-- the file of this name or the output, called stdout, failed where the answer was written or printed, and nothing else did
abbrev pub IsFailing : List ℕ → Answer → Bool → Bool → Holding → Holding → Failing → Failing → List ℕ → List ℕ → ℕ → ℕ → Type 0
IsFailing name a files output old new failed fails before after lost loses =
    FileFails name a files output old new failed fails before after lost loses ⊎ OutputFails name a files output old new failed fails before after lost loses

-- ---- faults

-- a file's fault is counted, and the file that it names is the one that failed
abbrev pub CountsFault : Fault → Failing → Failing → Type 0
CountsFault (File name cause) old new = IsFailed name.now old new
CountsFault NoMemory old new = Unit {0}

-- a file's failure is noted, and want of memory is none
abbrev pub NotesFault : Fault → Failing → Failing → Type 0
NotesFault (File name cause) old new = IsFailed name.now old new
NotesFault NoMemory old new = new ≡ old

-- where files are written, the one that failed leaves those before it written or none, and want of memory leaves every file as it was
abbrev pub LeavesFiles : Fault → List Written → Holding → Holding → Type 0
LeavesFiles (File name cause) ws old new = WroteSome name.now ws old new
LeavesFiles NoMemory ws old new = new ≡ old

-- the status of a fault
abbrev pub status_of_fault : Fault → Status
status_of_fault (File name cause) = status.File
status_of_fault NoMemory = status.Memory

-- it is a fault of a file of whose name this is true, or memory was refused
abbrev pub IsOfFile : (List ℕ → Type 0) → Fault → Type 0
IsOfFile Is (File name cause) = Is name.now
IsOfFile Is NoMemory = Unit {0}

-- ---- what is said on standard error

-- `file NAME`
abbrev pub file_line : List ℕ → List ℕ
file_line name = codes "file " ++ name ++ 10 ∷ []

-- `memory`
abbrev pub memory_line : List ℕ
memory_line = codes "memory" ++ 10 ∷ []

-- the sentence of a refusal, and a newline
abbrev pub why_line : Answer → List ℕ
why_line (Done writes text) = []
why_line (Refused line why) = string_bytes why ++ 10 ∷ []

-- a sentence and a newline, or nothing where the sentence is empty
abbrev pub sentence_line : List ℕ → List ℕ
sentence_line [] = []
sentence_line (c ∷ cs) = (c ∷ cs) ++ 10 ∷ []

-- a text was said whole and nothing failed; or a beginning of it that is not all, and one failure was counted
abbrev pub IsSaid : List ℕ → List ℕ → List ℕ → ℕ → ℕ → Type 0
IsSaid text old new failed fails = ((new ≡ old ++ text) × (fails ≡ failed)) ⊎ (IsCutShort old new text × IsRaised failed fails)

-- `file NAME` was said, and in a line behind it why, where that is known
pub record SaysFile (name old new : List ℕ) (failed fails : ℕ) : Type 0 where
  pub why : List ℕ
  pub said : IsSaid (file_line name ++ sentence_line why) old new failed fails

-- the file that failed was said, or that memory was refused
abbrev pub SaysFault : Fault → List ℕ → List ℕ → ℕ → ℕ → Type 0
SaysFault (File name cause) old new failed fails = SaysFile name.now old new failed fails
SaysFault NoMemory old new failed fails = IsSaid memory_line old new failed fails
