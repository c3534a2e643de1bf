-- What one taking of the lock tells.
use Rattle.spec_ledger.specs.Book.{Content}
use Rattle.spec_ledger.specs.Facts.{CellsAreSettledButForHolders, EntriesAreSerialRun, LiveAttemptsGoTogether, LiveTracesGetReplies}

-- all that the type of a book keeps
pub record IsLawful (book : Content) : Type 0 where
  pub entries : EntriesAreSerialRun book
  pub cells : CellsAreSettledButForHolders book
  pub replies : LiveTracesGetReplies book
  pub modes : LiveAttemptsGoTogether book

-- this holds of the book that was found under the lock, of which no more is known than what its type keeps
pub record HoldsOfTheBook (fact : Content → Type 0) : Type 0 where
  pub book : Content
  pub lawful : IsLawful book
  pub holds : fact book

-- this event led the book that was found under the lock to another content
abbrev pub Happened : (Content → Content → Type 0) → Type 0
Happened event = HoldsOfTheBook (λ old. (new : Content) × event old new)
