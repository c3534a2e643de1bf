-- The seats of an intake.
use Rattle.book_workers.specs.declared.intake.Intake.{Intake}
use Rattle.book_workers.specs.declared.seat.Seat.{Seat}
use Rattle.book_workers.specs.Seats.{IsSeatAt, IsNewSeatAt}

-- a seat that open gave with this intake
abbrev pub IsSeatOf : {A : Type 0} → Intake A → Seat → Type 0
IsSeatOf intake s = IsSeatAt intake.table.shared.table_id intake.limits s

-- and that has made no call
abbrev pub IsNewSeatOf : {A : Type 0} → Intake A → Seat → Type 0
IsNewSeatOf intake s = IsNewSeatAt intake.table.shared.table_id intake.limits s
