use Rattle.std.proofs.Common.{◌≡◌, length}
use Rattle.rows_books.proofs.tables.lock_table.Given as goal

abbrev pub invariant-lines : goal.invariant-lines
invariant-lines l = length l.table ≡ 2
