-- What takes the open levels of a call back.
use Rattle.std.specs.Prelude.{◌≡◌, ℕ, ◌≤◌, List, [], ◌∷◌, length, take, drop, reverse}
use Rattle.spec_ledger.specs.declared.Inverse.{Inverse}
use Rattle.spec_ledger.specs.Cells.{Cells}
use Rattle.spec_ledger.specs.Book.{Marked, back_all}
use Rattle.debugger.specs.declared.undo.Undo.{Undo}

-- taken back down to each mark, of which the innermost is first, the inverses give the cells that stood there
abbrev pub GoBack : List Inverse → (marks : List ℕ) → (now : Cells) → (stood : List Cells) → Type 0
GoBack is [] now [] = Unit {0}
GoBack is [] now (c ∷ cs) = ⊥
GoBack is (n ∷ ns) now [] = ⊥
GoBack is (n ∷ ns) now (c ∷ cs) = (n ≤ length is) × (back_all (drop n is) now ≡ c) × GoBack (take n is) ns c cs

-- the cells are those that stand, and go back to those at each open mark
pub record AreNoted (inverses : List Inverse) (marks : List ℕ) (now : Cells) (p : Marked Cells) : Type 0 where
  pub now_is : now ≡ p.now
  pub back : GoBack inverses (reverse marks) now p.marks

abbrev pub IsNoted : {A : Type 0} → Undo A → Cells → Marked Cells → Type 0
IsNoted undo now p = AreNoted undo.inverses.items undo.marks.items now p
