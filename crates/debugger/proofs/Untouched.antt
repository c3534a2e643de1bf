-- A cell whose lock a call has not asked for is as it was.
use Rattle.std.proofs.Common.{◌≡◌, Bool, true, false, cond, List, None, IfSome, map, refl, sym, ap, ◌∙◌, subst}
use Rattle.std.specs.FinMap.{entries, get}
use Rattle.spec_ledger.specs.declared.Lock.{Lock}
use Rattle.spec_ledger.specs.declared.Mode.TheVariants.{Read as Reading}
use Rattle.spec_ledger.specs.declared.TraceStep.{TraceStep}
use Rattle.spec_ledger.specs.Book.{after}
use Rattle.spec_ledger.specs.Cells.{AreCells, Cells}
use Rattle.spec_ledger.specs.Modes.{touched}
use Rattle.spec_execution.specs.ReadWriteSets.{access_at, all_left}
use Rattle.spec_execution.proofs.ReadWriteSets.{all_found, kept_at, leaves}
use Rattle.debugger.specs.SessionView.{SessionView, cells_at, ending_at, stands}

untouched : (trace : List TraceStep) (cells : Cells) → AreCells cells → (lock : Lock) → get (touched trace) lock ≡ None → get (after trace cells) lock ≡ get cells lock
untouched trace cells are lock none =
    let later : Cells = after trace cells in
    let left : all_left (map (access_at cells later) (entries (touched trace))) cells ≡ later = leaves cells cells trace later are (all_found cells later (entries (touched trace))) true refl in
    ap (λ (x : Cells). get x lock) (sym left) ∙ kept_at cells later cells (touched trace) lock (subst (λ mode. IfSome mode (λ m. m ≡ Reading)) (sym none) tt)

by_end : (b : Bool) (trace : List TraceStep) (cells : Cells) → AreCells cells → (lock : Lock) → get (touched trace) lock ≡ None → get (cond b (after trace cells) cells) lock ≡ get cells lock
by_end true trace cells are lock none = untouched trace cells are lock none
by_end false trace cells are lock none = refl

pub others : (s : SessionView) → AreCells s.cells → (lock : Lock) → get (touched s.trace) lock ≡ None → get (cells_at s) lock ≡ get s.cells lock
others s are lock none = by_end (stands (ending_at s)) s.trace s.cells are lock none
