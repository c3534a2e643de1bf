use Rattle.std.proofs.Common.{subst}
use Rattle.spec_ledger.specs.Facts.{CellsAreSettledButForHolders, LiveTracesGetReplies, LiveAttemptsGoTogether}
use Rattle.spec_ledger.proofs.Facts.{cells-settled, traces-replied, attempts-together}
use Rattle.boost.proofs.book.Book.use_invariant.Goals as goal

pub returns-clause-cells : goal.returns-clause-cells
returns-clause-cells g c = subst (λ x. CellsAreSettledButForHolders x) c.self.view_is (cells-settled (record { opening = c.self.inside.opening.cells; now = c.self.inside.cells.cells; entries = c.self.inside.entries.items; attempts = c.self.inside.attempts.items; begun = c.self.inside.begun.items }) c.self.invariant.0.kept)

pub returns-clause-replies : goal.returns-clause-replies
returns-clause-replies g c = subst (λ x. LiveTracesGetReplies x) c.self.view_is (traces-replied (record { opening = c.self.inside.opening.cells; now = c.self.inside.cells.cells; entries = c.self.inside.entries.items; attempts = c.self.inside.attempts.items; begun = c.self.inside.begun.items }) c.self.invariant.0.kept)

pub returns-clause-modes : goal.returns-clause-modes
returns-clause-modes g c = subst (λ x. LiveAttemptsGoTogether x) c.self.view_is (attempts-together (record { opening = c.self.inside.opening.cells; now = c.self.inside.cells.cells; entries = c.self.inside.entries.items; attempts = c.self.inside.attempts.items; begun = c.self.inside.begun.items }) c.self.invariant.0.kept)
