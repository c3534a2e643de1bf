use Rattle.std.proofs.Common.{◌≡◌, ◌∙◌, ap, sym, subst}
use Rattle.std.specs.List.{AllByRecursion}
use Rattle.std.proofs.lemmas.Result.{IfOk-weaker}
use Rattle.spec_ledger.specs.Book.{AreDistinct, IsDefined, settled}
use Rattle.spec_ledger.specs.Modes.{touched}
use Rattle.shards.proofs.Takings.{together}
use Rattle.shards.proofs.sharded.Shards.close.Goals as goal

pub returns-clause-opening : goal.returns-clause-opening
returns-clause-opening g c =
    IfOk-weaker c.close.result (λ closed. closed.opening.cells ≡ c.self.inside.opening.cells) (λ closed. closed.opening.cells ≡ c.args.self.opening) (λ closed h. h ∙ ap (λ s. s.opening) c.self.view_is) c.close.ensures.opening

pub returns-clause-replies : goal.returns-clause-replies
returns-clause-replies g c =
    let cells = c.self.inside.opening.cells in
    let entries = c.into_entries-entries.result.items in
    together (λ closed. closed.opening.cells ≡ cells) (λ closed. closed.entries.items ≡ entries) (λ closed. IsDefined cells entries) (λ closed. IsDefined closed.opening.cells closed.entries.items)
    (λ closed o e h. subst (λ m. IsDefined m closed.entries.items) (sym o) (subst (λ es. IsDefined cells es) (sym e) h)) c.close.result c.close.ensures.opening c.close.ensures.entries c.close.ensures.replies

pub returns-clause-cells : goal.returns-clause-cells
returns-clause-cells g c =
    let cells = c.self.inside.opening.cells in
    let entries = c.into_entries-entries.result.items in
    together (λ closed. closed.opening.cells ≡ cells) (λ closed. closed.entries.items ≡ entries) (λ closed. closed.cells.cells ≡ settled cells entries) (λ closed. closed.cells.cells ≡ settled closed.opening.cells closed.entries.items)
    (λ closed o e h. h ∙ (λ k. settled (sym o k) (sym e k))) c.close.result c.close.ensures.opening c.close.ensures.entries c.close.ensures.cells

pub returns-clause-distinct : goal.returns-clause-distinct
returns-clause-distinct g c =
    IfOk-weaker c.close.result (λ closed. closed.entries.items ≡ c.into_entries-entries.result.items) (λ closed. AreDistinct closed.entries.items) (λ closed h. subst AreDistinct (sym h) c.into_entries-entries.ensures.distinct) c.close.ensures.entries

pub returns-clause-modes : goal.returns-clause-modes
returns-clause-modes g c =
    IfOk-weaker c.close.result (λ closed. closed.entries.items ≡ c.into_entries-entries.result.items) (λ closed. AllByRecursion (λ e. e.modes ≡ touched e.trace) closed.entries.items)
    (λ closed h. subst (AllByRecursion (λ e. e.modes ≡ touched e.trace)) (sym h) c.into_entries-entries.ensures.modes) c.close.ensures.entries
