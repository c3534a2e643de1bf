use Rattle.std.proofs.Common.{rules}
use Rattle.std.proofs.lemmas.List.Sorted.{answers_always}
use Rattle.storage.proofs.Place.{searched}
use Rattle.storage.proofs.base.Base.search.Goals as goal

-- the closure gives a cell's lock, and the slice is the base's list
pub returns-clause-found : goal.returns-clause-found
returns-clause-found g c =
    let facts = c.binary_search_by_key.ensures in
    let by_key = facts.position (λ cell. cell.0) (answers_always _ _ _ (λ f a r h called. search rules)) in
    rw (← c.self.view_is, ← c.deref.ensures.value) (searched _ (rw c.deref.ensures.value c.self.invariant) c.args.lock _ facts.bound by_key).found

pub returns-clause-absent : goal.returns-clause-absent
returns-clause-absent g c =
    let facts = c.binary_search_by_key.ensures in
    let by_key = facts.position (λ cell. cell.0) (answers_always _ _ _ (λ f a r h called. search rules)) in
    rw (← c.self.view_is, ← c.deref.ensures.value) (searched _ (rw c.deref.ensures.value c.self.invariant) c.args.lock _ facts.bound by_key).absent
