use Rattle.std.proofs.Common.{None, Some, IsSome, true, false, ◌≡◌, ◌∙◌, ap, sym, subst}
use Rattle.std.specs.FinMap.{get}
use Rattle.spec_ledger.specs.Cells.{set_at}
use Rattle.abstract_locks.proofs.Maps.{found, written}
use Rattle.abstract_locks.proofs.sharing.Sharing.put_back.Goals as goal

pub unreachable-requires : goal.unreachable-requires
unreachable-requires g c = let no : ◌≡◌ false true = subst (λ o. IsSome o) (sym (found c.self.inside.map c.args.lock None (sym c.in-Err.ensures.absent) ∙ ap (λ m. get m c.args.lock) c.self.view_is)) c.requires in cc

pub returns-in-None : goal.returns-in-None
returns-in-None g c = written c.self.inside.map c.remove.new.self c.args.lock None c.remove.ensures.updates.0 ∙ (λ i. set_at (c.self.view_is i) c.args.lock (sym c.in-None.is i))

pub returns-in-Ok : goal.returns-in-Ok
returns-in-Ok g c = written c.self.inside.map c.insert.new.self c.args.lock (Some c.in-Some.shared) c.in-Ok.ensures.updates.0 ∙ (λ i. set_at (c.self.view_is i) c.args.lock (sym c.in-Some.is i))
