use Rattle.std.proofs.Common.{◌⊎◌, ◌∙◌, sym, inl, inr, ⊎_elim}
use Rattle.spec_ledger.specs.Book.{Content}
use Rattle.spec_ledger.specs.Events.{IsStale, UndoDone}
use Rattle.shards.proofs.Takings.{of_shard}
use Rattle.shards.proofs.sharded.Shards.undo_in.Goals as goal

pub returns : goal.returns
returns g c =
    of_shard (λ old. IsStale old.book c.args.call c.args.number ⊎ ((new : Content) × UndoDone old.book new c.args.call c.args.number)) c.deref.result.now c.deref_mut.result.now (c.deref_mut.ensures.value ∙ sym c.deref.ensures) c.look_at_shard.ensures
    (⊎_elim (λ h. inl h) (λ h. inr (c.undo.new.self.book, h)) c.undo.ensures.done)
