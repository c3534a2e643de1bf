use Rattle.std.proofs.Common.{ap, ◌∙◌}
use Rattle.wblock_io.specs.Log.{held_by}
use Rattle.wblock_io.proofs.LogLemmas.{first_kept}
use Rattle.wblock_io.proofs.memory.MemoryFiles.hold_draft.Goals as goal

pub returns-in-Ok-clause-kept : goal.returns-in-Ok-clause-kept
returns-in-Ok-clause-kept c =
    first_kept c.args.self.now.drafts.items c.add.new.self.drafts.items c.remove-draft.result c.args.name.now (held_by c.args.self.now) (held_by c.add.new.self) c.remove-draft.ensures.value
    (ap (λ d. d.items) c.in-Ok.ensures.others ∙ c.remove-draft.ensures.by_index.2) c.in-Ok.ensures.held
