use Rattle.std.proofs.Common.{rules}
use Rattle.wblock_io.proofs.LogLemmas.{last_grown}
use Rattle.wblock_io.proofs.memory.MemoryFiles.extend.Goals as goal

pub returns-in-Ok-clause-put : goal.returns-in-Ok-clause-put
returns-in-Ok-clause-put c = λ others front is.
    last_grown c.args.self.now.drafts.items c.in-Some.draft.now (record { name = c.in-Some.draft.now.name; bytes = c.extend_from_slice.new.self }) c.args.self.now.drafts.len others c.args.name.now front c.args.bytes.now c.args.self.now.drafts.ok.0 c.in-Some.ensures.value
    (search rules) (search rules) is
