use Rattle.std.proofs.Common.{rules}
use Rattle.wblock_io.proofs.LogLemmas.{changed}
use Rattle.wblock_io.proofs.memory.MemoryFiles.add.Goals as goal

pub returns-clause-held : goal.returns-clause-held
returns-clause-held c = changed c.args.self.now.log.items c.push.new.self.items c.args.held (search rules)
