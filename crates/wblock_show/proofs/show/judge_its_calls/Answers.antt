use Rattle.std.proofs.Common.{rules, ◌≡◌, List, ℕ}
use Rattle.sha2.specs.Sha256.{sha256}
use Rattle.spec_block.specs.Worlds.{order_of}
use Rattle.spec_block.specs.Bytes.{calls_bytes}
use Rattle.wblock_show.proofs.Calls.{names_no_more}
use Rattle.wblock_show.specs.Shows.{numbers_of}
use Rattle.wblock_show.proofs.show.judge_its_calls.Goals as goal

pub returns-in-None-clause-same : goal.returns-in-None-clause-same
returns-in-None-clause-same c =
    let digest : c.args.block.now.calls ≡ sha256 (calls_bytes c.args.calls.now) = search rules in
    let same : numbers_of c.positions.result.now ≡ order_of c.args.block.now = search rules in
    record { digest = digest; named = names_no_more c.args.calls.now c.positions.result.now c.args.block.now same c.in-None.ensures.none }
