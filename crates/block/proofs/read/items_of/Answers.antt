use Rattle.std.proofs.Common.{◌≡◌, ◌-◌, ◌∙◌, None, Some, ap₂, ℕ, List}
use Rattle.std.proofs.Math.Nat.{sub-zero}
use Rattle.std.proofs.lemmas.Result.{err_from_is_err_and}
use Rattle.spec_block.specs.Worlds.{Position}
use Rattle.records.specs.Reading.{Read, items_at}
use Rattle.records.proofs.Items.{with_front, begins, goes_on, ends, is_done}
use Rattle.block.specs.Reading.{next_position_at}
use Rattle.block.proofs.read.items_of.Goals as goal

pub loop-init : goal.loop-init
loop-init g c =
    let total : Read (List Position) = items_at (next_position_at c.args.version) c.args.count None c.args.bytes.now in
    let all : with_front c.new-positions.result.items (items_at (next_position_at c.args.version) (c.args.count - 0) None c.args.bytes.now) ≡ total =
    ap₂ (λ (front : List Position) (n : ℕ). with_front front (items_at (next_position_at c.args.version) n None c.args.bytes.now)) c.new-positions.ensures.items (sub-zero c.args.count) ∙ begins total in
    (None, all)

pub returns-in_err-position : goal.returns-in_err-position
returns-in_err-position g c =
    let p = err_from_is_err_and c.from_residual.result c.from_residual.ensures.1 in
    rw (p.1, p.2) (ends (next_position_at c.args.version) c.in_err-position.field-0.0 c.loop.positions.items c.args.count c.loop.counter c.loop.invariant.0 c.loop.rest.now (items_at (next_position_at c.args.version) c.args.count None c.args.bytes.now) c.loop-test.true c.in_err-position.ensures.first c.loop.invariant.1)

pub loop-preserved : goal.loop-preserved
loop-preserved g c =
    let n = c.in_ok-position.position in
    (Some n, rw c.in_ok-push.ensures.items (goes_on (next_position_at c.args.version) c.loop.positions.items c.args.count c.loop.counter c.loop.invariant.0 c.loop.rest.now n c.in_ok-position.after.now (items_at (next_position_at c.args.version) c.args.count None c.args.bytes.now) c.loop-test.true c.in_ok-position.ensures.first c.loop.invariant.1))

pub returns : goal.returns
returns g c = is_done (next_position_at c.args.version) c.loop.positions.items c.args.count c.loop.counter c.loop.invariant.0 c.loop.rest.now (items_at (next_position_at c.args.version) c.args.count None c.args.bytes.now) c.loop-test.false c.loop.invariant.1
