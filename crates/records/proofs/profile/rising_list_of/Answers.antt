use Rattle.std.proofs.Common.{arith}
use Rattle.records.proofs.Steps.{is_spelled, is_read, ok_also}
use Rattle.records.specs.Profiles.{profile_at, profile_bytes, IsBlockProfile}
use Rattle.records.proofs.Profiles.{profile_exact}
use Rattle.records.proofs.Neighbours.{profile_from}
use Rattle.records.proofs.profile.rising_list_of.Goals as goal

pub returns-clause-spelled : goal.returns-clause-spelled
returns-clause-spelled g c = is_spelled profile_at profile_bytes IsBlockProfile profile_exact (λ x. (x.0.items, x.1.now)) c.list_of.result c.args.bytes.now (λ i. omega (arith, c.type_inv.bytes i)) c.list_of.ensures

pub returns-clause-rising : goal.returns-clause-rising
returns-clause-rising g c = ok_also c.list_of.result (λ x spelled. profile_from c.neighbours_decide.ensures x.0.items spelled.0.rising)
    (is_spelled profile_at profile_bytes IsBlockProfile profile_exact (λ x. (x.0.items, x.1.now)) c.list_of.result c.args.bytes.now (λ i. omega (arith, c.type_inv.bytes i)) c.list_of.ensures)

pub returns-clause-only : goal.returns-clause-only
returns-clause-only g c = is_read profile_at profile_bytes IsBlockProfile profile_exact (λ x. (x.0.items, x.1.now)) c.list_of.result c.args.bytes.now c.list_of.ensures
