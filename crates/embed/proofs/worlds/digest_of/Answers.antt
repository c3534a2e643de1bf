use Rattle.std.proofs.Common.{◌∙◌, List, ℕ, ap}
use Rattle.sha2.specs.Sha256.{sha256}
use Rattle.world.specs.Views.{world_view}
use Rattle.embed.proofs.worlds.digest_of.Goals as goal

pub returns-clause-digest : goal.returns-clause-digest
returns-clause-digest c =
    let spelled = c.in_ok-read.ensures.spelled in
    record { world = world_view c.in_ok-read.read; spelled = spelled; is = c.digest.ensures ∙ ap (λ (bytes : List ℕ). sha256 bytes) spelled.is }
