use Rattle.std.proofs.Common.{ℕ, List, Bor}
use Rattle.text_resolve.proofs.space.put_first.Goals as goal

pub returns-clause-put : goal.returns-clause-put
returns-clause-put g c = λ n. let q : Bor (List ℕ) = record { ref_ptr = (0, 0); now = n } in c.in_ok-insert.ensures.updates.0 q
