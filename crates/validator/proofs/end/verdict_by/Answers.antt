use Rattle.std.proofs.Common.{ℕ, IfNone, IfSome, inl, inr, ap, sym, ◌∙◌, subst}
use Rattle.sha2.specs.Sha256.{sha256}
use Rattle.serial.specs.Positions.{results_of}
use Rattle.serial.proofs.BlocksLimits.{fuel_is}
use Rattle.spec_block.specs.Worlds.{World}
use Rattle.spec_block.specs.Bytes.{world_bytes}
use Rattle.spec_block.specs.Verdicts.{IsLeast, IsOther}
use Rattle.world.specs.Views.{world_view}
use Rattle.validator.proofs.Ends.{deviates, wrong_end, accepted, is_so, is_not_so}
use Rattle.validator.proofs.end.verdict_by.Goals as goal

pub returns-in-Some : goal.returns-in-Some
returns-in-Some g c = λ world calls fuel rs ms last end.
    let block = c.args.block.now in
    let ran = results_of rs ms in
    deviates c.one_serial_run.ensures.one world block ran last calls fuel end.run c.in-Some.position
    (subst (λ o. IfSome o (IsLeast (IsOther block.positions ran))) c.in-Some.is end.compared.other)

pub returns-then-not-compared : goal.returns-then-not-compared
returns-then-not-compared g c = λ world calls fuel rs ms last end.
    let block = c.args.block.now in
    let alike = subst (λ o. IfNone o ((p : ℕ) → ¬ (IsOther block.positions (results_of rs ms) p))) c.in_default.is end.compared.same in
    let total = fuel_is rs ms end.many in
    wrong_end c.one_serial_run.ensures.one world block (results_of rs ms) last calls fuel end.run alike
    (inl (λ same. is_not_so c.args.compared.is_total c.if-not-compared.true (end.compared.total.1 (same ∙ sym total))))

pub returns-then-not-is_digest : goal.returns-then-not-is_digest
returns-then-not-is_digest g c = λ world calls fuel rs ms last end.
    let block = c.args.block.now in
    let alike = subst (λ o. IfNone o ((p : ℕ) → ¬ (IsOther block.positions (results_of rs ms) p))) c.in_default.is end.compared.same in
    let digest = end.digest_is ∙ ap (λ (w : World). sha256 (world_bytes w)) end.next_is in
    wrong_end c.one_serial_run.ensures.one world block (results_of rs ms) last calls fuel end.run alike
    (inr (λ same. let yes = c.is_digest.ensures.1 (c.after.ensures ∙ (same ∙ sym digest)) in let no = c.if-not-is_digest.true in cc (yes, no)))

pub returns : goal.returns
returns g c = λ world calls fuel rs ms last end.
    let block = c.args.block.now in
    let alike = subst (λ o. IfNone o ((p : ℕ) → ¬ (IsOther block.positions (results_of rs ms) p))) c.in_default.is end.compared.same in
    let total = fuel_is rs ms end.many in
    let digest = end.digest_is ∙ ap (λ (w : World). sha256 (world_bytes w)) end.next_is in
    accepted c.one_serial_run.ensures.one world block (results_of rs ms) last calls fuel end.run alike
    (end.compared.total.0 (is_so c.args.compared.is_total c.if-not-compared.false) ∙ total)
    (sym c.after.ensures ∙ (c.is_digest.ensures.0 c.if-not-is_digest.false ∙ digest))
    (world_view c.args.next) end.next_is
