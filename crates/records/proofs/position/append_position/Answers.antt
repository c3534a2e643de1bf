use Rattle.std.proofs.Common.{ℕ, List, ◌++◌, ap, ◌∙◌}
use Rattle.std.specs.Int.{w32, to_le_bytes}
use Rattle.spec_ledger.specs.declared.Receipt.{Receipt}
use Rattle.spec_ledger.specs.declared.Entry.{Entry}
use Rattle.spec_block.specs.Bytes.{receipt_bytes}
use Rattle.records.proofs.Steps.{appended}
use Rattle.records.specs.Profiles.{profile_bytes}
use Rattle.records.proofs.position.append_position.Goals as goal

pub returns-clause-bytes : goal.returns-clause-bytes
returns-clause-bytes g c =
    let p = c.args.position.now in
    let out = c.args.out.now.items in
    let one = c.append_u32.new.out.items in
    let two = c.append_receipt.new.out.items in
    appended out one two c.append_profile.new.out.items (to_le_bytes w32 p.call) (receipt_bytes c.args.version p.receipt) (profile_bytes p.profile)
    (c.in_ok-append_u32.ensures.bytes ∙ ap (λ (n : ℕ). out ++ to_le_bytes w32 n) c.call.ensures)
    (c.in_ok-append_receipt.ensures.bytes ∙ ap (λ (r : Receipt). one ++ receipt_bytes c.args.version r) c.receipt.ensures)
    (c.in_ok-append_profile.ensures.bytes ∙ ap (λ (es : List Entry). two ++ profile_bytes es) c.profile.ensures)
