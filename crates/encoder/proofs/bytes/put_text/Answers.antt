use Rattle.std.proofs.Common.{◌++◌, length, ap, ◌∙◌, sym, append_assoc, rules, ◌≡◌}
use Rattle.spec_modules.specs.Shortest.{u32_bytes}
use Rattle.encoder.proofs.Runs.{run_bytes-bytes}
use Rattle.encoder.proofs.bytes.put_text.Goals as goal

pub returns-clause-bytes : goal.returns-clause-bytes
returns-clause-bytes g c =
    let text = c.args.text.now in
    let count = u32_bytes (length text) in
    let done : c.extend_from_slice.new.self.items ≡ (c.args.out.now.items ++ count) ++ text = search rules in
    done ∙ append_assoc c.args.out.now.items count text ∙ ap (λ l. c.args.out.now.items ++ (count ++ l)) (sym (run_bytes-bytes text))
