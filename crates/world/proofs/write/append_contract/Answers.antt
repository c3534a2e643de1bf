use Rattle.std.proofs.Common.{◌≡◌, ℕ, List, ◌++◌, length, ap, ◌∙◌, arith}
use Rattle.spec_modules.specs.Shortest.{shortest}
use Rattle.module_tree.specs.Modules.{module_view}
use Rattle.link.specs.Parts.{tree_of}
use Rattle.world.proofs.WorldBytes.{counted_text}
use Rattle.world.proofs.write.append_contract.Goals as goal

pub returns : goal.returns
returns g c =
    let body = c.encode.new.out.items in
    let text : List ℕ = shortest (module_view (tree_of c.args.contract.now)) in
    let is : body ≡ text =
    c.in_ok-encode.ensures.appended ∙ (ap (λ (xs : List ℕ). xs ++ shortest (module_view c.module.result.now)) c.new-body.ensures.items ∙ ap (λ t. shortest (module_view t)) c.module.ensures) in
    let long : c.len.result ≡ length body = omega (arith, c.len.ensures, c.encode.new.out.ok.0) in
    counted_text c.args.out.now.items c.append_u32.new.out.items c.extend_from_slice.new.self.items body text c.len.result is long c.in_ok-append_u32.ensures.bytes
    (c.in_ok-extend_from_slice.ensures.items ∙ ap (λ (xs : List ℕ). c.append_u32.new.out.items ++ xs) c.deref.ensures.value)
