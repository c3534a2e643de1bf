use Rattle.std.proofs.Common.{◌≡◌, ◌∙◌, List, [], ◌∷◌, ◌++◌, IfOk, length, map, ap, arith, subst}
use Rattle.spec_block.specs.Worlds.{Contract}
use Rattle.spec_block.specs.Bytes.{world_bytes}
use Rattle.world.specs.Views.{contract_view, world_view}
use Rattle.wblock_modules.specs.Deploys.{extended}
use Rattle.embed.proofs.worlds.encode_behind.Goals as goal

pub encode_extended-requires : goal.encode_extended-requires
encode_extended-requires c =
    let one : c.push.new.self.items ≡ c.args.contract ∷ [] = c.in_ok-push.ensures.items ∙ ap (λ ds. ds ++ c.args.contract ∷ []) c.new-contracts.ensures.items in
    let many : length c.push.new.self.items ≡ 1 = ap length one in
    omega (arith, c.requires, many, c.push.new.self.ok.0)

pub returns : goal.returns
returns c =
    let one : c.push.new.self.items ≡ c.args.contract ∷ [] = c.in_ok-push.ensures.items ∙ ap (λ ds. ds ++ c.args.contract ∷ []) c.new-contracts.ensures.items in
    let views : map contract_view c.push.new.self.items ≡ contract_view c.args.contract ∷ [] = ap (map contract_view) one in
    subst (λ (cs : List Contract). IfOk c.encode_extended.result (λ bytes. bytes.items ≡ world_bytes (extended (world_view c.args.world) cs))) views c.encode_extended.ensures
