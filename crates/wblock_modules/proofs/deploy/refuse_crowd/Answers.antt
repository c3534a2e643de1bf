use Rattle.std.proofs.Common.{rules, ◌≡◌, ◌+◌, Bool, true, List, ℕ, string_bytes, sym, subst}
use Rattle.wblock_line.specs.Upshots.{IsToldIn}
use Rattle.wblock_modules.specs.Deploys.{crowd_line}
use Rattle.wblock_modules.proofs.deploy.refuse_crowd.Goals as goal

pub returns-then-json : goal.returns-then-json
returns-then-json c =
    let is : c.as_str.result.now ≡ crowd_line (c.args.contracts + c.args.modules) = search rules in
    let why_is : c.as_str-then-json.result.now ≡ string_bytes c.in_ok-why.why = search rules in
    let told : IsToldIn true (crowd_line (c.args.contracts + c.args.modules)) (string_bytes c.in_ok-why.why) (string_bytes c.in_ok-told.told) =
    subst (λ (line : List ℕ). IsToldIn true line (string_bytes c.in_ok-why.why) (string_bytes c.in_ok-told.told)) is
    (subst (λ (why : List ℕ). IsToldIn true c.as_str.result.now why (string_bytes c.in_ok-told.told)) why_is c.in_ok-told.ensures) in
    subst (λ (b : Bool). IsToldIn b (crowd_line (c.args.contracts + c.args.modules)) (string_bytes c.in_ok-why.why) (string_bytes c.in_ok-told.told)) (sym c.if-json.true) told
