use Rattle.std.proofs.Common.{◌≡◌, ℕ, ◌∙◌, sym, subst, ap, arith, length}
use Rattle.std.proofs.lemmas.Option.{none-some, same_Some}
use Rattle.std.proofs.lemmas.Result.{IfOk-weaker}
use Rattle.module_tree.specs.ModuleView.{data_view}
use Rattle.memory.specs.Runs.{own_byte}
use Rattle.memory.specs.Start.{stands}
use Rattle.link.proofs.Laying.{laid_one}
use Rattle.link.proofs.starts.laid_alone.Goals as goal

pub unreachable-requires : goal.unreachable-requires
unreachable-requires g c = none-some c.requires.0 (c.in-None.ensures ∙ c.requires.1)

pub of_bytes-requires : goal.of_bytes-requires
of_bytes-requires g c =
    let same : c.in-Some.at ≡ c.requires.0 = same_Some c.in-Some.at c.requires.0 (c.in-Some.ensures ∙ c.requires.1) in
    omega (arith, same, c.requires.2, ap length c.deref.ensures.value)

pub returns : goal.returns
returns g c =
    IfOk-weaker c.of_bytes.result _ _
    (λ s h. laid_one (stands s) (data_view c.args.segment.now) c.in-Some.at (sym c.in-Some.ensures) (subst (λ bytes. (k : ℕ) → stands s k ≡ own_byte c.in-Some.at bytes k) c.deref.ensures.value h))
    c.of_bytes.ensures
