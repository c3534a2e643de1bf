use Rattle.std.proofs.Common.{◌≡◌, IfOk, subst, sym, ◌∙◌}
use Rattle.serde_json.specs.Data.{Data}
use Rattle.serde_json.specs.View.{view}
use Rattle.wblock_json.specs.Blocks.{call_data}
use Rattle.wblock_json.proofs.Listed.{at_none, at_some}
use Rattle.wblock_json.proofs.blocks.listed_of.Goals as goal

pub returns-in-Some : goal.returns-in-Some
returns-in-Some c =
    let there = c.in-Some.ensures.lookup in
    subst (λ (d : Data). IfOk c.call_of.result (λ v. view v ≡ d)) (sym (at_some call_data c.args.calls.now c.args.number c.in-Some.call.now there.3.0 there.1)) c.call_of.ensures

pub returns-in-None : goal.returns-in-None
returns-in-None c = c.null.ensures ∙ sym (at_none call_data c.args.calls.now c.args.number c.in-None.ensures.lookup.3)
