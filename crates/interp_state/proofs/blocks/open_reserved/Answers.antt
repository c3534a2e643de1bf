use Rattle.interp_state.specs.declared.parts.Entry.{Entry}
use Rattle.interp_state.specs.declared.parts.Parts.{Parts}
use Rattle.interp_state.specs.Views.{scope_of}
use Rattle.interp_state.proofs.Jumping.{pushed_counted, label_depth}
use Rattle.interp_state.proofs.blocks.open_reserved.Goals as goal

pub returns-clause-counted : goal.returns-clause-counted
returns-clause-counted g c =
    let p = c.args.parts.now in
    let q : Parts g.row.A.Denot = record { code = c.args.body; entries = c.push_reserved.new.self; depth = p.depth; stack = p.stack; locals = p.locals; instance = p.instance; spare = p.spare } in
    let e : Entry g.row.A.Denot = record { kind = c.args.kind; ordinal = c.args.ordinal; arity = c.args.arity; height = c.len-height.result; from = c.args.from } in
    pushed_counted p q e c.push_reserved.ensures.items c.requires.counted c.requires.body_numbered c.requires.from_numbered (label_depth (scope_of c.args.kind) p.depth c.requires.label) c.requires.counted.few
