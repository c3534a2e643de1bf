use Rattle.std.proofs.Common.{◌-◌, refl, sym, ap, ◌∙◌, arith}
use Rattle.interp_state.specs.declared.parts.Kind.{Kind}
use Rattle.interp_state.specs.declared.parts.Parts.{Parts}
use Rattle.laws_reduction.specs.Meaning.{outer, deeper, frames}
use Rattle.interp_state.specs.Views.{opens_of, scope_of}
use Rattle.interp_state.proofs.Jumping.{target_entry, jump_is, jump_counted}
use Rattle.interp_state.proofs.branches.jump.Goals as goal

pub returns-in-Block-clause-jumps : goal.returns-in-Block-clause-jumps
returns-in-Block-clause-jumps g c =
    let p = c.args.parts.now in
    let q : Parts g.row.A.Denot = record { code = c.in-Some.field-0.from; entries = c.pop.new.self; depth = p.depth; stack = c.keep.new.stack; locals = p.locals; instance = p.instance; spare = p.spare } in
    let split = sym c.truncate.ensures.items ∙ c.in-Some.ensures.items in
    jump_is p q c.args.left c.in-Some.field-0 c.requires.target split refl c.keep.ensures (ap (λ (k : Kind _). outer (scope_of k) p.locals.items) (sym c.in-Block.is)) refl

pub returns-in-Block-clause-counted : goal.returns-in-Block-clause-counted
returns-in-Block-clause-counted g c =
    let p = c.args.parts.now in
    let q : Parts g.row.A.Denot = record { code = c.in-Some.field-0.from; entries = c.pop.new.self; depth = p.depth; stack = c.keep.new.stack; locals = p.locals; instance = p.instance; spare = p.spare } in
    let split = sym c.truncate.ensures.items ∙ c.in-Some.ensures.items in
    let same = c.requires.counted.count ∙ (target_entry p q c.args.left c.in-Some.field-0 c.requires.target split).1 ∙ (ap (λ (k : Kind _). deeper (scope_of k) (frames (opens_of c.pop.new.self.items) 0)) c.in-Block.is) in
    jump_counted p q c.args.left c.in-Some.field-0 c.requires.target split c.requires.counted refl (omega (arith, same)) (omega arith)

pub returns-in-Loop-clause-jumps : goal.returns-in-Loop-clause-jumps
returns-in-Loop-clause-jumps g c =
    let p = c.args.parts.now in
    let q : Parts g.row.A.Denot = record { code = c.in-Some.field-0.from; entries = c.pop.new.self; depth = p.depth; stack = c.keep.new.stack; locals = p.locals; instance = p.instance; spare = p.spare } in
    let split = sym c.truncate.ensures.items ∙ c.in-Some.ensures.items in
    jump_is p q c.args.left c.in-Some.field-0 c.requires.target split refl c.keep.ensures (ap (λ (k : Kind _). outer (scope_of k) p.locals.items) (sym c.in-Loop.is)) refl

pub returns-in-Loop-clause-counted : goal.returns-in-Loop-clause-counted
returns-in-Loop-clause-counted g c =
    let p = c.args.parts.now in
    let q : Parts g.row.A.Denot = record { code = c.in-Some.field-0.from; entries = c.pop.new.self; depth = p.depth; stack = c.keep.new.stack; locals = p.locals; instance = p.instance; spare = p.spare } in
    let split = sym c.truncate.ensures.items ∙ c.in-Some.ensures.items in
    let same = c.requires.counted.count ∙ (target_entry p q c.args.left c.in-Some.field-0 c.requires.target split).1 ∙ (ap (λ (k : Kind _). deeper (scope_of k) (frames (opens_of c.pop.new.self.items) 0)) c.in-Loop.is) in
    jump_counted p q c.args.left c.in-Some.field-0 c.requires.target split c.requires.counted refl (omega (arith, same)) (omega arith)

pub returns-in-Frame-clause-jumps : goal.returns-in-Frame-clause-jumps
returns-in-Frame-clause-jumps g c =
    let p = c.args.parts.now in
    let q : Parts g.row.A.Denot = record { code = c.in-Some.field-0.from; entries = c.pop.new.self; depth = p.depth - 1; stack = c.keep.new.stack; locals = c.replace-left.new.dest; instance = p.instance; spare = c.keep_room.new.spare } in
    let split = sym c.truncate.ensures.items ∙ c.in-Some.ensures.items in
    jump_is p q c.args.left c.in-Some.field-0 c.requires.target split refl c.keep.ensures (ap (λ v. v.items) c.replace-left.ensures.after ∙ ap (λ (k : Kind _). outer (scope_of k) p.locals.items) (sym c.in-Frame.is)) refl

pub returns-in-Frame-clause-counted : goal.returns-in-Frame-clause-counted
returns-in-Frame-clause-counted g c =
    let p = c.args.parts.now in
    let q : Parts g.row.A.Denot = record { code = c.in-Some.field-0.from; entries = c.pop.new.self; depth = p.depth - 1; stack = c.keep.new.stack; locals = c.replace-left.new.dest; instance = p.instance; spare = c.keep_room.new.spare } in
    let split = sym c.truncate.ensures.items ∙ c.in-Some.ensures.items in
    let same = c.requires.counted.count ∙ (target_entry p q c.args.left c.in-Some.field-0 c.requires.target split).1 ∙ (ap (λ (k : Kind _). deeper (scope_of k) (frames (opens_of c.pop.new.self.items) 0)) c.in-Frame.is) in
    jump_counted p q c.args.left c.in-Some.field-0 c.requires.target split c.requires.counted refl (omega (arith, same)) (omega arith)
