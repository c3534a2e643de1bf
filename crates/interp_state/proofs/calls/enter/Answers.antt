use Rattle.std.proofs.Common.{◌-◌, ◌+◌, length, refl, sym, ap, ◌∙◌, subst, arith}
use Rattle.std.proofs.lemmas.Option.{slice_get_read}
use Rattle.interp_state.specs.Callee.{base_of}
use Rattle.laws_reduction.specs.Meaning.{Frame as frame}
use Rattle.interp_state.specs.declared.parts.Kind.TheVariants.{Frame}
use Rattle.interp_state.specs.Views.{view, open_of, opens_of, items_of}
use Rattle.spec_execution.specs.Reduction.{zero_of}
use Rattle.interp_state.specs.ViewLaws.{opens_push}
use Rattle.interp_state.specs.Steps.{AreNumbered}
use Rattle.interp_state.specs.declared.parts.Entry.{Entry}
use Rattle.interp_state.specs.declared.parts.Parts.{Parts}
use Rattle.interp_state.proofs.Jumping.{pushed_counted}
use Rattle.interp_state.specs.Numbering.{body_numbered, body_counted}
use Rattle.laws_reduction.specs.Calling.{call_found, type_found, args_found, too_deep_view, started_view, locals_made}
use Rattle.interp_state.proofs.calls.enter.Goals as goal

pub index-function-requires : goal.index-function-requires
index-function-requires g c =
    let l = c.args.lent.now in
    let m = l.module.now in
    omega (arith, call_found m l.hosts.now l.number l.version (view (base_of l) c.args.parts.now) c.args.func c.requires.call.fine c.requires.call.defined, m.funcs.ok.0)

pub index-form-requires : goal.index-form-requires
index-form-requires g c =
    let l = c.args.lent.now in
    let m = l.module.now in
    let found = call_found m l.hosts.now l.number l.version (view (base_of l) c.args.parts.now) c.args.func c.requires.call.fine c.requires.call.defined in
    let eg = slice_get_read m.funcs.items _ (c.args.func - length l.hosts.now) c.index-function.result.now refl found c.index-function.ensures in
    omega (arith, type_found m l.hosts.now l.number l.version (view (base_of l) c.args.parts.now) c.args.func c.requires.call.fine c.requires.call.defined c.index-function.result.now eg, m.types.ok.0)

pub returns-then-parts-ge-MOST_FRAMES-clause-entered : goal.returns-then-parts-ge-MOST_FRAMES-clause-entered
returns-then-parts-ge-MOST_FRAMES-clause-entered g c =
    let l = c.args.lent.now in
    let m = l.module.now in
    let v = view (base_of l) c.args.parts.now in
    let fine = c.requires.call.fine in
    let le = c.requires.call.defined in
    let f = c.index-function.result.now in
    let t = c.index-form.result.now in
    let eg = slice_get_read m.funcs.items _ (c.args.func - length l.hosts.now) f refl (call_found m l.hosts.now l.number l.version v c.args.func fine le) c.index-function.ensures in
    let et = slice_get_read m.types.items _ f.type_index t refl (type_found m l.hosts.now l.number l.version v c.args.func fine le f eg) c.index-form.ensures in
    let fits = args_found m l.hosts.now l.number l.version v c.args.func fine le f t (c.requires.ordered (base_of l)) eg et in
    (too_deep_view m l.hosts.now l.number l.version v c.args.func f t fine le (c.requires.ordered (base_of l)) eg et (length v.stack - length t.params.items) (omega arith) (omega (arith, c.requires.counted.count, c.if-parts-ge-MOST_FRAMES.true)), refl)

pub overflow_sub-height : goal.overflow_sub-height
overflow_sub-height g c =
    let l = c.args.lent.now in
    let m = l.module.now in
    let v = view (base_of l) c.args.parts.now in
    let fine = c.requires.call.fine in
    let le = c.requires.call.defined in
    let f = c.index-function.result.now in
    let t = c.index-form.result.now in
    let eg = slice_get_read m.funcs.items _ (c.args.func - length l.hosts.now) f refl (call_found m l.hosts.now l.number l.version v c.args.func fine le) c.index-function.ensures in
    let et = slice_get_read m.types.items _ f.type_index t refl (type_found m l.hosts.now l.number l.version v c.args.func fine le f eg) c.index-form.ensures in
    omega (arith, args_found m l.hosts.now l.number l.version v c.args.func fine le f t (c.requires.ordered (base_of l)) eg et, c.len.ensures, c.len-2.ensures, t.params.ok.0, c.args.parts.now.stack.ok.0)

pub returns-clause-entered : goal.returns-clause-entered
returns-clause-entered g c =
    let l = c.args.lent.now in
    let m = l.module.now in
    let p = c.args.parts.now in
    let v = view (base_of l) p in
    let fine = c.requires.call.fine in
    let le = c.requires.call.defined in
    let f = c.index-function.result.now in
    let t = c.index-form.result.now in
    let found = call_found m l.hosts.now l.number l.version v c.args.func fine le in
    let eg = slice_get_read m.funcs.items _ (c.args.func - length l.hosts.now) f refl found c.index-function.ensures in
    let et = slice_get_read m.types.items _ f.type_index t refl (type_found m l.hosts.now l.number l.version v c.args.func fine le f eg) c.index-form.ensures in
    let fits = args_found m l.hosts.now l.number l.version v c.args.func fine le f t (c.requires.ordered (base_of l)) eg et in
    let cut = c.len.result - c.len-2.result in
    started_view m l.hosts.now l.number l.version v c.args.func f t fine le (c.requires.ordered (base_of l)) eg et cut
    (omega (arith, fits, c.len.ensures, c.len-2.ensures, t.params.ok.0, p.stack.ok.0))
    _ (open_of (record { kind = Frame c.args.func c.replace-saved.result; ordinal = 0; arity = c.len-5.result; height = cut; from = p.code }))
    (omega (arith, c.requires.counted.count, c.if-parts-ge-MOST_FRAMES.false)) refl (ap opens_of c.in_ok-push.ensures.items ∙ opens_push p.entries.items _) c.truncate.ensures.items
    (ap items_of c.deref-parts.ensures.value ∙ body_numbered m (c.args.func - length l.hosts.now) f eg m.numbered)
    (ap (λ v. v.items) c.replace-saved.ensures.after ∙ (c.fill-locals.ensures ∙ locals_made zero_of cut v.stack c.deref.result.now f.locals.items c.deref-2.result.now c.deref.ensures.value c.deref-2.ensures.value))
    (ap (λ ls. frame c.args.func ls) (ap (λ v. v.items) c.replace-saved.ensures.value)) (c.len-5.ensures ∙ t.results.ok.0) refl refl

pub returns-clause-counted : goal.returns-clause-counted
returns-clause-counted g c =
    let l = c.args.lent.now in
    let m = l.module.now in
    let p = c.args.parts.now in
    let f = c.index-function.result.now in
    let eg = slice_get_read m.funcs.items _ (c.args.func - length l.hosts.now) f refl (call_found m l.hosts.now l.number l.version (view (base_of l) p) c.args.func c.requires.call.fine c.requires.call.defined) c.index-function.ensures in
    let q : Parts g.row.A.Denot = record { code = c.deref-parts.result; entries = c.push.new.self; depth = p.depth + 1; stack = c.truncate.new.self; locals = c.replace-saved.new.dest; instance = p.instance; spare = c.take_room.new.spare } in
    let e : Entry g.row.A.Denot = record { kind = Frame c.args.func c.replace-saved.result; ordinal = 0; arity = c.len-5.result; height = c.len.result - c.len-2.result; from = p.code } in
    pushed_counted p q e c.in_ok-push.ensures.items c.requires.counted (subst (λ is. AreNumbered is) (sym c.deref-parts.ensures.value) (body_counted m (c.args.func - length l.hosts.now) f eg m.numbered)) c.requires.counted.code refl (omega arith)
