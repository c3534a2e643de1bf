use Rattle.std.proofs.Common.{◌-◌, ◌++◌, length, map, refl, sym, ap, ◌∙◌, subst, arith}
use Rattle.std.proofs.lemmas.Option.{slice_get_read}
use Rattle.spec_execution.specs.Reduction.{zero_of}
use Rattle.interp_state.specs.Steps.{AreNumbered}
use Rattle.interp_state.specs.Views.{items_of}
use Rattle.interp_state.proofs.Entering.{entry_found, entry_type, entry_prepared}
use Rattle.interp_state.specs.Numbering.{body_numbered, body_counted}
use Rattle.interp_state.proofs.waiting.prepare_in.Goals as goal

pub returns-clause-prepared : goal.returns-clause-prepared
returns-clause-prepared g c =
    let l = c.args.lent.now in
    let m = l.module.now in
    let f = c.index-function.result.now in
    let t = c.index-form.result.now in
    let eg = slice_get_read m.funcs.items _ (c.args.func - length l.hosts.now) f refl (entry_found m l.hosts.now l.number l.version c.args.func c.args.args.now c.requires.defined c.requires.entry) c.index-function.ensures in
    let et = slice_get_read m.types.items _ f.type_index t refl (entry_type m l.hosts.now l.number l.version c.args.func c.args.args.now c.requires.defined c.requires.entry f eg) c.index-form.ensures in
    entry_prepared m l.hosts.now l.number l.version c.args.func c.args.args.now c.requires.defined c.requires.entry f t eg et _ refl (c.len-2.ensures ∙ t.results.ok.0)
    (c.fill.ensures ∙ ap (λ ts. c.args.args.now ++ map zero_of ts) c.deref.ensures.value)
    (ap items_of c.deref-2.ensures.value ∙ body_numbered m (c.args.func - length l.hosts.now) f eg m.numbered)

pub returns-clause-place : goal.returns-clause-place
returns-clause-place g c =
    let l = c.args.lent.now in
    let m = l.module.now in
    let f = c.index-function.result.now in
    let eg = slice_get_read m.funcs.items _ (c.args.func - length l.hosts.now) f refl (entry_found m l.hosts.now l.number l.version c.args.func c.args.args.now c.requires.defined c.requires.entry) c.index-function.ensures in
    record {
      none_open = c.reserve_exact.ensures.items ∙ c.clear.ensures.items;
      room = omega (arith, c.in_ok-reserve_exact.ensures.ok);
      numbered = subst (λ is. AreNumbered is) (sym c.deref-2.ensures.value) (body_counted m (c.args.func - length l.hosts.now) f eg m.numbered);
    }
