use Rattle.std.proofs.Common.{◌-◌, ◌≡◌, refl, ap, ◌∙◌, take, length, slice_index_or}
use Rattle.interp_state.specs.declared.parts.Parts.{Parts}
use Rattle.interp_state.proofs.Repeating.{repeats_is, repeats_counted, leads_to_none}
use Rattle.interp_state.proofs.branches.repeat.Goals as goal

pub returns-clause-repeats : goal.returns-clause-repeats
returns-clause-repeats g c is_so =
    let p = c.args.parts.now in
    let q : Parts g.row.A.Denot = record { code = c.in-Some.body; entries = c.truncate.new.self; depth = p.depth; stack = c.truncate-2.new.self; locals = p.locals; instance = p.instance; spare = p.spare } in
    let e = c.index-entry.result.now in
    let count : c.len.result ≡ length p.entries.items = c.len.ensures ∙ p.entries.ok.0 in
    let read = c.index-entry.ensures ∙ ap (λ n. slice_index_or p.entries.items (n - c.args.label - 1) e) count in
    let left = c.truncate.ensures.items ∙ ap (λ n. take (n - c.args.label) p.entries.items) count in
    repeats_is p q c.args.label e c.in-Some.body.now c.requires.target c.in-Some.ensures.found read left refl c.requires.counted c.truncate-2.ensures.items refl refl

pub returns-clause-counted : goal.returns-clause-counted
returns-clause-counted g c =
    let p = c.args.parts.now in
    let q : Parts g.row.A.Denot = record { code = c.in-Some.body; entries = c.truncate.new.self; depth = p.depth; stack = c.truncate-2.new.self; locals = p.locals; instance = p.instance; spare = p.spare } in
    let e = c.index-entry.result.now in
    let count : c.len.result ≡ length p.entries.items = c.len.ensures ∙ p.entries.ok.0 in
    let read = c.index-entry.ensures ∙ ap (λ n. slice_index_or p.entries.items (n - c.args.label - 1) e) count in
    let left = c.truncate.ensures.items ∙ ap (λ n. take (n - c.args.label) p.entries.items) count in
    repeats_counted p q c.args.label e c.in-Some.body.now c.requires.target c.in-Some.ensures.found read left refl c.requires.counted refl

pub returns-in_default-clause-other : goal.returns-in_default-clause-other
returns-in_default-clause-other g c _ =
    let p = c.args.parts.now in
    let e = c.index-entry.result.now in
    let count : c.len.result ≡ length p.entries.items = c.len.ensures ∙ p.entries.ok.0 in
    let read = c.index-entry.ensures ∙ ap (λ n. slice_index_or p.entries.items (n - c.args.label - 1) e) count in
    leads_to_none p c.args.label e c.requires.target read (c.in_default.ensures.other refl)
