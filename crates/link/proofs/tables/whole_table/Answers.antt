use Rattle.std.proofs.Common.{◌≡◌, ◌<◌, ◌≤◌, ◌+◌, ℕ, Option, Some, None, sym, ap, ◌∙◌, subst, arith, length, slice_index_or, map, take}
use Rattle.std.specs.Prelude.{replicate}
use Rattle.std.proofs.lemmas.List.{length-replicate}
use Rattle.std.proofs.Math.Seq.{take-length}
use Rattle.spec_modules.specs.Operators.{bits_of}
use Rattle.module_tree.specs.ModuleView.{limits_view, element_view}
use Rattle.spec_modules.specs.Memory.{written}
use Rattle.spec_execution.specs.Configuration.{size_of, constant, with_elements}
use Rattle.link.proofs.Elements.{segment_fits, one_segment_more, length_in_place, length_map}
use Rattle.link.proofs.tables.whole_table.Goals as goal

pub loop-segment-init : goal.loop-segment-init
loop-segment-init g c =
    let ts = c.deref.ensures.value in
    let n = size_of (map limits_view c.args.tree.now.tables.items) in
    let items : c.in_ok-table.table.items ≡ replicate n None = c.in_ok-table.ensures ∙ ap (λ ts. replicate (size_of (map limits_view ts)) None) ts in
    record { items = items; len = ap length items ∙ length-replicate n None }

pub put_functions-requires : goal.put_functions-requires
put_functions-requires g c =
    let t = c.args.tree.now in
    let items = c.deref-segment-items.ensures.value in
    let x = c.segment-item.result in
    let i = c.loop-segment.segment-index in
    let lt : i < length t.elements.items = subst (λ xs. i < length xs) items c.loop-segment-test.true in
    let is : x ≡ slice_index_or t.elements.items i x = subst (λ xs. x ≡ slice_index_or xs i x) items c.segment-item.is in
    let at_is : c.bits-at.result ≡ bits_of (constant (element_view x).offset) = c.bits-at.ensures ∙ ap bits_of c.constant_of.ensures in
    let fits = segment_fits t c.args.hosts.now c.requires i x lt is in
    omega (arith, fits, at_is, ap length c.deref-in-loop-segment.ensures.value, c.loop-segment.invariant.len)

pub loop-segment-preserved : goal.loop-segment-preserved
loop-segment-preserved g c =
    let t = c.args.tree.now in
    let items = c.deref-segment-items.ensures.value in
    let x = c.segment-item.result in
    let i = c.loop-segment.segment-index in
    let lt : i < length t.elements.items = subst (λ xs. i < length xs) items c.loop-segment-test.true in
    let is : x ≡ slice_index_or t.elements.items i x = subst (λ xs. x ≡ slice_index_or xs i x) items c.segment-item.is in
    let at_is : c.bits-at.result ≡ bits_of (constant (element_view x).offset) = c.bits-at.ensures ∙ ap bits_of c.constant_of.ensures in
    let fits = segment_fits t c.args.hosts.now c.requires i x lt is in
    let old = c.loop-segment.table.items in
    let at = c.bits-at.result in
    let funcs = map Some x.funcs.items in
    let there : at + length funcs ≤ length old = omega (arith, fits, at_is, length_map {X = ℕ} {Y = Option ℕ} Some x.funcs.items, c.loop-segment.invariant.len) in
    let new : c.put_functions.new.table.items ≡ written at funcs old = c.put_functions.ensures ∙ ap (λ fs. written at (map Some fs) old) c.deref-in-loop-segment.ensures.value in
    record {
      items = new ∙ ap (λ n. written n funcs old) at_is ∙ ap (written (bits_of (constant (element_view x).offset)) funcs) c.loop-segment.invariant.items
          ∙ sym (one_segment_more t c.args.hosts.now c.requires i x lt is _);
      len = ap length new ∙ length_in_place at funcs old there ∙ c.loop-segment.invariant.len;
    }

pub returns : goal.returns
returns g c =
    let t = c.args.tree.now in
    let items = c.deref-segment-items.ensures.value in
    let whole : c.loop-segment.segment-index ≡ length t.elements.items = omega (arith, ap length items, c.loop-segment-test.false, c.loop-segment.auto.segment-index-end) in
    c.loop-segment.invariant.items
    ∙ ap (λ es. with_elements (map element_view es) (replicate (size_of (map limits_view t.tables.items)) None)) (ap (λ n. take n t.elements.items) whole ∙ take-length t.elements.items)
