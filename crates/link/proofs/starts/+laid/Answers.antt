use Rattle.std.proofs.Common.{◌≡◌, ◌∙◌, ◌/◌, [], sym, ap, subst, arith, length, map, take, drop, ◌*◌}
use Rattle.std.specs.Prelude.{All, IfOk}
use Rattle.std.proofs.lemmas.Bool.{eqb-true}
use Rattle.std.proofs.lemmas.List.{length-take-le, length-drop}
use Rattle.std.proofs.lemmas.Result.{IfOk-weaker}
use Rattle.spec_modules.specs.Profile.{page_size, page_limit}
use Rattle.module_tree.specs.ModuleView.{data_view}
use Rattle.memory.specs.Start.{stands}
use Rattle.link.specs.Starts.{EndsWithin, IsLaid}
use Rattle.link.proofs.Laying.{laid_none, laid_both, none_left, some_left, one_left, two_parts, up_to_end, first_part, last_part, all_at_map}
use Rattle.link.proofs.starts.+laid.Goals as goal

pub returns-then-is_empty : goal.returns-then-is_empty
returns-then-is_empty g t c =
    let none : c.args.segments.now ≡ [] = none_left c.args.segments.now (eqb-true _ _ (sym c.is_empty.ensures ∙ c.if-is_empty.true)) in
    IfOk-weaker c.of_bytes.result _ _ (λ s h. subst (λ ds. IsLaid (stands s) (map data_view ds)) (sym none) (laid_none (stands s) h)) c.of_bytes.ensures

pub laid_alone-requires : goal.laid_alone-requires
laid_alone-requires g t c =
    let x = c.index-segments-0.result in
    subst (λ d. EndsWithin (page_size * page_limit) (data_view d)) (sym c.index-segments-0.is) (all_at_map (EndsWithin (page_size * page_limit)) data_view c.args.segments.now c.requires 0 x (omega arith))

pub returns-then-segments-eq1 : goal.returns-then-segments-eq1
returns-then-segments-eq1 g t c =
    subst (λ ds. IfOk c.laid_alone.result (λ s. IsLaid (stands s) ds)) (sym (one_left data_view c.args.segments.now c.index-segments-0.result (omega arith) c.index-segments-0.is)) c.laid_alone.ensures

pub laid-requires : goal.laid-requires
laid-requires g t c = λ ls longer.
    let xs = c.args.segments.now in
    let some = some_left (length xs) c.is_empty.result c.is_empty.ensures c.if-is_empty.false in
    (omega (arith, some, c.if-segments-eq1.false, length-take-le (length xs / 2) xs (omega arith)), (longer, first_part (EndsWithin (page_size * page_limit)) data_view xs (length xs / 2) c.requires))

pub laid-requires-2 : goal.laid-requires-2
laid-requires-2 g t c = λ ls longer.
    let xs = c.args.segments.now in
    let middle = length xs / 2 in
    let some = some_left (length xs) c.is_empty.result c.is_empty.ensures c.if-is_empty.false in
    let back = up_to_end xs middle in (
      omega (arith, some, c.if-segments-eq1.false, ap length back, length-drop middle xs),
      (longer, subst (λ ys. All (EndsWithin (page_size * page_limit)) (map data_view ys)) (sym back) (last_part (EndsWithin (page_size * page_limit)) data_view xs middle c.requires)),
    )

pub returns : goal.returns
returns g t c =
    let xs = c.args.segments.now in
    let middle = length xs / 2 in
    let above = subst (λ ys. IsLaid (stands c.in_ok-above.above) (map data_view ys)) (up_to_end xs middle) c.in_ok-above.ensures in
    IfOk-weaker c.over.result _ _
    (λ s h. subst (IsLaid (stands s)) (two_parts data_view xs middle)
    (laid_both (stands c.in_ok-below.below) (stands c.in_ok-above.above) (stands s) (map data_view (take middle xs)) (map data_view (drop middle xs)) c.in_ok-below.ensures above h))
    c.over.ensures
