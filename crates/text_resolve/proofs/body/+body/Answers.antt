use Rattle.std.proofs.Common.{◌≡◌, ◌+◌, ◌-◌, ◌<◌, ◌∷◌, ◌++◌, [], false, true, Some, None, length, map, arith, rules, refl, sym, ap, ◌∙◌}
use Rattle.std.specs.Prelude.{option_map}
use Rattle.std.proofs.lemmas.Result.{err_from_is_err_and}
use Rattle.module_tree.specs.View.{ordinals, instr_view, instrs_view}
use Rattle.module_tree.specs.Numbering.{numbered_none, numbered_push, numbered_Block, numbered_If}
use Rattle.spec_modules.specs.Limits.{instrs_fit}
use Rattle.spec_text.specs.Spaces.{Names}
use Rattle.text_body.specs.Views.{text_of, flat_of, opener_of}
use Rattle.text_body.specs.declared.flat.Flat.TheVariants as flat
use Rattle.text_body.specs.declared.flat.Opener.TheVariants as opener
use Rattle.spec_text.specs.FieldsOfBytes as N
use Rattle.spec_modules.specs.Syntax as S
use Rattle.text_resolve.proofs.Lookups.{hand_on}
use Rattle.text_resolve.specs.Views.{spaces_of, flats_from}
use Rattle.text_resolve.specs.Bodies.{is_done, one_at, body_at, behind_end, behind_else}
use Rattle.text_resolve.proofs.Turns.{front_none, body_opens, at_end, at_fault, at_more, flats_at, flats_left, fits_more, fits_If, numbered_Loop, was_not, was_done, too_deep, block_fails, loop_fails, else_fails, then_fails, then_is, others_fail, others_end_not, others_are, view_of_If}
use Rattle.text_resolve.proofs.body.+body.Goals as goal

pub body_of-loop-first-init : goal.body_of-loop-first-init
body_of-loop-first-init g t c =
    let s = spaces_of c.args.scope.now.spaces.now in
    let locals = map text_of c.args.scope.now.locals.now.names.items in
    let labels = map text_of c.args.labels.now.open.items in
    let flats = flats_from c.args.at c.args.flats.now in (
      length flats,
      omega arith,
      body_opens s locals labels c.args.depth flats c.requires.deep ∙ front_none c.new-found.result.items _ c.new-found.ensures.items,
      refl,
      search rules,
      numbered_none c.args.ordinal (ordinals c.new-found.result.items) (ap ordinals c.new-found.ensures.items),
      omega arith,
      c.requires.place,
      omega arith,
    )

pub body_of-loop-first-preserved : goal.body_of-loop-first-preserved
body_of-loop-first-preserved g t c =
    let l = c.loop-first in
    let s = spaces_of c.args.scope.now.spaces.now in
    let locals = map text_of c.args.scope.now.locals.now.names.items in
    let labels = map text_of c.args.labels.now.open.items in
    let flats = c.args.flats.now in
    let first = c.index-flats-place.result in
    let lt : l.place < length flats = c.loop-first-test.ensures.within refl in
    let go : is_done (flats_from l.place flats) ≡ false = was_not (is_done (flats_from l.place flats)) (sym c.loop-first-test.ensures.goes) in
    let same : map text_of l.labels.open.items ≡ labels = ap (map text_of) l.invariant.3 in
    let found : one_at s locals (c.args.depth - 1) labels (flat_of first) (flats_from (l.place + 1) flats) ≡ Some (instr_view c.in_ok-instr.instr, flats_from c.in_ok-instr.behind flats) =
    ap (λ ls. one_at s locals (c.args.depth - 1) ls (flat_of first) (flats_from (l.place + 1) flats)) (sym same) ∙ c.in_ok-instr.ensures.value in
    let pushed : c.push.new.self.items ≡ l.found.items ++ c.in_ok-instr.instr ∷ [] = search rules in (
      l.invariant.0 - 1,
      omega (arith, flats_left flats l.place, flats_left flats c.in_ok-instr.behind, l.invariant.1, c.in_ok-instr.ensures.within),
      at_more (body_at s locals c.args.depth labels (flats_from c.args.at flats)) l.found.items (one_at s locals (c.args.depth - 1) labels) l.invariant.0 (flats_from l.place flats) l.invariant.1 l.invariant.2
          (flat_of first) (flats_from (l.place + 1) flats) (flats_from c.in_ok-instr.behind flats) c.in_ok-instr.instr c.push.new.self.items (flats_at flats l.place first lt c.index-flats-place.is) go found pushed,
      c.in_ok-instr.ensures.labels ∙ l.invariant.3,
      fits_more l.found.items c.push.new.self.items c.in_ok-instr.instr l.invariant.4 c.in_ok-instr.ensures.fits pushed,
      numbered_push c.args.ordinal l.next c.in_ok-instr.following l.found.items c.push.new.self.items c.in_ok-instr.instr l.invariant.5 c.in_ok-instr.ensures.numbered pushed,
      omega (arith, l.invariant.6, c.in_ok-instr.ensures.within),
      c.in_ok-instr.ensures.within.1,
      omega (arith, l.invariant.8, c.in_ok-instr.ensures.within),
    )

pub body_of-returns-in_err-instr-clause-value : goal.body_of-returns-in_err-instr-clause-value
body_of-returns-in_err-instr-clause-value g t c =
    let l = c.loop-first in
    let s = spaces_of c.args.scope.now.spaces.now in
    let locals = map text_of c.args.scope.now.locals.now.names.items in
    let labels = map text_of c.args.labels.now.open.items in
    let flats = c.args.flats.now in
    let first = c.index-flats-place.result in
    let lt : l.place < length flats = c.loop-first-test.ensures.within refl in
    let go : is_done (flats_from l.place flats) ≡ false = was_not (is_done (flats_from l.place flats)) (sym c.loop-first-test.ensures.goes) in
    let same : map text_of l.labels.open.items ≡ labels = ap (map text_of) l.invariant.3 in
    let whole = body_at s locals c.args.depth labels (flats_from c.args.at flats) in
    let one = λ (ls : Names). one_at s locals (c.args.depth - 1) ls (flat_of first) (flats_from (l.place + 1) flats) in
    let p = err_from_is_err_and c.from_residual-in_err-instr.result c.from_residual-in_err-instr.ensures.1 in
    rw (p.1, p.2) (hand_on c.in_err-instr.field-0.0 (one (map text_of l.labels.open.items)) whole
    (λ n. at_fault whole l.found.items (one_at s locals (c.args.depth - 1) labels) l.invariant.0 (flats_from l.place flats) l.invariant.1 l.invariant.2 (flat_of first) (flats_from (l.place + 1) flats)
    (flats_at flats l.place first lt c.index-flats-place.is) go (ap one (sym same) ∙ n))
    c.in_err-instr.ensures.value)

pub body_of-returns-clause-value : goal.body_of-returns-clause-value
body_of-returns-clause-value g t c =
    let l = c.loop-first in
    let s = spaces_of c.args.scope.now.spaces.now in
    let locals = map text_of c.args.scope.now.locals.now.names.items in
    let labels = map text_of c.args.labels.now.open.items in
    let ends : is_done (flats_from l.place c.args.flats.now) ≡ true = was_done (is_done (flats_from l.place c.args.flats.now)) (sym c.loop-first-test.ensures.goes) in
    at_end (body_at s locals c.args.depth labels (flats_from c.args.at c.args.flats.now)) l.found.items (one_at s locals (c.args.depth - 1) labels) l.invariant.0 (flats_from l.place c.args.flats.now) l.invariant.1 l.invariant.2 ends

pub instr_of-returns-in_err-place-in-Block-clause-value : goal.instr_of-returns-in_err-place-in-Block-clause-value
instr_of-returns-in_err-place-in-Block-clause-value g t c =
    let s = spaces_of c.args.scope.now.spaces.now in
    let locals = map text_of c.args.scope.now.locals.now.names.items in
    let labels = map text_of c.args.labels.now.open.items in
    let flats = c.args.flats.now in
    let label = text_of c.in-Opens.label in
    let told : c.args.first.now ≡ flat.Opens c.in-Opens.opener c.in-Opens.label c.in-Opens.kind = c.in-Opens.is in
    let kind_is : c.in-Opens.opener ≡ opener.Block = c.in-Block.is in
    let first : flat_of c.args.first.now ≡ N.Opens N.Block label c.in-Opens.kind = ap flat_of told ∙ ap (λ o. N.Opens (opener_of o) label c.in-Opens.kind) kind_is in
    let entered : map text_of c.enter.new.self.open.items ≡ label ∷ labels = ap (map text_of) c.in_ok-enter.ensures.entered in
    let rest = flats_from c.in_ok-body.place flats in
    let whole = one_at s locals c.args.depth labels (flat_of c.args.first.now) (flats_from c.args.at flats) in
    let to_first = ap (λ f. one_at s locals c.args.depth labels f (flats_from c.args.at flats)) first in
    let p = err_from_is_err_and c.from_residual-in_err-place-in-Block.result c.from_residual-in_err-place-in-Block.ensures.1 in
    rw (p.1, p.2) (hand_on c.in_err-place-in-Block.field-0.0 (behind_end label rest) whole (λ n. to_first ∙ block_fails s locals labels (map text_of c.enter.new.self.open.items) c.args.depth label c.in-Opens.kind (flats_from c.args.at flats) (instrs_view c.in_ok-body.body.items) rest entered c.in_ok-body.ensures.value n) c.in_err-place-in-Block.ensures.value)

pub instr_of-returns-in_err-place-in-Loop-clause-value : goal.instr_of-returns-in_err-place-in-Loop-clause-value
instr_of-returns-in_err-place-in-Loop-clause-value g t c =
    let s = spaces_of c.args.scope.now.spaces.now in
    let locals = map text_of c.args.scope.now.locals.now.names.items in
    let labels = map text_of c.args.labels.now.open.items in
    let flats = c.args.flats.now in
    let label = text_of c.in-Opens.label in
    let told : c.args.first.now ≡ flat.Opens c.in-Opens.opener c.in-Opens.label c.in-Opens.kind = c.in-Opens.is in
    let kind_is : c.in-Opens.opener ≡ opener.Loop = c.in-Loop.is in
    let first : flat_of c.args.first.now ≡ N.Opens N.Loop label c.in-Opens.kind = ap flat_of told ∙ ap (λ o. N.Opens (opener_of o) label c.in-Opens.kind) kind_is in
    let entered : map text_of c.enter.new.self.open.items ≡ label ∷ labels = ap (map text_of) c.in_ok-enter.ensures.entered in
    let rest = flats_from c.in_ok-body.place flats in
    let whole = one_at s locals c.args.depth labels (flat_of c.args.first.now) (flats_from c.args.at flats) in
    let to_first = ap (λ f. one_at s locals c.args.depth labels f (flats_from c.args.at flats)) first in
    let p = err_from_is_err_and c.from_residual-in_err-place-in-Loop.result c.from_residual-in_err-place-in-Loop.ensures.1 in
    rw (p.1, p.2) (hand_on c.in_err-place-in-Loop.field-0.0 (behind_end label rest) whole (λ n. to_first ∙ loop_fails s locals labels (map text_of c.enter.new.self.open.items) c.args.depth label c.in-Opens.kind (flats_from c.args.at flats) (instrs_view c.in_ok-body.body.items) rest entered c.in_ok-body.ensures.value n) c.in_err-place-in-Loop.ensures.value)

pub instr_of-returns-in_err-else_of-in-If-clause-value : goal.instr_of-returns-in_err-else_of-in-If-clause-value
instr_of-returns-in_err-else_of-in-If-clause-value g t c =
    let s = spaces_of c.args.scope.now.spaces.now in
    let locals = map text_of c.args.scope.now.locals.now.names.items in
    let labels = map text_of c.args.labels.now.open.items in
    let flats = c.args.flats.now in
    let label = text_of c.in-Opens.label in
    let told : c.args.first.now ≡ flat.Opens c.in-Opens.opener c.in-Opens.label c.in-Opens.kind = c.in-Opens.is in
    let kind_is : c.in-Opens.opener ≡ opener.If = c.in-If.is in
    let first : flat_of c.args.first.now ≡ N.Opens N.If label c.in-Opens.kind = ap flat_of told ∙ ap (λ o. N.Opens (opener_of o) label c.in-Opens.kind) kind_is in
    let entered : map text_of c.enter.new.self.open.items ≡ label ∷ labels = ap (map text_of) c.in_ok-enter.ensures.entered in
    let rest = flats_from c.in_ok-body.place flats in
    let whole = one_at s locals c.args.depth labels (flat_of c.args.first.now) (flats_from c.args.at flats) in
    let to_first = ap (λ f. one_at s locals c.args.depth labels f (flats_from c.args.at flats)) first in
    let p = err_from_is_err_and c.from_residual-in_err-else_of-in-If.result c.from_residual-in_err-else_of-in-If.ensures.1 in
    rw (p.1, p.2) (hand_on c.in_err-else_of-in-If.field-0.0 (behind_else label rest) whole (λ n. to_first ∙ else_fails s locals labels (map text_of c.enter.new.self.open.items) c.args.depth label c.in-Opens.kind (flats_from c.args.at flats) (instrs_view c.in_ok-body.body.items) rest entered c.in_ok-body.ensures.value n) c.in_err-else_of-in-If.ensures.value)

pub instr_of-returns-in_err-place-in-None-clause-value : goal.instr_of-returns-in_err-place-in-None-clause-value
instr_of-returns-in_err-place-in-None-clause-value g t c =
    let s = spaces_of c.args.scope.now.spaces.now in
    let locals = map text_of c.args.scope.now.locals.now.names.items in
    let labels = map text_of c.args.labels.now.open.items in
    let flats = c.args.flats.now in
    let label = text_of c.in-Opens.label in
    let told : c.args.first.now ≡ flat.Opens c.in-Opens.opener c.in-Opens.label c.in-Opens.kind = c.in-Opens.is in
    let kind_is : c.in-Opens.opener ≡ opener.If = c.in-If.is in
    let first : flat_of c.args.first.now ≡ N.Opens N.If label c.in-Opens.kind = ap flat_of told ∙ ap (λ o. N.Opens (opener_of o) label c.in-Opens.kind) kind_is in
    let entered : map text_of c.enter.new.self.open.items ≡ label ∷ labels = ap (map text_of) c.in_ok-enter.ensures.entered in
    let rest = flats_from c.in_ok-body.place flats in
    let whole = one_at s locals c.args.depth labels (flat_of c.args.first.now) (flats_from c.args.at flats) in
    let to_first = ap (λ f. one_at s locals c.args.depth labels f (flats_from c.args.at flats)) first in
    let choice = c.in_ok-else_of-in-If in
    let there : behind_else label rest ≡ Some None = choice.ensures.value ∙ ap (λ o. Some (option_map (λ n. flats_from n flats) o)) c.in-None.is in
    let p = err_from_is_err_and c.from_residual-in_err-place-in-None.result c.from_residual-in_err-place-in-None.ensures.1 in
    rw (p.1, p.2) (hand_on c.in_err-place-in-None.field-0.0 (behind_end label rest) whole (λ n. to_first ∙ then_fails s locals labels (map text_of c.enter.new.self.open.items) c.args.depth label c.in-Opens.kind (flats_from c.args.at flats) (instrs_view c.in_ok-body.body.items) rest entered c.in_ok-body.ensures.value there n) c.in_err-place-in-None.ensures.value)

pub instr_of-returns-in_err-else_body-in-Some-clause-value : goal.instr_of-returns-in_err-else_body-in-Some-clause-value
instr_of-returns-in_err-else_body-in-Some-clause-value g t c =
    let s = spaces_of c.args.scope.now.spaces.now in
    let locals = map text_of c.args.scope.now.locals.now.names.items in
    let labels = map text_of c.args.labels.now.open.items in
    let flats = c.args.flats.now in
    let label = text_of c.in-Opens.label in
    let told : c.args.first.now ≡ flat.Opens c.in-Opens.opener c.in-Opens.label c.in-Opens.kind = c.in-Opens.is in
    let kind_is : c.in-Opens.opener ≡ opener.If = c.in-If.is in
    let first : flat_of c.args.first.now ≡ N.Opens N.If label c.in-Opens.kind = ap flat_of told ∙ ap (λ o. N.Opens (opener_of o) label c.in-Opens.kind) kind_is in
    let entered : map text_of c.enter.new.self.open.items ≡ label ∷ labels = ap (map text_of) c.in_ok-enter.ensures.entered in
    let rest = flats_from c.in_ok-body.place flats in
    let whole = one_at s locals c.args.depth labels (flat_of c.args.first.now) (flats_from c.args.at flats) in
    let to_first = ap (λ f. one_at s locals c.args.depth labels f (flats_from c.args.at flats)) first in
    let choice = c.in_ok-else_of-in-If in
    let es = flats_from c.in-Some.others flats in
    let there : behind_else label rest ≡ Some (Some es) = choice.ensures.value ∙ ap (λ o. Some (option_map (λ n. flats_from n flats) o)) c.in-Some.is in
    let again : map text_of c.body_of.new.labels.open.items ≡ label ∷ labels = ap (map text_of) c.in_ok-body.ensures.labels ∙ entered in
    let p = err_from_is_err_and c.from_residual-in_err-else_body-in-Some.result c.from_residual-in_err-else_body-in-Some.ensures.1 in
    rw (p.1, p.2) (hand_on c.in_err-else_body-in-Some.field-0.0 (body_at s locals c.args.depth (map text_of c.body_of.new.labels.open.items) es) whole (λ n. to_first ∙ others_fail s locals labels (map text_of c.enter.new.self.open.items) c.args.depth label c.in-Opens.kind (flats_from c.args.at flats) (instrs_view c.in_ok-body.body.items) rest entered c.in_ok-body.ensures.value es there (map text_of c.body_of.new.labels.open.items) again n) c.in_err-else_body-in-Some.ensures.value)

pub instr_of-returns-in_err-place-in-Some-clause-value : goal.instr_of-returns-in_err-place-in-Some-clause-value
instr_of-returns-in_err-place-in-Some-clause-value g t c =
    let s = spaces_of c.args.scope.now.spaces.now in
    let locals = map text_of c.args.scope.now.locals.now.names.items in
    let labels = map text_of c.args.labels.now.open.items in
    let flats = c.args.flats.now in
    let label = text_of c.in-Opens.label in
    let told : c.args.first.now ≡ flat.Opens c.in-Opens.opener c.in-Opens.label c.in-Opens.kind = c.in-Opens.is in
    let kind_is : c.in-Opens.opener ≡ opener.If = c.in-If.is in
    let first : flat_of c.args.first.now ≡ N.Opens N.If label c.in-Opens.kind = ap flat_of told ∙ ap (λ o. N.Opens (opener_of o) label c.in-Opens.kind) kind_is in
    let entered : map text_of c.enter.new.self.open.items ≡ label ∷ labels = ap (map text_of) c.in_ok-enter.ensures.entered in
    let rest = flats_from c.in_ok-body.place flats in
    let whole = one_at s locals c.args.depth labels (flat_of c.args.first.now) (flats_from c.args.at flats) in
    let to_first = ap (λ f. one_at s locals c.args.depth labels f (flats_from c.args.at flats)) first in
    let choice = c.in_ok-else_of-in-If in
    let es = flats_from c.in-Some.others flats in
    let there : behind_else label rest ≡ Some (Some es) = choice.ensures.value ∙ ap (λ o. Some (option_map (λ n. flats_from n flats) o)) c.in-Some.is in
    let again : map text_of c.body_of.new.labels.open.items ≡ label ∷ labels = ap (map text_of) c.in_ok-body.ensures.labels ∙ entered in
    let p = err_from_is_err_and c.from_residual-in_err-place-in-Some.result c.from_residual-in_err-place-in-Some.ensures.1 in
    rw (p.1, p.2) (hand_on c.in_err-place-in-Some.field-0.0 (behind_end label (flats_from c.in_ok-else_body-in-Some.place flats)) whole (λ n. to_first ∙ others_end_not s locals labels (map text_of c.enter.new.self.open.items) c.args.depth label c.in-Opens.kind (flats_from c.args.at flats) (instrs_view c.in_ok-body.body.items) rest entered c.in_ok-body.ensures.value es there (map text_of c.body_of.new.labels.open.items) again (instrs_view c.in_ok-else_body-in-Some.else_body.items) (flats_from c.in_ok-else_body-in-Some.place flats) c.in_ok-else_body-in-Some.ensures.value n) c.in_err-place-in-Some.ensures.value)

pub instr_of-returns-in_ok-clone-in-None-clause-value : goal.instr_of-returns-in_ok-clone-in-None-clause-value
instr_of-returns-in_ok-clone-in-None-clause-value g t c =
    let s = spaces_of c.args.scope.now.spaces.now in
    let locals = map text_of c.args.scope.now.locals.now.names.items in
    let labels = map text_of c.args.labels.now.open.items in
    let flats = c.args.flats.now in
    let label = text_of c.in-Opens.label in
    let told : c.args.first.now ≡ flat.Opens c.in-Opens.opener c.in-Opens.label c.in-Opens.kind = c.in-Opens.is in
    let kind_is : c.in-Opens.opener ≡ opener.If = c.in-If.is in
    let first : flat_of c.args.first.now ≡ N.Opens N.If label c.in-Opens.kind = ap flat_of told ∙ ap (λ o. N.Opens (opener_of o) label c.in-Opens.kind) kind_is in
    let entered : map text_of c.enter.new.self.open.items ≡ label ∷ labels = ap (map text_of) c.in_ok-enter.ensures.entered in
    let rest = flats_from c.in_ok-body.place flats in
    let whole = one_at s locals c.args.depth labels (flat_of c.args.first.now) (flats_from c.args.at flats) in
    let to_first = ap (λ f. one_at s locals c.args.depth labels f (flats_from c.args.at flats)) first in
    let choice = c.in_ok-else_of-in-If in
    let there : behind_else label rest ≡ Some None = choice.ensures.value ∙ ap (λ o. Some (option_map (λ n. flats_from n flats) o)) c.in-None.is in
    let nothing : S.nothing ≡ instrs_view c.new-none.result.items = sym (ap instrs_view c.new-none.ensures.items) in
    view_of_If c.args.ordinal c.in-Opens.kind c.in_ok-body.body c.new-none.result whole (flats_from c.in_ok-place-in-None.place flats)
    (to_first ∙ then_is s locals labels (map text_of c.enter.new.self.open.items) c.args.depth label c.in-Opens.kind (flats_from c.args.at flats) (instrs_view c.in_ok-body.body.items) rest entered c.in_ok-body.ensures.value (flats_from c.in_ok-place-in-None.place flats) there c.in_ok-place-in-None.ensures.value ∙ ap (λ is. Some (S.If c.in-Opens.kind (instrs_view c.in_ok-body.body.items) is, flats_from c.in_ok-place-in-None.place flats)) nothing)

pub instr_of-returns-in_ok-place-in-Some-clause-value : goal.instr_of-returns-in_ok-place-in-Some-clause-value
instr_of-returns-in_ok-place-in-Some-clause-value g t c =
    let s = spaces_of c.args.scope.now.spaces.now in
    let locals = map text_of c.args.scope.now.locals.now.names.items in
    let labels = map text_of c.args.labels.now.open.items in
    let flats = c.args.flats.now in
    let label = text_of c.in-Opens.label in
    let told : c.args.first.now ≡ flat.Opens c.in-Opens.opener c.in-Opens.label c.in-Opens.kind = c.in-Opens.is in
    let kind_is : c.in-Opens.opener ≡ opener.If = c.in-If.is in
    let first : flat_of c.args.first.now ≡ N.Opens N.If label c.in-Opens.kind = ap flat_of told ∙ ap (λ o. N.Opens (opener_of o) label c.in-Opens.kind) kind_is in
    let entered : map text_of c.enter.new.self.open.items ≡ label ∷ labels = ap (map text_of) c.in_ok-enter.ensures.entered in
    let rest = flats_from c.in_ok-body.place flats in
    let whole = one_at s locals c.args.depth labels (flat_of c.args.first.now) (flats_from c.args.at flats) in
    let to_first = ap (λ f. one_at s locals c.args.depth labels f (flats_from c.args.at flats)) first in
    let choice = c.in_ok-else_of-in-If in
    let es = flats_from c.in-Some.others flats in
    let there : behind_else label rest ≡ Some (Some es) = choice.ensures.value ∙ ap (λ o. Some (option_map (λ n. flats_from n flats) o)) c.in-Some.is in
    let again : map text_of c.body_of.new.labels.open.items ≡ label ∷ labels = ap (map text_of) c.in_ok-body.ensures.labels ∙ entered in
    let d = c.in_ok-else_body-in-Some in
    view_of_If c.args.ordinal c.in-Opens.kind c.in_ok-body.body d.else_body whole (flats_from c.in_ok-place-in-Some.place flats)
    (to_first ∙ others_are s locals labels (map text_of c.enter.new.self.open.items) c.args.depth label c.in-Opens.kind (flats_from c.args.at flats) (instrs_view c.in_ok-body.body.items) rest entered c.in_ok-body.ensures.value es there (map text_of c.body_of.new.labels.open.items) again (instrs_view d.else_body.items) (flats_from d.place flats) (flats_from c.in_ok-place-in-Some.place flats) d.ensures.value c.in_ok-place-in-Some.ensures.value)

pub instr_of-returns-then-depth-eq0-clause-value : goal.instr_of-returns-then-depth-eq0-clause-value
instr_of-returns-then-depth-eq0-clause-value g t c =
    let s = spaces_of c.args.scope.now.spaces.now in
    let locals = map text_of c.args.scope.now.locals.now.names.items in
    let labels = map text_of c.args.labels.now.open.items in
    let flats = c.args.flats.now in
    let label = text_of c.in-Opens.label in
    let told : c.args.first.now ≡ flat.Opens c.in-Opens.opener c.in-Opens.label c.in-Opens.kind = c.in-Opens.is in
    let first : flat_of c.args.first.now ≡ N.Opens (opener_of c.in-Opens.opener) label c.in-Opens.kind = ap flat_of told in
    ap (λ f. one_at s locals c.args.depth labels f (flats_from c.args.at flats)) first ∙ too_deep s locals labels c.args.depth (opener_of c.in-Opens.opener) label c.in-Opens.kind (flats_from c.args.at flats) c.if-depth-eq0.true

pub instr_of-returns-in_ok-place-in-Block-clause-numbered : goal.instr_of-returns-in_ok-place-in-Block-clause-numbered
instr_of-returns-in_ok-place-in-Block-clause-numbered g t c =
    numbered_Block c.args.ordinal c.in_ok-body.next c.in-Opens.kind c.in_ok-body.body c.in_ok-body.ensures.numbered

pub instr_of-returns-in_ok-place-in-Loop-clause-numbered : goal.instr_of-returns-in_ok-place-in-Loop-clause-numbered
instr_of-returns-in_ok-place-in-Loop-clause-numbered g t c =
    numbered_Loop c.args.ordinal c.in_ok-body.next c.in-Opens.kind c.in_ok-body.body c.in_ok-body.ensures.numbered

pub instr_of-returns-in_ok-clone-in-None-clause-numbered : goal.instr_of-returns-in_ok-clone-in-None-clause-numbered
instr_of-returns-in_ok-clone-in-None-clause-numbered g t c =
    let b = c.in_ok-body in
    numbered_If c.args.ordinal b.next b.next c.in-Opens.kind b.body c.new-none.result b.ensures.numbered
    (numbered_none b.next (ordinals c.new-none.result.items) (ap ordinals c.new-none.ensures.items))

pub instr_of-returns-in_ok-clone-in-None-clause-fits : goal.instr_of-returns-in_ok-clone-in-None-clause-fits
instr_of-returns-in_ok-clone-in-None-clause-fits g t c =
    fits_If c.args.ordinal c.in-Opens.kind c.in_ok-body.body c.new-none.result c.in_ok-body.ensures.fits (ap (λ l. instrs_fit (instrs_view l)) c.new-none.ensures.items)

pub instr_of-returns-in_ok-place-in-Some-clause-numbered : goal.instr_of-returns-in_ok-place-in-Some-clause-numbered
instr_of-returns-in_ok-place-in-Some-clause-numbered g t c =
    let b = c.in_ok-body in
    let d = c.in_ok-else_body-in-Some in
    numbered_If c.args.ordinal b.next d.next c.in-Opens.kind b.body d.else_body b.ensures.numbered d.ensures.numbered

pub instr_of-returns-in_ok-place-in-Some-clause-fits : goal.instr_of-returns-in_ok-place-in-Some-clause-fits
instr_of-returns-in_ok-place-in-Some-clause-fits g t c =
    fits_If c.args.ordinal c.in-Opens.kind c.in_ok-body.body c.in_ok-else_body-in-Some.else_body c.in_ok-body.ensures.fits c.in_ok-else_body-in-Some.ensures.fits
