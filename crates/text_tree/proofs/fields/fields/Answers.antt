use Rattle.std.proofs.Common.{◌≡◌, true, false, List, [], ◌∷◌, length, map, suc, arith, Some, None, refl, sym, ap, ◌∙◌, subst}
use Rattle.std.specs.Prelude.{◌==◌}
use Rattle.std.proofs.lemmas.Bool.{eqb-true}
use Rattle.std.proofs.lemmas.List.{map_push}
use Rattle.std.proofs.lemmas.Result.{err_from_is_err_and}
use Rattle.spec_text.specs.Words as W
use Rattle.spec_text.specs.FieldsOfPlaces as N
use Rattle.lexer.specs.declared.word.Word.{Word}
use Rattle.lexer.specs.WordsViews.{view, views}
use Rattle.text_body.proofs.Repeats.{hand_on}
use Rattle.text_tree.specs.Places.{field_of}
use Rattle.text_tree.proofs.Halves.{Halves, halves_start, halves_end, halves_fault, halves_behind, halves_late, halves_refused, halves_more, halves_same}
use Rattle.text_tree.proofs.fields.fields.Goals as goal

false_true : false ≡ true → ⊥
false_true e = cc

no_length : {X : Type 0} (xs : List X) → suc (length xs) ≡ 0 → ⊥
no_length xs e = omega (arith, e)

ended : (raw : List Word) → (length raw == 0) ≡ true → views raw ≡ []
ended [] e = refl
ended (w ∷ ws) e = absurd (no_length ws (eqb-true (length (w ∷ ws)) 0 e))

-- the first of words that are left
record Begins (raw : List Word) : Type 0 where
  first : W.Word
  others : List W.Word
  is : views raw ≡ first ∷ others

left_over : (raw : List Word) → (length raw == 0) ≡ false → Begins raw
left_over [] e = absurd (false_true (sym e))
left_over (w ∷ ws) e = record { first = view w; others = views ws; is = refl }

pub loop-found-init : goal.loop-found-init
loop-found-init g c =
    let words = views c.args.rest.now.now in
    subst (λ (fs : List N.Field). Halves words words false false fs) (sym (ap (map field_of) c.new-found.ensures.items)) (halves_start words)

pub returns-in_err-key-clause-refused : goal.returns-in_err-key-clause-refused
returns-in_err-key-clause-refused g c =
    let l = c.loop-found in
    let p = err_from_is_err_and c.from_residual-in_err-key.result c.from_residual-in_err-key.ensures.1 in
    rw (p.1, p.2) (hand_on c.in_err-key.field-0.0 (halves_fault (views c.args.rest.now.now) (views l.rest.now) l.before.defined l.before.started (map field_of l.found.items) l.invariant) c.in_err-key.ensures.value)

pub returns-then-is_late-clause-refused : goal.returns-then-is_late-clause-refused
returns-then-is_late-clause-refused g c =
    let l = c.loop-found in
    let mid = views c.next_key.new.rest.now in
    halves_late (views c.args.rest.now.now) (views l.rest.now) l.before.defined l.before.started (map field_of l.found.items) l.invariant c.in-Some.key mid
    (c.in_ok-key.ensures.value ∙ ap (λ o. Some (o, mid)) c.in-Some.is) (sym c.is_late.ensures ∙ c.if-is_late.true)

pub returns-in_err-next-clause-refused : goal.returns-in_err-next-clause-refused
returns-in_err-next-clause-refused g c =
    let l = c.loop-found in
    let mid = views c.next_key.new.rest.now in
    let p = err_from_is_err_and c.from_residual-in_err-next.result c.from_residual-in_err-next.ensures.1 in
    rw (p.1, p.2) (hand_on c.in_err-next.field-0.0 (halves_refused (views c.args.rest.now.now) (views l.rest.now) l.before.defined l.before.started (map field_of l.found.items) l.invariant c.in-Some.key mid
    (c.in_ok-key.ensures.value ∙ ap (λ o. Some (o, mid)) c.in-Some.is)) c.in_err-next.ensures.refused)

pub loop-found-preserved : goal.loop-found-preserved
loop-found-preserved g c =
    let l = c.loop-found in
    let words = views c.args.rest.now.now in
    let mid = views c.next_key.new.rest.now in
    let after = views c.field.new.rest.now in
    let out = map field_of l.found.items in
    let next = field_of c.in_ok-next.next in
    let more = halves_more words (views l.rest.now) l.before.defined l.before.started out l.invariant c.in-Some.key mid
    (c.in_ok-key.ensures.value ∙ ap (λ o. Some (o, mid)) c.in-Some.is) after next c.in_ok-next.ensures.grammar (sym c.is_late.ensures ∙ c.if-is_late.false) in
    halves_same c.behind-before.ensures.defined c.behind-before.ensures.started (ap (map field_of) c.in_ok-push.ensures.items ∙ map_push field_of l.found.items c.in_ok-next.next) more

pub returns-then-not-is_empty-clause-refused : goal.returns-then-not-is_empty-clause-refused
returns-then-not-is_empty-clause-refused g c =
    let l = c.loop-found in
    let raw = c.next_key.new.rest.now in
    let b = left_over raw (sym c.is_empty.ensures ∙ c.if-not-is_empty.true) in
    halves_behind (views c.args.rest.now.now) (views l.rest.now) l.before.defined l.before.started (map field_of l.found.items) l.invariant b.first b.others
    (c.in_ok-key.ensures.value ∙ ap (λ o. Some (o, views raw)) c.in_default.is ∙ ap (λ (ws : List W.Word). Some (None, ws)) b.is)

pub returns-clause-grammar : goal.returns-clause-grammar
returns-clause-grammar g c =
    let l = c.loop-found in
    let raw = c.next_key.new.rest.now in
    let e = ended raw (sym c.is_empty.ensures ∙ c.if-not-is_empty.false) in
    halves_end (views c.args.rest.now.now) (views l.rest.now) l.before.defined l.before.started (map field_of l.found.items) l.invariant
    (c.in_ok-key.ensures.value ∙ ap (λ o. Some (o, views raw)) c.in_default.is ∙ ap (λ (ws : List W.Word). Some (None, ws)) e)
