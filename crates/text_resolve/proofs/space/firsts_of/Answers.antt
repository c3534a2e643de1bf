use Rattle.std.proofs.Common.{◌≡◌, ◌<◌, ◌∙◌, map, take, length, get_or, Some, None, true, false, cond, ap, sym, subst, arith, rules}
use Rattle.std.specs.Prelude.{is_some}
use Rattle.std.specs.Str.{bytes_eq}
use Rattle.spec_text.specs.Spaces.{AreDistinct, no_names}
use Rattle.text_body.specs.Views.{text_of}
use Rattle.text_resolve.specs.Lookup.{find}
use Rattle.text_resolve.specs.Firsts.{first_of}
use Rattle.text_resolve.proofs.Lookups.{one_more, next_name, taken_length, find_unnamed, find_put, repeated, distinct_unnamed, distinct_put}
use Rattle.text_resolve.proofs.space.firsts_of.Goals.{in-Some+else-is_taken+in_ok-put_first, in_default}
use Rattle.text_resolve.proofs.space.firsts_of.Goals as goal

pub loop-name-init : goal.loop-name-init
loop-name-init g c = (search rules, λ id. search rules, no_names)

pub returns-then-is_taken-clause-refused : goal.returns-then-is_taken-clause-refused
returns-then-is_taken-clause-refused g c =
    let l = c.loop-name in
    let names = c.args.names.now.items in
    let at : get_or names l.name-index None ≡ Some c.in-Some.piece = search rules in
    let lt : l.name-index < length names = omega arith in
    let id = c.in-Some.piece.text.now in
    let m = next_name text_of names l.name-index None (Some c.in-Some.piece) lt at in
    let there : is_some (find id (map text_of (take l.name-index names))) ≡ true = ap is_some (sym (l.invariant.1 id)) ∙ sym c.if-is_taken.ensures in
    λ d. repeated id (map text_of (take l.name-index names)) m.0 there (subst AreDistinct m.1 d)

pub loop-name-preserved : goal.loop-name-preserved
loop-name-preserved g c =
    let l = c.loop-name in
    let names = c.args.names.now.items in
    let lt : l.name-index < length names = omega arith in
    let before = map text_of (take l.name-index names) in
    elim c.match-name.branch [
      | in-Some+else-is_taken+in_ok-put_first w ↦
          let at : get_or names l.name-index None ≡ Some w.in-Some.piece = search rules in
          let id = w.in-Some.piece.text.now in
          let more = one_more text_of names l.name-index None (Some w.in-Some.piece) lt at in
          let new : is_some (find id before) ≡ false = ap is_some (sym (l.invariant.1 id)) ∙ sym w.if-is_taken.ensures in
          let len : l.next ≡ length before = l.invariant.0 ∙ sym (taken_length text_of names l.name-index (omega arith)) in (
            omega arith,
            λ q. ap (λ f. first_of f q) w.firsts-is ∙ w.in_ok-put_first.ensures.put q ∙ ap (λ o. cond (bytes_eq id q) (Some l.next) o) (l.invariant.1 q)
                ∙ sym (find_put id before l.next len new q) ∙ ap (find q) (sym more),
            subst AreDistinct (sym more) (distinct_put id before new l.invariant.2),
          )
      | in_default w ↦
          let at : get_or names l.name-index None ≡ None = search rules in
          let more = one_more text_of names l.name-index None None lt at in (
            omega arith,
            λ q. ap (λ f. first_of f q) w.firsts-is ∙ l.invariant.1 q ∙ sym (find_unnamed q before) ∙ ap (find q) (sym more),
            subst AreDistinct (sym more) (distinct_unnamed before l.invariant.2),
          )
    ]
