use Rattle.std.proofs.Common.{◌≡◌, ℕ, ◌<◌, List, Some, option_map, slice_get, get_or, length, refl, sym, ap, subst, ◌∙◌, arith}
use Rattle.std.specs.BTreeMap.{get}
use Rattle.std.proofs.lemmas.List.{length-map}
use Rattle.std.proofs.lemmas.List.Elements.{All-from_recursion, recursion_from_All}
use Rattle.std.proofs.lemmas.Option.{slice_get-map, slice_get_read, slice_get_within}
use Rattle.spec_ledger.specs.declared.Entry.{Entry}
use Rattle.spec_ledger.specs.Cells.{lock_cmp}
use Rattle.lock_profile.specs.Groups.{turn_next}
use Rattle.lock_profile.specs.Turns.{IsProfile}
use Rattle.spec_block.specs.Worlds.{Position, profiles_in}
use Rattle.block_judge.proofs.Profiles.{turns_here, follow_here, groups_here, turns_more}
use Rattle.block_judge.proofs.turns.first_other.Goals as goal

listed : (positions : List Position) (i : ℕ) (position : Position) (es : List Entry) → i < length positions → position ≡ get_or positions i position → es ≡ position.profile → slice_get (profiles_in positions) i ≡ Some es
listed positions i position es below at is =
    slice_get-map (λ (x : Position). x.profile) positions i
    ∙ ap (option_map (λ (x : Position). x.profile)) (slice_get_read positions (length positions) i position refl below at)
    ∙ ap Some (sym is)

pub returns-then-not-branch-clause-other : goal.returns-then-not-branch-clause-other
returns-then-not-branch-clause-other g c =
    let last = get lock_cmp c.loop-at.groups in
    let es = c.entries.result.now in
    let there = listed c.args.positions.now c.loop-at.at c.index-positions-at.result es c.loop-at-test.true c.index-positions-at.is (c.entries.ensures ∙ c.profile-profile.ensures) in
    let rises : IsProfile es = subst IsProfile (sym c.entries.ensures) c.use_invariant.ensures in
    record {
      holds = (
        es,
        there,
        λ has.
            let follow = follow_here (profiles_in c.args.positions.now) c.loop-at.at es there rises last c.loop-at.invariant.groups has in
            let yes = c.in_ok-have_turns.ensures.turns.1 (All-from_recursion (λ (e : Entry). e.turn ≡ turn_next (last e.lock) e.mode) es follow) in
            let not = c.if-not-branch.true in
            cc (yes, not),
      );
      none_before = λ m lt other. other.2 (c.loop-at.invariant.turns m other.0 lt other.1);
    }

pub loop-at-preserved : goal.loop-at-preserved
loop-at-preserved g c =
    let last = get lock_cmp c.loop-at.groups in
    let ps = profiles_in c.args.positions.now in
    let es = c.entries.result.now in
    let there = listed c.args.positions.now c.loop-at.at c.index-positions-at.result es c.loop-at-test.true c.index-positions-at.is (c.entries.ensures ∙ c.profile-profile.ensures) in
    let rises : IsProfile es = subst IsProfile (sym c.entries.ensures) c.use_invariant.ensures in
    let follow = recursion_from_All (λ (e : Entry). e.turn ≡ turn_next (last e.lock) e.mode) es (c.in_ok-have_turns.ensures.turns.0 c.if-not-branch.false) in
    record {
      turns = turns_more ps c.loop-at.at es there c.loop-at.invariant.turns (turns_here ps c.loop-at.at es there rises last c.loop-at.invariant.groups follow);
      groups = λ q. groups_here ps c.loop-at.at es there rises last c.loop-at.invariant.groups follow q (get lock_cmp c.have_turns.new.groups q) (c.in_ok-have_turns.ensures.groups c.if-not-branch.false q);
    }

pub returns-clause-same : goal.returns-clause-same
returns-clause-same g c = λ m p there.
    let lists = length-map c.args.positions.now (λ (x : Position). x.profile) in
    let within = slice_get_within (profiles_in c.args.positions.now) m p there in
    c.loop-at.invariant.turns m p (omega (arith, within, lists, c.loop-at-test.false)) there
