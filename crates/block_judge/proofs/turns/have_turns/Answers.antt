use Rattle.std.proofs.Common.{◌≡◌, ℕ, ◌+◌, ◌<◌, List, Option, All, length, take, get_or, sym, ap, subst, ◌∙◌, below_more}
use Rattle.std.proofs.lemmas.List.{get_or_default}
use Rattle.std.specs.BTreeMap.{get}
use Rattle.spec_ledger.specs.declared.Lock.{Lock}
use Rattle.spec_ledger.specs.declared.Entry.{Entry}
use Rattle.spec_ledger.specs.Cells.{lock_cmp}
use Rattle.lock_profile.specs.declared.Group.{Group}
use Rattle.lock_profile.specs.Groups.{turn_next}
use Rattle.block_judge.specs.Latest.{latest}
use Rattle.lock_profile.specs.Turns.{IsProfile}
use Rattle.block_judge.proofs.Latest.{groups_more}
use Rattle.block_judge.proofs.Profiles.{not_among}
use Rattle.block_judge.proofs.turns.have_turns.Goals as goal

module _ (start found : Lock → Option Group) (es : List Entry) (i : ℕ) (d : Entry) (last : Option Group) (is : IsProfile es) (below : i < length es)
    (groups : (q : Lock) → found q ≡ latest q (take i es) (start q)) (at : last ≡ found (get_or es i d).lock) where
  -- the last group of the entry's lock is still the one that was there at first
  same_last : last ≡ start (get_or es i d).lock
  same_last = at ∙ groups (get_or es i d).lock ∙ not_among es i d (start (get_or es i d).lock) is below

  other_turn : (X : Type 0) → ((get_or es i d).turn ≡ turn_next last (get_or es i d).mode → X) → All (λ (e : Entry). e.turn ≡ turn_next (start e.lock) e.mode) es → X
  other_turn X never all = never (all i d below ∙ ap (λ g. turn_next g (get_or es i d).mode) (sym same_last))

  turns_more : (get_or es i d).turn ≡ turn_next last (get_or es i d).mode
      → ((k : ℕ) (x : Entry) → k < i → (get_or es k x).turn ≡ turn_next (start (get_or es k x).lock) (get_or es k x).mode)
      → (k : ℕ) (x : Entry) → k < i + 1 → (get_or es k x).turn ≡ turn_next (start (get_or es k x).lock) (get_or es k x).mode
  turns_more here before k x lt =
      below_more (λ m. (get_or es m x).turn ≡ turn_next (start (get_or es m x).lock) (get_or es m x).mode) i
      (λ m less. before m x less)
      (subst (λ (e : Entry). e.turn ≡ turn_next (start e.lock) e.mode) (get_or_default es i d x below) (here ∙ ap (λ g. turn_next g (get_or es i d).mode) same_last))
      k lt

pub returns-then-not-follows-clause-turns : goal.returns-then-not-follows-clause-turns
returns-then-not-follows-clause-turns g c = (
  λ no. absurd (cc no),
  other_turn (get lock_cmp c.args.groups.now) (get lock_cmp c.loop-entry.groups) c.args.entries.now c.loop-entry.entry-index _ c.in_ok-last.last
      c.requires c.loop-entry-test.true c.loop-entry.invariant.groups c.in_ok-last.ensures.last _ c.if-not-follows.ensures.1,
)

pub loop-entry-preserved : goal.loop-entry-preserved
loop-entry-preserved g c = record {
  turns = turns_more (get lock_cmp c.args.groups.now) (get lock_cmp c.loop-entry.groups) c.args.entries.now c.loop-entry.entry-index _ c.in_ok-last.last
      c.requires c.loop-entry-test.true c.loop-entry.invariant.groups c.in_ok-last.ensures.last (c.follows.ensures.0 c.if-not-follows.false) c.loop-entry.invariant.turns;
  groups = λ q. groups_more c.args.entries.now c.loop-entry.entry-index _ q (get lock_cmp c.args.groups.now q) (get lock_cmp c.loop-entry.groups q) _ c.loop-entry-test.true
      (c.loop-entry.invariant.groups q) (c.in_ok-last.ensures.groups q);
}
