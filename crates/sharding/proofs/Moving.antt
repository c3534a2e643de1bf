-- The places of shards, moved on past the entries of a journal.
use Rattle.std.proofs.Common.{◌≡◌, ℕ, ◌+◌, ◌<◌, ◌≤◌, List, [], ◌∷◌, length, drop, get_or, set, replicate, refl, sym, ◌∙◌, ap, subst, arith}
use Rattle.std.specs.Prelude.{◌↔◌}
use Rattle.std.proofs.lemmas.List.{drop_all, get_or-replicate, get_or-set_same, get_or-set_other, length-replicate}
use Rattle.std.proofs.lemmas.Option.{get_or_from_slice_get, slice_get_read}
use Rattle.spec_ledger.specs.declared.Lock.{Lock}
use Rattle.spec_ledger.specs.Cells.{Cells}
use Rattle.spec_ledger.specs.Modes.{ops_of}
use Rattle.spec_ledger.specs.Book.{CommittedCall}
use Rattle.spec_ledger.specs.Shards.{AreCellsOf, part, with_trace, entries_in, shard_of}
use Rattle.sharding.specs.Parts.{Part, IsPartOf, AreParts}
use Rattle.sharding.specs.Places.{IsAt, AreAt}
use Rattle.sharding.proofs.Walks.{same_on, differs, too_short, same_whole, too_long, left_as, entries_here, entries_away}
use Rattle.sharding.proofs.Together.{each_more}

module _ (home : Lock → ℕ) (shard : ℕ) (own journal : List CommittedCall) (place : ℕ) where
  -- one entry of the journal further
  module _ (position : ℕ) (e : CommittedCall) (below : position < length journal) (is : e ≡ get_or journal position e) (at : IsAt home shard own journal place position) where
    pub at_away : [] ≡ ops_of (part home shard e.trace) → IsAt home shard own journal place (position + 1)
    at_away none = record {
      left = left_as own (entries_in home shard journal) place (entries_in home shard (drop position journal)) (entries_in home shard (drop (position + 1) journal))
          (entries_away home shard journal position e below (sym is) none) at.left;
      within = at.within;
    }

    module _ (some : ¬ ([] ≡ ops_of (part home shard e.trace))) where
      abbrev mine : CommittedCall
      mine = with_trace e (part home shard e.trace)

      begins : (own ≡ entries_in home shard journal) ↔ (drop place own ≡ mine ∷ entries_in home shard (drop (position + 1) journal))
      begins = left_as own (entries_in home shard journal) place (entries_in home shard (drop position journal)) (mine ∷ entries_in home shard (drop (position + 1) journal))
          (entries_here home shard journal position e below (sym is) some) at.left

      pub differs_short : length own ≤ place → ¬ (own ≡ entries_in home shard journal)
      differs_short past = too_short own (entries_in home shard journal) place mine (entries_in home shard (drop (position + 1) journal)) begins past

      -- the shard's own entry there
      module _ (o : CommittedCall) (under : place < length own) (there : o ≡ get_or own place o) where
        read : get_or own place mine ≡ o
        read = get_or_from_slice_get own place o mine (slice_get_read own (length own) place o refl under there)

        pub differs_here : ¬ (o ≡ mine) → ¬ (own ≡ entries_in home shard journal)
        differs_here other = differs own (entries_in home shard journal) place mine (entries_in home shard (drop (position + 1) journal)) begins under (λ same. other (sym read ∙ same))

        pub at_here : o ≡ mine → IsAt home shard own journal (place + 1) (position + 1)
        at_here same = record {
          left = same_on own (entries_in home shard journal) place mine (entries_in home shard (drop (position + 1) journal)) begins under (read ∙ same);
          within = omega (arith, under);
        }

  pub at_start : IsAt home shard own journal 0 0
  at_start = record { left = ((λ same. same), (λ same. same)); within = omega arith }

  -- the journal is at its end
  module _ (at : IsAt home shard own journal place (length journal)) where
    ends : (own ≡ entries_in home shard journal) ↔ (drop place own ≡ [])
    ends = left_as own (entries_in home shard journal) place (entries_in home shard (drop (length journal) journal)) []
        (ap (entries_in home shard) (drop_all (length journal) journal (omega arith))) at.left

    pub ended_here : place ≡ length own → own ≡ entries_in home shard journal
    ended_here last = same_whole own (entries_in home shard journal) place ends (omega (arith, last))

    pub ended_before : ¬ (place ≡ length own) → ¬ (own ≡ entries_in home shard journal)
    ended_before more = too_long own (entries_in home shard journal) place ends (let within = at.within in omega (arith, within, more))

module _ (journal : List CommittedCall) (parts : List Part) where
  abbrev pub At : ℕ → Part → ℕ → ℕ → Type 0
  At shard p place position = IsAt (shard_of (length parts)) shard p.entries journal place position

  -- one more shard's place is set
  module _ (places : List ℕ) (position n next : ℕ) where
    pub moved_more : (p : Part) → p ≡ get_or parts n p → n < length parts → length parts ≤ length places
        → ((shard : ℕ) (other : Part) → shard < n → At shard (get_or parts shard other) (get_or places shard 0) (position + 1))
        → At n p next (position + 1)
        → (shard : ℕ) (other : Part) → shard < n + 1 → At shard (get_or parts shard other) (get_or (set places n next) shard 0) (position + 1)
    moved_more p is below size moved here =
        each_more parts n p is below (λ shard q. At shard q (get_or (set places n next) shard 0) (position + 1))
        (subst (λ k. At n p k (position + 1)) (sym (get_or-set_same places n next 0 (omega (arith, size, below)))) here)
        (λ shard other under. subst (λ k. At shard (get_or parts shard other) k (position + 1)) (sym (get_or-set_other places n shard next 0 (λ e. absurd (omega (arith, under, e))))) (moved shard other under))

    pub left_more : ((shard : ℕ) (other : Part) → n ≤ shard → shard < length parts → At shard (get_or parts shard other) (get_or places shard 0) position)
        → (shard : ℕ) (other : Part) → n + 1 ≤ shard → shard < length parts → At shard (get_or parts shard other) (get_or (set places n next) shard 0) position
    left_more left shard other past under =
        subst (λ k. At shard (get_or parts shard other) k position) (sym (get_or-set_other places n shard next 0 (λ e. absurd (omega (arith, past, e))))) (left shard other (omega (arith, past)) under)

  pub all_at_start : length parts ≤ 16 → AreAt journal parts (replicate 16 0) 0
  all_at_start few = record {
    size = (let e = length-replicate {A = ℕ} 16 0 in omega (arith, few, e));
    each = λ shard other below. subst (λ k. At shard (get_or parts shard other) k 0) (sym (get_or-replicate 16 shard 0 0 (omega (arith, below, few))))
        (at_start (shard_of (length parts)) shard (get_or parts shard other).entries journal 0);
  }

  -- a shard where the journal is at its end
  module _ (opening : Cells) (places : List ℕ) (at : AreAt journal parts places (length journal)) (n : ℕ) (p : Part) (is : p ≡ get_or parts n p) (below : n < length parts) where
    at_end : At n p (get_or places n 0) (length journal)
    at_end = subst (λ q. At n q (get_or places n 0) (length journal)) (sym is) (at.each n p below)

    its_part : AreParts opening journal parts → IsPartOf (shard_of (length parts)) opening journal n p
    its_part are = subst (λ q. IsPartOf (shard_of (length parts)) opening journal n q) (sym is) (are n p below)

    pub not_ended : ¬ (get_or places n 0 ≡ length p.entries) → ¬ (AreParts opening journal parts)
    not_ended more are = ended_before (shard_of (length parts)) n p.entries journal (get_or places n 0) at_end more (its_part are).entries

    pub not_cells : ¬ (AreCellsOf (shard_of (length parts)) n opening p.opening) → ¬ (AreParts opening journal parts)
    not_cells other are = other (its_part are).cells

    pub is_part : get_or places n 0 ≡ length p.entries → AreCellsOf (shard_of (length parts)) n opening p.opening → IsPartOf (shard_of (length parts)) opening journal n p
    is_part last cells = record { cells = cells; entries = ended_here (shard_of (length parts)) n p.entries journal (get_or places n 0) at_end last }
