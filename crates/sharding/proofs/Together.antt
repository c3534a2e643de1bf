-- The parts of a book put together, shard by shard.
use Rattle.std.proofs.Common.{◌≡◌, inl, inr, ℕ, ◌+◌, ◌<◌, ◌≤◌, None, List, [], length, get_or, refl, sym, ◌∙◌, ap, subst, arith}
use Rattle.std.proofs.lemmas.Bool.Decides.{eqb_tells}
use Rattle.std.proofs.lemmas.Option.{get_or_from_slice_get, slice_get_read}
use Rattle.std.specs.FinMap.{get, same_map}
use Rattle.spec_ledger.specs.declared.Lock.{Lock}
use Rattle.spec_ledger.specs.Cells.{Cells}
use Rattle.spec_ledger.specs.Book.{CommittedCall, IsDefined, settled}
use Rattle.spec_ledger.proofs.Maps.{lock_cmp_total, lock_cmp-IsAntisymmetric}
use Rattle.spec_ledger.specs.Shards.{IsHome, AreCellsOf, entries_in, shard_of}
use Rattle.sharding.specs.Parts.{Part, AreParts, AreWhole}

module _ (parts : List Part) (n : ℕ) (p : Part) (is : p ≡ get_or parts n p) (below : n < length parts) where
  there : (shard : ℕ) (other : Part) → shard ≡ n → p ≡ get_or parts shard other
  there shard other at = sym (ap (λ k. get_or parts k other) at ∙ get_or_from_slice_get parts n p other (slice_get_read parts (length parts) n p refl below is))

  -- what holds of one more shard's part
  pub each_more : (P : ℕ → Part → Type 0) → P n p → ((shard : ℕ) (other : Part) → shard < n → P shard (get_or parts shard other)) → (shard : ℕ) (other : Part) → shard < n + 1 → P shard (get_or parts shard other)
  each_more P here before shard other under =
      elim (eqb_tells shard n) [
        | inl at ↦ (let path : ◌≡◌ {A = ℕ × Part} (n, p) (shard, get_or parts shard other) = λ i. (sym at.1 i, there shard other at.1 i) in
            let Q : ℕ × Part → Type 0 = λ (k, q). P k q in
            subst Q path here)
        | inr away ↦ before shard other (omega (arith, under, away.1))
      ]

  module _ (home : Lock → ℕ) (before new : Cells) (own : (lock : Lock) → home lock ≡ n → get new lock ≡ get p.cells lock) (others : (lock : Lock) → ¬ (home lock ≡ n) → get new lock ≡ get before lock) where
    -- the cells of one more shard
    pub own_more : ((lock : Lock) (other : Part) → home lock < n → get before lock ≡ get (get_or parts (home lock) other).cells lock) → (lock : Lock) (other : Part) → home lock < n + 1 → get new lock ≡ get (get_or parts (home lock) other).cells lock
    own_more so_far lock other under =
        elim (eqb_tells (home lock) n) [
          | inl at ↦ own lock at.1 ∙ ap (λ (q : Part). get q.cells lock) (there (home lock) other at.1)
          | inr away ↦ others lock away.1 ∙ so_far lock other (omega (arith, under, away.1))
        ]

    pub free_more : ((lock : Lock) → n ≤ home lock → get before lock ≡ None) → (lock : Lock) → n + 1 ≤ home lock → get new lock ≡ None
    free_more free lock past = others lock (λ at. absurd (omega (arith, past, at))) ∙ free lock (omega (arith, past))

pub has_home : (shards : ℕ) → 1 ≤ shards → IsHome (shard_of shards) shards
has_home shards some lock = omega (arith, some)

module _ (opening : Cells) (journal : List CommittedCall) (parts : List Part) (are : AreParts opening journal parts) (whole : AreWhole parts) where
  abbrev no_part : Part
  no_part = record { opening = opening; cells = opening; entries = [] }

  -- the opening cells of each shard
  abbrev pub own_cells : ℕ → Cells
  own_cells shard = (get_or parts shard no_part).opening

  pub same_cells : (shard : ℕ) → shard < length parts → AreCellsOf (shard_of (length parts)) shard opening (own_cells shard)
  same_cells shard below = (are shard no_part below).cells

  pub defined_cells : (shard : ℕ) → shard < length parts → IsDefined (own_cells shard) (entries_in (shard_of (length parts)) shard journal)
  defined_cells shard below = subst (IsDefined (own_cells shard)) (are shard no_part below).entries (whole shard no_part below).defined

  pub cells_settled : 1 ≤ length parts
      → ((shard : ℕ) → shard < length parts → AreCellsOf (shard_of (length parts)) shard (settled opening journal) (settled (own_cells shard) (entries_in (shard_of (length parts)) shard journal)))
      → (all : Cells) → ((lock : Lock) (other : Part) → get all lock ≡ get (get_or parts (shard_of (length parts) lock) other).cells lock) → all ≡ settled opening journal
  cells_settled some law all gathered =
      same_map lock_cmp_total lock_cmp-IsAntisymmetric all (settled opening journal) (λ lock.
      let shard : ℕ = shard_of (length parts) lock in
      let below : shard < length parts = has_home (length parts) some lock in
      gathered lock no_part
      ∙ ap (λ m. get m lock) ((whole shard no_part below).settles ∙ ap (settled (own_cells shard)) (are shard no_part below).entries)
      ∙ law shard below lock refl)
