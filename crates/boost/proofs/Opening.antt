-- A book that was just opened.
use Rattle.std.proofs.Common.{◌≡◌, ℕ, ◌<◌, ◌^◌, List, replicate, refl, sym, ap, subst}
use Rattle.std.specs.FinMap.{empty}
use Rattle.std.proofs.lemmas.List.{length-replicate}
use Rattle.spec_ledger.specs.Cells.{Cells, AreCells}
use Rattle.spec_ledger.specs.Book.{Content}
use Rattle.spec_ledger.specs.Modes.{Modes}
use Rattle.storage.specs.Counts.{Counts}
use Rattle.boost.specs.declared.standing.CallState.{CallState}
use Rattle.boost.specs.declared.standing.CallState.TheVariants.{Idle}
use Rattle.boost.specs.BookInvariant.{IsBook}
use Rattle.boost.specs.Play.{opened}

IsBook-alone : (cells : Cells) (calls : ℕ) → AreCells cells → calls < 2 ^ 32 → IsBook (opened cells calls) empty (replicate calls empty) (replicate calls Idle)
IsBook-alone cells calls are few = record {
  kept = record {
    cells = are;
    defined = tt;
    distinct = tt;
    each_entry = tt;
    each_live = tt;
    apart = tt;
    now = refl;
    calls = subst (λ n. n < 2 ^ 32) (sym (length-replicate calls 0)) few;
  };
  counted = refl;
  locked = ap (λ n. replicate n empty) (sym (length-replicate calls 0));
  standing = ap (λ n. replicate n Idle) (sym (length-replicate calls 0));
}

pub IsBook-opened : (b : Content) (counts : Counts) (rows : List Modes) (standings : List CallState) (calls : ℕ) → AreCells b.opening → calls < 2 ^ 32
    → b ≡ opened b.opening calls → counts ≡ empty → rows ≡ replicate calls empty → standings ≡ replicate calls Idle → IsBook b counts rows standings
IsBook-opened b counts rows standings calls are few same none free idle =
    let path : ◌≡◌ {A = Content × Counts × List Modes × List CallState} (opened b.opening calls, empty, replicate calls empty, replicate calls Idle) (b, counts, rows, standings) =
    λ i. (sym same i, sym none i, sym free i, sym idle i) in
    let P : Content × Counts × List Modes × List CallState → Type 0 = λ (c, m, r, s). IsBook c m r s in
    subst P path (IsBook-alone b.opening calls are few)
