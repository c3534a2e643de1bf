-- A world of the code is one that bytes spell: its contracts are trees that their shortest bytes spell, and linked, and its cells are cells.
use Rattle.std.proofs.Common.{◌≡◌, ◌≢◌, ℕ, ◌<◌, ◌^◌, Bool, true, false, cond, T, List, [], ◌∷◌, length, map, Some, None, refl, sym, ap, ◌∙◌, arith}
use Rattle.std.proofs.lemmas.List.{length-map}
use Rattle.std.specs.List.{AllByRecursion}
use Rattle.std.specs.Ordering.{is_lt, is_eq, eq_by_cmp}
use Rattle.std.specs.Cmp.{tied_itself}
use Rattle.std.specs.FinMap.{entries, get, find, is_sorted, get-entries, entries_sorted}
use Rattle.std.specs.FinMap.Entries.{below_all}
use Rattle.spec_ledger.specs.declared.Kind.TheVariants.{Counter}
use Rattle.spec_ledger.specs.declared.Lock.{Lock}
use Rattle.spec_ledger.specs.Cells.{lock_cmp, Cells, counter_at, AreCells, AreOfTheirTypes}
use Rattle.link.specs.declared.deployed.Deployed.{Deployed}
use Rattle.link.specs.Parts.{tree_of}
use Rattle.encoder.proofs.Named.{module_spelled}
use Rattle.spec_block.specs.Bytes.{IsCell, IsTree, IsWorld}
use Rattle.spec_block.proofs.Locks.{lock_is}
use Rattle.spec_block.proofs.OneWorld.{lock_cmp_total}
use Rattle.world.specs.declared.value.World.{World}
use Rattle.world.specs.Cells.{Cell}
use Rattle.world.specs.Views.{contract_view, world_view}
use Rattle.world.proofs.Storing.{is_less, so, first, second}

-- ---- contracts

pub all_trees : {A : Type 0} (ds : List (Deployed A)) → AllByRecursion IsTree (map contract_view ds)
all_trees [] = tt
all_trees (d ∷ ds) = (record { tree = module_spelled (tree_of d); linked = d.linked }, all_trees ds)

-- ---- cells

-- a lock that is below all is not there
not_there : (q : Lock) (es : List Cell) → T (below_all lock_cmp q es) → find lock_cmp q es ≡ None
not_there q [] h = refl
not_there q (e ∷ es) h =
    ap (λ o. cond (is_eq o) (Some e.1) (find lock_cmp q es)) (is_less (lock_cmp q e.0) (first (is_lt (lock_cmp q e.0)) (below_all lock_cmp q es) h)) ∙ not_there q es (second (is_lt (lock_cmp q e.0)) (below_all lock_cmp q es) h)

-- a cell behind the first is found in the whole list
passes : (c : Cell) (es : List Cell) (l : Lock) (v : ℕ) → T (below_all lock_cmp c.0 es) → find lock_cmp l es ≡ Some v → (t : Bool) → eq_by_cmp lock_cmp l c.0 ≡ t → cond t (Some c.1) (find lock_cmp l es) ≡ Some v
passes c es l v below found true same =
    let none : find lock_cmp l es ≡ None = ap (λ q. find lock_cmp q es) (lock_is l c.0 same) ∙ not_there c.0 es below in
    absurd (let clash : None ≡ Some v = sym none ∙ found in cc clash)
passes c es l v below found false same = found

each_of : (es : List Cell) → T (is_sorted lock_cmp es) → ((l : Lock) (v : ℕ) → find lock_cmp l es ≡ Some v → IsCell (l, v)) → AllByRecursion IsCell es
each_of [] sorted each = tt
each_of (c ∷ es) sorted each =
    let below : T (below_all lock_cmp c.0 es) = so (below_all lock_cmp c.0 es) (first (below_all lock_cmp c.0 es) (is_sorted lock_cmp es) sorted) in
    let here : find lock_cmp c.0 (c ∷ es) ≡ Some c.1 = ap (λ o. cond (is_eq o) (Some c.1) (find lock_cmp c.0 es)) (tied_itself lock_cmp_total c.0) in
    (each c.0 c.1 here, each_of es (second (below_all lock_cmp c.0 es) (is_sorted lock_cmp es) sorted) (λ l v found. each l v (passes c es l v below found (eq_by_cmp lock_cmp l c.0) refl)))

-- no counter is at 0
not_zero : (cells : Cells) (l : Lock) (v : ℕ) → AreCells cells → get cells l ≡ Some v → l.kind ≡ Counter → v ≢ 0
not_zero cells l v are found is zero =
    let at : l ≡ counter_at (record { contract = l.contract; key = l.key }) = λ i. record { contract = l.contract; kind = is i; key = l.key } in
    (are.counters (record { contract = l.contract; key = l.key })).not_zero (ap (get cells) (sym at) ∙ (found ∙ ap (λ (n : ℕ). Some n) zero))

pub all_cells : (cells : Cells) → AreCells cells → AreOfTheirTypes cells → AllByRecursion IsCell (entries cells)
all_cells cells are types =
    each_of (entries cells) (entries_sorted cells) (λ l v found.
    let there : get cells l ≡ Some v = get-entries cells l ∙ found in
    let fits = types l v there in
    record { contract = fits.contract; key = fits.key; number = fits.number; not_zero = not_zero cells l v are there })

-- ---- the world

pub is_world : {A : Type 0} (w : World A) → AreCells w.cells.cells → AreOfTheirTypes w.cells.cells → length (entries w.cells.cells) < 2 ^ 63 → IsWorld (world_view w)
is_world w are types size = record {
  count = omega (arith, length-map w.contracts.items contract_view, w.few, w.contracts.ok.0);
  trees = all_trees w.contracts.items;
  cells = all_cells w.cells.cells are types;
  size = omega (arith, size);
}
