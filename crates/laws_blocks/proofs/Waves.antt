-- Paths of two positions.
use Rattle.std.proofs.Common.{◌≡◌, ◌⊎◌, inl, inr, ℕ, zero, suc, ◌+◌, ◌<◌, ◌≤◌, Bool, true, false, cond, List, [], ◌∷◌, Option, Some, None, length, slice_get, slice_index, refl, sym, ap, subst, ⊎_elim, arith}
use Rattle.std.specs.Ordering.{eq_by_cmp}
use Rattle.spec_ledger.specs.declared.Lock.{Lock}
use Rattle.spec_ledger.specs.declared.Mode.{Mode}
use Rattle.spec_ledger.specs.declared.Mode.TheVariants.{Read, Add as Adding}
use Rattle.spec_ledger.specs.declared.Entry.{Entry}
use Rattle.spec_ledger.specs.Cells.{lock_cmp}
use Rattle.spec_block.specs.Schedule.{hold_in, Holds, IsEdge, IsPath, here, along, IsWave}
use Rattle.figures.specs.Chains.{path_weight, AreForward, IsChain}
use Rattle.figures.specs.declared.figures.Chains.{Chains}
use Rattle.figures.specs.Figures.{AreChains, IsCount}
use Rattle.laws_blocks.specs.SmallBlocks.{adds_then_reads, counter, holds, reads_then_adds}

pub some_is : {A : Type 0} (x y : A) → Some x ≡ Some y → x ≡ y
some_is x y e = cc e

-- the turn of a position that holds one lock
one_hold : (e : Entry) (lock : Lock) (h : Mode × ℕ) → hold_in lock (e ∷ []) ≡ Some h → h.1 ≡ e.turn
one_hold e lock h is = by (eq_by_cmp lock_cmp lock e.lock) is
  where
    by : (b : Bool) → cond b (Some (e.mode, e.turn)) (hold_in lock []) ≡ Some h → h.1 ≡ e.turn
    by true same = let found : (e.mode, e.turn) ≡ h = some_is (e.mode, e.turn) h same in sym (ap (λ (k : Mode × ℕ). k.1) found)
    by false same = absurd (cc same)

-- position 0 has turn 0, and position 1 turn 1
turn_is : (i : ℕ) (lock : Lock) (m : Mode) (t : ℕ) → Holds adds_then_reads i lock m t → (i < 2) × (t ≡ i)
turn_is zero lock m t h =
    let es : List Entry = holds (counter 7) Adding 0 in
    let held : hold_in lock es ≡ Some (m, t) = subst (λ (fs : List Entry). hold_in lock fs ≡ Some (m, t)) (sym (some_is es h.profile h.there)) h.held in
    (omega arith, one_hold (record { lock = counter 7; mode = Adding; turn = 0 }) lock (m, t) held)
turn_is (suc zero) lock m t h =
    let es : List Entry = holds (counter 7) Read 1 in
    let held : hold_in lock es ≡ Some (m, t) = subst (λ (fs : List Entry). hold_in lock fs ≡ Some (m, t)) (sym (some_is es h.profile h.there)) h.held in
    (omega arith, one_hold (record { lock = counter 7; mode = Read; turn = 1 }) lock (m, t) held)
turn_is (suc (suc i)) lock m t h = absurd (cc h.there)

-- there is one edge
ends_of : (i j : ℕ) → IsEdge adds_then_reads i j → (i ≡ 0) × (j ≡ 1)
ends_of i j e =
    let from = (turn_is i e.lock e.first e.turn e.holds_first).1 in
    let to = turn_is j e.lock e.second (e.turn + 1) e.holds_second in
    let below = to.0 in
    let next = to.1 in
    (omega (arith, from, below, next), omega (arith, from, below, next))

pub edge : IsEdge adds_then_reads 0 1
edge = record {
  lock = counter 7;
  first = Adding;
  second = Read;
  turn = 0;
  holds_first = record { profile = holds (counter 7) Adding 0; there = refl; held = refl };
  holds_second = record { profile = holds (counter 7) Read 1; there = refl; held = refl };
}

pub forward : AreForward adds_then_reads
forward i j e =
    let ends = ends_of i j e in
    let from = ends.0 in
    let to = ends.1 in
    omega (arith, from, to)

pub no_way_back : AreForward reads_then_adds → ⊥
no_way_back f = let lt = f 1 0 back in omega (arith, lt)
  where
    back : IsEdge reads_then_adds 1 0
    back = record {
      lock = counter 7;
      first = Adding;
      second = Read;
      turn = 0;
      holds_first = record { profile = holds (counter 7) Adding 0; there = refl; held = refl };
      holds_second = record { profile = holds (counter 7) Read 1; there = refl; held = refl };
    }

-- ---- waves

abbrev both_ends : IsPath adds_then_reads 1 0 1
both_ends = along 0 0 0 1 (here 0) edge

short : (n i j : ℕ) → IsPath adds_then_reads n i j → n ≤ j
short _ _ _ (here i) = omega arith
short _ _ _ (along n i j k p e) =
    let rest = short n i j p in
    let ends = ends_of j k e in
    let from = ends.0 in
    let to = ends.1 in
    omega (arith, rest, from, to)

pub first_wave : IsWave adds_then_reads 0 0
first_wave = record { from = 0; path = here 0; longest = λ n i p. short n i 0 p }

pub second_wave : IsWave adds_then_reads 1 1
second_wave = record { from = 0; path = both_ends; longest = λ n i p. short n i 1 p }

pub no_other_wave : IsWave adds_then_reads 1 0 → ⊥
no_other_wave w = let le = w.longest 1 0 both_ends in omega (arith, le)

pub waves : IsCount (0 ∷ 1 ∷ []) 2
waves = record { above = above; reached = inr (1, omega arith, refl) }
  where
    above : (i : ℕ) → i < 2 → slice_index (0 ∷ 1 ∷ []) i < 2
    above zero lt = omega arith
    above (suc zero) lt = omega arith
    above (suc (suc i)) lt = absurd (omega (arith, lt))

pub no_fewer_waves : IsCount (0 ∷ 1 ∷ []) 1 → ⊥
no_fewer_waves c = let lt : 1 < 1 = c.above 1 (omega arith) in omega (arith, lt)

pub no_more_waves : IsCount (0 ∷ 1 ∷ []) 3 → ⊥
no_more_waves c = ⊎_elim (λ none. let three : 3 ≡ 0 = none.1 in omega (arith, three)) (λ there. found there.0 there.1 there.2) c.reached
  where
    found : (i : ℕ) → i < 2 → slice_index (0 ∷ 1 ∷ []) i + 1 ≡ 3 → ⊥
    found zero lt e = let one : 1 ≡ 3 = e in omega (arith, one)
    found (suc zero) lt e = let two : 2 ≡ 3 = e in omega (arith, two)
    found (suc (suc i)) lt e = absurd (omega (arith, lt))

-- ---- the heaviest chain

light_first : (n i j : ℕ) (p : IsPath adds_then_reads n i j) → j ≡ 0 → path_weight adds_then_reads (3 ∷ 5 ∷ []) n i j p ≤ 3
light_first _ _ _ (here i) at = subst (λ (k : ℕ). slice_index (3 ∷ 5 ∷ []) k ≤ 3) (sym at) (omega arith)
light_first _ _ _ (along n i j k p e) at = absurd (let to = (ends_of j k e).1 in omega (arith, at, to))

each_light : (i : ℕ) → slice_index (3 ∷ 5 ∷ []) i ≤ 8
each_light zero = omega arith
each_light (suc zero) = omega arith
each_light (suc (suc i)) = omega arith

light : (n i j : ℕ) (p : IsPath adds_then_reads n i j) → path_weight adds_then_reads (3 ∷ 5 ∷ []) n i j p ≤ 8
light _ _ _ (here i) = each_light i
light _ _ _ (along n i j k p e) =
    let ends = ends_of j k e in
    let rest = light_first n i j p ends.0 in
    let last : slice_index (3 ∷ 5 ∷ []) k ≡ 5 = ap (slice_index (3 ∷ 5 ∷ [])) ends.1 in
    omega (arith, rest, last)

pub chain : IsChain adds_then_reads (3 ∷ 5 ∷ []) 8
chain = record { edges = 1; from = 0; to = 1; path = both_ends; reached = refl; most = light }

pub no_lighter_chain : IsChain adds_then_reads (3 ∷ 5 ∷ []) 5 → ⊥
no_lighter_chain c = let le : 8 ≤ 5 = c.most 1 0 1 both_ends in omega (arith, le)

pub no_heavier_chain : IsChain adds_then_reads (3 ∷ 5 ∷ []) 9 → ⊥
no_heavier_chain c =
    let le = light c.edges c.from c.to c.path in
    let is = c.reached in
    omega (arith, le, is)

-- ---- both together

its_wave : (i : ℕ) → i < 2 → IsWave adds_then_reads i (slice_index (0 ∷ 1 ∷ []) i)
its_wave zero lt = first_wave
its_wave (suc zero) lt = second_wave
its_wave (suc (suc i)) lt = absurd (omega (arith, lt))

pub chains : (c : Chains) → c.waves.items ≡ 0 ∷ 1 ∷ [] → c.wave_count ≡ 2 → c.chain_fuel ≡ 8 → AreChains adds_then_reads (3 ∷ 5 ∷ []) c
chains c listed counted heavy = record {
  each = ap length listed;
  waves = λ i lt. subst (λ (ws : List ℕ). IsWave adds_then_reads i (slice_index ws i)) (sym listed) (its_wave i lt);
  count = subst (λ (ws : List ℕ). IsCount ws c.wave_count) (sym listed) (subst (IsCount (0 ∷ 1 ∷ [])) (sym counted) waves);
  fuel = subst (IsChain adds_then_reads (3 ∷ 5 ∷ [])) (sym heavy) chain;
}

pub no_single_wave : (c : Chains) → c.wave_count ≡ 1 → AreChains adds_then_reads (3 ∷ 5 ∷ []) c → ⊥
no_single_wave c single are =
    let size : length c.waves.items ≡ 2 = are.each in
    let long = (are.waves 1 (omega arith)).longest 1 0 both_ends in
    let below = are.count.above 1 (omega (arith, size)) in
    omega (arith, single, long, below)
