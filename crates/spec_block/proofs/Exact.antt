-- Accepted are exactly the spellings of the blocks of admissible orders.
use Rattle.std.proofs.Common.{◌≡◌, ℕ, zero, suc, ◌+◌, ◌-◌, ◌<◌, List, [], ◌∷◌, Some, map, slice_get, slice_index, length, refl, sym, ap, subst, ◌∙◌, ⊎_elim, inl, inr, arith, option_map}
use Rattle.std.specs.FinMap.{entries}
use Rattle.std.specs.List.{AllByRecursion}
use Rattle.std.proofs.lemmas.Bool.{cases_lt}
use Rattle.std.proofs.lemmas.List.{length-map}
use Rattle.std.proofs.lemmas.Option.{slice_get-map}
use Rattle.sha2.specs.Sha256.{sha256}
use Rattle.spec_ledger.specs.declared.Entry.{Entry}
use Rattle.spec_ledger.specs.Cells.{Cells}
use Rattle.spec_ledger.specs.Order.{limits_of, turn_at}
use Rattle.spec_ledger.specs.declared.Version.{Version}
use Rattle.spec_block.specs.Worlds.{Call, World, Position, Block, order_of, profiles_of, limits, held_in}
use Rattle.spec_block.proofs.Given.{RunsAreUnique}
use Rattle.spec_execution.specs.Serial.{CallResult}
use Rattle.spec_block.specs.Serial.{Serial}
use Rattle.spec_block.specs.Bytes.{world_bytes, calls_bytes, SpellsBlock}
use Rattle.spec_block.specs.Blocks.{Admissible, block_of, positions, all_touched, fuel_of, world_after, profile_at}
use Rattle.spec_block.specs.Verdicts.{Verdict, Malformed, WrongWorld, WrongCalls, BadOrder, OverBudget, RoomLeft, BadTurns, Deviates, WrongEnd, Accept, place, IsLeast, IsBadNumber, HasRoom, HasTurn, HasOtherTurns, Agrees, IsOther, HoldsOf, Holds, IsVerdictOf}
use Rattle.spec_block.specs.Schedule.{HaveTurns}
use Rattle.spec_block.specs.Headline.{Headline, AcceptsExactly}
use Rattle.spec_block.proofs.Stable.{stable_number, stable_numbers, stable_receipt, stable_held}
use Rattle.spec_block.proofs.Runs.{serial_once, as_many}
use Rattle.spec_block.proofs.OneToOne.{one_block}
use Rattle.spec_block.proofs.Positions.{same_turns, IsMade, profile_made, rebuilt, order_again, held_lists, held_again, made_at, turns_hold}

some_is : {A : Type 0} (x y : A) → Some x ≡ Some y → x ≡ y
some_is x y e = cc e

-- ---- where no least number has it, none has it

none_below : (P : ℕ → Type 0) → ((n : ℕ) → IsLeast P n → ⊥) → (k n : ℕ) → n < k → ¬ (P n)
none_below P never zero n lt p = absurd (omega arith)
none_below P never (suc k) n lt p =
    let lower : (m : ℕ) → m < k → ¬ (P m) = none_below P never k in
    never n (record { holds = p; none_before = λ m less. lower m (omega (arith, lt)) })

pub none_at_all : (P : ℕ → Type 0) → ((n : ℕ) → IsLeast P n → ⊥) → (n : ℕ) → ¬ (P n)
none_at_all P never n = none_below P never (suc n) n (omega arith)

stable_turns : (ps : List (List Entry)) (n : ℕ) (es : List Entry) → ¬ ¬ (AllByRecursion (HasTurn ps n) es) → AllByRecursion (HasTurn ps n) es
stable_turns ps n [] nn = tt
stable_turns ps n (e ∷ es) nn =
    (stable_number _ _ (λ ne. nn (λ h. ne h.0)), stable_turns ps n es (λ ne. nn (λ h. ne h.1)))

-- where every position agrees with the run, the published modes are the run's
held_alike : (ps : List Position) (rs : List CallResult) → length rs ≡ length ps
    → ((i : ℕ) (p : Position) (r : CallResult) → slice_get ps i ≡ Some p → slice_get rs i ≡ Some r → Agrees p r)
    → map (λ (p : Position). held_in p.profile) ps ≡ map (λ (r : CallResult). entries r.touched) rs
held_alike [] [] e agree = refl
held_alike [] (r ∷ rs) e agree = absurd (omega arith)
held_alike (p ∷ ps) [] e agree = absurd (omega arith)
held_alike (p ∷ ps) (r ∷ rs) e agree =
    let rest = held_alike ps rs (omega arith) (λ i q s at at'. agree (suc i) q s at at') in
    λ i. (agree 0 p r refl refl).1 i ∷ rest i

module _ (world : World) (calls : List Call) (fuel : ℕ) where
  -- ---- from a verdict to a block

  module _ (b : Block) (ran : List CallResult) (last : Cells) (run : Serial b.version world calls (order_of b) world.cells ran last)
      (none : (v : Verdict) → place v < 10 → ¬ (HoldsOf world calls fuel b v)) where
    in_order : (position n : ℕ) → ¬ (IsBadNumber calls (order_of b) position)
    in_order position n = none_at_all (IsBadNumber calls (order_of b)) (λ p least. none (BadOrder p) (omega arith) least) position

    pub admissible : Admissible calls (order_of b) fuel
    admissible = record {
      distinct = λ position n at before. in_order position n (n, at, inr before);
      known = λ position n at. ⊎_elim (λ lt. subst (λ (k : ℕ). n < k) (sym (length-map calls (λ (c : Call). c.fuel))) lt) (λ ge. absurd (in_order position n (n, at, inl ge))) (cases_lt n (length calls));
      within = ⊎_elim (λ over. absurd (none OverBudget (omega arith) over)) (λ le. le) (cases_lt fuel (limits_of (limits calls) (order_of b)));
      no_room_left = λ call known left_out. ⊎_elim (λ lt. lt)
          (λ fits. absurd (none_at_all (HasRoom calls fuel (order_of b)) (λ c least. none (RoomLeft c) (omega arith) least) call
          (record { known = subst (λ (k : ℕ). call < k) (length-map calls (λ (c : Call). c.fuel)) known; left_out = left_out; fits = fits })))
          (cases_lt (fuel - limits_of (limits calls) (order_of b)) (slice_index (limits calls) call));
    }

    agrees : (i : ℕ) (p : Position) (r : CallResult) → slice_get b.positions i ≡ Some p → slice_get ran i ≡ Some r → Agrees p r
    agrees i p r at at' =
        let never : ¬ ¬ (Agrees p r) = λ other. none_at_all (IsOther b.positions ran) (λ n least. none (Deviates n) (omega arith) (ran, last, run, least)) i (p, r, at, at', other) in
        (stable_receipt p.receipt r.receipt (λ ne. never (λ a. ne a.0)), stable_held (held_in p.profile) (entries r.touched) (λ ne. never (λ a. ne a.1)))

    lengths : length ran ≡ length b.positions
    lengths = as_many b.version world calls (order_of b) world.cells ran last run ∙ length-map b.positions (λ (p : Position). p.call)

    turned : (i : ℕ) (p : Position) → slice_get b.positions i ≡ Some p → AllByRecursion (HasTurn (profiles_of b) i) p.profile
    turned i p at =
        stable_turns (profiles_of b) i p.profile
        (λ other. none_at_all (HasOtherTurns (profiles_of b)) (λ n least. none (BadTurns n) (omega arith) least) i (p.profile, slice_get-map (λ (q : Position). q.profile) b.positions i ∙ ap (option_map (λ (q : Position). q.profile)) at, other))

    weaken : (P Q : Entry → Type 0) → ((e : Entry) → P e → Q e) → (es : List Entry) → AllByRecursion P es → AllByRecursion Q es
    weaken P Q f [] a = tt
    weaken P Q f (e ∷ es) a = (f e a.0, weaken P Q f es a.1)

    made : (i : ℕ) (p : Position) (r : CallResult) → slice_get b.positions i ≡ Some p → slice_get ran i ≡ Some r → IsMade (all_touched ran) (0 + i) p r
    made i p r at at' =
        let a = agrees i p r at at' in
        let alike = held_alike b.positions ran lengths agrees in
        let turns : AllByRecursion (λ (e : Entry). e.turn ≡ turn_at (all_touched ran) i e.lock) p.profile =
        weaken (HasTurn (profiles_of b) i) (λ (e : Entry). e.turn ≡ turn_at (all_touched ran) i e.lock) (λ e h. h ∙ same_turns e.lock i b.positions ran alike) p.profile (turned i p at) in
        let is : IsMade (all_touched ran) i p r = record { receipt = a.0; profile = profile_made (all_touched ran) i p.profile r.touched a.1 turns } in
        subst (λ (n : ℕ). IsMade (all_touched ran) n p r) (let z : i ≡ 0 + i = omega arith in z) is

    pub is_block : b ≡ block_of b.version world calls (order_of b) ran last
    is_block =
        let before : b.before ≡ sha256 (world_bytes world) = stable_numbers _ _ (λ ne. none WrongWorld (omega arith) ne) in
        let digest : b.calls ≡ sha256 (calls_bytes calls) = stable_numbers _ _ (λ ne. none WrongCalls (omega arith) ne) in
        let ps : b.positions ≡ positions (order_of b) ran = rebuilt (all_touched ran) 0 b.positions ran lengths made in
        let total : b.fuel ≡ fuel_of ran = stable_number _ _ (λ ne. none WrongEnd (omega arith) (ran, last, run, inl ne)) in
        let end : b.after ≡ sha256 (world_bytes (world_after world last)) = stable_numbers _ _ (λ ne. none WrongEnd (omega arith) (ran, last, run, inr ne)) in
        λ i. record { version = b.version; before = before i; calls = digest i; positions = ps i; fuel = total i; after = end i }

  -- ---- from a block to a verdict

  module _ (unique : RunsAreUnique) (version : Version) (order : List ℕ) (ran : List CallResult) (last : Cells) (run : Serial version world calls order world.cells ran last) (fits : Admissible calls order fuel) where
    made_order : order_of (block_of version world calls order ran last) ≡ order
    made_order = order_again (all_touched ran) 0 order ran (as_many version world calls order world.cells ran last run)

    same_run : (rs : List CallResult) (l : Cells) → Serial version world calls (order_of (block_of version world calls order ran last)) world.cells rs l → (rs ≡ ran) × (l ≡ last)
    same_run rs l s = serial_once unique version world calls order world.cells rs ran l last (subst (λ (o : List ℕ). Serial version world calls o world.cells rs l) made_order s) run

    no_bad : (position : ℕ) → ¬ (IsBadNumber calls order position)
    no_bad position bad =
        ⊎_elim (λ ge. let lt : bad.0 < length (limits calls) = fits.known position bad.0 bad.1 in let e = length-map calls (λ (c : Call). c.fuel) in absurd (omega (arith, lt, ge, e)))
        (λ before. fits.distinct position bad.0 bad.1 before) bad.2

    no_room : (call : ℕ) → ¬ (HasRoom calls fuel order call)
    no_room call room =
        let lt = fits.no_room_left call (subst (λ (k : ℕ). call < k) (sym (length-map calls (λ (c : Call). c.fuel))) room.known) room.left_out in
        absurd (omega (arith, lt, room.fits))

    right_turns : (i : ℕ) → ¬ (HasOtherTurns (profiles_of (block_of version world calls order ran last)) i)
    right_turns i other =
        let ps = positions order ran in
        let n = as_many version world calls order world.cells ran last run in
        let found = at_of ps i other.0 other.1 in
        let m = made_at (all_touched ran) 0 order ran i found.0 found.1 in
        let hold : AllByRecursion (HasTurn (map (λ (p : Position). p.profile) ps) i) (profile_at (all_touched ran) i (m.0).touched) =
        turns_hold (all_touched ran) i (m.0).touched (HasTurn (map (λ (p : Position). p.profile) ps) i) (λ lock mode. sym (same_turns lock i ps ran (held_lists (all_touched ran) 0 order ran n))) in
        let profile : other.0 ≡ profile_at (all_touched ran) i (m.0).touched = found.2 ∙ ((m.2).profile ∙ ap (λ (k : ℕ). profile_at (all_touched ran) k (m.0).touched) (let z : 0 + i ≡ i = omega arith in z)) in
        other.2 (subst (AllByRecursion (HasTurn (map (λ (p : Position). p.profile) ps) i)) (sym profile) hold)
      where
        at_of : (ps : List Position) (i : ℕ) (es : List Entry) → slice_get (map (λ (p : Position). p.profile) ps) i ≡ Some es → (p : Position) × (slice_get ps i ≡ Some p) × (es ≡ p.profile)
        at_of [] i es at = absurd (cc at)
        at_of (p ∷ ps) zero es at = (p, refl, sym (some_is _ es at))
        at_of (p ∷ ps) (suc i) es at = at_of ps i es at

    no_other : (rs : List CallResult) → rs ≡ ran → (i : ℕ) → ¬ (IsOther (positions order ran) rs i)
    no_other rs e i other =
        let m = made_at (all_touched ran) 0 order ran i other.0 other.2 in
        let same : other.1 ≡ m.0 = some_is other.1 m.0 (sym other.3 ∙ (ap (λ (l : List CallResult). slice_get l i) e ∙ m.1)) in
        let held : held_in (other.0).profile ≡ entries (m.0).touched = ap held_in (m.2).profile ∙ held_again (all_touched ran) (0 + i) (m.0).touched in
        other.4 (subst (Agrees other.0) (sym same) ((m.2).receipt, held))

    pub none_holds : (v : Verdict) → place v < 10 → ¬ (HoldsOf world calls fuel (block_of version world calls order ran last) v)
    none_holds Malformed lt h = h
    none_holds WrongWorld lt h = h refl
    none_holds WrongCalls lt h = h refl
    none_holds (BadOrder p) lt h = no_bad p (subst (λ (o : List ℕ). IsBadNumber calls o p) made_order h.holds)
    none_holds OverBudget lt h = let over : fuel < limits_of (limits calls) order = subst (λ (o : List ℕ). fuel < limits_of (limits calls) o) made_order h in absurd (omega (arith, over, fits.within))
    none_holds (RoomLeft c) lt h = no_room c (subst (λ (o : List ℕ). HasRoom calls fuel o c) made_order h.holds)
    none_holds (BadTurns p) lt h = right_turns p h.holds
    none_holds (Deviates p) lt h = no_other h.0 (same_run h.0 h.1 h.2).0 p (h.3).holds
    none_holds WrongEnd lt h =
        let same = same_run h.0 h.1 h.2 in
        ⊎_elim (λ ne. ne (sym (ap fuel_of same.0))) (λ ne. ne (sym (ap (λ (c : Cells). sha256 (world_bytes (world_after world c))) same.1))) h.3
    none_holds (Accept w) lt h = absurd (omega arith)

-- ---- both ways

pub exactly : RunsAreUnique → (world : World) (calls : List Call) (fuel : ℕ) (bytes : List ℕ) → AcceptsExactly world calls fuel bytes
exactly unique world calls fuel bytes next = (to, back)
  where
    lifted : (b : Block) → SpellsBlock bytes b → (v : Verdict) → HoldsOf world calls fuel b v → Holds world calls fuel bytes v
    lifted b sp Malformed h = absurd h
    lifted b sp WrongWorld h = (b, sp, h)
    lifted b sp WrongCalls h = (b, sp, h)
    lifted b sp (BadOrder p) h = (b, sp, h)
    lifted b sp OverBudget h = (b, sp, h)
    lifted b sp (RoomLeft c) h = (b, sp, h)
    lifted b sp (BadTurns p) h = (b, sp, h)
    lifted b sp (Deviates p) h = (b, sp, h)
    lifted b sp WrongEnd h = (b, sp, h)
    lifted b sp (Accept w) h = (b, sp, h)

    lowered : (b : Block) → SpellsBlock bytes b → (v : Verdict) → Holds world calls fuel bytes v → HoldsOf world calls fuel b v
    lowered b sp Malformed h = absurd (h b sp)
    lowered b sp WrongWorld h = subst (λ (c : Block). HoldsOf world calls fuel c WrongWorld) (one_block bytes h.0 b h.1 sp) h.2
    lowered b sp WrongCalls h = subst (λ (c : Block). HoldsOf world calls fuel c WrongCalls) (one_block bytes h.0 b h.1 sp) h.2
    lowered b sp (BadOrder p) h = subst (λ (c : Block). HoldsOf world calls fuel c (BadOrder p)) (one_block bytes h.0 b h.1 sp) h.2
    lowered b sp OverBudget h = subst (λ (c : Block). HoldsOf world calls fuel c OverBudget) (one_block bytes h.0 b h.1 sp) h.2
    lowered b sp (RoomLeft n) h = subst (λ (c : Block). HoldsOf world calls fuel c (RoomLeft n)) (one_block bytes h.0 b h.1 sp) h.2
    lowered b sp (BadTurns p) h = subst (λ (c : Block). HoldsOf world calls fuel c (BadTurns p)) (one_block bytes h.0 b h.1 sp) h.2
    lowered b sp (Deviates p) h = subst (λ (c : Block). HoldsOf world calls fuel c (Deviates p)) (one_block bytes h.0 b h.1 sp) h.2
    lowered b sp WrongEnd h = subst (λ (c : Block). HoldsOf world calls fuel c WrongEnd) (one_block bytes h.0 b h.1 sp) h.2
    lowered b sp (Accept w) h = subst (λ (c : Block). HoldsOf world calls fuel c (Accept w)) (one_block bytes h.0 b h.1 sp) h.2

    to : IsVerdictOf world calls fuel bytes (Accept next) → (block : Block) × SpellsBlock bytes block × Headline world calls fuel block next
    to v =
        let b = v.holds.0 in
        let sp = v.holds.1 in
        let h = v.holds.2 in
        let none : (w : Verdict) → place w < 10 → ¬ (HoldsOf world calls fuel b w) = λ w lt holds. v.none_before w lt (lifted b sp w holds) in (
          b,
          sp,
          record {
            order = order_of b;
            admissible = admissible world calls fuel b h.0 h.1 h.2 none;
            of_order = record { ran = h.0; last = h.1; serial = h.2; is = is_block world calls fuel b h.0 h.1 h.2 none };
            storage = h.3;
          },
        )

    back : ((block : Block) × SpellsBlock bytes block × Headline world calls fuel block next) → IsVerdictOf world calls fuel bytes (Accept next)
    back found =
        let b = found.0 in
        let sp = found.1 in
        let h = found.2 in
        let made = made_order world calls fuel unique b.version h.order (h.of_order).ran (h.of_order).last (h.of_order).serial h.admissible in
        let run : Serial b.version world calls (order_of b) world.cells (h.of_order).ran (h.of_order).last =
        subst (λ (o : List ℕ). Serial b.version world calls o world.cells (h.of_order).ran (h.of_order).last) (sym (ap order_of (h.of_order).is ∙ made)) (h.of_order).serial in
        record {
          holds = (b, sp, ((h.of_order).ran, (h.of_order).last, run, h.storage));
          none_before = λ w lt holds.
              none_holds world calls fuel unique b.version h.order (h.of_order).ran (h.of_order).last (h.of_order).serial h.admissible w lt
              (subst (λ (c : Block). HoldsOf world calls fuel c w) (h.of_order).is (lowered b sp w holds));
        }

-- the profiles of a block that may be published have the turns of their modes
pub published_turns : RunsAreUnique → (world : World) (calls : List Call) (fuel : ℕ) (block : Block) (next : World) → Headline world calls fuel block next → HaveTurns (profiles_of block)
published_turns unique world calls fuel block next h =
    subst (λ (b : Block). HaveTurns (profiles_of b)) (sym (h.of_order).is)
    (λ i es at. stable_turns (profiles_of (block_of block.version world calls h.order (h.of_order).ran (h.of_order).last)) i es (λ other. right_turns world calls fuel unique block.version h.order (h.of_order).ran (h.of_order).last (h.of_order).serial h.admissible i (es, at, other)))
