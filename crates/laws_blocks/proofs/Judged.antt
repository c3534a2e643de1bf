-- What the calls of a block of two meet.
use Rattle.std.proofs.Common.{◌≡◌, ◌⊎◌, ℕ, zero, suc, ◌+◌, ◌<◌, ◌≤◌, ◌^◌, List, [], ◌∷◌, Option, Some, None, length, take, slice_get, get_or, refl, sym, ap, subst, ◌∙◌, ⊎_elim, arith, Contains, pos}
use Rattle.std.proofs.lemmas.Int.{ints}
use Rattle.std.specs.Prelude.{FitsSigned}
use Rattle.std.specs.Int.{w64}
use Rattle.std.specs.List.{AllByRecursion}
use Rattle.std.specs.FinMap.{empty}
use Rattle.spec_ledger.specs.declared.Mode.TheVariants.{Excl}
use Rattle.spec_ledger.specs.declared.Entry.{Entry}
use Rattle.spec_ledger.specs.declared.Version.{Version}
use Rattle.spec_ledger.specs.declared.Version.TheVariants.{One, Two}
use Rattle.spec_ledger.specs.Cells.{Cells}
use Rattle.spec_ledger.specs.Modes.{touched}
use Rattle.spec_ledger.specs.Order.{limits_of}
use Rattle.spec_execution.specs.Exec.{Executes}
use Rattle.spec_execution.specs.Serial.{CallResult}
use Rattle.spec_block.specs.Worlds.{Block, Call, Position, World, limits, order_of, profiles_of}
use Rattle.spec_block.specs.Serial.{Serial}
use Rattle.spec_block.specs.Bytes.{IsPosition, SpellsBlock, block_bytes}
use Rattle.spec_block.specs.Verdicts.{Verdict, Malformed, WrongWorld, WrongCalls, BadOrder, OverBudget, RoomLeft, BadTurns, Deviates, WrongEnd, Accept, place, HasTurn, Holds, HoldsOf}
use Rattle.block_judge.specs.Meeting.{IsAbsent, IsJudged, IsVerdictWith, Meets, least_fuel}
use Rattle.laws_blocks.specs.CallsWorked.{adds_and_reads, alone_with, counted, counts, on_key_nine, only, returned}
use Rattle.laws_blocks.specs.SmallBlocks.{at_turn, both, both_bytes, counter, holds, left_by_the_first, one_counter, two_calls}
use Rattle.laws_blocks.proofs.Digests.{is_digest}
use Rattle.laws_blocks.proofs.Waves.{some_is}

-- ---- the bytes spell the block

five_fits : FitsSigned w64 (pos 5)
five_fits = omega (arith, ints)

ten_fits : FitsSigned w64 (pos 10)
ten_fits = omega (arith, ints)

first_fits : IsPosition (at_turn 0 5 0)
first_fits = record {
  call = omega arith;
  receipt = record { used = omega arith; asks = omega arith; outcome = five_fits };
  count = omega arith;
  entries = (record { contract = omega arith; key = omega arith; turn = omega arith }, tt);
  rising = tt;
}

second_fits : IsPosition (at_turn 1 10 1)
second_fits = record {
  call = omega arith;
  receipt = record { used = omega arith; asks = omega arith; outcome = ten_fits };
  count = omega arith;
  entries = (record { contract = omega arith; key = omega arith; turn = omega arith }, tt);
  rising = tt;
}

spelled : SpellsBlock both_bytes both
spelled = record {
  is = refl;
  fits = record {
    before = is_digest _;
    calls = is_digest _;
    count = omega arith;
    positions = (first_fits, (second_fits, tt));
    fuel = omega arith;
    after = is_digest _;
  };
  versions = (tt, (tt, tt));
}

-- ---- none of the first seven reasons holds

same_some : (x y : ℕ) → Some x ≡ Some y → x ≡ y
same_some x y e = cc e

abbrev in_order : List ℕ
in_order = 0 ∷ 1 ∷ []

single : (x n k : ℕ) → k < 1 → get_or (x ∷ []) k n ≡ n → x ≡ n
single x n zero lt e = e
single x n (suc k) lt e = absurd (omega (arith, lt))

no_bad_number : (p : ℕ) → (n : ℕ) × (slice_get in_order p ≡ Some n) × ((2 ≤ n) ⊎ Contains (take p in_order) n) → ⊥
no_bad_number zero b = ⊎_elim (λ le. let e = same_some 0 b.0 b.1 in omega (arith, le, e)) (λ c. let lt = c.1 in omega (arith, lt)) b.2
no_bad_number (suc zero) b =
    ⊎_elim (λ le. let e = same_some 1 b.0 b.1 in omega (arith, le, e)) (λ c. let e = same_some 1 b.0 b.1 in let zero_is = single 0 b.0 c.0 c.1 c.2 in omega (arith, e, zero_is)) b.2
no_bad_number (suc (suc p)) b = absurd (let e = b.1 in cc e)

no_room : (call : ℕ) → call < 2 → ¬ (Contains in_order call) → ⊥
no_room zero lt out = out (0, omega arith, refl)
no_room (suc zero) lt out = out (1, omega arith, refl)
no_room (suc (suc call)) lt out = absurd (omega (arith, lt))

turns : (p : ℕ) (profile : List Entry) → slice_get (profiles_of both) p ≡ Some profile → AllByRecursion (HasTurn (profiles_of both) p) profile
turns zero profile e = subst (AllByRecursion (HasTurn (profiles_of both) 0)) (some_is (holds (counter 9) Excl 0) profile e) (refl, tt)
turns (suc zero) profile e = subst (AllByRecursion (HasTurn (profiles_of both) 1)) (some_is (holds (counter 9) Excl 1) profile e) (refl, tt)
turns (suc (suc p)) profile e = absurd (cc e)

none_holds : (fuel : ℕ) → fuel ≡ 10 → (v : Verdict) → place v < 8 → ¬ (HoldsOf one_counter two_calls fuel both v)
none_holds fuel e Malformed lt h = h
none_holds fuel e WrongWorld lt h = h refl
none_holds fuel e WrongCalls lt h = h refl
none_holds fuel e (BadOrder p) lt h = no_bad_number p h.holds
none_holds fuel e OverBudget lt h = let over : fuel < 10 = h in omega (arith, over, e)
none_holds fuel e (RoomLeft call) lt h = no_room call h.holds.known h.holds.left_out
none_holds fuel e (BadTurns p) lt h = let other = h.holds in other.2 (turns p other.0 other.1)
none_holds fuel e (Deviates p) lt h = let no : 8 < 8 = lt in omega (arith, no)
none_holds fuel e WrongEnd lt h = let no : 9 < 8 = lt in omega (arith, no)
none_holds fuel e (Accept next) lt h = let no : 10 < 8 = lt in omega (arith, no)

known : (k d : ℕ) → k < 2 → get_or in_order k d < 2
known zero d lt = omega arith
known (suc zero) d lt = omega arith
known (suc (suc k)) d lt = absurd (let no : suc (suc k) < 2 = lt in omega (arith, no))

judged : IsJudged one_counter two_calls None both_bytes both
judged = record { spelled = spelled; none_holds = none_holds 10 refl; known = known; turns = turns }

judged_with_ten : IsJudged one_counter two_calls (Some 10) both_bytes both
judged_with_ten = record { spelled = spelled; none_holds = none_holds 10 refl; known = known; turns = turns }

over_nine : HoldsOf one_counter two_calls 9 both OverBudget
over_nine = omega arith

-- ---- what they meet

abbrev pub FirstRuns : Type 0
FirstRuns = Executes (only counts) (on_key_nine 5) empty left_by_the_first (alone_with (returned 5) 5) (touched (adds_and_reads 5))

front : FirstRuns → Serial Two one_counter two_calls (0 ∷ []) empty (counted 5 ∷ []) left_by_the_first
front run = (on_key_nine 5, left_by_the_first, refl, run, refl)

pub first : Meets one_counter two_calls None both_bytes 0 Two empty
first = record { block = both; judged = judged; version_is = refl; position = 0; stands = refl; ran = []; serial = refl }

pub second : FirstRuns → Meets one_counter two_calls None both_bytes 1 Two left_by_the_first
second run = record { block = both; judged = judged; version_is = refl; position = 1; stands = refl; ran = counted 5 ∷ []; serial = front run }

pub enough : FirstRuns → Meets one_counter two_calls (Some 10) both_bytes 1 Two left_by_the_first
enough run = record { block = both; judged = judged_with_ten; version_is = refl; position = 1; stands = refl; ran = counted 5 ∷ []; serial = front run }

pub third : IsAbsent one_counter two_calls None both_bytes 2
third = record { block = both; judged = judged; absent = λ c. out c.0 c.1 c.2 }
  where
    out : (k : ℕ) → k < 2 → get_or in_order k 2 ≡ 2 → ⊥
    out zero lt e = let no : 0 ≡ 2 = e in omega (arith, no)
    out (suc zero) lt e = let no : 1 ≡ 2 = e in omega (arith, no)
    out (suc (suc k)) lt e = absurd (omega (arith, lt))

-- ---- no bytes

no_block : (b : Block) → ¬ (SpellsBlock [] b)
no_block b s = let e : 0 ≡ length (block_bytes b) = ap length s.is in empty_is _ e
  where
    empty_is : (n : ℕ) → 0 ≡ suc n → ⊥
    empty_is n e = omega (arith, e)

from_one : (v : Verdict) → 1 ≤ place v
from_one Malformed = omega arith
from_one WrongWorld = omega arith
from_one WrongCalls = omega arith
from_one (BadOrder p) = omega arith
from_one OverBudget = omega arith
from_one (RoomLeft call) = omega arith
from_one (BadTurns p) = omega arith
from_one (Deviates p) = omega arith
from_one WrongEnd = omega arith
from_one (Accept next) = omega arith

pub malformed : IsVerdictWith one_counter two_calls None [] Malformed
malformed = record {
  fuel = 0;
  least = λ b s. absurd (no_block b s);
  is = record { holds = no_block; none_before = λ v lt. absurd (let low = from_one v in let one : place v < 1 = lt in omega (arith, low, one)) };
}

-- ---- what they do not meet

abbrev pub OneBlock : Type 0
OneBlock = (bytes : List ℕ) (b c : Block) → SpellsBlock bytes b → SpellsBlock bytes c → b ≡ c

abbrev pub OneRun : Type 0
OneRun = (version : Version) (world : World) (calls : List Call) (order : List ℕ) (cells : Cells) (rs ss : List CallResult) (l m : Cells) →
    Serial version world calls order cells rs l → Serial version world calls order cells ss m → (rs ≡ ss) × (l ≡ m)

at_one : (p : ℕ) → slice_get in_order p ≡ Some 1 → p ≡ 1
at_one zero e = absurd (let no : 0 ≡ 1 = same_some 0 1 e in omega (arith, no))
at_one (suc zero) e = refl
at_one (suc (suc p)) e = absurd (cc e)

none_two : (p : ℕ) → slice_get in_order p ≡ Some 2 → ⊥
none_two zero e = let no : 0 ≡ 2 = same_some 0 2 e in omega (arith, no)
none_two (suc zero) e = let no : 1 ≡ 2 = same_some 1 2 e in omega (arith, no)
none_two (suc (suc p)) e = absurd (cc e)

module _ (one : OneBlock) where
  same : (b : Block) → SpellsBlock both_bytes b → b ≡ both
  same b s = one both_bytes b both s spelled

  pub no_other_cells : OneRun → FirstRuns → (given : Option ℕ) (cells : Cells) → Meets one_counter two_calls given both_bytes 1 Two cells → cells ≡ left_by_the_first
  no_other_cells once run given cells m =
      let is : m.block ≡ both = same m.block m.judged.spelled in
      let at : m.position ≡ 1 = at_one m.position (subst (λ (b : Block). slice_get (order_of b) m.position ≡ Some 1) is m.stands) in
      let ran : Serial Two one_counter two_calls (take m.position in_order) empty m.ran cells =
      subst (λ (b : Block). Serial b.version one_counter two_calls (take m.position (order_of b)) empty m.ran cells) is m.serial in
      let to_one : Serial Two one_counter two_calls (0 ∷ []) empty m.ran cells = subst (λ (p : ℕ). Serial Two one_counter two_calls (take p in_order) empty m.ran cells) at ran in
      (once Two one_counter two_calls (0 ∷ []) empty m.ran (counted 5 ∷ []) cells left_by_the_first to_one (front run)).1

  pub no_other_version : (given : Option ℕ) (cells : Cells) → Meets one_counter two_calls given both_bytes 1 One cells → ⊥
  no_other_version given cells m = absurd (let e : One ≡ Two = m.version_is ∙ ap (λ (b : Block). b.version) (same m.block m.judged.spelled) in cc e)

  pub no_third : (given : Option ℕ) (cells : Cells) → Meets one_counter two_calls given both_bytes 2 Two cells → ⊥
  no_third given cells m = none_two m.position (subst (λ (b : Block). slice_get (order_of b) m.position ≡ Some 2) (same m.block m.judged.spelled) m.stands)

  pub not_absent : (given : Option ℕ) → IsAbsent one_counter two_calls given both_bytes 1 → ⊥
  not_absent given a = a.absent (subst (λ (b : Block). Contains (order_of b) 1) (sym (same a.block a.judged.spelled)) (1, omega arith, refl))

  pub not_over_budget : IsVerdictWith one_counter two_calls None both_bytes OverBudget → ⊥
  not_over_budget v =
      let is : v.is.holds.0 ≡ both = same v.is.holds.0 v.is.holds.1 in
      let over : v.fuel < limits_of (limits two_calls) (order_of v.is.holds.0) = v.is.holds.2 in
      let least : v.fuel ≡ 10 = v.least both spelled in
      let ten : limits_of (limits two_calls) (order_of v.is.holds.0) ≡ 10 = ap (λ (b : Block). limits_of (limits two_calls) (order_of b)) is in
      omega (arith, over, least, ten)

  pub nothing_met : (cells : Cells) → Meets one_counter two_calls (Some 9) both_bytes 1 Two cells → ⊥
  nothing_met cells m =
      let is : m.block ≡ both = same m.block m.judged.spelled in
      m.judged.none_holds OverBudget (omega arith) (subst (λ (b : Block). HoldsOf one_counter two_calls 9 b OverBudget) (sym is) over_nine)

  -- what holds of a block that the bytes spell holds of this one
  at_both : (v : Verdict) → (b : Block) × SpellsBlock both_bytes b × HoldsOf one_counter two_calls 9 b v → HoldsOf one_counter two_calls 9 both v
  at_both v h = subst (λ (b : Block). HoldsOf one_counter two_calls 9 b v) (same h.0 h.1) h.2

  before_budget : (v : Verdict) → place v < 5 → ¬ (Holds one_counter two_calls 9 both_bytes v)
  before_budget Malformed lt h = h both spelled
  before_budget WrongWorld lt h = at_both WrongWorld h refl
  before_budget WrongCalls lt h = at_both WrongCalls h refl
  before_budget (BadOrder p) lt h = no_bad_number p (at_both (BadOrder p) h).holds
  before_budget OverBudget lt h = let no : 5 < 5 = lt in omega (arith, no)
  before_budget (RoomLeft call) lt h = let no : 6 < 5 = lt in omega (arith, no)
  before_budget (BadTurns p) lt h = let no : 7 < 5 = lt in omega (arith, no)
  before_budget (Deviates p) lt h = let no : 8 < 5 = lt in omega (arith, no)
  before_budget WrongEnd lt h = let no : 9 < 5 = lt in omega (arith, no)
  before_budget (Accept next) lt h = let no : 10 < 5 = lt in omega (arith, no)

  pub over_budget : IsVerdictWith one_counter two_calls (Some 9) both_bytes OverBudget
  over_budget = record { holds = (both, spelled, over_nine); none_before = before_budget }

pub not_malformed : (given : Option ℕ) → IsVerdictWith one_counter two_calls given both_bytes Malformed → ⊥
not_malformed None v = v.is.holds both spelled
not_malformed (Some fuel) v = v.holds both spelled
