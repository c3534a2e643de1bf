-- Reasons that are looked for one after another.
use Rattle.std.proofs.Common.{◌≡◌, ℕ, ◌-◌, ◌<◌, ◌≤◌, List, OnOk, inl, inr, sym, subst, ⊎_elim, arith, length, get_or, slice_index, All}
use Rattle.std.specs.declared.result.Result.{Result}
use Rattle.std.specs.declared.result.Result.TheVariants.{Ok, Err}
use Rattle.std.proofs.lemmas.Bool.{cases_lt}
use Rattle.std.proofs.lemmas.List.{length-map}
use Rattle.std.proofs.lemmas.Option.{slice_get-get_or}
use Rattle.spec_ledger.specs.Order.{IsAdmissible, limits_of}
use Rattle.spec_block.specs.Worlds.{Call, World, Block, order_of, limits}
use Rattle.spec_block.specs.Bytes.{SpellsBlock}
use Rattle.spec_block.specs.Verdicts.{Verdict, Malformed, WrongWorld, WrongCalls, BadOrder, OverBudget, RoomLeft, BadTurns, Deviates, WrongEnd, Accept, place, IsLeast, IsBadNumber, HasRoom, HoldsOf, Holds, IsVerdictOf}
use Rattle.block_judge.specs.declared.reason.JudgeRefusal.{JudgeRefusal}
use Rattle.block_judge.specs.declared.reason.JudgeRefusal.TheVariants as unfit
use Rattle.block_judge.specs.Judging.{IfRejected, IsFirstFrom, IsReasonOf, NoneFrom, told}

module _ (P : Verdict → Type 0) where
  none_joined : (a b c : ℕ) → NoneFrom P a b → NoneFrom P b c → NoneFrom P a c
  none_joined a b c x y v from before = ⊎_elim (λ lt. x v from lt) (λ ge. y v ge before) (cases_lt (place v) b)

module _ (P : Verdict → Type 0) where
  none_here : (n : ℕ) → NoneFrom P n n
  none_here n v from before h = absurd (omega (arith, from, before))

  -- the first from a later place on is the first of all where none before holds
  pub first_joined : (a b : ℕ) (v : Verdict) → a ≤ b → NoneFrom P a b → IsFirstFrom P b v → IsFirstFrom P a v
  first_joined a b v le none first =
      record { holds = first.holds; within = (let within = first.within in omega (arith, le, within)); none_before = none_joined P a b (place v) none first.none_before }

-- what follows from one fact follows where nothing is rejected
pub on_ok : {X E : Type 0} (r : Result X E) (P Q : Type 0) → (P → Q) → OnOk r P → OnOk r Q
on_ok (Ok x) P Q f p = f p
on_ok (Err e) P Q f p = tt

-- ---- the order

pub all_known : (calls : List Call) (order : List ℕ) → ((p : ℕ) → ¬ (IsBadNumber calls order p)) → All (λ n. n < length calls) order
all_known calls order none k d below =
    ⊎_elim (λ lt. lt) (λ above. absurd (none k (get_or order k d, slice_get-get_or order k d below, inl above))) (cases_lt (get_or order k d) (length calls))

as_many_limits : (calls : List Call) → length (limits calls) ≡ length calls
as_many_limits calls = length-map calls (λ (c : Call). c.fuel)

-- an order of which none of its reasons holds may be published
pub order_admissible : (calls : List Call) (fuel : ℕ) (order : List ℕ)
    → ((p : ℕ) → ¬ (IsBadNumber calls order p)) → limits_of (limits calls) order ≤ fuel → ((c : ℕ) → ¬ (HasRoom calls fuel order c)) → IsAdmissible (limits calls) order fuel
order_admissible calls fuel order bad within room =
    record {
      distinct = λ p call is stood. bad p (call, is, inr stood);
      known = λ p call is. ⊎_elim (λ lt. (let many = as_many_limits calls in omega (arith, lt, many))) (λ above. absurd (bad p (call, is, inl above))) (cases_lt call (length calls));
      within = within;
      no_room_left = λ call known out.
          ⊎_elim (λ lt. lt) (λ fits. absurd (room call (record { known = (let many = as_many_limits calls in omega (arith, known, many)); left_out = out; fits = fits })))
          (cases_lt (fuel - limits_of (limits calls) order) (slice_index (limits calls) call));
    }

-- and has calls alone
pub admissible_known : (calls : List Call) (fuel : ℕ) (order : List ℕ) → IsAdmissible (limits calls) order fuel → All (λ n. n < length calls) order
admissible_known calls fuel order admissible k d below =
    let lt = admissible.known k (get_or order k d) (slice_get-get_or order k d below) in let many = as_many_limits calls in omega (arith, lt, many)

module _ (world : World) (calls : List Call) (fuel : ℕ) (b : Block) (order : List ℕ) (same : order_of b ≡ order) where
  order_none : (n : ℕ) → n ≤ 7 → ((p : ℕ) → ¬ (IsBadNumber calls order p)) → (5 < n → ¬ (fuel < limits_of (limits calls) order)) → (6 < n → (c : ℕ) → ¬ (HasRoom calls fuel order c)) → NoneFrom (HoldsOf world calls fuel b) 4 n
  order_none n le bad budget room Malformed from before h = absurd (omega (arith, from))
  order_none n le bad budget room WrongWorld from before h = absurd (omega (arith, from))
  order_none n le bad budget room WrongCalls from before h = absurd (omega (arith, from))
  order_none n le bad budget room (BadOrder p) from before h = bad p (subst (λ o. IsBadNumber calls o p) same h.holds)
  order_none n le bad budget room OverBudget from before h = budget before (subst (λ o. fuel < limits_of (limits calls) o) same h)
  order_none n le bad budget room (RoomLeft c) from before h = room before c (subst (λ o. HasRoom calls fuel o c) same h.holds)
  order_none n le bad budget room (BadTurns p) from before h = absurd (omega (arith, before, le))
  order_none n le bad budget room (Deviates p) from before h = absurd (omega (arith, before, le))
  order_none n le bad budget room WrongEnd from before h = absurd (omega (arith, before, le))
  order_none n le bad budget room (Accept w) from before h = absurd (omega (arith, before, le))

  -- none of its reasons holds of a block in an order that may be published
  pub admissible_none : IsAdmissible (limits calls) order fuel → NoneFrom (HoldsOf world calls fuel b) 4 7
  admissible_none admissible =
      order_none 7 (omega arith)
      (λ p bad. ⊎_elim (λ above. (let lt = admissible.known p bad.0 bad.1 in let many = as_many_limits calls in omega (arith, lt, many, above))) (λ stood. admissible.distinct p bad.0 bad.1 stood) bad.2)
      (λ _ over. (let within = admissible.within in omega (arith, within, over)))
      (λ _ c room. (let known = room.known in let many = as_many_limits calls in let fits = room.fits in let small = admissible.no_room_left c (omega (arith, known, many)) room.left_out in omega (arith, fits, small)))

pub bad_order : (calls : List Call) (order : List ℕ) (fuel p : ℕ) → IsLeast (IsBadNumber calls order) p → IsReasonOf calls order fuel (BadOrder p)
bad_order calls order fuel p least =
    record {
      of_order = omega arith;
      first = λ world b same. record { holds = subst (λ o. IsLeast (IsBadNumber calls o) p) (sym same) least; within = omega arith; none_before = none_here (HoldsOf world calls fuel b) 4 };
    }

pub over_budget : (calls : List Call) (order : List ℕ) (fuel : ℕ) → ((p : ℕ) → ¬ (IsBadNumber calls order p)) → fuel < limits_of (limits calls) order → IsReasonOf calls order fuel OverBudget
over_budget calls order fuel bad over =
    record {
      of_order = omega arith;
      first = λ world b same. record {
        holds = subst (λ o. fuel < limits_of (limits calls) o) (sym same) over;
        within = omega arith;
        none_before = order_none world calls fuel b order same 5 (omega arith) bad (λ no. absurd (omega (arith, no))) (λ no. absurd (omega (arith, no)));
      };
    }

pub room_left : (calls : List Call) (order : List ℕ) (fuel : ℕ) → ((p : ℕ) → ¬ (IsBadNumber calls order p)) → limits_of (limits calls) order ≤ fuel → (c : ℕ) → IsLeast (HasRoom calls fuel order) c → IsReasonOf calls order fuel (RoomLeft c)
room_left calls order fuel bad within c least =
    record {
      of_order = omega arith;
      first = λ world b same. record {
        holds = subst (λ o. IsLeast (HasRoom calls fuel o) c) (sym same) least;
        within = omega arith;
        none_before = order_none world calls fuel b order same 6 (omega arith) bad (λ _ over. omega (arith, within, over)) (λ no. absurd (omega (arith, no)));
      };
    }

-- where the digests are right, the first reason of the order is the first of all
pub after_digests : (world : World) (calls : List Call) (fuel : ℕ) (b : Block) (order : List ℕ) → order_of b ≡ order → NoneFrom (HoldsOf world calls fuel b) 1 4
    → (u : JudgeRefusal) → IfRejected u (IsReasonOf calls order fuel) → IfRejected u (IsFirstFrom (HoldsOf world calls fuel b) 1)
after_digests world calls fuel b order same none (unfit.Rejected r) reason = first_joined (HoldsOf world calls fuel b) 1 4 (told r) (omega arith) none (reason.first world b same)
after_digests world calls fuel b order same none unfit.NoMemory reason = tt

-- and where the order may be published, none of the reasons before the turns holds
pub before_turns : (world : World) (calls : List Call) (fuel : ℕ) (b : Block) (order : List ℕ) → order_of b ≡ order → NoneFrom (HoldsOf world calls fuel b) 1 4 → IsAdmissible (limits calls) order fuel
    → NoneFrom (HoldsOf world calls fuel b) 1 7
before_turns world calls fuel b order same none admissible = none_joined (HoldsOf world calls fuel b) 1 4 7 none (admissible_none world calls fuel b order same admissible)

-- ---- the verdict of the bytes

module _ (one : (bytes : List ℕ) (b c : Block) → SpellsBlock bytes b → SpellsBlock bytes c → b ≡ c) (world : World) (calls : List Call) (fuel : ℕ) (bytes : List ℕ) (b : Block) (spelled : SpellsBlock bytes b) where
  lifted : (v : Verdict) → HoldsOf world calls fuel b v → Holds world calls fuel bytes v
  lifted Malformed h = absurd h
  lifted WrongWorld h = (b, spelled, h)
  lifted WrongCalls h = (b, spelled, h)
  lifted (BadOrder p) h = (b, spelled, h)
  lifted OverBudget h = (b, spelled, h)
  lifted (RoomLeft c) h = (b, spelled, h)
  lifted (BadTurns p) h = (b, spelled, h)
  lifted (Deviates p) h = (b, spelled, h)
  lifted WrongEnd h = (b, spelled, h)
  lifted (Accept w) h = (b, spelled, h)

  lowered : (v : Verdict) → Holds world calls fuel bytes v → HoldsOf world calls fuel b v
  lowered Malformed h = absurd (h b spelled)
  lowered WrongWorld h = subst (λ (c : Block). HoldsOf world calls fuel c WrongWorld) (one bytes h.0 b h.1 spelled) h.2
  lowered WrongCalls h = subst (λ (c : Block). HoldsOf world calls fuel c WrongCalls) (one bytes h.0 b h.1 spelled) h.2
  lowered (BadOrder p) h = subst (λ (c : Block). HoldsOf world calls fuel c (BadOrder p)) (one bytes h.0 b h.1 spelled) h.2
  lowered OverBudget h = subst (λ (c : Block). HoldsOf world calls fuel c OverBudget) (one bytes h.0 b h.1 spelled) h.2
  lowered (RoomLeft n) h = subst (λ (c : Block). HoldsOf world calls fuel c (RoomLeft n)) (one bytes h.0 b h.1 spelled) h.2
  lowered (BadTurns p) h = subst (λ (c : Block). HoldsOf world calls fuel c (BadTurns p)) (one bytes h.0 b h.1 spelled) h.2
  lowered (Deviates p) h = subst (λ (c : Block). HoldsOf world calls fuel c (Deviates p)) (one bytes h.0 b h.1 spelled) h.2
  lowered WrongEnd h = subst (λ (c : Block). HoldsOf world calls fuel c WrongEnd) (one bytes h.0 b h.1 spelled) h.2
  lowered (Accept w) h = subst (λ (c : Block). HoldsOf world calls fuel c (Accept w)) (one bytes h.0 b h.1 spelled) h.2

  above_none : (v : Verdict) → 1 ≤ place v
  above_none Malformed = omega arith
  above_none WrongWorld = omega arith
  above_none WrongCalls = omega arith
  above_none (BadOrder p) = omega arith
  above_none OverBudget = omega arith
  above_none (RoomLeft c) = omega arith
  above_none (BadTurns p) = omega arith
  above_none (Deviates p) = omega arith
  above_none WrongEnd = omega arith
  above_none (Accept w) = omega arith

  pub first_is : (v : Verdict) → IsFirstFrom (HoldsOf world calls fuel b) 1 v → IsVerdictOf world calls fuel bytes v
  first_is v first = record { holds = lifted v first.holds; none_before = λ w lt h. first.none_before w (above_none w) lt (lowered w h) }

  pub none_below : (n : ℕ) → NoneFrom (HoldsOf world calls fuel b) 1 n → (v : Verdict) → place v < n → ¬ (HoldsOf world calls fuel b v)
  none_below n none v lt = none v (above_none v) lt
