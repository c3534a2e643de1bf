-- What is kept when a call is published.
use Rattle.std.proofs.Common.{◌≡◌, ◌⊎◌, inl, inr, ℕ, suc, ◌+◌, ◌-◌, ◌<◌, ◌≤◌, ◌^◌, Bool, true, false, List, [], ◌∷◌, ◌++◌, length, take, get_or, replicate, Some, slice_get, refl, sym, ◌∙◌, ap, subst, append_assoc, arith}
use Rattle.std.specs.Prelude.{Contains, slice_set, ◌↔◌, IsTrue}
use Rattle.std.specs.FinMap.{empty}
use Rattle.std.proofs.Math.Seq.{take-append_seam}
use Rattle.std.proofs.lemmas.Bool.Decides.{leb_tells}
use Rattle.std.proofs.lemmas.List.{take-append-le, append-nil, length-set, length_push, length-replicate, get_or_push, get_or_append_left}
use Rattle.std.proofs.lemmas.Option.{slice_get_within, slice_get-get_or, get_or_from_slice_get}
use Rattle.spec_ledger.specs.declared.Receipt.{Receipt}
use Rattle.spec_ledger.specs.Cells.{Cells}
use Rattle.spec_ledger.specs.Modes.{Modes}
use Rattle.storage.specs.Counts.{Counts}
use Rattle.spec_execution.specs.Configuration.{Setting}
use Rattle.spec_execution.specs.Run.{ContractCall}
use Rattle.spec_execution.specs.Exec.{Executes}
use Rattle.spec_execution.specs.Serial.{CallResult, Serial}
use Rattle.serial.specs.Positions.{results_of}
use Rattle.serial.proofs.Orders.{Serial-push, results_of-push}
use Rattle.publish.specs.Publication.{Publication, limits, fuel_of_results, IsSerialOrder, MayFollow, HasTaken, HasGoneOn, is_marked, IsKept}
use Rattle.serial.proofs.Limits.{limit_at, executes_within}
use Rattle.publish.proofs.Limits.{limits_of-push, fuel_of_results-push}
use Rattle.publish.proofs.Marks.{marks_none, marks_more, unmarked_new, new_unmarked}

-- a position of an order with one call more: an old one, or the last
pub last_or_before : (order : List ℕ) (n position call : ℕ) → slice_get (order ++ n ∷ []) position ≡ Some call → ((position < length order) × (slice_get order position ≡ Some call)) ⊎ ((position ≡ length order) × (call ≡ n))
last_or_before order n position call at =
    let l = length_push order n in
    let within = slice_get_within (order ++ n ∷ []) position call at in
    let is : get_or (order ++ n ∷ []) position 0 ≡ call = get_or_from_slice_get (order ++ n ∷ []) position call 0 at in
    elim (leb_tells (length order) position) [
      | inl y ↦ let last : position ≡ length order = (let le = y.1 in omega arith) in inr (last, sym is ∙ get_or_push order n 0 position (sym last))
      | inr z ↦ inl (z.1, slice_get-get_or order position 0 z.1 ∙ ap (λ x. Some x) (sym (get_or_append_left order (n ∷ []) 0 position z.1) ∙ is))
    ]

module _ (p : Publication) (n : ℕ) (call : ContractCall) (at : slice_get p.calls n ≡ Some call) (follows : MayFollow p n) (next : Cells) (r : CallResult)
    (executed : Executes p.setting call p.cells next r.receipt r.touched) (o : IsSerialOrder p) where
  abbrev followed : Publication
  followed = record p { order = p.order ++ n ∷ []; ran = p.ran ++ r ∷ []; cells = next }

  distinct_more : (position k : ℕ) → slice_get (p.order ++ n ∷ []) position ≡ Some k → ¬ (Contains (take position (p.order ++ n ∷ [])) k)
  distinct_more position k is =
      elim (last_or_before p.order n position k is) [
        | inl before ↦ λ h. o.distinct position k before.1 (subst (λ xs. Contains xs k) (take-append-le position p.order (n ∷ []) (let lt = before.0 in omega arith)) h)
        | inr last ↦ λ h. follows.room.new (subst (Contains p.order) last.1 (subst (λ xs. Contains xs k) (ap (λ i. take i (p.order ++ n ∷ [])) last.0 ∙ take-append_seam p.order (n ∷ [])) h))
      ]

  known_more : (position k : ℕ) → slice_get (p.order ++ n ∷ []) position ≡ Some k → k < length p.calls
  known_more position k is =
      elim (last_or_before p.order n position k is) [
        | inl before ↦ o.known position k before.1
        | inr last ↦ subst (λ x. x < length p.calls) (sym last.1) follows.known
      ]

  pub order_more : IsSerialOrder followed
  order_more = record {
    serial = Serial-push p.setting p.calls p.order p.opening p.cells next p.ran n r call o.serial at executed;
    distinct = distinct_more;
    known = known_more;
    within = let push = limits_of-push (limits p.calls) p.order n in let fits = follows.room.fits in let within = o.within in omega arith;
  }

-- the parts of what is kept beside
pub record WalkState : Type 0 where
  pub order : List ℕ
  pub receipts : List Receipt
  pub touched : List Modes
  pub marks : List Bool
  pub remaining : ℕ
  pub used : ℕ
  pub counts : Counts

abbrev pub with_parts : Publication → Cells → WalkState → Publication
with_parts p cells b = record p { order = b.order; ran = results_of b.receipts b.touched; cells = cells }

abbrev pub IsKeptWith : Publication → Cells → WalkState → Type 0
IsKeptWith p cells b = IsKept (with_parts p cells b) b.receipts b.touched b.marks b.remaining b.used b.counts

-- nothing is published
module _ (setting : Setting) (calls : List ContractCall) (opening : Cells) (fuel : ℕ) where
  abbrev pub opened : Publication
  opened = record { setting = setting; calls = calls; opening = opening; fuel = fuel; order = []; ran = []; cells = opening }

  pub kept_none : (counts : Counts) → length calls < 2 ^ 32 → counts ≡ empty → IsKept opened [] [] (replicate (length calls) false) fuel 0 counts
  kept_none counts few settled = record {
    order = record { serial = refl; distinct = λ position k is. absurd (let h = slice_get_within {A = ℕ} [] position k is in omega arith); known = λ position k is. absurd (let h = slice_get_within {A = ℕ} [] position k is in omega arith); within = omega arith };
    even = refl;
    marks_are = marks_none (length calls);
    size = length-replicate (length calls) false;
    rest = omega arith;
    used_is = refl;
    used_within = omega arith;
    numbered = few;
    settled = settled;
  }

  pub kept_opened : (b : WalkState) (current : Cells) → length calls < 2 ^ 32 → current ≡ opening → b.order ≡ [] → b.receipts ≡ [] → b.touched ≡ [] → b.marks ≡ replicate (length calls) false → b.remaining ≡ fuel → b.used ≡ 0 → b.counts ≡ empty → IsKeptWith opened current b
  kept_opened b current few cells order receipts touched marks remaining used counts =
      let none : WalkState = record { order = []; receipts = []; touched = []; marks = replicate (length calls) false; remaining = fuel; used = 0; counts = empty } in
      let is : b ≡ none = λ k. record { order = order k; receipts = receipts k; touched = touched k; marks = marks k; remaining = remaining k; used = used k; counts = counts k } in
      subst (λ x. IsKeptWith opened x b) (sym cells) (subst (IsKeptWith opened opening) (sym is) (kept_none empty few refl))

-- one call more
module _ (p : Publication) (b : WalkState) (n limit : ℕ) (call : ContractCall) (next : Cells) (r : Receipt) (m : Modes) (kept : IsKeptWith p p.cells b)
    (at : slice_get p.calls n ≡ Some call) (limit_is : limit ≡ call.fuel) (follows : MayFollow (with_parts p p.cells b) n)
    (executed : Executes p.setting call p.cells next r m) where
  pub fits : limit ≤ b.remaining
  fits = let f = follows.room.fits in let l = limit_at p.calls n call at in let rest = kept.rest in omega arith

  pub fits_used : p.fuel < 2 ^ 64 → b.used + r.used < 2 ^ 64
  fits_used top =
      let within = executes_within p.setting call p.cells next r m executed in
      let f = fits in let rest = kept.rest in let used = kept.used_within in omega arith

  abbrev pub more : WalkState
  more = record { order = b.order ++ n ∷ []; receipts = b.receipts ++ r ∷ []; touched = b.touched ++ m ∷ []; marks = slice_set b.marks n true; remaining = b.remaining - limit; used = b.used + r.used; counts = empty }

  pub kept_more : IsKeptWith p next more
  kept_more =
      let pushed = results_of-push b.receipts b.touched r m kept.even in
      let limits_more = limits_of-push (limits p.calls) b.order n in
      let limit_of = limit_at p.calls n call at in
      let used_more = fuel_of_results-push (results_of b.receipts b.touched) (record { receipt = r; touched = m }) in
      let rest = kept.rest in
      let within = executes_within p.setting call p.cells next r m executed in
      record {
        order = subst (λ ran. IsSerialOrder (record p { order = b.order ++ n ∷ []; ran = ran; cells = next })) (sym pushed)
            (order_more (with_parts p p.cells b) n call at follows next (record { receipt = r; touched = m }) executed kept.order);
        even = length_push b.receipts r ∙ ap (λ k. k + 1) kept.even ∙ sym (length_push b.touched m);
        marks_are = marks_more b.marks b.order n kept.marks_are (let size = kept.size in let known = follows.known in omega arith);
        size = length-set b.marks n true ∙ kept.size;
        rest = let f = fits in omega arith;
        used_is = ap (λ k. k + r.used) kept.used_is ∙ sym used_more ∙ ap fuel_of_results (sym pushed);
        used_within = let u = kept.used_within in omega arith;
        numbered = kept.numbered;
        settled = refl;
      }

  -- by room that was made before
  pub is_more : (room after : WalkState) → room.order ≡ b.order → room.receipts ≡ b.receipts → room.touched ≡ b.touched → room.marks ≡ b.marks → room.remaining ≡ b.remaining → room.used ≡ b.used
      → after.order ≡ room.order ++ n ∷ [] → after.receipts ≡ room.receipts ++ r ∷ [] → after.touched ≡ room.touched ++ m ∷ [] → after.marks ≡ slice_set room.marks n true → after.remaining ≡ room.remaining - limit → after.used ≡ room.used + r.used → after.counts ≡ empty
      → after ≡ more
  is_more room after o rs ms marks rest used o' rs' ms' marks' rest' used' counts = λ k. record {
    order = (o' ∙ ap (λ xs. xs ++ n ∷ []) o) k;
    receipts = (rs' ∙ ap (λ xs. xs ++ r ∷ []) rs) k;
    touched = (ms' ∙ ap (λ xs. xs ++ m ∷ []) ms) k;
    marks = (marks' ∙ ap (λ xs. slice_set xs n true) marks) k;
    remaining = (rest' ∙ ap (λ x. x - limit) rest) k;
    used = (used' ∙ ap (λ x. x + r.used) used) k;
    counts = counts k;
  }

  pub kept_after : (after : WalkState) → after ≡ more → IsKeptWith p next after
  kept_after after is = subst (IsKeptWith p next) (sym is) kept_more

  pub taken_after : (after : WalkState) → after ≡ more → HasTaken (with_parts p p.cells b) n (with_parts p next after)
  taken_after after is = record {
    call = call;
    ran = record { receipt = r; touched = m };
    at = at;
    executed = executed;
    is = ap (with_parts p next) is ∙ ap (λ ran. record p { order = b.order ++ n ∷ []; ran = ran; cells = next }) (results_of-push b.receipts b.touched r m kept.even);
  }

-- whether a call may follow, by what is kept
pub may_follow : (p : Publication) (b : WalkState) (n : ℕ) (call : ContractCall) → IsKeptWith p p.cells b → slice_get p.calls n ≡ Some call → (answer : Bool) → IsTrue answer ↔ ((is_marked b.marks n ≡ false) × (call.fuel ≤ b.remaining)) → IsTrue answer ↔ MayFollow (with_parts p p.cells b) n
may_follow p b n call kept at answer says =
    let l = limit_at p.calls n call at in
    let rest = kept.rest in (
      λ t. let s = says.0 t in record { known = slice_get_within p.calls n call at; room = record { new = unmarked_new b.marks b.order n kept.marks_are s.0; fits = (let f = s.1 in omega arith) } },
      λ f. says.1 (new_unmarked b.marks b.order n kept.marks_are f.room.new, (let h = f.room.fits in let within = kept.order.within in omega arith)),
    )

-- ---- what stands

pub gone_nowhere : (p : Publication) → HasGoneOn p p
gone_nowhere p = record { same = record { setting = refl; calls = refl; opening = refl; fuel = refl }; more = []; order = sym (append-nil p.order); more_ran = []; ran = sym (append-nil p.ran) }

pub gone_further : (p q r : Publication) (n : ℕ) → HasGoneOn p q → HasTaken q n r → HasGoneOn p r
gone_further p q r n g t = record {
  same = record {
    setting = ap (λ (x : Publication). x.setting) t.is ∙ g.same.setting;
    calls = ap (λ (x : Publication). x.calls) t.is ∙ g.same.calls;
    opening = ap (λ (x : Publication). x.opening) t.is ∙ g.same.opening;
    fuel = ap (λ (x : Publication). x.fuel) t.is ∙ g.same.fuel;
  };
  more = g.more ++ n ∷ [];
  order = ap (λ (x : Publication). x.order) t.is ∙ ap (λ xs. xs ++ n ∷ []) g.order ∙ append_assoc p.order g.more (n ∷ []);
  more_ran = g.more_ran ++ t.ran ∷ [];
  ran = ap (λ (x : Publication). x.ran) t.is ∙ ap (λ xs. xs ++ t.ran ∷ []) g.ran ∙ append_assoc p.ran g.more_ran (t.ran ∷ []);
}

-- ---- how much there is

serial_length : (setting : Setting) (calls : List ContractCall) (order : List ℕ) (cells last : Cells) (rs : List CallResult) → Serial setting calls order cells rs last → length rs ≡ length order
serial_length setting calls [] cells last [] s = refl
serial_length setting calls [] cells last (x ∷ rs) s = absurd s
serial_length setting calls (n ∷ order) cells last [] s = absurd s
serial_length setting calls (n ∷ order) cells last (x ∷ rs) s = ap (λ k. suc k) (serial_length setting calls order s.1 last rs s.4)

positions_length : (rs : List Receipt) (ms : List Modes) → length rs ≡ length ms → length (results_of rs ms) ≡ length rs
positions_length [] ms e = refl
positions_length (r ∷ rs) [] e = absurd (omega (arith, e))
positions_length (r ∷ rs) (m ∷ ms) e = ap (λ k. suc k) (positions_length rs ms (omega (arith, e)))

pub as_many : (p : Publication) (b : WalkState) → IsKeptWith p p.cells b → (length b.receipts ≡ length b.order) × (length b.touched ≡ length b.order)
as_many p b kept =
    let all = serial_length p.setting p.calls b.order p.opening p.cells (results_of b.receipts b.touched) kept.order.serial in
    let receipts = positions_length b.receipts b.touched kept.even in
    let even = kept.even in (omega arith, omega arith)
