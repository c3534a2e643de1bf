-- The modes of all calls, as one call's entry is read, written and taken out.
use Rattle.std.proofs.Common.{◌≡◌, ℕ, ◌<◌, true, false, cond, Option, Some, None, Result, Ok, Err, OnOk, OnErr, List, [], length, get_or, set, replicate, refl, sym, ◌∙◌, ap, arith}
use Rattle.std.proofs.lemmas.List.{length-set, length-replicate, get_or-replicate, get_or-set_same, get_or-set_other}
use Rattle.std.proofs.lemmas.List.FromFn.{length-map-range_with_len, get_or-map-range_with_len, fill_by_all}
use Rattle.std.specs.Ordering.{nat_cmp, eq_by_cmp, is_eq}
use Rattle.std.specs.Cmp.{nat_cmp_total}
use Rattle.std.specs.Option.{unwrap_or}
use Rattle.std.specs.FinMap.{empty, get, insert, get-insert, get-empty, nat_cmp-IsAntisymmetric}
use Rattle.std.specs.Map.{lookup}
use Rattle.std.specs.BTreeMap as tree
use Rattle.std.specs.BTreeMap.{BTreeMap}
use Rattle.spec_ledger.specs.declared.Lock.{Lock}
use Rattle.spec_ledger.specs.declared.Mode.{Mode}
use Rattle.spec_ledger.specs.Cells.{lock_cmp}
use Rattle.spec_ledger.specs.Modes.{Modes}
use Rattle.spec_ledger.proofs.Maps.{is_key, key_itself, lock_cmp_total, lock_cmp-IsAntisymmetric}
use Rattle.abstract_locks.specs.Calls.{EachHolds, row_of, rows_of}

pub length_rows : (held : BTreeMap ℕ Modes) (calls : ℕ) → length (rows_of held calls) ≡ calls
length_rows held calls = length-map-range_with_len (row_of held) 0 calls

-- a call's row is that of its entry
pub row_found : (held : BTreeMap ℕ Modes) (calls call : ℕ) → call < length (rows_of held calls) → (entry : Option Modes) → entry ≡ tree.get nat_cmp held call → unwrap_or entry empty ≡ get_or (rows_of held calls) call empty
row_found held calls call below entry is =
    ap (λ o. unwrap_or o empty) is
    ∙ sym (get_or-map-range_with_len (row_of held) 0 calls call call empty (let n = length_rows held calls in omega (arith, n, below)) (omega arith))

-- what an entry becomes is what the call's row becomes
pub row_written : (held after : BTreeMap ℕ Modes) (calls call : ℕ) → call < length (rows_of held calls) → (entry : Option Modes)
    → ((q : ℕ) → tree.get nat_cmp after q ≡ cond (eq_by_cmp nat_cmp call q) entry (tree.get nat_cmp held q)) → rows_of after calls ≡ set (rows_of held calls) call (unwrap_or entry empty)
row_written held after calls call below entry h =
    sym (fill_by_all (row_of after) (set (rows_of held calls) call (unwrap_or entry empty)) calls empty
    (length-set (rows_of held calls) call (unwrap_or entry empty) ∙ length_rows held calls)
    (λ k lt.
    elim (eq_by_cmp nat_cmp call k) as (λ b. eq_by_cmp nat_cmp call k ≡ b → get_or (set (rows_of held calls) call (unwrap_or entry empty)) k empty ≡ row_of after k) [
      | true ↦ λ e.
          let same : call ≡ k = is_key nat_cmp_total nat_cmp-IsAntisymmetric call k e in
          ap (λ j. get_or (set (rows_of held calls) call (unwrap_or entry empty)) j empty) (sym same)
          ∙ get_or-set_same (rows_of held calls) call (unwrap_or entry empty) empty below
          ∙ sym (ap (λ o. unwrap_or o empty) (h k ∙ ap (λ b. cond b entry (tree.get nat_cmp held k)) e))
      | false ↦ λ e.
          let apart : ¬ (k ≡ call) = λ s. let no : true ≡ false = sym (key_itself nat_cmp_total nat_cmp-IsAntisymmetric k) ∙ ap (λ j. eq_by_cmp nat_cmp j k) s ∙ e in cc in
          get_or-set_other (rows_of held calls) call k (unwrap_or entry empty) empty apart
          ∙ get_or-map-range_with_len (row_of held) 0 calls k k empty lt (omega arith)
          ∙ sym (ap (λ o. unwrap_or o empty) (h k ∙ ap (λ b. cond b entry (tree.get nat_cmp held k)) e))
    ] refl))

-- without entries, all rows are empty
pub no_rows : (held : BTreeMap ℕ Modes) (calls : ℕ) → held.entries ≡ [] → rows_of held calls ≡ replicate calls empty
no_rows held calls none =
    sym (fill_by_all (row_of held) (replicate calls empty) calls empty (length-replicate calls empty)
    (λ k lt. get_or-replicate calls k empty empty lt ∙ sym (ap (λ (es : List (ℕ × Modes)). unwrap_or (lookup (λ q. is_eq (nat_cmp k q)) es) empty) none)))

-- an entry written after a look that found none
pub written_after : (held looked after : BTreeMap ℕ Modes) (call : ℕ) (entry : Option Modes) → looked ≡ held → ((q : ℕ) → tree.get nat_cmp after q ≡ cond (eq_by_cmp nat_cmp call q) entry (tree.get nat_cmp looked q))
    → (q : ℕ) → tree.get nat_cmp after q ≡ cond (eq_by_cmp nat_cmp call q) entry (tree.get nat_cmp held q)
written_after held looked after call entry same h q = h q ∙ ap (λ (m : BTreeMap ℕ Modes). cond (eq_by_cmp nat_cmp call q) entry (tree.get nat_cmp m q)) same

-- ---- each entry is of a call that holds something

pub something : (m : Modes) (l : Lock) (mode : Mode) → ¬ (insert m l mode ≡ empty)
something m l mode e =
    let there : get (insert m l mode) l ≡ Some mode = get-insert lock_cmp_total m l mode l ∙ ap (λ b. cond b (Some mode) (get m l)) (key_itself lock_cmp_total lock_cmp-IsAntisymmetric l) in
    let no : Some mode ≡ None = sym there ∙ ap (λ x. get x l) e ∙ get-empty lock_cmp l in
    cc

pub each_written : (held after : BTreeMap ℕ Modes) (call : ℕ) (entry : Option Modes) → EachHolds held → ¬ (entry ≡ Some empty)
    → ((q : ℕ) → tree.get nat_cmp after q ≡ cond (eq_by_cmp nat_cmp call q) entry (tree.get nat_cmp held q)) → EachHolds after
each_written held after call entry each holds h q e =
    elim (eq_by_cmp nat_cmp call q) as (λ b. cond b entry (tree.get nat_cmp held q) ≡ Some empty → ⊥) [ true ↦ holds | false ↦ each q ] (sym (h q) ∙ e)

-- a holder after it was asked to hold one lock more
pub still_something : {E : Type 0} (r : Result (Unit {0}) E) (m n : Modes) (l : Lock) (mode : Mode) → OnOk r (n ≡ insert m l mode) → OnErr r (n ≡ m) → ¬ (Some m ≡ Some empty) → ¬ (Some n ≡ Some empty)
still_something (Ok u) m n l mode ok err holds e = something m l mode (sym ok ∙ ap (λ o. unwrap_or o empty) e)
still_something (Err u) m n l mode ok err holds e = holds (ap Some (sym err) ∙ e)
