-- Cells are read exactly.
use Rattle.std.proofs.Common.{◌≡◌, ◌≢◌, ℕ, ◌^◌, ◌<◌, ◌≤◌, true, false, cond, ltb, eqb, List, ◌++◌, length, Option, Some, None, Ok, Err, Ordering, Less, Equal, Greater, refl, sym, ap, subst, ◌∙◌, append_assoc, arith}
use Rattle.std.specs.Int.{w32, w64, to_le_bytes}
use Rattle.std.specs.List.{flat_map}
use Rattle.std.proofs.lemmas.Bool.{eqb-true, ltb-true, le-ltb}
use Rattle.std.specs.Ordering.{is_lt, ordering_then, nat_cmp}
use Rattle.spec_ledger.specs.declared.Kind.{Kind}
use Rattle.spec_ledger.specs.declared.Kind.TheVariants.{Map, Counter}
use Rattle.spec_ledger.specs.declared.Lock.{Lock}
use Rattle.spec_ledger.specs.Cells.{rank}
use Rattle.spec_block.specs.Bytes.{cell_bytes}
use Rattle.records.specs.declared.fault.Fault.TheVariants.{Malformed}
use Rattle.records.specs.Reading.{Read, ◌>>=◌, number_at, after_count}
use Rattle.records.specs.Exact.{AreBytes, Takes, ReadsExactly}
use Rattle.records.proofs.Steps.{bind_ok, guard_ok, guard_holds, ok_is, Takes-then}
use Rattle.records.proofs.Numbers.{u32_exact, u64_exact}
use Rattle.records.proofs.Items.{counted_take, counted_again}
use Rattle.world.specs.Cells.{Cell, falls, is_after, is_missing, contract_at, lock_at, value_at, cell_at, list_at, lists_at, IsNextCell, AreCellsOf, AreLists, list_bytes, lists_bytes}

-- ---- a cell's parts

record IsContract (before : Option Cell) (contract : ℕ) : Type 0 where
  pub fits : contract < 2 ^ 32
  pub rises : falls before contract ≡ false

contract_takes : (before : Option Cell) (bytes : List ℕ) (x : ℕ × List ℕ) → AreBytes bytes → contract_at before bytes ≡ Ok x → Takes bytes (to_le_bytes w32 x.0) x.1 × IsContract before x.0
unfolding contract_at
contract_takes before bytes x bounded e =
    let a = bind_ok (number_at w32 bytes) (λ contract. cond (falls before contract.0) (Err (Malformed (length bytes))) (Ok contract)) x e in
    let g = guard_ok (falls before a.0.0) (Malformed (length bytes)) (Ok a.0) x a.2 in
    subst (λ (y : ℕ × List ℕ). Takes bytes (to_le_bytes w32 y.0) y.1 × IsContract before y.0) (ok_is a.0 x g.1)
    (u32_exact.takes bytes a.0 bounded a.1, record { fits = u32_exact.fits bytes a.0 bounded a.1; rises = g.0 })

contract_again : (before : Option Cell) (contract : ℕ) (rest : List ℕ) → IsContract before contract → contract_at before (to_le_bytes w32 contract ++ rest) ≡ Ok (contract, rest)
unfolding contract_at
contract_again before contract rest is = rw (u32_exact.again contract rest is.fits, is.rises) refl

abbrev lock : Kind → ℕ → ℕ → Lock
lock kind contract key = record { contract = contract; kind = kind; key = key }

record IsKey (kind : Kind) (before : Option Cell) (contract : ℕ) (l : Lock) : Type 0 where
  pub is : l ≡ lock kind contract l.key
  pub fits : l.key < 2 ^ 64
  pub after : is_after before l ≡ true

lock_takes : (kind : Kind) (before : Option Cell) (contract : ℕ) (bytes : List ℕ) (x : Lock × List ℕ) → AreBytes bytes → lock_at kind before contract bytes ≡ Ok x → Takes bytes (to_le_bytes w64 x.0.key) x.1 × IsKey kind before contract x.0
unfolding lock_at
lock_takes kind before contract bytes x bounded e =
    let judged : ℕ × List ℕ → Read Lock = λ key. cond (is_after before (lock kind contract key.0)) (Ok (lock kind contract key.0, key.1)) (Err (Malformed (length bytes))) in
    let a = bind_ok (number_at w64 bytes) judged x e in
    let made : Lock × List ℕ = (lock kind contract a.0.0, a.0.1) in
    let g = guard_holds (is_after before made.0) (Malformed (length bytes)) (Ok made) x a.2 in
    subst (λ (y : Lock × List ℕ). Takes bytes (to_le_bytes w64 y.0.key) y.1 × IsKey kind before contract y.0) (ok_is made x g.1)
    (u64_exact.takes bytes a.0 bounded a.1, record { is = refl; fits = u64_exact.fits bytes a.0 bounded a.1; after = g.0 })

lock_again : (kind : Kind) (before : Option Cell) (contract key : ℕ) (rest : List ℕ) → key < 2 ^ 64 → is_after before (lock kind contract key) ≡ true → lock_at kind before contract (to_le_bytes w64 key ++ rest) ≡ Ok (lock kind contract key, rest)
unfolding lock_at
lock_again kind before contract key rest fits after = rw (u64_exact.again key rest fits, after) refl

record IsValue (kind : Kind) (value : ℕ) : Type 0 where
  pub fits : value < 2 ^ 64
  pub there : is_missing kind value ≡ false

value_takes : (kind : Kind) (bytes : List ℕ) (x : ℕ × List ℕ) → AreBytes bytes → value_at kind bytes ≡ Ok x → Takes bytes (to_le_bytes w64 x.0) x.1 × IsValue kind x.0
unfolding value_at
value_takes kind bytes x bounded e =
    let a = bind_ok (number_at w64 bytes) (λ value. cond (is_missing kind value.0) (Err (Malformed (length bytes))) (Ok value)) x e in
    let g = guard_ok (is_missing kind a.0.0) (Malformed (length bytes)) (Ok a.0) x a.2 in
    subst (λ (y : ℕ × List ℕ). Takes bytes (to_le_bytes w64 y.0) y.1 × IsValue kind y.0) (ok_is a.0 x g.1)
    (u64_exact.takes bytes a.0 bounded a.1, record { fits = u64_exact.fits bytes a.0 bounded a.1; there = g.0 })

value_again : (kind : Kind) (value : ℕ) (rest : List ℕ) → IsValue kind value → value_at kind (to_le_bytes w64 value ++ rest) ≡ Ok (value, rest)
unfolding value_at
value_again kind value rest is = rw (u64_exact.again value rest is.fits, is.there) refl

-- ---- a cell

-- a lock that is above another one is of no lower contract
no_fall : (a b : ℕ) (others : Ordering) → is_lt (ordering_then (nat_cmp a b) others) ≡ true → ltb b a ≡ false
no_fall a b others e =
    elim (ltb a b) as (λ t. ltb a b ≡ t → is_lt (ordering_then (cond t Less (cond (eqb a b) Equal Greater)) others) ≡ true → ltb b a ≡ false) [
      | true ↦ λ l _. le-ltb _ _ (let h = ltb-true a b l in omega (arith, h))
      | false ↦ λ _ f. elim (eqb a b) as (λ t. eqb a b ≡ t → is_lt (ordering_then (cond t Equal Greater) others) ≡ true → ltb b a ≡ false) [
        | true ↦ λ s _. le-ltb _ _ (let h = eqb-true a b s in omega (arith, h))
        | false ↦ λ _ g. absurd (cc g)
      ] refl f
    ] refl e

no_fall_after : (before : Option Cell) (l : Lock) → is_after before l ≡ true → falls before l.contract ≡ false
no_fall_after None l e = refl
no_fall_after (Some b) l e = no_fall b.0.contract l.contract (ordering_then (nat_cmp (rank b.0.kind) (rank l.kind)) (nat_cmp b.0.key l.key)) e

missing_is : (kind : Kind) (value : ℕ) → is_missing kind value ≡ false → kind ≡ Counter → value ≢ 0
missing_is Map value e k = absurd (cc k)
missing_is Counter value e k = λ z. absurd (let t : eqb 0 0 ≡ false = subst (λ v. eqb v 0 ≡ false) z e in cc t)

there_is : (kind : Kind) (value : ℕ) → (kind ≡ Counter → value ≢ 0) → is_missing kind value ≡ false
there_is Map value h = refl
there_is Counter value h = elim (eqb value 0) as (λ t. eqb value 0 ≡ t → t ≡ false) [ true ↦ λ e. absurd (h refl (eqb-true value 0 e)) | false ↦ λ e. refl ] refl

cell_takes : (kind : Kind) (before : Option Cell) (bytes : List ℕ) (x : Cell × List ℕ) → AreBytes bytes → cell_at kind before bytes ≡ Ok x → Takes bytes (cell_bytes x.0) x.1 × IsNextCell kind before x.0
unfolding cell_at
cell_takes kind before bytes x bounded e =
    let a = bind_ok (contract_at before bytes) (λ contract. lock_at kind before contract.0 contract.1 >>= λ lock. value_at kind lock.1 >>= λ value. Ok ((lock.0, value.0), value.1)) x e in
    let b = bind_ok (lock_at kind before a.0.0 a.0.1) (λ lock. value_at kind lock.1 >>= λ value. Ok ((lock.0, value.0), value.1)) x a.2 in
    let c = bind_ok (value_at kind b.0.1) (λ value. Ok ((b.0.0, value.0), value.1)) x b.2 in
    let ta = contract_takes before bytes a.0 bounded a.1 in
    let tb = lock_takes kind before a.0.0 a.0.1 b.0 ta.0.rest_fits b.1 in
    let tc = value_takes kind b.0.1 c.0 tb.0.rest_fits c.1 in
    let made : Cell × List ℕ = ((b.0.0, c.0.0), c.0.1) in
    let contract_is : b.0.0.contract ≡ a.0.0 = ap (λ (l : Lock). l.contract) tb.1.is in
    let kind_is : b.0.0.kind ≡ kind = ap (λ (l : Lock). l.kind) tb.1.is in
    let ab = Takes-then bytes (to_le_bytes w32 a.0.0) a.0.1 (to_le_bytes w64 b.0.0.key) b.0.1 ta.0 tb.0 in
    let abc = Takes-then bytes (to_le_bytes w32 a.0.0 ++ to_le_bytes w64 b.0.0.key) b.0.1 (to_le_bytes w64 c.0.0) c.0.1 ab tc.0 in
    let all : Takes bytes (cell_bytes made.0) made.1 = subst (λ (n : ℕ). Takes bytes (to_le_bytes w32 n ++ to_le_bytes w64 b.0.0.key ++ to_le_bytes w64 c.0.0) c.0.1) (sym contract_is) abc in
    let is : IsNextCell kind before made.0 = record {
      cell = record { contract = subst (λ (n : ℕ). n < 2 ^ 32) (sym contract_is) ta.1.fits; key = tb.1.fits; number = tc.1.fits; not_zero = λ k. missing_is kind c.0.0 tc.1.there (sym kind_is ∙ k) };
      kind_is = kind_is;
      after = tb.1.after;
    } in
    subst (λ (y : Cell × List ℕ). Takes bytes (cell_bytes y.0) y.1 × IsNextCell kind before y.0) (ok_is made x c.2) (all, is)

cell_again : (kind : Kind) (before : Option Cell) (c : Cell) (rest : List ℕ) → IsNextCell kind before c → cell_at kind before (cell_bytes c ++ rest) ≡ Ok (c, rest)
unfolding cell_at
cell_again kind before c rest is =
    let contract = to_le_bytes w32 c.0.contract in let key = to_le_bytes w64 c.0.key in let value = to_le_bytes w64 c.1 in
    let regrouped : cell_bytes c ++ rest ≡ contract ++ (key ++ (value ++ rest)) = append_assoc (contract ++ key) value rest ∙ append_assoc contract key (value ++ rest) in
    let same : lock kind c.0.contract c.0.key ≡ c.0 = ap (λ (k : Kind). lock k c.0.contract c.0.key) (sym is.kind_is) in
    let after : is_after before (lock kind c.0.contract c.0.key) ≡ true = subst (λ (l : Lock). is_after before l ≡ true) (sym same) is.after in
    ap (cell_at kind before) regrouped
    ∙ rw (
      contract_again before c.0.contract (key ++ (value ++ rest)) (record { fits = is.cell.contract; rises = no_fall_after before c.0 is.after }),
      lock_again kind before c.0.contract c.0.key (value ++ rest) is.cell.key after,
      value_again kind c.1 rest (record { fits = is.cell.number; there = there_is kind c.1 (λ k. is.cell.not_zero (is.kind_is ∙ k)) }),
    ) (ap (λ (l : Lock). Ok ((l, c.1), rest)) same)

cell_exact : (kind : Kind) (before : Option Cell) → ReadsExactly (cell_at kind before) cell_bytes (IsNextCell kind before)
cell_exact kind before = record {
  takes = λ bytes x bounded e. (cell_takes kind before bytes x bounded e).0;
  fits = λ bytes x bounded e. (cell_takes kind before bytes x bounded e).1;
  again = cell_again kind before;
}

-- ---- lists

list_takes : (kind : Kind) (bytes : List ℕ) (x : List Cell × List ℕ) → AreBytes bytes → list_at kind bytes ≡ Ok x → Takes bytes (list_bytes x.0) x.1 × AreCellsOf kind x.0
unfolding list_at
list_takes kind bytes x bounded e =
    let a = bind_ok (number_at w64 bytes) (after_count (cell_at kind) 20 (length bytes)) x e in
    let first = u64_exact.takes bytes a.0 bounded a.1 in
    let lt = u64_exact.fits bytes a.0 bounded a.1 in
    let second = counted_take (cell_at kind) cell_bytes (IsNextCell kind) (cell_exact kind) 20 (length bytes) a.0 x first.rest_fits a.2 in
    let both = Takes-then bytes (to_le_bytes w64 a.0.0) a.0.1 (flat_map cell_bytes x.0) x.1 first second.0 in (
      subst (λ (n : ℕ). Takes bytes (to_le_bytes w64 n ++ flat_map cell_bytes x.0) x.1) (sym second.1.0) both,
      record { count = subst (λ (n : ℕ). n < 2 ^ 64) (sym second.1.0) lt; each = second.1.1 },
    )

twenty : (c : Cell) → 20 ≤ length (cell_bytes c)
twenty c = omega arith

list_again : (kind : Kind) (cells : List Cell) (rest : List ℕ) → AreCellsOf kind cells → list_at kind (list_bytes cells ++ rest) ≡ Ok (cells, rest)
unfolding list_at
list_again kind cells rest are =
    let regrouped : list_bytes cells ++ rest ≡ to_le_bytes w64 (length cells) ++ (flat_map cell_bytes cells ++ rest) = append_assoc (to_le_bytes w64 (length cells)) (flat_map cell_bytes cells) rest in
    ap (list_at kind) regrouped ∙ rw (u64_exact.again (length cells) (flat_map cell_bytes cells ++ rest) are.count) (counted_again (cell_at kind) cell_bytes (IsNextCell kind) (cell_exact kind) 20 _ twenty cells rest are.each)

-- ---- both lists

lists_takes : (bytes : List ℕ) (x : (List Cell × List Cell) × List ℕ) → AreBytes bytes → lists_at bytes ≡ Ok x → Takes bytes (lists_bytes x.0) x.1 × AreLists x.0
unfolding lists_at
lists_takes bytes x bounded e =
    let a = bind_ok (list_at Map bytes) (λ maps. list_at Counter maps.1 >>= λ counters. Ok ((maps.0, counters.0), counters.1)) x e in
    let b = bind_ok (list_at Counter a.0.1) (λ counters. Ok ((a.0.0, counters.0), counters.1)) x a.2 in
    let ta = list_takes Map bytes a.0 bounded a.1 in
    let tb = list_takes Counter a.0.1 b.0 ta.0.rest_fits b.1 in
    let made : (List Cell × List Cell) × List ℕ = ((a.0.0, b.0.0), b.0.1) in
    subst (λ (y : (List Cell × List Cell) × List ℕ). Takes bytes (lists_bytes y.0) y.1 × AreLists y.0) (ok_is made x b.2)
    (Takes-then bytes (list_bytes a.0.0) a.0.1 (list_bytes b.0.0) b.0.1 ta.0 tb.0, (ta.1, tb.1))

lists_again : (lists : List Cell × List Cell) (rest : List ℕ) → AreLists lists → lists_at (lists_bytes lists ++ rest) ≡ Ok (lists, rest)
unfolding lists_at
lists_again lists rest are =
    ap lists_at (append_assoc (list_bytes lists.0) (list_bytes lists.1) rest) ∙ rw (list_again Map lists.0 (list_bytes lists.1 ++ rest) are.0, list_again Counter lists.1 rest are.1) refl

pub lists_exact : ReadsExactly lists_at lists_bytes AreLists
lists_exact = record {
  takes = λ bytes x bounded e. (lists_takes bytes x bounded e).0;
  fits = λ bytes x bounded e. (lists_takes bytes x bounded e).1;
  again = lists_again;
}
