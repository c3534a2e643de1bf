-- Bytes spell one world.
use Rattle.std.proofs.Common.{◌≡◌, ℕ, suc, ◌<◌, ◌≤◌, ◌^◌, Bool, true, false, cond, List, [], ◌∷◌, ◌++◌, Some, length, filter, flat_map, refl, sym, ap, subst, ◌∙◌, append_assoc, append-nil, arith}
use Rattle.std.proofs.Math.Logic.{∥∥₁_elim}
use base.Stored.{Coded-set, coded_list}
use Rattle.wtypes.specs.contracts.HostCall as host
use Rattle.std.specs.List.{AllByRecursion}
use Rattle.std.specs.Ordering.{eq_by_cmp}
use Rattle.std.specs.Cmp.{IsTotalOrder, on_total, then_total, nat_cmp_total, Equal-is}
use Rattle.std.specs.FinMap.{IsAntisymmetric, entries, get, find, get-entries, same_map}
use Rattle.wtypes.specs.declared.HostCall.{HostCall}
use Rattle.spec_modules.specs.Syntax.{Module}
use Rattle.spec_modules.specs.Shortest.{shortest}
use Rattle.spec_modules.specs.Spells.{Spells}
use Rattle.spec_ledger.specs.declared.Kind.{Kind}
use Rattle.spec_ledger.specs.declared.Kind.TheVariants.{Map, Counter}
use Rattle.spec_ledger.specs.declared.Lock.{Lock}
use Rattle.spec_ledger.specs.Cells.{Cells, lock_cmp, rank}
use Rattle.spec_typing.specs.Linking.{IsLinked}
use Rattle.spec_typing.specs.Laws.{IsResolvedOnce}
use Rattle.spec_block.specs.Worlds.{World}
use Rattle.spec_block.specs.Bytes.{u32_bytes, u64_bytes, counted, is_map, is_counter, contract_bytes, cell_bytes, cells_bytes, IsCell, IsTree, SpellsWorld}
use Rattle.spec_block.proofs.Locks.{lock_is}
use Rattle.spec_block.proofs.OneToOne.{halves, IsCode, code32, code64, list_code, counted_code}

pub lock_cmp_total : IsTotalOrder lock_cmp
lock_cmp_total = then_total (on_total (λ (a : Lock). a.contract) nat_cmp_total) (then_total (on_total (λ (a : Lock). rank a.kind) nat_cmp_total) (on_total (λ (a : Lock). a.key) nat_cmp_total))

pub lock_cmp-IsAntisymmetric : IsAntisymmetric lock_cmp
lock_cmp-IsAntisymmetric a b e = lock_is a b ((Equal-is (lock_cmp a b)).1 e)

-- ---- contracts

-- the linking is kept truncated, and equations of lists of host calls are propositions
hosts_set : IsSet (List HostCall)
hosts_set = Coded-set (coded_list host.the_row.coded)

-- no bytes spell two trees
abbrev pub TreesAreUnique : Type 0
TreesAreUnique = (bytes : List ℕ) (m n : Module) → Spells bytes m → Spells bytes n → m ≡ n

pub contract_code : TreesAreUnique → IsResolvedOnce → IsCode contract_bytes IsTree
contract_code unique once x y r s a b e =
    let small = (a.tree).bytes_fit in
    let small' = (b.tree).bytes_fit in
    let n = code32 (length (shortest x.tree)) (length (shortest y.tree)) (shortest x.tree ++ r) (shortest y.tree ++ s) (omega (arith, small)) (omega (arith, small')) e in
    let t = halves (shortest x.tree) (shortest y.tree) r s n.0 n.1 in
    let tree : x.tree ≡ y.tree = unique (shortest y.tree) x.tree y.tree (subst (λ (w : List ℕ). Spells w x.tree) t.0 a.tree) b.tree in
    let hosts : x.hosts ≡ y.hosts = ∥∥₁_elim a.linked (hosts_set x.hosts y.hosts) (λ one. ∥∥₁_elim b.linked (hosts_set x.hosts y.hosts) (λ other. once y.tree x.hosts y.hosts (subst (λ (m : Module). IsLinked m x.hosts) tree one) other)) in
    ((λ i. record { tree = tree i; hosts = hosts i }), t.1)

-- ---- cells

abbrev pub IsCellOf : Kind → Lock × ℕ → Type 0
IsCellOf kind c = IsCell c × (c.0.kind ≡ kind)

cell_code : (kind : Kind) → IsCode cell_bytes (IsCellOf kind)
cell_code kind x y r s a b e =
    let c = code32 x.0.contract y.0.contract (u64_bytes x.0.key ++ (u64_bytes x.1 ++ r)) (u64_bytes y.0.key ++ (u64_bytes y.1 ++ s)) (a.0).contract (b.0).contract e in
    let k = code64 x.0.key y.0.key (u64_bytes x.1 ++ r) (u64_bytes y.1 ++ s) (a.0).key (b.0).key c.1 in
    let v = code64 x.1 y.1 r s (a.0).number (b.0).number k.1 in
    let same : x.0.kind ≡ y.0.kind = a.1 ∙ sym b.1 in
    ((λ i. (record { contract = c.0 i; kind = same i; key = k.0 i }, v.0 i)), v.1)

abbrev these : (Kind → Bool) → List (Lock × ℕ) → List (Lock × ℕ)
these is es = filter (λ (c : Lock × ℕ). is c.0.kind) es

-- what a test that one kind passes keeps
pub kept : (is : Kind → Bool) (kind : Kind) → ((k : Kind) → is k ≡ true → k ≡ kind) → (es : List (Lock × ℕ)) → AllByRecursion IsCell es → AllByRecursion (IsCellOf kind) (these is es)
kept is kind only [] all = tt
kept is kind only (c ∷ es) all =
    elim (is c.0.kind) as (λ b. is c.0.kind ≡ b → AllByRecursion (IsCellOf kind) (cond b (c ∷ these is es) (these is es))) [
      | true ↦ λ e. ((all.0, only c.0.kind e), kept is kind only es all.1)
      | false ↦ λ e. kept is kind only es all.1
    ] refl

pub fewer : (is : Kind → Bool) (es : List (Lock × ℕ)) → length (these is es) ≤ length es
fewer is [] = omega arith
fewer is (c ∷ es) =
    let rest = fewer is es in
    elim (is c.0.kind) as (λ b. length (cond b (c ∷ these is es) (these is es)) ≤ suc (length es)) [ true ↦ omega (arith, rest) | false ↦ omega (arith, rest) ]

cells_code : (is : Kind → Bool) (kind : Kind) → ((k : Kind) → is k ≡ true → k ≡ kind) → (x y : Cells) (r s : List ℕ) → length (entries x) < 2 ^ 64 → length (entries y) < 2 ^ 64
    → AllByRecursion IsCell (entries x) → AllByRecursion IsCell (entries y) → cells_bytes is x ++ r ≡ cells_bytes is y ++ s → (these is (entries x) ≡ these is (entries y)) × (r ≡ s)
cells_code is kind only x y r s m n a b e =
    let p = fewer is (entries x) in
    let q = fewer is (entries y) in
    let c = code64 (length (these is (entries x))) (length (these is (entries y))) (flat_map cell_bytes (these is (entries x)) ++ r) (flat_map cell_bytes (these is (entries y)) ++ s) (omega (arith, p, m)) (omega (arith, q, n)) e in
    list_code cell_bytes (IsCellOf kind) (cell_code kind) (these is (entries x)) (these is (entries y)) r s c.0 (kept is kind only (entries x) a) (kept is kind only (entries y) b) c.1

-- a lock is found among the cells of its kind
found_kept : (is : Kind → Bool) (lock : Lock) → is lock.kind ≡ true → (es : List (Lock × ℕ)) → find lock_cmp lock (these is es) ≡ find lock_cmp lock es
found_kept is lock of [] = refl
found_kept is lock of (c ∷ es) =
    let rest = found_kept is lock of es in
    elim (is c.0.kind) as (λ b. is c.0.kind ≡ b → find lock_cmp lock (cond b (c ∷ these is es) (these is es)) ≡ cond (eq_by_cmp lock_cmp lock c.0) (Some c.1) (find lock_cmp lock es)) [
      | true ↦ λ e. ap (cond (eq_by_cmp lock_cmp lock c.0) (Some c.1)) rest
      | false ↦ λ e. passed (eq_by_cmp lock_cmp lock c.0) refl e rest
    ] refl
  where
    passed : (t : Bool) → eq_by_cmp lock_cmp lock c.0 ≡ t → is c.0.kind ≡ false → find lock_cmp lock (these is es) ≡ find lock_cmp lock es → find lock_cmp lock (these is es) ≡ cond t (Some c.1) (find lock_cmp lock es)
    passed true same e rest = absurd (let l = lock_is lock c.0 same in let k : is c.0.kind ≡ true = subst (λ (x : Lock). is x.kind ≡ true) l of in cc (k, e))
    passed false same e rest = rest

same_at : (is : Kind → Bool) (x y : Cells) (lock : Lock) → is lock.kind ≡ true → these is (entries x) ≡ these is (entries y) → get x lock ≡ get y lock
same_at is x y lock of e =
    get-entries x lock ∙ (sym (found_kept is lock of (entries x)) ∙ (ap (find lock_cmp lock) e ∙ (found_kept is lock of (entries y) ∙ sym (get-entries y lock))))

same_cells : (x y : Cells) → these is_map (entries x) ≡ these is_map (entries y) → these is_counter (entries x) ≡ these is_counter (entries y) → x ≡ y
same_cells x y maps counters = same_map lock_cmp_total lock_cmp-IsAntisymmetric x y at_lock
  where
    at_kind : (k : Kind) (lock : Lock) → lock.kind ≡ k → get x lock ≡ get y lock
    at_kind Map lock e = same_at is_map x y lock (ap is_map e) maps
    at_kind Counter lock e = same_at is_counter x y lock (ap is_counter e) counters

    at_lock : (lock : Lock) → get x lock ≡ get y lock
    at_lock lock = at_kind lock.kind lock refl

pub only_map : (k : Kind) → is_map k ≡ true → k ≡ Map
only_map Map e = refl
only_map Counter e = absurd (cc e)

pub only_counter : (k : Kind) → is_counter k ≡ true → k ≡ Counter
only_counter Map e = absurd (cc e)
only_counter Counter e = refl

pub one_world : TreesAreUnique → IsResolvedOnce → (bytes : List ℕ) (v w : World) → SpellsWorld bytes v → SpellsWorld bytes w → v ≡ w
one_world unique once bytes v w p q =
    let a = p.fits in let b = q.fits in
    let head : List ℕ = (0x57 ∷ 0x42 ∷ 0x57 ∷ 0x44 ∷ []) ++ u32_bytes 1 in
    let C = counted contract_bytes v.contracts in let D = counted contract_bytes w.contracts in
    let M = cells_bytes is_map v.cells in let N = cells_bytes is_map w.cells in
    let K = cells_bytes is_counter v.cells in let L = cells_bytes is_counter w.cells in
    let e : head ++ C ++ M ++ K ≡ head ++ D ++ N ++ L = sym p.is ∙ q.is in
    let grouped : (A B E : List ℕ) → head ++ A ++ B ++ E ≡ head ++ (A ++ (B ++ E)) = λ A B E. append_assoc (head ++ A) B E ∙ append_assoc head A (B ++ E) in
    let t = halves head head (C ++ (M ++ K)) (D ++ (N ++ L)) refl (sym (grouped C M K) ∙ (e ∙ grouped D N L)) in
    let few : length v.contracts < 2 ^ 32 = (let n = a.count in omega (arith, n)) in
    let few' : length w.contracts < 2 ^ 32 = (let n = b.count in omega (arith, n)) in
    let c = counted_code contract_bytes IsTree (contract_code unique once) v.contracts w.contracts (M ++ K) (N ++ L) few few' a.trees b.trees t.1 in
    let m = cells_code is_map Map only_map v.cells w.cells K L a.size b.size a.cells b.cells c.1 in
    let k = cells_code is_counter Counter only_counter v.cells w.cells [] [] a.size b.size a.cells b.cells (append-nil K ∙ (m.1 ∙ sym (append-nil L))) in
    let cells = same_cells v.cells w.cells m.0 k.0 in
    λ i. record { contracts = c.0 i; cells = cells i }
