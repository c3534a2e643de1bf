-- A world is its head, its contracts and its cells.
use Rattle.std.proofs.Common.{◌≡◌, ◌≢◌, ℕ, ◌*◌, ◌<◌, ◌≤◌, ◌⊎◌, ◌==◌, Bool, true, false, ltb, cond, List, [], ◌∷◌, ◌++◌, length, Ok, Err, refl, sym, ap, subst, ◌∙◌, append_assoc, append-nil, arith, inl, inr}
use Rattle.std.specs.Int.{w32, to_le_bytes}
use Rattle.std.specs.List.{flat_map, AllByRecursion}
use Rattle.std.proofs.lemmas.Bool.{le-ltb, ltb-false, eqb-true}
use Rattle.std.proofs.lemmas.List.{length-append, nil_from_length}
use Rattle.spec_typing.specs.Laws.{IsResolvedOnce}
use Rattle.spec_ledger.specs.Cells.{Cells}
use Rattle.spec_block.specs.Worlds.{Contract, World}
use Rattle.spec_block.specs.Bytes.{contract_bytes, cells_bytes, is_map, is_counter, world_bytes, IsTree, IsWorld, SpellsWorld}
use Rattle.spec_block.proofs.OneWorld.{TreesAreUnique, contract_code}
use Rattle.records.specs.declared.fault.Fault.{Fault}
use Rattle.records.specs.declared.fault.Fault.TheVariants.{Malformed, TooLarge, NoMemory}
use Rattle.records.specs.Reading.{Read, ◌>>=◌, Fails, number_at, tag_at}
use Rattle.records.specs.Exact.{AreBytes}
use Rattle.records.proofs.Steps.{bind_ok, guard_ok, ok_is}
use Rattle.records.proofs.Numbers.{u32_exact, tag_takes, tag_again}
use Rattle.world.specs.Cells.{AreStored, stored_bytes}
use Rattle.world.specs.Reading.{BeginsWithNone, AreRead, StandBehind, IsFaultAmong, IsNoWorld, head_at}

abbrev magic : List ℕ
magic = 0x57 ∷ 0x42 ∷ 0x57 ∷ 0x44 ∷ []

abbrev version : List ℕ
version = to_le_bytes w32 1

-- ---- the head

head_takes : (bytes : List ℕ) (x : ℕ × List ℕ) → AreBytes bytes → head_at bytes ≡ Ok x → (bytes ≡ magic ++ (version ++ (to_le_bytes w32 x.0 ++ x.1))) × (x.0 ≤ 1024)
unfolding head_at
head_takes bytes x bounded e =
    let judged : List ℕ → ℕ × List ℕ → Read ℕ = λ counted count. cond (ltb 1024 count.0) (Err TooLarge) (cond (ltb (length count.1) (12 * count.0)) (Err (Malformed (length counted))) (Ok count)) in
    let m = bind_ok (tag_at 0x44574257 bytes) (λ v. tag_at 1 v >>= λ counted. number_at w32 counted >>= judged counted) x e in
    let v = bind_ok (tag_at 1 m.0) (λ counted. number_at w32 counted >>= judged counted) x m.2 in
    let n = bind_ok (number_at w32 v.0) (judged v.0) x v.2 in
    let g = guard_ok (ltb 1024 n.0.0) TooLarge (cond (ltb (length n.0.1) (12 * n.0.0)) (Err (Malformed (length v.0))) (Ok n.0)) x n.2 in
    let h = guard_ok (ltb (length n.0.1) (12 * n.0.0)) (Malformed (length v.0)) (Ok n.0) x g.1 in
    let tm = tag_takes 0x44574257 bytes m.0 bounded m.1 in
    let tv = tag_takes 1 m.0 v.0 tm.rest_fits v.1 in
    let tn = u32_exact.takes v.0 n.0 tv.rest_fits n.1 in
    subst (λ (y : ℕ × List ℕ). (bytes ≡ magic ++ (version ++ (to_le_bytes w32 y.0 ++ y.1))) × (y.0 ≤ 1024)) (ok_is n.0 x h.1)
    (tm.parts ∙ ap (λ (w : List ℕ). magic ++ w) (tv.parts ∙ ap (λ (w : List ℕ). version ++ w) tn.parts), ltb-false _ _ g.0)

head_again : (n : ℕ) (behind : List ℕ) → n ≤ 1024 → 12 * n ≤ length behind → head_at (magic ++ (version ++ (to_le_bytes w32 n ++ behind))) ≡ Ok (n, behind)
unfolding head_at
head_again n behind few enough =
    let small : ltb 1024 n ≡ false = le-ltb _ _ few in
    let there : ltb (length behind) (12 * n) ≡ false = le-ltb _ _ enough in
    rw (
      tag_again 0x44574257 (version ++ (to_le_bytes w32 n ++ behind)) (omega arith),
      tag_again 1 (to_le_bytes w32 n ++ behind) (omega arith),
      u32_exact.again n behind (omega (arith, few)),
      small,
      there,
    ) refl

-- ---- the bytes of a world

regrouped : (h a b c d : List ℕ) → h ++ (a ++ b) ++ c ++ d ≡ h ++ (a ++ (b ++ (c ++ d)))
regrouped h a b c d = append_assoc (h ++ (a ++ b)) c d ∙ (append_assoc h (a ++ b) (c ++ d) ∙ ap (λ (w : List ℕ). h ++ w) (append_assoc a b (c ++ d)))

abbrev behind_of : World → List ℕ
behind_of w = flat_map contract_bytes w.contracts ++ stored_bytes w.cells

world_is : (w : World) → world_bytes w ≡ magic ++ (version ++ (to_le_bytes w32 (length w.contracts) ++ behind_of w))
world_is w = regrouped (magic ++ version) (to_le_bytes w32 (length w.contracts)) (flat_map contract_bytes w.contracts) (cells_bytes is_map w.cells) (cells_bytes is_counter w.cells)

twelve : (c : Contract) → 12 ≤ length (contract_bytes c)
twelve c = omega arith

long : (cs : List Contract) (rest : List ℕ) → 12 * length cs ≤ length (flat_map contract_bytes cs ++ rest)
long [] rest = omega arith
long (c ∷ cs) rest =
    let r = long cs rest in
    let first = twelve c in
    let l = length-append (contract_bytes c) (flat_map contract_bytes cs) in
    let m = length-append (contract_bytes c ++ flat_map contract_bytes cs) rest in
    let n = length-append (flat_map contract_bytes cs) rest in
    omega (arith, r, first, l, m, n)

head_of_world : (bytes : List ℕ) (w : World) → SpellsWorld bytes w → head_at bytes ≡ Ok (length w.contracts, behind_of w)
head_of_world bytes w spelled = ap head_at (spelled.is ∙ world_is w) ∙ head_again (length w.contracts) (behind_of w) spelled.fits.count (long w.contracts (stored_bytes w.cells))

pub no_head : (bytes : List ℕ) (f : Fault) → Fails f (head_at bytes) → (f ≡ NoMemory) ⊎ IsNoWorld bytes
no_head bytes NoMemory fails = inl refl
no_head bytes (Malformed left) fails = inr (λ w spelled. absurd (let e = head_of_world bytes w spelled in cc (e, fails)))
no_head bytes TooLarge fails = inr (λ w spelled. absurd (let e = head_of_world bytes w spelled in cc (e, fails)))

-- ---- contracts

clash : TreesAreUnique → IsResolvedOnce → (xs ys : List Contract) (r s : List ℕ) → AllByRecursion IsTree xs → AllByRecursion IsTree ys → length xs < length ys → BeginsWithNone r
    → flat_map contract_bytes xs ++ r ≡ flat_map contract_bytes ys ++ s → ⊥
clash unique once [] [] r s a b lt none e = absurd (omega (arith, lt))
clash unique once [] (y ∷ ys) r s a b lt none e = none y (flat_map contract_bytes ys ++ s) (record { tree = b.0; parts = e ∙ append_assoc (contract_bytes y) (flat_map contract_bytes ys) s })
clash unique once (x ∷ xs) [] r s a b lt none e = absurd (omega (arith, lt))
clash unique once (x ∷ xs) (y ∷ ys) r s a b lt none e =
    let c = contract_code unique once x y (flat_map contract_bytes xs ++ r) (flat_map contract_bytes ys ++ s) a.0 b.0
    (sym (append_assoc (contract_bytes x) (flat_map contract_bytes xs) r) ∙ (e ∙ append_assoc (contract_bytes y) (flat_map contract_bytes ys) s)) in
    clash unique once xs ys r s a.1 b.1 (omega (arith, lt)) none c.1

same_rest : TreesAreUnique → IsResolvedOnce → (xs ys : List Contract) (r s : List ℕ) → AllByRecursion IsTree xs → AllByRecursion IsTree ys → length xs ≡ length ys
    → flat_map contract_bytes xs ++ r ≡ flat_map contract_bytes ys ++ s → r ≡ s
same_rest unique once [] [] r s a b len e = e
same_rest unique once [] (y ∷ ys) r s a b len e = absurd (omega (arith, len))
same_rest unique once (x ∷ xs) [] r s a b len e = absurd (omega (arith, len))
same_rest unique once (x ∷ xs) (y ∷ ys) r s a b len e =
    let c = contract_code unique once x y (flat_map contract_bytes xs ++ r) (flat_map contract_bytes ys ++ s) a.0 b.0
    (sym (append_assoc (contract_bytes x) (flat_map contract_bytes xs) r) ∙ (e ∙ append_assoc (contract_bytes y) (flat_map contract_bytes ys) s)) in
    same_rest unique once xs ys r s a.1 b.1 (omega (arith, len)) c.1

-- the head of a world that these bytes spell
same_head : (bytes : List ℕ) (count : ℕ) (behind : List ℕ) (w : World) → head_at bytes ≡ Ok (count, behind) → SpellsWorld bytes w → ◌≡◌ {A = ℕ × List ℕ} (count, behind) (length w.contracts, behind_of w)
same_head bytes count behind w head spelled = ok_is (count, behind) (length w.contracts, behind_of w) (sym head ∙ head_of_world bytes w spelled)

pub no_contracts : TreesAreUnique → IsResolvedOnce → (bytes : List ℕ) (count : ℕ) (behind : List ℕ) (f : Fault) → head_at bytes ≡ Ok (count, behind) → IsFaultAmong count behind f → (f ≡ NoMemory) ⊎ IsNoWorld bytes
no_contracts unique once bytes count behind NoMemory head fault = inl refl
no_contracts unique once bytes count behind TooLarge head fault = absurd fault
no_contracts unique once bytes count behind (Malformed left) head fault = inr (λ w spelled.
    let same = same_head bytes count behind w head spelled in
    let number : count ≡ length w.contracts = ap (λ (x : ℕ × List ℕ). x.0) same in
    let few = fault.fewer in
    clash unique once fault.contracts w.contracts fault.rest (stored_bytes w.cells) fault.read.trees spelled.fits.trees (omega (arith, few, number)) fault.none
    (sym fault.read.parts ∙ ap (λ (x : ℕ × List ℕ). x.1) same))

-- what stands behind the contracts is the cells of the world that the bytes spell
pub rest_is : TreesAreUnique → IsResolvedOnce → (bytes : List ℕ) (count : ℕ) (behind : List ℕ) (cs : List Contract) (rest : List ℕ) → head_at bytes ≡ Ok (count, behind) → AreRead count behind cs rest
    → (w : World) → SpellsWorld bytes w → rest ≡ stored_bytes w.cells
rest_is unique once bytes count behind cs rest head read w spelled =
    let same = same_head bytes count behind w head spelled in
    same_rest unique once cs w.contracts rest (stored_bytes w.cells) read.trees spelled.fits.trees (read.number ∙ ap (λ (x : ℕ × List ℕ). x.0) same) (sym read.parts ∙ ap (λ (x : ℕ × List ℕ). x.1) same)

pub stored_of : (w : World) → IsWorld w → AreStored w.cells
stored_of w is = record { each = is.cells; size = is.size }

-- ---- the whole

pub few_contracts : (bytes : List ℕ) (x : ℕ × List ℕ) → AreBytes bytes → head_at bytes ≡ Ok x → x.0 ≤ 1024
few_contracts bytes x bounded e = (head_takes bytes x bounded e).1

pub spells : (bytes : List ℕ) (count : ℕ) (behind : List ℕ) (cs : List Contract) (rest : List ℕ) (cells : Cells) → AreBytes bytes → head_at bytes ≡ Ok (count, behind) → AreRead count behind cs rest
    → AreStored cells → rest ≡ stored_bytes cells ++ [] → SpellsWorld bytes (record { contracts = cs; cells = cells })
spells bytes count behind cs rest cells bounded head read stored e =
    let h = head_takes bytes (count, behind) bounded head in
    let w : World = record { contracts = cs; cells = cells } in
    let all : behind ≡ behind_of w = read.parts ∙ ap (λ (r : List ℕ). flat_map contract_bytes cs ++ r) (e ∙ append-nil (stored_bytes cells)) in
    let few = h.1 in
    let number = read.number in
    record {
      is = h.0 ∙ (ap (λ (b : List ℕ). magic ++ (version ++ (to_le_bytes w32 count ++ b))) all ∙ (ap (λ (n : ℕ). magic ++ (version ++ (to_le_bytes w32 n ++ behind_of w))) (sym number) ∙ sym (world_is w)));
      fits = record { count = omega (arith, few, number); trees = read.trees; cells = stored.each; size = stored.size };
    }

-- ---- the cells and what is left

-- what is answered where reading the cells failed, or left bytes over, is that the bytes spell no world
pub no_cells : TreesAreUnique → IsResolvedOnce → (bytes : List ℕ) (cs : List Contract) (rest : List ℕ) (f : Fault) → StandBehind bytes cs rest
    → ((cells : Cells) (after : List ℕ) → AreStored cells → rest ≡ stored_bytes cells ++ after → f ≡ NoMemory) → (f ≡ NoMemory) ⊎ IsNoWorld bytes
no_cells unique once bytes cs rest NoMemory stand only = inl refl
no_cells unique once bytes cs rest TooLarge stand only = inr (λ w spelled. absurd (let e = only w.cells [] (stored_of w spelled.fits) (rest_is unique once bytes stand.count stand.behind cs rest stand.head stand.read w spelled ∙ sym (append-nil (stored_bytes w.cells))) in cc e))
no_cells unique once bytes cs rest (Malformed left) stand only = inr (λ w spelled. absurd (let e = only w.cells [] (stored_of w spelled.fits) (rest_is unique once bytes stand.count stand.behind cs rest stand.head stand.read w spelled ∙ sym (append-nil (stored_bytes w.cells))) in cc e))

pub no_more : TreesAreUnique → IsResolvedOnce → (bytes : List ℕ) (cs : List Contract) (rest over : List ℕ) → StandBehind bytes cs rest
    → ((cells : Cells) (after : List ℕ) → AreStored cells → rest ≡ stored_bytes cells ++ after → over ≡ after) → over ≢ [] → IsNoWorld bytes
no_more unique once bytes cs rest over stand only some = λ w spelled.
    some (only w.cells [] (stored_of w spelled.fits) (rest_is unique once bytes stand.count stand.behind cs rest stand.head stand.read w spelled ∙ sym (append-nil (stored_bytes w.cells))))

pub world_there : (bytes : List ℕ) (cs : List Contract) (rest over : List ℕ) (cells : Cells) → AreBytes bytes → StandBehind bytes cs rest → AreStored cells → rest ≡ stored_bytes cells ++ over → over ≡ [] → SpellsWorld bytes (record { contracts = cs; cells = cells })
world_there bytes cs rest over cells bounded stand stored e nothing =
    spells bytes stand.count stand.behind cs rest cells bounded stand.head stand.read stored (e ∙ ap (λ (o : List ℕ). stored_bytes cells ++ o) nothing)

-- ---- tests

pub not_empty : (b : Bool) (over : List ℕ) → b ≡ (length over == 0) → b ≡ false → over ≢ []
not_empty b over is e = λ f. absurd (let z : length over ≡ 0 = ap length f in let t : (length over == 0) ≡ false = sym is ∙ e in let u : (0 == 0) ≡ false = subst (λ (n : ℕ). (n == 0) ≡ false) z t in cc u)

pub empty_is : (b : Bool) (over : List ℕ) → b ≡ (length over == 0) → b ≡ true → over ≡ []
empty_is b over is e = nil_from_length over (eqb-true _ _ (sym is ∙ e))
