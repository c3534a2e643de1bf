-- Values and receipts are read exactly.
use Rattle.std.proofs.Common.{◌≡◌, ℕ, zero, suc, ◌^◌, ◌<◌, Bool, true, false, cond, eqb, List, [], ◌∷◌, ◌++◌, ◌||◌, length, Option, Some, None, Ok, Err, refl, sym, ap, subst, ◌∙◌, ◌⊎◌, ⊎_elim, inl, inr, append_assoc, arith, Fits}
use Rattle.std.specs.Int.{w32, w64, to_le_bytes, cast_signed, cast_unsigned}
use Rattle.std.proofs.Math.Facts.{sfits_to_z, Fits-of_z, Fits-of_lt}
use Rattle.std.proofs.lemmas.Int.{to_z-of_z, of_z-to_z}
use Rattle.std.proofs.lemmas.Bool.{eqb-true}
use Rattle.spec_ledger.specs.declared.Version.{Version}
use Rattle.spec_ledger.specs.declared.Version.TheVariants.{One, Two}
use Rattle.wtypes.specs.declared.Value.{Value}
use Rattle.wtypes.specs.declared.Value.TheVariants.{I32, I64}
use Rattle.wtypes.specs.declared.TrapCode.{TrapCode}
use Rattle.wtypes.specs.declared.TrapCode.TheVariants.{Unreachable, DivideByZero, IntegerOverflow, MemoryOutOfBounds, ElementOutOfTable, EmptyElement, TypeMismatch, CallDepth}
use Rattle.spec_ledger.specs.declared.Outcome.{Outcome}
use Rattle.spec_ledger.specs.declared.Outcome.TheVariants.{Returned, Trapped, OutOfFuel, Rejected}
use Rattle.spec_ledger.specs.declared.Receipt.{Receipt}
use Rattle.spec_block.specs.Bytes.{value_bytes, trap_code, asks_bytes, outcome_bytes, receipt_bytes, IsValue, IsOutcome}
use Rattle.records.specs.declared.fault.Fault.TheVariants.{Malformed}
use Rattle.records.specs.Reading.{Read, ◌>>=◌, number_at, found}
use Rattle.records.specs.Exact.{AreBytes, Takes, ReadsExactly}
use Rattle.records.proofs.Steps.{rest_are_bytes, bind_ok, chosen, guard_holds, ok_is, some_is, found_is, Takes-then, Takes-byte}
use Rattle.records.proofs.Numbers.{u32_exact, u64_exact}
use Rattle.records.specs.Values.{value_at, values_by, values_at, trap_of, trap_at, is_rejection, rejection_at, outcome_by, outcome_at, asks_at, receipt_at, IsReceiptIn}

-- what a field's reader took, and what is known of it
abbrev pub Took : {A : Type 0} → (A → List ℕ) → (A → Type 0) → List ℕ → A × List ℕ → Type 0
Took text Is bytes x = Takes bytes (text x.0) x.1 × Is x.0

-- a known byte stands in front
before : (tag : ℕ) (bytes text rest : List ℕ) → Takes bytes text rest → Takes (tag ∷ bytes) (tag ∷ text) rest
before tag bytes text rest t = record { parts = ap (λ (w : List ℕ). tag ∷ w) t.parts; rest_fits = t.rest_fits }

-- ---- values

value_by_takes : (tag : ℕ) (bytes : List ℕ) (x : Value × List ℕ) → AreBytes bytes → value_at (tag ∷ bytes) ≡ Ok x → Took value_bytes IsValue (tag ∷ bytes) x
unfolding value_at
value_by_takes tag bytes x bounded e =
    ⊎_elim
    (λ is. let n = bind_ok (number_at w32 bytes) (λ n. Ok (I32 (cast_signed w32 n.0), n.1)) x is.1 in
    let t = u32_exact.takes bytes n.0 bounded n.1 in
    let lt = u32_exact.fits bytes n.0 bounded n.1 in
    let bits : cast_unsigned w32 (cast_signed w32 n.0.0) ≡ n.0.0 = of_z-to_z w32 n.0.0 lt in
    subst (Took value_bytes IsValue (tag ∷ bytes)) (ok_is (I32 (cast_signed w32 n.0.0), n.0.1) x n.2)
    (subst (λ (k : ℕ). Takes (k ∷ bytes) (0x7F ∷ to_le_bytes w32 (cast_unsigned w32 (cast_signed w32 n.0.0))) n.0.1) (sym (eqb-true tag 0x7F is.0)) (before 0x7F bytes _ n.0.1 (subst (λ (m : ℕ). Takes bytes (to_le_bytes w32 m) n.0.1) (sym bits) t)), sfits_to_z {w = w32} {n = n.0.0} (Fits-of_lt {w = w32} {n = n.0.0} lt)))
    (λ not. ⊎_elim
    (λ is. let n = bind_ok (number_at w64 bytes) (λ n. Ok (I64 (cast_signed w64 n.0), n.1)) x is.1 in
    let t = u64_exact.takes bytes n.0 bounded n.1 in
    let lt = u64_exact.fits bytes n.0 bounded n.1 in
    let bits : cast_unsigned w64 (cast_signed w64 n.0.0) ≡ n.0.0 = of_z-to_z w64 n.0.0 lt in
    subst (Took value_bytes IsValue (tag ∷ bytes)) (ok_is (I64 (cast_signed w64 n.0.0), n.0.1) x n.2)
    (subst (λ (k : ℕ). Takes (k ∷ bytes) (0x7E ∷ to_le_bytes w64 (cast_unsigned w64 (cast_signed w64 n.0.0))) n.0.1) (sym (eqb-true tag 0x7E is.0)) (before 0x7E bytes _ n.0.1 (subst (λ (m : ℕ). Takes bytes (to_le_bytes w64 m) n.0.1) (sym bits) t)), sfits_to_z {w = w64} {n = n.0.0} (Fits-of_lt {w = w64} {n = n.0.0} lt)))
    (λ neither. absurd (let bad = neither.1 in cc))
    (chosen (eqb tag 0x7E) _ _ (Ok x) not.1))
    (chosen (eqb tag 0x7F) _ _ (Ok x) e)

value_takes : (bytes : List ℕ) (x : Value × List ℕ) → AreBytes bytes → value_at bytes ≡ Ok x → Took value_bytes IsValue bytes x
unfolding value_at
value_takes [] x bounded e = absurd cc
value_takes (b ∷ bytes) x bounded e = value_by_takes b bytes x (rest_are_bytes b bytes bounded) e

below32 : (z : _) → IsValue (I32 z) → cast_unsigned w32 z < 2 ^ 32
below32 z fits = let f : Fits w32 (cast_unsigned w32 z) = Fits-of_z {w = w32} {z = z} fits in omega arith

below64 : (z : _) → IsValue (I64 z) → cast_unsigned w64 z < 2 ^ 64
below64 z fits = let f : Fits w64 (cast_unsigned w64 z) = Fits-of_z {w = w64} {z = z} fits in omega arith

value_again : (v : Value) (rest : List ℕ) → IsValue v → value_at (value_bytes v ++ rest) ≡ Ok (v, rest)
unfolding value_at
value_again (I32 z) rest fits = ap (λ r. r >>= λ n. Ok (I32 (cast_signed w32 n.0), n.1)) (u32_exact.again (cast_unsigned w32 z) rest (below32 z fits)) ∙ ap (λ x. Ok (I32 x, rest)) (to_z-of_z w32 z fits)
value_again (I64 z) rest fits = ap (λ r. r >>= λ n. Ok (I64 (cast_signed w64 n.0), n.1)) (u64_exact.again (cast_unsigned w64 z) rest (below64 z fits)) ∙ ap (λ x. Ok (I64 x, rest)) (to_z-of_z w64 z fits)

pub value_exact : ReadsExactly value_at value_bytes IsValue
value_exact = record {
  takes = λ bytes x bounded e. (value_takes bytes x bounded e).0;
  fits = λ bytes x bounded e. (value_takes bytes x bounded e).1;
  again = value_again;
}

-- ---- a value, or none

values_bytes : Option Value → List ℕ
values_bytes None = 0 ∷ []
values_bytes (Some v) = 1 ∷ value_bytes v

AreValues : Option Value → Type 0
AreValues None = Unit {0}
AreValues (Some v) = IsValue v

values_by_takes : (count left : ℕ) (rest : List ℕ) (x : Option Value × List ℕ) → AreBytes rest → values_by count left rest ≡ Ok x → Took values_bytes AreValues (count ∷ rest) x
unfolding values_by values_bytes AreValues
values_by_takes zero left rest x bounded e = subst (Took values_bytes AreValues (0 ∷ rest)) (ok_is (None, rest) x e) (record { parts = refl; rest_fits = bounded }, tt)
values_by_takes (suc zero) left rest x bounded e =
    let v = bind_ok (value_at rest) (λ v. Ok (Some v.0, v.1)) x e in
    let t = value_takes rest v.0 bounded v.1 in
    subst (Took values_bytes AreValues (1 ∷ rest)) (ok_is (Some v.0.0, v.0.1) x v.2) (before 1 rest (value_bytes v.0.0) v.0.1 t.0, t.1)
values_by_takes (suc (suc n)) left rest x bounded e = absurd cc

values_takes : (bytes : List ℕ) (x : Option Value × List ℕ) → AreBytes bytes → values_at bytes ≡ Ok x → Took values_bytes AreValues bytes x
unfolding values_at
values_takes [] x bounded e = absurd cc
values_takes (b ∷ bytes) x bounded e = values_by_takes b _ bytes x (rest_are_bytes b bytes bounded) e

values_again : (v : Option Value) (rest : List ℕ) → AreValues v → values_at (values_bytes v ++ rest) ≡ Ok (v, rest)
unfolding values_at values_by values_bytes AreValues
values_again None rest fits = refl
values_again (Some v) rest fits = ap (λ r. r >>= λ v. Ok (Some v.0, v.1)) (value_again v rest fits)

-- ---- codes

trap_is : (code : ℕ) (t : TrapCode) → trap_of code ≡ Some t → code ≡ trap_code t
trap_is zero t e = absurd cc
trap_is (suc zero) t e = ap trap_code (some_is Unreachable t e)
trap_is (suc (suc zero)) t e = ap trap_code (some_is DivideByZero t e)
trap_is (suc (suc (suc zero))) t e = ap trap_code (some_is IntegerOverflow t e)
trap_is (suc (suc (suc (suc zero)))) t e = ap trap_code (some_is MemoryOutOfBounds t e)
trap_is (suc (suc (suc (suc (suc zero))))) t e = ap trap_code (some_is ElementOutOfTable t e)
trap_is (suc (suc (suc (suc (suc (suc zero)))))) t e = ap trap_code (some_is EmptyElement t e)
trap_is (suc (suc (suc (suc (suc (suc (suc zero))))))) t e = ap trap_code (some_is TypeMismatch t e)
trap_is (suc (suc (suc (suc (suc (suc (suc (suc zero)))))))) t e = ap trap_code (some_is CallDepth t e)
trap_is (suc (suc (suc (suc (suc (suc (suc (suc (suc n))))))))) t e = absurd cc

trap_again : (t : TrapCode) → trap_of (trap_code t) ≡ Some t
trap_again Unreachable = refl
trap_again DivideByZero = refl
trap_again IntegerOverflow = refl
trap_again MemoryOutOfBounds = refl
trap_again ElementOutOfTable = refl
trap_again EmptyElement = refl
trap_again TypeMismatch = refl
trap_again CallDepth = refl

trap_takes : (bytes : List ℕ) (x : TrapCode × List ℕ) → AreBytes bytes → trap_at bytes ≡ Ok x → Takes bytes (trap_code x.0 ∷ []) x.1
unfolding trap_at
trap_takes [] x bounded e = absurd cc
trap_takes (b ∷ bytes) x bounded e =
    let f = found_is (trap_of b) _ bytes x e in
    record { parts = ap (λ (n : ℕ). n ∷ bytes) (trap_is b x.0 f.0) ∙ ap (λ (w : List ℕ). trap_code x.0 ∷ w) f.1; rest_fits = subst AreBytes f.1 (rest_are_bytes b bytes bounded) }

either_true : (a b : Bool) → (a || b) ≡ true → (a ≡ true) ⊎ (b ≡ true)
either_true true b e = inl refl
either_true false b e = inr e

pub rejection_is : (code : ℕ) → is_rejection code ≡ true → IsOutcome (Rejected code)
rejection_is code e = ⊎_elim (λ h. inl (eqb-true code 1 h)) (λ r. inr (⊎_elim (λ h. inl (eqb-true code 2 h)) (λ r. inr (⊎_elim (λ h. inl (eqb-true code 3 h)) (λ r. inr (⊎_elim (λ h. inl (eqb-true code 4 h)) (λ h. inr (eqb-true code 6 h))
    (either_true (eqb code 4) _ r))) (either_true (eqb code 3) _ r))) (either_true (eqb code 2) _ r))) (either_true (eqb code 1) _ e)

pub rejection_again : (code : ℕ) → IsOutcome (Rejected code) → is_rejection code ≡ true
rejection_again code h = let F : ℕ → Type 0 = λ n. is_rejection n ≡ true in
    ⊎_elim (λ e. subst F (sym e) refl) (λ r. ⊎_elim (λ e. subst F (sym e) refl) (λ r. ⊎_elim (λ e. subst F (sym e) refl) (λ r. ⊎_elim (λ e. subst F (sym e) refl) (λ e. subst F (sym e) refl) r) r) r) h

rejection_takes : (bytes : List ℕ) (x : ℕ × List ℕ) → AreBytes bytes → rejection_at bytes ≡ Ok x → Took (λ c. c ∷ []) (λ c. IsOutcome (Rejected c)) bytes x
unfolding rejection_at
rejection_takes [] x bounded e = absurd cc
rejection_takes (b ∷ bytes) x bounded e = let g = guard_holds (is_rejection b) _ (Ok (b, bytes)) x e in
    subst (Took (λ c. c ∷ []) (λ c. IsOutcome (Rejected c)) (b ∷ bytes)) (ok_is (b, bytes) x g.1) (Takes-byte b bytes bounded, rejection_is b g.0)

-- ---- outcomes

returned_bytes : (v : Option Value) → outcome_bytes (Returned v) ≡ 0 ∷ values_bytes v
unfolding values_bytes
returned_bytes None = refl
returned_bytes (Some v) = refl

returned_is : (v : Option Value) → AreValues v → IsOutcome (Returned v)
unfolding AreValues
returned_is None h = tt
returned_is (Some v) h = h

values_are : (v : Option Value) → IsOutcome (Returned v) → AreValues v
unfolding AreValues
values_are None h = tt
values_are (Some v) h = h

outcome_by_takes : (kind left : ℕ) (rest : List ℕ) (x : Outcome × List ℕ) → AreBytes rest → outcome_by kind left rest ≡ Ok x → Took outcome_bytes IsOutcome (kind ∷ rest) x
unfolding outcome_by
outcome_by_takes zero left rest x bounded e =
    let v = bind_ok (values_at rest) (λ v. Ok (Returned v.0, v.1)) x e in let t = values_takes rest v.0 bounded v.1 in
    subst (Took outcome_bytes IsOutcome (0 ∷ rest)) (ok_is (Returned v.0.0, v.0.1) x v.2)
    (subst (λ (text : List ℕ). Takes (0 ∷ rest) text v.0.1) (sym (returned_bytes v.0.0)) (before 0 rest (values_bytes v.0.0) v.0.1 t.0), returned_is v.0.0 t.1)
outcome_by_takes (suc zero) left rest x bounded e =
    let v = bind_ok (trap_at rest) (λ v. Ok (Trapped v.0, v.1)) x e in let t = trap_takes rest v.0 bounded v.1 in
    subst (Took outcome_bytes IsOutcome (1 ∷ rest)) (ok_is (Trapped v.0.0, v.0.1) x v.2) (before 1 rest (trap_code v.0.0 ∷ []) v.0.1 t, tt)
outcome_by_takes (suc (suc zero)) left rest x bounded e = subst (Took outcome_bytes IsOutcome (2 ∷ rest)) (ok_is (OutOfFuel, rest) x e) (record { parts = refl; rest_fits = bounded }, tt)
outcome_by_takes (suc (suc (suc zero))) left rest x bounded e =
    let v = bind_ok (rejection_at rest) (λ v. Ok (Rejected v.0, v.1)) x e in let t = rejection_takes rest v.0 bounded v.1 in
    subst (Took outcome_bytes IsOutcome (3 ∷ rest)) (ok_is (Rejected v.0.0, v.0.1) x v.2) (before 3 rest (v.0.0 ∷ []) v.0.1 t.0, t.1)
outcome_by_takes (suc (suc (suc (suc n)))) left rest x bounded e = absurd cc

outcome_takes : (bytes : List ℕ) (x : Outcome × List ℕ) → AreBytes bytes → outcome_at bytes ≡ Ok x → Took outcome_bytes IsOutcome bytes x
unfolding outcome_at
outcome_takes [] x bounded e = absurd cc
outcome_takes (b ∷ bytes) x bounded e = outcome_by_takes b _ bytes x (rest_are_bytes b bytes bounded) e

outcome_again : (o : Outcome) (rest : List ℕ) → IsOutcome o → outcome_at (outcome_bytes o ++ rest) ≡ Ok (o, rest)
unfolding outcome_at outcome_by trap_at rejection_at
outcome_again (Returned v) rest fits =
    ap (λ text. outcome_at (text ++ rest)) (returned_bytes v) ∙ ap (λ r. r >>= λ v. Ok (Returned v.0, v.1)) (values_again v rest (values_are v fits))
outcome_again (Trapped t) rest fits = let f : TrapCode × List ℕ → Read Outcome = λ v. Ok (Trapped v.0, v.1) in ap (λ o. found o (suc (length rest)) rest >>= f) (trap_again t)
outcome_again OutOfFuel rest fits = refl
outcome_again (Rejected c) rest fits =
    let f : ℕ × List ℕ → Read Outcome = λ v. Ok (Rejected v.0, v.1) in let yes : Read ℕ = Ok (c, rest) in ap (λ b. cond b yes (Err (Malformed (suc (length rest)))) >>= f) (rejection_again c fits)

-- ---- receipts

asks_takes : (v : Version) (used : ℕ) (bytes : List ℕ) (x : ℕ × List ℕ) → used < 2 ^ 64 → AreBytes bytes → asks_at v bytes ≡ Ok x → (o : Outcome) → IsOutcome o
    → Takes bytes (asks_bytes v (record { used = used; asks = x.0; outcome = o })) x.1 × IsReceiptIn v (record { used = used; asks = x.0; outcome = o })
unfolding asks_at
asks_takes One used bytes x wide bounded e o is =
    subst (λ (y : ℕ × List ℕ). Takes bytes [] y.1 × IsReceiptIn One (record { used = used; asks = y.0; outcome = o })) (ok_is (0, bytes) x e)
    (record { parts = refl; rest_fits = bounded }, (record { used = wide; asks = omega arith; outcome = is }, refl))
asks_takes Two used bytes x wide bounded e o is = (u32_exact.takes bytes x bounded e, (record { used = wide; asks = u32_exact.fits bytes x bounded e; outcome = is }, tt))

receipt_takes : (v : Version) (bytes : List ℕ) (x : Receipt × List ℕ) → AreBytes bytes → receipt_at v bytes ≡ Ok x → Took (receipt_bytes v) (IsReceiptIn v) bytes x
unfolding receipt_at
receipt_takes v bytes x bounded e =
    let u = bind_ok (number_at w64 bytes) (λ used. asks_at v used.1 >>= λ asks. outcome_at asks.1 >>= λ outcome. Ok (record { used = used.0; asks = asks.0; outcome = outcome.0 }, outcome.1)) x e in
    let k = bind_ok (asks_at v u.0.1) (λ asks. outcome_at asks.1 >>= λ outcome. Ok (record { used = u.0.0; asks = asks.0; outcome = outcome.0 }, outcome.1)) x u.2 in
    let a = u64_exact.takes bytes u.0 bounded u.1 in
    let wide = u64_exact.fits bytes u.0 bounded u.1 in
    let left : AreBytes k.0.1 = (asks_takes v u.0.0 u.0.1 k.0 wide a.rest_fits k.1 OutOfFuel tt).0.rest_fits in
    let o = bind_ok (outcome_at k.0.1) (λ outcome. Ok (record { used = u.0.0; asks = k.0.0; outcome = outcome.0 }, outcome.1)) x k.2 in
    let b = outcome_takes k.0.1 o.0 left o.1 in
    let c = asks_takes v u.0.0 u.0.1 k.0 wide a.rest_fits k.1 o.0.0 b.1 in
    let r : Receipt = record { used = u.0.0; asks = k.0.0; outcome = o.0.0 } in
    let made : Receipt × List ℕ = (r, o.0.1) in
    let ac = Takes-then bytes (to_le_bytes w64 u.0.0) u.0.1 (asks_bytes v r) k.0.1 a c.0 in
    subst (Took (receipt_bytes v) (IsReceiptIn v) bytes) (ok_is made x o.2) (Takes-then bytes (to_le_bytes w64 u.0.0 ++ asks_bytes v r) k.0.1 (outcome_bytes o.0.0) o.0.1 ac b.0, c.1)

asks_again : (v : Version) (r : Receipt) (rest : List ℕ) → IsReceiptIn v r → asks_at v (asks_bytes v r ++ rest) ≡ Ok (r.asks, rest)
unfolding asks_at
asks_again One r rest is = ap (λ (n : ℕ). Ok (n, rest)) (sym is.1)
asks_again Two r rest is = u32_exact.again r.asks rest is.0.asks

receipt_again : (v : Version) (r : Receipt) (rest : List ℕ) → IsReceiptIn v r → receipt_at v (receipt_bytes v r ++ rest) ≡ Ok (r, rest)
unfolding receipt_at
receipt_again v r rest is =
    let regrouped : receipt_bytes v r ++ rest ≡ to_le_bytes w64 r.used ++ (asks_bytes v r ++ (outcome_bytes r.outcome ++ rest)) =
    append_assoc (to_le_bytes w64 r.used ++ asks_bytes v r) (outcome_bytes r.outcome) rest ∙ append_assoc (to_le_bytes w64 r.used) (asks_bytes v r) (outcome_bytes r.outcome ++ rest) in
    ap (receipt_at v) regrouped
    ∙ rw (u64_exact.again r.used (asks_bytes v r ++ (outcome_bytes r.outcome ++ rest)) is.0.used, asks_again v r (outcome_bytes r.outcome ++ rest) is, outcome_again r.outcome rest is.0.outcome) refl

pub receipt_exact : (v : Version) → ReadsExactly (receipt_at v) (receipt_bytes v) (IsReceiptIn v)
receipt_exact v = record {
  takes = λ bytes x bounded e. (receipt_takes v bytes x bounded e).0;
  fits = λ bytes x bounded e. (receipt_takes v bytes x bounded e).1;
  again = receipt_again v;
}
