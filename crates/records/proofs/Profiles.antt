-- Lock profiles are read exactly.
use Rattle.std.proofs.Common.{◌≡◌, ℕ, zero, suc, ◌^◌, ◌<◌, ◌≤◌, true, cond, List, [], ◌∷◌, ◌++◌, length, Option, Some, None, Ok, Err, refl, sym, ap, subst, ◌∙◌, append_assoc, arith}
use Rattle.std.specs.Int.{w32, w64, to_le_bytes}
use Rattle.std.specs.List.{flat_map, AllByRecursion}
use Rattle.std.specs.declared.cmp.Ordering.{Ordering}
use Rattle.std.specs.declared.cmp.Ordering.TheVariants.{Less, Equal, Greater}
use Rattle.std.specs.Ordering.{is_lt}
use Rattle.spec_ledger.specs.declared.Kind.{Kind}
use Rattle.spec_ledger.specs.declared.Kind.TheVariants.{Map, Counter}
use Rattle.spec_ledger.specs.declared.Mode.{Mode}
use Rattle.spec_ledger.specs.declared.Mode.TheVariants as modes
use Rattle.spec_ledger.specs.declared.Lock.{Lock}
use Rattle.spec_ledger.specs.declared.Entry.{Entry}
use Rattle.spec_block.specs.Bytes.{kind_code, mode_code, entry_bytes, IsEntry, AreRising}
use Rattle.records.specs.declared.fault.Fault.TheVariants.{Malformed}
use Rattle.records.specs.Reading.{Read, ◌>>=◌, number_at, found, after_count}
use Rattle.records.specs.Exact.{AreBytes, Takes, ReadsExactly, Follow}
use Rattle.records.proofs.Steps.{rest_are_bytes, bind_ok, guard_holds, ok_is, some_is, found_is, Takes-then}
use Rattle.records.proofs.Numbers.{u32_exact, u64_exact}
use Rattle.records.proofs.Items.{counted_take, counted_again}
use Rattle.records.specs.Profiles.{kind_of, mode_of, kind_at, mode_at, is_after, lock_at, entry_at, profile_at, IsEntryAfter, IsBlockProfile, profile_bytes}

-- ---- codes

kind_is : (code : ℕ) (k : Kind) → kind_of code ≡ Some k → code ≡ kind_code k
kind_is zero k e = ap kind_code (some_is Map k e)
kind_is (suc zero) k e = ap kind_code (some_is Counter k e)
kind_is (suc (suc n)) k e = absurd cc

mode_is : (code : ℕ) (m : Mode) → mode_of code ≡ Some m → code ≡ mode_code m
mode_is zero m e = ap mode_code (some_is modes.Read m e)
mode_is (suc zero) m e = ap mode_code (some_is modes.Add m e)
mode_is (suc (suc zero)) m e = ap mode_code (some_is modes.Excl m e)
mode_is (suc (suc (suc n))) m e = absurd cc

kind_again : (k : Kind) → kind_of (kind_code k) ≡ Some k
kind_again Map = refl
kind_again Counter = refl

mode_again : (m : Mode) → mode_of (mode_code m) ≡ Some m
mode_again modes.Read = refl
mode_again modes.Add = refl
mode_again modes.Excl = refl

coded : (b : ℕ) (bytes : List ℕ) (code : ℕ) (rest : List ℕ) → AreBytes (b ∷ bytes) → b ≡ code → bytes ≡ rest → Takes (b ∷ bytes) (code ∷ []) rest
coded b bytes code rest bounded e e' = record { parts = ap (λ (n : ℕ). n ∷ bytes) e ∙ ap (λ (w : List ℕ). code ∷ w) e'; rest_fits = subst AreBytes e' (rest_are_bytes b bytes bounded) }

kind_takes : (bytes : List ℕ) (x : Kind × List ℕ) → AreBytes bytes → kind_at bytes ≡ Ok x → Takes bytes (kind_code x.0 ∷ []) x.1
unfolding kind_at
kind_takes [] x bounded e = absurd cc
kind_takes (b ∷ bytes) x bounded e = let f = found_is (kind_of b) _ bytes x e in coded b bytes (kind_code x.0) x.1 bounded (kind_is b x.0 f.0) f.1

mode_takes : (bytes : List ℕ) (x : Mode × List ℕ) → AreBytes bytes → mode_at bytes ≡ Ok x → Takes bytes (mode_code x.0 ∷ []) x.1
unfolding mode_at
mode_takes [] x bounded e = absurd cc
mode_takes (b ∷ bytes) x bounded e = let f = found_is (mode_of b) _ bytes x e in coded b bytes (mode_code x.0) x.1 bounded (mode_is b x.0 f.0) f.1

kind_at_again : (k : Kind) (rest : List ℕ) → kind_at (kind_code k ∷ rest) ≡ Ok (k, rest)
unfolding kind_at
kind_at_again k rest = ap (λ o. found o (suc (length rest)) rest) (kind_again k)

mode_at_again : (m : Mode) (rest : List ℕ) → mode_at (mode_code m ∷ rest) ≡ Ok (m, rest)
unfolding mode_at
mode_at_again m rest = ap (λ o. found o (suc (length rest)) rest) (mode_again m)

-- ---- locks

record IsLock (before : Option Entry) (l : Lock) : Type 0 where
  pub contract : l.contract < 2 ^ 32
  pub key : l.key < 2 ^ 64
  pub after : is_after before l ≡ true

abbrev lock : ℕ → Kind → ℕ → Lock
lock contract kind key = record { contract = contract; kind = kind; key = key }

abbrev lock_bytes : Lock → List ℕ
lock_bytes l = to_le_bytes w32 l.contract ++ (kind_code l.kind ∷ to_le_bytes w64 l.key)

lock_takes : (before : Option Entry) (bytes : List ℕ) (x : Lock × List ℕ) → AreBytes bytes → lock_at before bytes ≡ Ok x → Takes bytes (lock_bytes x.0) x.1 × IsLock before x.0
unfolding lock_at
lock_takes before bytes x bounded e =
    let judged : ℕ → Kind → ℕ × List ℕ → Read Lock = λ contract kind key. cond (is_after before (lock contract kind key.0)) (Ok (lock contract kind key.0, key.1)) (Err (Malformed (length bytes))) in
    let a = bind_ok (number_at w32 bytes) (λ contract. kind_at contract.1 >>= λ kind. number_at w64 kind.1 >>= judged contract.0 kind.0) x e in
    let b = bind_ok (kind_at a.0.1) (λ kind. number_at w64 kind.1 >>= judged a.0.0 kind.0) x a.2 in
    let c = bind_ok (number_at w64 b.0.1) (judged a.0.0 b.0.0) x b.2 in
    let made : Lock × List ℕ = (lock a.0.0 b.0.0 c.0.0, c.0.1) in
    let g = guard_holds (is_after before made.0) (Malformed (length bytes)) (Ok made) x c.2 in
    let ta = u32_exact.takes bytes a.0 bounded a.1 in
    let tb = kind_takes a.0.1 b.0 ta.rest_fits b.1 in
    let tc = u64_exact.takes b.0.1 c.0 tb.rest_fits c.1 in
    let bc = Takes-then a.0.1 (kind_code b.0.0 ∷ []) b.0.1 (to_le_bytes w64 c.0.0) c.0.1 tb tc in
    let abc = Takes-then bytes (to_le_bytes w32 a.0.0) a.0.1 (kind_code b.0.0 ∷ to_le_bytes w64 c.0.0) c.0.1 ta bc in
    subst (λ (y : Lock × List ℕ). Takes bytes (lock_bytes y.0) y.1 × IsLock before y.0) (ok_is made x g.1)
    (abc, record { contract = u32_exact.fits bytes a.0 bounded a.1; key = u64_exact.fits b.0.1 c.0 tb.rest_fits c.1; after = g.0 })

lock_again : (before : Option Entry) (l : Lock) (rest : List ℕ) → IsLock before l → lock_at before (lock_bytes l ++ rest) ≡ Ok (l, rest)
unfolding lock_at
lock_again before l rest is =
    let regrouped : lock_bytes l ++ rest ≡ to_le_bytes w32 l.contract ++ (kind_code l.kind ∷ (to_le_bytes w64 l.key ++ rest)) = append_assoc (to_le_bytes w32 l.contract) (kind_code l.kind ∷ to_le_bytes w64 l.key) rest in
    ap (lock_at before) regrouped ∙ rw (u32_exact.again l.contract (kind_code l.kind ∷ (to_le_bytes w64 l.key ++ rest)) is.contract, kind_at_again l.kind (to_le_bytes w64 l.key ++ rest), u64_exact.again l.key rest is.key, is.after) refl

-- ---- entries

entry_takes : (before : Option Entry) (bytes : List ℕ) (x : Entry × List ℕ) → AreBytes bytes → entry_at before bytes ≡ Ok x → Takes bytes (entry_bytes x.0) x.1 × IsEntryAfter before x.0
unfolding entry_at
entry_takes before bytes x bounded e =
    let a = bind_ok (lock_at before bytes) (λ lock. mode_at lock.1 >>= λ mode. number_at w32 mode.1 >>= λ turn. Ok (record { lock = lock.0; mode = mode.0; turn = turn.0 }, turn.1)) x e in
    let b = bind_ok (mode_at a.0.1) (λ mode. number_at w32 mode.1 >>= λ turn. Ok (record { lock = a.0.0; mode = mode.0; turn = turn.0 }, turn.1)) x a.2 in
    let c = bind_ok (number_at w32 b.0.1) (λ turn. Ok (record { lock = a.0.0; mode = b.0.0; turn = turn.0 }, turn.1)) x b.2 in
    let made : Entry × List ℕ = (record { lock = a.0.0; mode = b.0.0; turn = c.0.0 }, c.0.1) in
    let ta = lock_takes before bytes a.0 bounded a.1 in
    let tb = mode_takes a.0.1 b.0 ta.0.rest_fits b.1 in
    let tc = u32_exact.takes b.0.1 c.0 tb.rest_fits c.1 in
    let bc = Takes-then a.0.1 (mode_code b.0.0 ∷ []) b.0.1 (to_le_bytes w32 c.0.0) c.0.1 tb tc in
    let abc = Takes-then bytes (lock_bytes a.0.0) a.0.1 (mode_code b.0.0 ∷ to_le_bytes w32 c.0.0) c.0.1 ta.0 bc in
    subst (λ (y : Entry × List ℕ). Takes bytes (entry_bytes y.0) y.1 × IsEntryAfter before y.0) (ok_is made x c.2)
    (abc, record { entry = record { contract = ta.1.contract; key = ta.1.key; turn = u32_exact.fits b.0.1 c.0 tb.rest_fits c.1 }; after = ta.1.after })

entry_again : (before : Option Entry) (n : Entry) (rest : List ℕ) → IsEntryAfter before n → entry_at before (entry_bytes n ++ rest) ≡ Ok (n, rest)
unfolding entry_at
entry_again before n rest is =
    let regrouped : entry_bytes n ++ rest ≡ lock_bytes n.lock ++ (mode_code n.mode ∷ (to_le_bytes w32 n.turn ++ rest)) = append_assoc (lock_bytes n.lock) (mode_code n.mode ∷ to_le_bytes w32 n.turn) rest in
    ap (entry_at before) regrouped ∙ rw (lock_again before n.lock (mode_code n.mode ∷ (to_le_bytes w32 n.turn ++ rest)) (record { contract = is.entry.contract; key = is.entry.key; after = is.after }), mode_at_again n.mode (to_le_bytes w32 n.turn ++ rest), u32_exact.again n.turn rest is.entry.turn) refl

pub entry_exact : (before : Option Entry) → ReadsExactly (entry_at before) entry_bytes (IsEntryAfter before)
entry_exact before = record {
  takes = λ bytes x bounded e. (entry_takes before bytes x bounded e).0;
  fits = λ bytes x bounded e. (entry_takes before bytes x bounded e).1;
  again = entry_again before;
}

-- ---- what follows of neighbours

is_less : (o : Ordering) → is_lt o ≡ true → o ≡ Less
is_less Less e = refl
is_less Equal e = absurd cc
is_less Greater e = absurd cc

all_entries : (before : Option Entry) (es : List Entry) → Follow IsEntryAfter before es → AllByRecursion IsEntry es
all_entries before [] h = tt
all_entries before (e ∷ es) h = (h.0.entry, all_entries (Some e) es h.1)

rising : (before : Option Entry) (es : List Entry) → Follow IsEntryAfter before es → AreRising es
rising before [] h = tt
rising before (e ∷ []) h = tt
rising before (e ∷ f ∷ es) h = (is_less _ h.1.0.after, rising (Some e) (f ∷ es) h.1)

follow_on : (e : Entry) (es : List Entry) → AllByRecursion IsEntry es → AreRising (e ∷ es) → Follow IsEntryAfter (Some e) es
follow_on e [] all rises = tt
follow_on e (f ∷ es) all rises = (record { entry = all.0; after = ap is_lt rises.0 }, follow_on f es all.1 rises.1)

follow : (es : List Entry) → AllByRecursion IsEntry es → AreRising es → Follow IsEntryAfter None es
follow [] all rises = tt
follow (e ∷ es) all rises = (record { entry = all.0; after = refl }, follow_on e es all.1 rises)

-- ---- profiles

profile_takes : (bytes : List ℕ) (x : List Entry × List ℕ) → AreBytes bytes → profile_at bytes ≡ Ok x → Takes bytes (profile_bytes x.0) x.1 × IsBlockProfile x.0
unfolding profile_at
profile_takes bytes x bounded e =
    let a = bind_ok (number_at w32 bytes) (after_count entry_at 18 (length bytes)) x e in
    let first = u32_exact.takes bytes a.0 bounded a.1 in
    let lt = u32_exact.fits bytes a.0 bounded a.1 in
    let second = counted_take entry_at entry_bytes IsEntryAfter entry_exact 18 (length bytes) a.0 x first.rest_fits a.2 in
    let both = Takes-then bytes (to_le_bytes w32 a.0.0) a.0.1 (flat_map entry_bytes x.0) x.1 first second.0 in (
      subst (λ (n : ℕ). Takes bytes (to_le_bytes w32 n ++ flat_map entry_bytes x.0) x.1) (sym second.1.0) both,
      record { count = subst (λ (n : ℕ). n < 2 ^ 32) (sym second.1.0) lt; entries = all_entries None x.0 second.1.1; rising = rising None x.0 second.1.1 },
    )

eighteen : (e : Entry) → 18 ≤ length (entry_bytes e)
eighteen e = omega arith

profile_again : (es : List Entry) (rest : List ℕ) → IsBlockProfile es → profile_at (profile_bytes es ++ rest) ≡ Ok (es, rest)
unfolding profile_at
profile_again es rest is =
    let regrouped : profile_bytes es ++ rest ≡ to_le_bytes w32 (length es) ++ (flat_map entry_bytes es ++ rest) = append_assoc (to_le_bytes w32 (length es)) (flat_map entry_bytes es) rest in
    ap profile_at regrouped ∙ rw (u32_exact.again (length es) (flat_map entry_bytes es ++ rest) is.count) (counted_again entry_at entry_bytes IsEntryAfter entry_exact 18 _ eighteen es rest (follow es is.entries is.rising))

pub profile_exact : ReadsExactly profile_at profile_bytes IsBlockProfile
profile_exact = record {
  takes = λ bytes x bounded e. (profile_takes bytes x bounded e).0;
  fits = λ bytes x bounded e. (profile_takes bytes x bounded e).1;
  again = profile_again;
}
