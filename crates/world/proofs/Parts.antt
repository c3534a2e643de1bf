-- Contracts stand one after another.
use Rattle.std.proofs.Common.{◌≡◌, ◌≢◌, ℕ, ◌+◌, ◌^◌, ◌<◌, ◌≤◌, ◌⊎◌, false, ltb, cond, List, [], ◌∷◌, ◌++◌, length, take, drop, Ok, Err, refl, sym, ap, subst, ◌∙◌, append_assoc, append-nil, arith, inl, inr}
use Rattle.std.specs.Int.{w32, to_le_bytes}
use Rattle.std.specs.List.{flat_map, AllByRecursion}
use Rattle.std.proofs.lemmas.Bool.{le-ltb, ltb-false}
use Rattle.std.proofs.lemmas.List.{length-append, take_at, drop_at, take-append-drop, length-take}
use Rattle.std.proofs.lemmas.Grind.{flat_map-append}
use Rattle.spec_modules.specs.Shortest.{shortest}
use Rattle.spec_block.specs.Worlds.{Contract}
use Rattle.spec_block.specs.Bytes.{contract_bytes, IsTree}
use Rattle.records.specs.declared.fault.Fault.{Fault}
use Rattle.records.specs.declared.fault.Fault.TheVariants.{Malformed, TooLarge, NoMemory}
use Rattle.records.specs.Reading.{Read, Fails, number_at}
use Rattle.records.specs.Exact.{AreBytes}
use Rattle.records.proofs.Steps.{bind_ok, guard_ok, ok_is}
use Rattle.records.proofs.Numbers.{u32_exact}
use Rattle.world.specs.Reading.{IsBody, IsNoBody, body_at, BeginsWith, BeginsWithNone, AreRead, IsFaultAmong}

-- ---- a length and so many bytes

body_taken : (bytes : List ℕ) (x : List ℕ × List ℕ) → AreBytes bytes → body_at bytes ≡ Ok x → bytes ≡ (to_le_bytes w32 (length x.0) ++ x.0) ++ x.1
unfolding body_at
body_taken bytes x bounded e =
    let judged : ℕ × List ℕ → Read (List ℕ) = λ size. cond (ltb (length size.1) size.0) (Err (Malformed (length bytes))) (Ok (take size.0 size.1, drop size.0 size.1)) in
    let a = bind_ok (number_at w32 bytes) judged x e in
    let made : List ℕ × List ℕ = (take a.0.0 a.0.1, drop a.0.0 a.0.1) in
    let g = guard_ok (ltb (length a.0.1) a.0.0) (Malformed (length bytes)) (Ok made) x a.2 in
    let enough : a.0.0 ≤ length a.0.1 = ltb-false _ _ g.0 in
    let size : length (take a.0.0 a.0.1) ≡ a.0.0 = let l = length-take a.0.0 a.0.1 in omega (arith, l, enough) in
    let parts : bytes ≡ to_le_bytes w32 a.0.0 ++ a.0.1 = (u32_exact.takes bytes a.0 bounded a.1).parts in
    subst (λ (y : List ℕ × List ℕ). bytes ≡ (to_le_bytes w32 (length y.0) ++ y.0) ++ y.1) (ok_is made x g.1)
    (parts ∙ (ap (λ (w : List ℕ). to_le_bytes w32 a.0.0 ++ w) (sym (take-append-drop a.0.0 a.0.1))
    ∙ (sym (append_assoc (to_le_bytes w32 a.0.0) (take a.0.0 a.0.1) (drop a.0.0 a.0.1))
    ∙ ap (λ (n : ℕ). (to_le_bytes w32 n ++ take a.0.0 a.0.1) ++ drop a.0.0 a.0.1) (sym size))))

body_there : (body rest : List ℕ) → length body < 2 ^ 32 → body_at ((to_le_bytes w32 (length body) ++ body) ++ rest) ≡ Ok (body, rest)
unfolding body_at
body_there body rest fits =
    let enough : ltb (length (body ++ rest)) (length body) ≡ false = le-ltb _ _ (let l = length-append body rest in omega (arith, l)) in
    ap body_at (append_assoc (to_le_bytes w32 (length body)) body rest) ∙ rw (u32_exact.again (length body) (body ++ rest) fits, enough, take_at body rest (length body) refl, drop_at body rest (length body) refl) refl

-- ---- a contract in front

body_of : (bytes : List ℕ) (c : Contract) (rest : List ℕ) → BeginsWith bytes c rest → body_at bytes ≡ Ok (shortest c.tree, rest)
body_of bytes c rest begins =
    let small = begins.tree.tree.bytes_fit in
    ap body_at begins.parts ∙ body_there (shortest c.tree) rest (omega (arith, small))

pub begins : (bytes body rest : List ℕ) (c : Contract) → AreBytes bytes → body_at bytes ≡ Ok (body, rest) → IsBody body c → BeginsWith bytes c rest
begins bytes body rest c bounded e is = record {
  tree = is.tree;
  parts = subst (λ (b : List ℕ). bytes ≡ (to_le_bytes w32 (length b) ++ b) ++ rest) is.is (body_taken bytes (body, rest) bounded e);
}

pub none_of : (bytes body rest : List ℕ) → body_at bytes ≡ Ok (body, rest) → IsNoBody body → BeginsWithNone bytes
none_of bytes body rest e none = λ c after there.
    let same : (body, rest) ≡ (shortest c.tree, after) = ok_is (body, rest) (shortest c.tree, after) (sym e ∙ body_of bytes c after there) in
    none c (record { tree = there.tree; is = ap (λ (x : List ℕ × List ℕ). x.0) same })

none_at : (bytes : List ℕ) (f : Fault) → f ≢ NoMemory → Fails f (body_at bytes) → BeginsWithNone bytes
none_at bytes (Malformed left) other fails = λ c after there. absurd (let e = body_of bytes c after there in cc (e, fails))
none_at bytes TooLarge other fails = λ c after there. absurd (let e = body_of bytes c after there in cc (e, fails))
none_at bytes NoMemory other fails = absurd (other refl)

pub blame : (bytes : List ℕ) (f r : Fault) → Fails f (body_at bytes) → ((f ≡ NoMemory) × (r ≡ NoMemory)) ⊎ ((f ≢ NoMemory) × (r ≡ Malformed (length bytes))) → (r ≡ NoMemory) ⊎ ((r ≡ Malformed (length bytes)) × BeginsWithNone bytes)
blame bytes f r fails (inl e) = inl e.1
blame bytes f r fails (inr e) = inr (e.1, none_at bytes f e.0 fails)

-- ---- contracts

all_last : (cs : List Contract) (c : Contract) → AllByRecursion IsTree cs → IsTree c → AllByRecursion IsTree (cs ++ c ∷ [])
all_last [] c all is = (is, tt)
all_last (d ∷ cs) c all is = (all.0, all_last cs c all.1 is)

pub one_more : (n : ℕ) (bytes : List ℕ) (cs : List Contract) (rest : List ℕ) (c : Contract) (after : List ℕ) → AreRead n bytes cs rest → BeginsWith rest c after → AreRead (n + 1) bytes (cs ++ c ∷ []) after
one_more n bytes cs rest c after read there = record {
  number = length-append cs (c ∷ []) ∙ (let m = read.number in omega (arith, m));
  trees = all_last cs c read.trees there.tree;
  parts = read.parts ∙ (ap (λ (w : List ℕ). flat_map contract_bytes cs ++ w) there.parts
      ∙ (sym (append_assoc (flat_map contract_bytes cs) (contract_bytes c) after)
      ∙ ap (λ (w : List ℕ). w ++ after) (ap (λ (w : List ℕ). flat_map contract_bytes cs ++ w) (sym (append-nil (contract_bytes c))) ∙ sym (flat_map-append contract_bytes cs (c ∷ [])))));
}

pub stops : (count n : ℕ) (bytes : List ℕ) (cs : List Contract) (rest : List ℕ) (f : Fault) → AreRead n bytes cs rest → n < count → (f ≡ NoMemory) ⊎ ((f ≡ Malformed (length rest)) × BeginsWithNone rest) → IsFaultAmong count bytes f
stops count n bytes cs rest f read lt (inl e) = subst (IsFaultAmong count bytes) (sym e) tt
stops count n bytes cs rest f read lt (inr none) =
    subst (IsFaultAmong count bytes) (sym none.0) (record {
      contracts = cs;
      rest = rest;
      fewer = (let m = read.number in omega (arith, m, lt));
      read = record { number = refl; trees = read.trees; parts = read.parts };
      none = none.1;
      at = refl;
    })
