-- Numbers and runs of bytes are read exactly.
use Rattle.std.proofs.Common.{◌≡◌, ℕ, ◌+◌, ◌^◌, ◌<◌, ◌≤◌, false, ltb, eqb, List, ◌++◌, length, take, drop, Ok, refl, sym, subst, arith, inl, inr}
use Rattle.std.specs.Int.{Width, w32, w64, byte_len, from_le_bytes, to_le_bytes}
use Rattle.std.proofs.lemmas.Bool.{cases_lt, ltb-false, le-ltb, eqb-true, eq-eqb}
use Rattle.std.proofs.lemmas.List.{take_at, drop_at, take-append-drop, length-append, length-take, get_or-drop, get_or-take, get_or_past}
use Rattle.std.proofs.lemmas.Nat.{le_bytes_4, le_bytes_8, from_le_bytes-to_le_bytes_4, from_le_bytes-to_le_bytes_8}
use Rattle.byteorder.specs.Endian.{little_number}
use Rattle.records.specs.declared.fault.Fault.TheVariants.{Malformed}
use Rattle.records.specs.Reading.{number_at, front_at, tag_at}
use Rattle.records.specs.Exact.{AreBytes, Takes, ReadsExactly}
use Rattle.records.proofs.Steps.{bind_ok, guard_ok, guard_holds, ok_is}

drop_are_bytes : (n : ℕ) (bytes : List ℕ) → AreBytes bytes → AreBytes (drop n bytes)
drop_are_bytes n bytes h i = rw get_or-drop (h (n + i))

pub take_are_bytes : (n : ℕ) (bytes : List ℕ) → AreBytes bytes → AreBytes (take n bytes)
take_are_bytes n bytes h i =
    elim (cases_lt i n) [
      | inl lt ↦ rw (get_or-take n bytes i 0 lt) (h i)
      | inr le ↦ rw (get_or_past (take n bytes) i 0 (omega (arith, length-take n bytes))) (omega arith)
    ]

-- ---- so many bytes

abbrev pub HasSize : ℕ → List ℕ → Type 0
HasSize size bytes = (length bytes ≡ size) × AreBytes bytes

front_is : (size : ℕ) (bytes : List ℕ) (x : List ℕ × List ℕ) → front_at size bytes ≡ Ok x → (size ≤ length bytes) × ((take size bytes, drop size bytes) ≡ x)
front_is size bytes x e =
    let g = guard_ok (ltb (length bytes) size) (Malformed (length bytes)) (Ok (take size bytes, drop size bytes)) x e in
    (ltb-false _ _ g.0, ok_is (take size bytes, drop size bytes) x g.1)

pub front_exact : (size : ℕ) → ReadsExactly (front_at size) (λ front. front) (HasSize size)
front_exact size = record {
  takes = λ bytes x bounded e. let f = front_is size bytes x e in
      subst (λ (y : List ℕ × List ℕ). Takes bytes y.0 y.1) f.1 (record { parts = sym (take-append-drop size bytes); rest_fits = drop_are_bytes size bytes bounded });
  fits = λ bytes x bounded e. let f = front_is size bytes x e in
      subst (λ (y : List ℕ × List ℕ). HasSize size y.0) f.1 (let l = length-take size bytes in let le = f.0 in omega (arith, l, le), take_are_bytes size bytes bounded);
  again = λ front rest is. let len = is.0 in
      let long : ltb (length (front ++ rest)) size ≡ false = le-ltb _ _ (omega (arith, length-append front rest, len)) in
      rw (long, take_at front rest size len, drop_at front rest size len) refl;
}

-- ---- numbers

pub record IsWide (w : Width) (limit : ℕ) : Type 0 where
  pub len : (n : ℕ) → length (to_le_bytes w n) ≡ byte_len w
  pub back : (bytes : List ℕ) → length bytes ≡ byte_len w → AreBytes bytes → to_le_bytes w (from_le_bytes w bytes) ≡ bytes
  pub again : (n : ℕ) → n < limit → from_le_bytes w (to_le_bytes w n) ≡ n
  pub below : (bytes : List ℕ) → AreBytes bytes → from_le_bytes w bytes < limit

wide32 : IsWide w32 (2 ^ 32)
wide32 = record {
  len = λ n. refl;
  back = λ bytes len bounded. le_bytes_4 bytes _ len bounded refl;
  again = λ n lt. from_le_bytes-to_le_bytes_4 n lt;
  below = λ bytes bounded. omega (arith, bounded 0, bounded 1, bounded 2, bounded 3);
}

wide64 : IsWide w64 (2 ^ 64)
wide64 = record {
  len = λ n. refl;
  back = λ bytes len bounded. le_bytes_8 bytes _ len bounded refl;
  again = λ n lt. from_le_bytes-to_le_bytes_8 n lt;
  below = λ bytes bounded. omega (arith, bounded 0, bounded 1, bounded 2, bounded 3, bounded 4, bounded 5, bounded 6, bounded 7);
}

number_is : (w : Width) (bytes : List ℕ) (x : ℕ × List ℕ) → number_at w bytes ≡ Ok x → (byte_len w ≤ length bytes) × ((from_le_bytes w (take (byte_len w) bytes), drop (byte_len w) bytes) ≡ x)
number_is w bytes x e =
    let read : ℕ × List ℕ = (from_le_bytes w (take (byte_len w) bytes), drop (byte_len w) bytes) in
    let g = guard_ok (ltb (length bytes) (byte_len w)) (Malformed (length bytes)) (Ok read) x e in
    (ltb-false _ _ g.0, ok_is read x g.1)

number_exact : (w : Width) (limit : ℕ) → IsWide w limit → ReadsExactly (number_at w) (to_le_bytes w) (λ n. n < limit)
number_exact w limit wide = record {
  takes = λ bytes x bounded e. let f = number_is w bytes x e in
      let le = f.0 in
      let front : to_le_bytes w (from_le_bytes w (take (byte_len w) bytes)) ≡ take (byte_len w) bytes = wide.back (take (byte_len w) bytes) (omega (arith, length-take (byte_len w) bytes, le)) (take_are_bytes (byte_len w) bytes bounded) in
      subst (λ (y : ℕ × List ℕ). Takes bytes (to_le_bytes w y.0) y.1) f.1
      (record { parts = rw front (sym (take-append-drop (byte_len w) bytes)); rest_fits = drop_are_bytes (byte_len w) bytes bounded });
  fits = λ bytes x bounded e. let f = number_is w bytes x e in
      subst (λ (y : ℕ × List ℕ). y.0 < limit) f.1 (wide.below (take (byte_len w) bytes) (take_are_bytes (byte_len w) bytes bounded));
  again = λ n rest lt. let len = wide.len n in
      let long : ltb (length (to_le_bytes w n ++ rest)) (byte_len w) ≡ false = le-ltb _ _ (omega (arith, length-append (to_le_bytes w n) rest, len)) in
      rw (long, take_at (to_le_bytes w n) rest (byte_len w) len, drop_at (to_le_bytes w n) rest (byte_len w) len, wide.again n lt) refl;
}

pub u32_exact : ReadsExactly (number_at w32) (to_le_bytes w32) (λ n. n < 2 ^ 32)
u32_exact = number_exact w32 (2 ^ 32) wide32

pub u64_exact : ReadsExactly (number_at w64) (to_le_bytes w64) (λ n. n < 2 ^ 64)
u64_exact = number_exact w64 (2 ^ 64) wide64

-- ---- a number that has to be this one

pub tag_takes : (tag : ℕ) (bytes rest : List ℕ) → AreBytes bytes → tag_at tag bytes ≡ Ok rest → Takes bytes (to_le_bytes w32 tag) rest
unfolding tag_at
tag_takes tag bytes rest bounded e =
    let a = bind_ok (number_at w32 bytes) _ rest e in
    let g = guard_holds (eqb a.0.0 tag) (Malformed (length bytes)) (Ok a.0.1) rest a.2 in
    let after = ok_is a.0.1 rest g.1 in
    let t = u32_exact.takes bytes a.0 bounded a.1 in
    subst (λ (r : List ℕ). Takes bytes (to_le_bytes w32 tag) r) after (subst (λ (n : ℕ). Takes bytes (to_le_bytes w32 n) a.0.1) (eqb-true _ _ g.0) t)

pub tag_again : (tag : ℕ) (rest : List ℕ) → tag < 2 ^ 32 → tag_at tag (to_le_bytes w32 tag ++ rest) ≡ Ok rest
unfolding tag_at
tag_again tag rest lt = rw (u32_exact.again tag rest lt, eq-eqb tag tag refl) refl

-- ---- the same number, as another definition says it

pub little_4 : (bytes : List ℕ) → little_number 4 bytes ≡ from_le_bytes w32 bytes
little_4 bytes = omega arith

pub little_8 : (bytes : List ℕ) → little_number 8 bytes ≡ from_le_bytes w64 bytes
little_8 bytes = omega arith
