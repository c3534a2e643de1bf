-- What any spelling of a part of a tree says of it, and that the part's shortest bytes are no more; and how this goes
-- from parts to wholes.
use Rattle.std.proofs.Common.{◌≡◌, ℕ, ◌+◌, ◌≤◌, Bool, true, List, [], ◌∷◌, ◌++◌, length, refl, sym, ap, ◌∙◌, arith, length-append, ℤ}
use Rattle.std.specs.Prelude.{⊤}
use Rattle.std.specs.List.{list_all}
use Rattle.std.proofs.lemmas.Bool.{lt-ltb}
use Rattle.spec_modules.specs.Limits.{is_u32, is_byte, is_signed, first, both}
use Rattle.spec_modules.specs.Language.{Language, byte, run, ◌⨾◌}
use Rattle.spec_modules.specs.Leb.{u32, s32, s64}
use Rattle.spec_modules.specs.Grammar.{vector, sized, section, customs, list_section}
use Rattle.spec_modules.specs.Shortest.{u32_bytes, s32_bytes, s64_bytes, run_bytes, vector_bytes, byte_bytes, sized_bytes, list_section_bytes}
use Rattle.laws_modules.specs.Readers.{Each}
use Rattle.laws_modules.specs.ShortestBytes.{Bytes}
use Rattle.laws_modules.specs.Numbers.{parts, count_rises, count_sum, unsigned_short, unsigned_below, signed_short, signed_within}

-- whatever bytes spell it, T holds, and the best bytes are no more
pub record Good (P : Language) (T : Type 0) (best : List ℕ) : Type 0 where
  pub keeps : (bs : List ℕ) → Bytes bs → P bs → T × (length best ≤ length bs)

pub good_as : {P Q : Language} {T U : Type 0} {a b : List ℕ} → ((bs : List ℕ) → Q bs → P bs) → (T → U) → length b ≤ length a → Good P T a → Good Q U b
good_as into means less g = record {
  keeps = λ bs w s.
      let k = g.keeps bs w (into bs s) in
      (means k.0, omega (arith, less, k.1));
}

pub good_means : {P : Language} {T U : Type 0} {a : List ℕ} → (T → U) → Good P T a → Good P U a
good_means means g = record {
  keeps = λ bs w s.
      let k = g.keeps bs w s in
      (means k.0, k.1);
}

-- ---- One after another

pub good_byte : (k : ℕ) → Good (byte k) ⊤ (k ∷ [])
good_byte k = record { keeps = λ bs w s. (tt, omega (arith, ap length s)) }

pub good_then : {P Q : Language} {T U : Type 0} {a b : List ℕ} → Good P T a → Good Q U b → Good (P ⨾ Q) (T × U) (a ++ b)
good_then {a} {b} g h = record {
  keeps = λ bs w s.
      let p = parts s.0 s.1 bs s.2 w in
      let k = g.keeps s.0 p.0 s.3 in
      let l = h.keeps s.1 p.1 s.4 in
      ((k.0, l.0), omega (arith, k.1, l.1, length-append a b, ap length s.2, length-append s.0 s.1));
}

pub good_front : {P : Language} {T : Type 0} {a : List ℕ} (k : ℕ) → Good P T a → Good (byte k ⨾ P) T (k ∷ a)
good_front k g = good_means (λ p. p.1) (good_then (good_byte k) g)

pub good_end : {P : Language} {T : Type 0} {a : List ℕ} (k : ℕ) → Good P T a → Good (P ⨾ byte k) T (a ++ k ∷ [])
good_end k g = good_means (λ p. p.0) (good_then g (good_byte k))

-- ---- Numbers

abbrev pub IsU32 : ℕ → Type 0
IsU32 n = is_u32 n ≡ true

abbrev pub IsByte : ℕ → Type 0
IsByte b = is_byte b ≡ true

pub good_u32 : (n : ℕ) → Good (u32 n) (IsU32 n) (u32_bytes n)
unfolding u32_bytes
good_u32 n = record {
  keeps = λ bs w s. (lt-ltb n 4294967296 (unsigned_below 32 n bs w s), unsigned_short 4 32 n bs w s);
}

pub good_s32 : (z : ℤ) → Good (s32 z) (is_signed 2147483648 z ≡ true) (s32_bytes z)
unfolding s32_bytes
good_s32 z = record {
  keeps = λ bs w s. (signed_within 32 z bs w s, signed_short 4 32 z bs w s);
}

pub good_s64 : (z : ℤ) → Good (s64 z) (is_signed 9223372036854775808 z ≡ true) (s64_bytes z)
unfolding s64_bytes
good_s64 z = record {
  keeps = λ bs w s. (signed_within 64 z bs w s, signed_short 9 64 z bs w s);
}

pub good_any_byte : (b : ℕ) → Good (byte b) (IsByte b) (byte_bytes b)
good_any_byte b = record {
  keeps = λ bs w s. (
    first (is_byte b) true (sym (ap (list_all is_byte) s) ∙ w),
    omega (arith, ap length s),
  );
}

pub u32_rises : (m n : ℕ) → m ≤ n → length (u32_bytes m) ≤ length (u32_bytes n)
unfolding u32_bytes
u32_rises m n l = count_rises 4 m n l

pub u32_sum : (m n : ℕ) → length (u32_bytes (m + n)) ≤ length (u32_bytes m) + length (u32_bytes n)
unfolding u32_bytes
u32_sum m n = count_sum 4 m n

-- ---- Vectors

module _ {X : Type 0} {F : X → Language} {T : X → Type 0} {f : X → List ℕ} (good : (x : X) → Good (F x) (T x) (f x)) where
  pub good_run : (xs : List X) → Good (run F xs) (Each T xs) (run_bytes f xs)
  good_run [] = record { keeps = λ bs w s. (tt, omega arith) }
  good_run (x ∷ xs) = good_then (good x) (good_run xs)

  pub good_vector : (xs : List X) → Good (vector F xs) (Each T xs) (vector_bytes f xs)
  good_vector xs = good_means (λ p. p.1) (good_then (good_u32 (length xs)) (good_run xs))

pub all_of_each : {X : Type 0} (test : X → Bool) (xs : List X) → Each (λ x. test x ≡ true) xs → list_all test xs ≡ true
all_of_each test [] h = refl
all_of_each test (x ∷ xs) h = both (test x) (list_all test xs) h.0 (all_of_each test xs h.1)

-- where the elements are within limits
pub all_of_limits : {X : Type 0} (L : X → Type 0) (test : X → Bool) (xs : List X) → Each (λ x. L x → test x ≡ true) xs → Each L xs → list_all test xs ≡ true
all_of_limits L test [] h l = refl
all_of_limits L test (x ∷ xs) h l = both (test x) (list_all test xs) (h.0 l.0) (all_of_limits L test xs h.1 l.1)

-- ---- Sections

pub good_sized : {P : Language} {T : Type 0} {a : List ℕ} → Good P T a → Good (sized P) T (sized_bytes a)
good_sized {a} g = record {
  keeps = λ bs w s.
      let p = parts s.0 s.1 bs s.2 w in
      let k = g.keeps s.1 p.1 s.4 in
      let n = (good_u32 (length s.1)).keeps s.0 p.0 s.3 in
      let less = u32_rises (length a) (length s.1) k.1 in
      (k.0, omega (arith, k.1, n.1, less, length-append (u32_bytes (length a)) a, ap length s.2, length-append s.0 s.1));
}

pub good_section : {P : Language} {T : Type 0} {a : List ℕ} (id : ℕ) → Good P T a → Good (section id P) T (id ∷ sized_bytes a)
good_section id g = good_front id (good_sized g)

pub good_list_section : {X : Type 0} {F : X → Language} {T : X → Type 0} {f : X → List ℕ} (id : ℕ) → ((x : X) → Good (F x) (T x) (f x)) → (xs : List X)
    → Good (list_section id F xs) (Each T xs) (list_section_bytes id f xs)
good_list_section id good [] = record { keeps = λ bs w s. (tt, omega arith) }
good_list_section id good (x ∷ xs) = good_section id (good_vector good (x ∷ xs))

-- behind custom sections
pub good_skip : {P : Language} {T : Type 0} {a : List ℕ} → Good P T a → Good (customs ⨾ P) T a
good_skip g = record {
  keeps = λ bs w s.
      let p = parts s.0 s.1 bs s.2 w in
      let k = g.keeps s.1 p.1 s.4 in
      (k.0, omega (arith, k.1, ap length s.2, length-append s.0 s.1));
}
