-- Data segments that are laid over the bytes of a memory.
use Rattle.std.proofs.Common.{◌≡◌, ℕ, zero, suc, ◌+◌, ◌-◌, ◌*◌, ◌<◌, ◌≤◌, List, [], ◌∷◌, ◌++◌, length, map, take, drop, refl, sym, ap, ◌∙◌, subst, arith, inl, inr, Some, None, Option, Bool, true, false, nat_le, slice_get, get_or}
use Rattle.std.specs.Prelude.{◌==◌, unwrap_or, slice_index, slice_index_or, All, replicate, filter_map}
use Rattle.std.specs.List.{range_with_len, cons_option}
use Rattle.std.specs.Option.{option_or}
use Rattle.std.specs.Int.{cast_unsigned, w32}
use Rattle.std.proofs.lemmas.Bool.{cases_lt}
use Rattle.std.proofs.lemmas.Bool.Decides.{nat_tests}
use Rattle.std.proofs.lemmas.Grind.{common_steps}
use Rattle.std.proofs.lemmas.List.{ext_get_or, length-drop, length-replicate, take_all}
use Rattle.std.proofs.lemmas.List.Elements.{All-nil, All-cons, All-head, All-tail}
use Rattle.std.proofs.lemmas.List.FromFn.{length-map-range_with_len, get_or-map-range_with_len}
use Rattle.std.proofs.lemmas.Option.{same_Some, slice_get-get_or, slice_get_past}
use mathlib.Core.Path.{fun_ext}
use Rattle.wtypes.specs.declared.Value.TheVariants as value
use Rattle.wtypes.specs.declared.HostCall.{HostCall}
use Rattle.wtypes.specs.declared.PlainInstr.TheVariants.{Const}
use Rattle.spec_modules.specs.Syntax.{Plain, Instrs, nothing, seq, FuncType, Limits, Import, ImportDesc, ImportFunc, DataSegment, Module}
use Rattle.spec_modules.specs.Profile.{page_size, page_limit}
use Rattle.spec_modules.specs.Operators.{bits_of}
use Rattle.spec_modules.specs.Memory.{written}
use Rattle.spec_typing.specs.Modules.{memories, memory_of}
use Rattle.spec_typing.specs.Linking.{IsLinked, Resolves, InTable, InMemory, InRange, offset_number}
use Rattle.spec_execution.specs.Configuration.{constant, size_of, with_datas, fresh}
use Rattle.memory.specs.Runs.{chosen, begun, own_byte}
use Rattle.link.specs.Starts.{EndsWithin, IsLaid}

-- ---- Bytes in place

length_written : (bs news : List ℕ) (at : ℕ) → at + length news ≤ length bs → length (written at news bs) ≡ length bs
length_written bs news at h = grind (arith, common_steps)

below : (bs news : List ℕ) (at k : ℕ) → at + length news ≤ length bs → k < at → slice_index (written at news bs) k ≡ slice_index bs k
below bs news at k h l = grind (arith, common_steps)

within : (bs news : List ℕ) (at k : ℕ) → at + length news ≤ length bs → at ≤ k → k < at + length news → slice_index (written at news bs) k ≡ slice_index news (k - at)
within bs news at k h l m = grind (arith, common_steps)

above : (bs news : List ℕ) (at k : ℕ) → at + length news ≤ length bs → at + length news ≤ k → slice_index (written at news bs) k ≡ slice_index bs k
above bs news at k h l = grind (arith, common_steps)

test_below : (at k : ℕ) → k < at → nat_le at k ≡ false
test_below at k h = grind (arith, nat_tests)

test_there : (at k : ℕ) → at ≤ k → nat_le at k ≡ true
test_there at k h = grind (arith, nat_tests)

own_below : (at : ℕ) (news : List ℕ) (k : ℕ) → k < at → own_byte at news k ≡ None
own_below at news k h = ap (λ t. chosen t (slice_get news (k - at)) None) (test_below at k h)

own_within : (at : ℕ) (news : List ℕ) (k : ℕ) → at ≤ k → k < at + length news → own_byte at news k ≡ Some (slice_index news (k - at))
own_within at news k h l =
    ap (λ t. chosen t (slice_get news (k - at)) None) (test_there at k h) ∙ slice_get-get_or news (k - at) 0 (omega (arith, h, l))

own_above : (at : ℕ) (news : List ℕ) (k : ℕ) → at + length news ≤ k → own_byte at news k ≡ None
own_above at news k h = ap (λ t. chosen t (slice_get news (k - at)) None) (test_there at k (omega (arith, h))) ∙ slice_get_past news (k - at) (omega (arith, h))

at_written : (at : ℕ) (news bs : List ℕ) (k : ℕ) → at + length news ≤ length bs → slice_index (written at news bs) k ≡ unwrap_or (own_byte at news k) (slice_index bs k)
at_written at news bs k le = elim (cases_lt k at) [
  | inl l ↦ below bs news at k le l ∙ sym (ap (λ o. unwrap_or o (slice_index bs k)) (own_below at news k l))
  | inr l ↦ elim (cases_lt k (at + length news)) [
    | inl m ↦ within bs news at k le l m ∙ sym (ap (λ o. unwrap_or o (slice_index bs k)) (own_within at news k l m))
    | inr m ↦ above bs news at k le m ∙ sym (ap (λ o. unwrap_or o (slice_index bs k)) (own_above at news k m))
  ]
]

-- ---- Segments

pub const_number : (e : Instrs) (at : ℕ) → offset_number e ≡ Some at → bits_of (constant e) ≡ at
const_number (seq (Plain (Const (value.I32 k))) nothing) at e = (let there : cast_unsigned w32 k ≡ at = cc in there)
const_number _ at e = absurd (cc)

laid_length : (ds : List DataSegment) (bytes : List ℕ) → All (EndsWithin (length bytes)) ds → length (with_datas ds bytes) ≡ length bytes
laid_length [] bytes h = refl
laid_length (d ∷ ds) bytes h =
    let (at, off, le) = All-head (EndsWithin (length bytes)) d ds h in
    let number : bits_of (constant d.offset) ≡ at = const_number d.offset at off in
    let one : length (written (bits_of (constant d.offset)) d.bytes bytes) ≡ length bytes = length_written bytes d.bytes (bits_of (constant d.offset)) (omega (arith, number, le)) in
    laid_length ds (written (bits_of (constant d.offset)) d.bytes bytes) (subst (λ n. All (EndsWithin n) ds) (sym one) (All-tail (EndsWithin (length bytes)) d ds h)) ∙ one

none_chosen : (b : Bool) → chosen b None None ≡ None
none_chosen true = refl
none_chosen false = refl

own_nothing : (k : ℕ) → own_byte 0 [] k ≡ None
own_nothing k = own_above 0 [] k (omega arith)

pub laid_none : (s : ℕ → Option ℕ) → ((k : ℕ) → s k ≡ own_byte 0 [] k) → IsLaid s []
laid_none s e = record {
  over = λ bytes h k q. sym (ap (λ o. unwrap_or o (slice_index bytes k)) (e k ∙ own_nothing k));
  ends = λ size h k q. e k ∙ own_nothing k;
}

pub laid_one : (s : ℕ → Option ℕ) (d : DataSegment) (at : ℕ) → offset_number d.offset ≡ Some at → ((k : ℕ) → s k ≡ own_byte at d.bytes k) → IsLaid s (d ∷ [])
laid_one s d at off e = record {
  over = λ bytes h k q.
      let (bt, off', le) = All-head (EndsWithin (length bytes)) d [] h in
      let same : bt ≡ at = same_Some bt at (sym off' ∙ off) in
      let number : bits_of (constant d.offset) ≡ at = const_number d.offset at off in
      ap (λ n. slice_index (written n d.bytes bytes) k) number ∙ (at_written at d.bytes bytes k (omega (arith, same, le)) ∙ sym (ap (λ o. unwrap_or o (slice_index bytes k)) (e k)));
  ends = λ size h k q.
      let (bt, off', le) = All-head (EndsWithin size) d [] h in
      let same : bt ≡ at = same_Some bt at (sym off' ∙ off) in
      e k ∙ own_above at d.bytes k (omega (arith, same, le, q));
}

with_both : (xs ys : List DataSegment) (bytes : List ℕ) → with_datas (xs ++ ys) bytes ≡ with_datas ys (with_datas xs bytes)
with_both [] ys bytes = refl
with_both (d ∷ xs) ys bytes = with_both xs ys (written (bits_of (constant d.offset)) d.bytes bytes)

pub all_left : {X : Type 0} (P : X → Type 0) (xs ys : List X) → All P (xs ++ ys) → All P xs
all_left P [] ys h = All-nil P
all_left P (x ∷ xs) ys h = All-cons P x xs (All-head P x (xs ++ ys) h) (all_left P xs ys (All-tail P x (xs ++ ys) h))

all_right : {X : Type 0} (P : X → Type 0) (xs ys : List X) → All P (xs ++ ys) → All P ys
all_right P [] ys h = h
all_right P (x ∷ xs) ys h = all_right P xs ys (All-tail P x (xs ++ ys) h)

or_both : (a b : Option ℕ) (x : ℕ) → unwrap_or a (unwrap_or b x) ≡ unwrap_or (option_or a b) x
or_both None b x = refl
or_both (Some y) b x = refl

or_nothing : (a b : Option ℕ) → a ≡ None → b ≡ None → option_or a b ≡ None
or_nothing a b e f = ap (λ o. option_or o b) e ∙ f

pub laid_both : (s t u : ℕ → Option ℕ) (xs ys : List DataSegment) → IsLaid s xs → IsLaid t ys → ((k : ℕ) → u k ≡ option_or (t k) (s k)) → IsLaid u (xs ++ ys)
laid_both s t u xs ys a b e = record {
  over = λ bytes h k q.
      let hx = all_left (EndsWithin (length bytes)) xs ys h in
      let l : length (with_datas xs bytes) ≡ length bytes = laid_length xs bytes hx in
      let hy = subst (λ n. All (EndsWithin n) ys) (sym l) (all_right (EndsWithin (length bytes)) xs ys h) in
      ap (λ bs. slice_index bs k) (with_both xs ys bytes) ∙ (b.over (with_datas xs bytes) hy k (omega (arith, l, q))
      ∙ (ap (unwrap_or (t k)) (a.over bytes hx k q) ∙ (or_both (t k) (s k) (slice_index bytes k) ∙ sym (ap (λ o. unwrap_or o (slice_index bytes k)) (e k)))));
  ends = λ size h k q.
      e k ∙ or_nothing (t k) (s k) (b.ends size (all_right (EndsWithin size) xs ys h) k q) (a.ends size (all_left (EndsWithin size) xs ys h) k q);
}

-- ---- The segments of a linked module

pub none_else : {X : Type 0} (f : ImportDesc → Option X) → ((index : ℕ) → f (ImportFunc index) ≡ None) → (types : List FuncType) (is : List Import) (cs : List HostCall) → Resolves types is cs → filter_map (λ (i : Import). f i.desc) is ≡ []
none_else f k types [] [] r = refl
none_else f k types [] (c ∷ cs) r = absurd r
none_else f k types (i ∷ is) [] r = absurd r
none_else f k types (i ∷ is) (c ∷ cs) r =
    let e : f i.desc ≡ None = ap f r.0.1.1 ∙ k r.0.1.0 in
    ap (λ o. cons_option o (filter_map (λ (i : Import). f i.desc) is)) e ∙ none_else f k types is cs r.1

pub only_one : (ms : List Limits) (k : ℕ) (l : Limits) → length ms ≤ 1 → slice_get ms k ≡ Some l → size_of ms ≡ l.min
only_one [] k l le e = absurd (cc)
only_one (x ∷ []) zero l le e = ap (λ (y : Limits). y.min) (let same : x ≡ l = cc in same)
only_one (x ∷ []) (suc k) l le e = absurd (cc)
only_one (x ∷ y ∷ ms) k l le e = absurd (omega arith)

few_list : (ms : List Limits) → All (λ limits. limits.min ≤ page_limit) ms → size_of ms ≤ page_limit
few_list [] h = omega arith
few_list (l ∷ ls) h = All-head (λ (l : Limits). l.min ≤ page_limit) l ls h

all_unmap : {X Y : Type 0} (P : Y → Type 0) (Q : X → Type 0) (f : X → Y) → ((x : X) → P (f x) → Q x) → (xs : List X) → All P (map f xs) → All Q xs
all_unmap P Q f k [] h = All-nil Q
all_unmap P Q f k (x ∷ xs) h = All-cons Q x xs (k x (All-head P (f x) (map f xs) h)) (all_unmap P Q f k xs (All-tail P (f x) (map f xs) h))

all_more : {X : Type 0} (P Q : X → Type 0) → ((x : X) → P x → Q x) → (xs : List X) → All P xs → All Q xs
all_more P Q k [] h = All-nil Q
all_more P Q k (x ∷ xs) h = All-cons Q x xs (k x (All-head P x xs h)) (all_more P Q k xs (All-tail P x xs h))

zeros_at : (n k : ℕ) → slice_index (replicate n 0) k ≡ 0
zeros_at zero k = refl
zeros_at (suc n) zero = refl
zeros_at (suc n) (suc k) = zeros_at n k

module _ (m : Module) (calls : List HostCall) (l : IsLinked m calls) where
  memories_own : memories m ≡ m.memories
  memories_own = ap (λ xs. xs ++ m.memories) (none_else memory_of (λ i. refl) m.types m.imports calls l.imports)

  memory_few : size_of m.memories ≤ page_limit
  memory_few = few_list m.memories (subst (All (λ limits. limits.min ≤ page_limit)) memories_own l.pages)

  ends_within : (d : DataSegment) → InRange m (InMemory d) → EndsWithin (page_size * size_of m.memories) d
  ends_within d h =
      let (end, size, (at, limits, off, found, end_is, size_is), le) = h in
      let own : size_of m.memories ≡ limits.min = only_one m.memories d.memory limits (subst (λ (ms : List Limits). length ms ≤ 1) memories_own l.typed.one_memory) (subst (λ (ms : List Limits). slice_get ms d.memory ≡ Some limits) memories_own found) in
      (at, off, omega (arith, own, end_is, size_is, le))

  all_within : All (EndsWithin (page_size * size_of m.memories)) m.datas
  all_within = all_unmap (InRange m) (EndsWithin (page_size * size_of m.memories)) InMemory ends_within m.datas (all_right (InRange m) (map InTable m.elements) (map InMemory m.datas) l.segments_fit)

  pub all_small : All (EndsWithin (page_size * page_limit)) m.datas
  all_small = all_more (EndsWithin (page_size * size_of m.memories)) (EndsWithin (page_size * page_limit)) (λ d h. let (at, off, le) = h in (at, off, omega (arith, le, memory_few))) m.datas all_within

  pub first_is : (s : ℕ → Option ℕ) → IsLaid s m.datas → map (begun s) (range_with_len 0 (page_size * size_of m.memories)) ≡ (fresh m).memory
  first_is s a =
      let n = page_size * size_of m.memories in
      let z : length (replicate {A = ℕ} n 0) ≡ n = length-replicate n 0 in
      let h = subst (λ k. All (EndsWithin k) m.datas) (sym z) all_within in
      let w = laid_length m.datas (replicate n 0) h in
      let r = length-map-range_with_len (begun s) 0 n in
      ext_get_or 0 (map (begun s) (range_with_len 0 n)) (with_datas m.datas (replicate n 0)) (omega (arith, r, w, z))
      (λ k q. let below : k < n = omega (arith, r, q) in
      get_or-map-range_with_len (begun s) 0 n k k 0 below (omega arith)
      ∙ sym (a.over (replicate n 0) h k (omega (arith, z, below)) ∙ ap (unwrap_or (s k)) (zeros_at n k)))

  pub none_behind : (s : ℕ → Option ℕ) → IsLaid s m.datas → (k : ℕ) → page_size * size_of m.memories ≤ k → s k ≡ None
  none_behind s a = a.ends (page_size * size_of m.memories) all_within

-- ---- Lists of segments

pub none_left : {X : Type 0} (xs : List X) → length xs ≡ 0 → xs ≡ []
none_left [] e = refl
none_left (x ∷ xs) e = absurd (omega (arith, e))

pub some_left : (n : ℕ) (b : Bool) → b ≡ (n == 0) → b ≡ false → 0 < n
some_left zero b e h = grind arith
some_left (suc n) b e h = omega arith

pub one_left : {X Y : Type 0} (f : X → Y) (xs : List X) (x : X) → length xs ≡ 1 → x ≡ get_or xs 0 x → map f xs ≡ f x ∷ []
one_left f [] x e is = absurd (omega (arith, e))
one_left f (y ∷ []) x e is = ap (λ z. f z ∷ []) (sym is)
one_left f (y ∷ z ∷ xs) x e is = absurd (omega (arith, e))

pub two_parts : {X Y : Type 0} (f : X → Y) (xs : List X) (n : ℕ) → map f (take n xs) ++ map f (drop n xs) ≡ map f xs
two_parts f xs zero = refl
two_parts f [] (suc n) = refl
two_parts f (x ∷ xs) (suc n) = ap (λ l. f x ∷ l) (two_parts f xs n)

-- what stands from a place on, up to the end
pub up_to_end : {X : Type 0} (xs : List X) (n : ℕ) → take (length xs - n) (drop n xs) ≡ drop n xs
up_to_end xs n = take_all (length xs - n) (drop n xs) (omega (arith, length-drop n xs))

pub first_part : {X Y : Type 0} (P : Y → Type 0) (f : X → Y) (xs : List X) (n : ℕ) → All P (map f xs) → All P (map f (take n xs))
first_part P f xs n h = all_left P (map f (take n xs)) (map f (drop n xs)) (subst (All P) (sym (two_parts f xs n)) h)

pub last_part : {X Y : Type 0} (P : Y → Type 0) (f : X → Y) (xs : List X) (n : ℕ) → All P (map f xs) → All P (map f (drop n xs))
last_part P f xs n h = all_right P (map f (take n xs)) (map f (drop n xs)) (subst (All P) (sym (two_parts f xs n)) h)

pub same_start : (s t : ℕ → Option ℕ) (n : ℕ) → ((k : ℕ) → t k ≡ s k) → map (begun t) (range_with_len 0 n) ≡ map (begun s) (range_with_len 0 n)
same_start s t n e = ap (λ (f : ℕ → ℕ). map f (range_with_len 0 n)) (fun_ext (λ k. ap (λ o. unwrap_or o 0) (e k)))

pub all_at_map : {X Y : Type 0} (P : Y → Type 0) (f : X → Y) (xs : List X) → All P (map f xs) → (k : ℕ) (d : X) → k < length xs → P (f (slice_index_or xs k d))
all_at_map P f [] h k d lt = absurd (omega arith)
all_at_map P f (x ∷ xs) h zero d lt = All-head P (f x) (map f xs) h
all_at_map P f (x ∷ xs) h (suc k) d lt = all_at_map P f xs (All-tail P (f x) (map f xs) h) k d (omega arith)
