-- What the tests say of a module.
use Rattle.std.proofs.Common.{◌≡◌, ℕ, zero, suc, ◌+◌, ◌*◌, ◌<◌, ◌≤◌, nat_le, Bool, true, false, ◌&&◌, List, [], ◌∷◌, ◌++◌, Option, Some, None, All, map, take, get_or, length, slice_get, refl, sym, ap, ap₂, subst, ◌∙◌, arith}
use Rattle.std.specs.List.{list_all}
use Rattle.std.specs.Int.{cast_unsigned, w32}
use Rattle.std.proofs.lemmas.Bool.Decides.{nat_tests}
use Rattle.std.proofs.lemmas.List.Elements.{All-nil, All-cons, All-head, All-tail, All-append}
use Rattle.wtypes.specs.declared.ValType.TheVariants.{I32}
use Rattle.wtypes.specs.declared.Value.TheVariants as value
use Rattle.wtypes.specs.declared.HostCall.{HostCall}
use Rattle.wtypes.specs.declared.PlainInstr.TheVariants.{GlobalGet, Const}
use Rattle.spec_modules.specs.Syntax.{Instrs, Plain, nothing, seq, Limits, Import, Element, DataSegment, Module}
use Rattle.spec_modules.specs.Profile.{page_size, page_limit, element_limit}
use Rattle.spec_typing.specs.Modules.{table_of, memory_of, global_of, tables, memories, imported_globals, IsConstant, ElementTyped, DataTyped, ModuleTyped}
use Rattle.spec_typing.specs.Linking.{Names, IsCall, InTable, InMemory, segments, offset_number, InRange, OutOfRange, IsFirstFault, UnknownImport, ImportType, SegmentRange, TooManyPages, TableTooLarge}
use Rattle.spec_typing.proofs.Sound.{both}
use Rattle.spec_typing.proofs.Linked.{all_at}
use Rattle.link.specs.Tests.{first_fault, is_call, call_named, ends_in_table, ends_in_memory, element_fits, data_fits, is_within, AllCalls}
use Rattle.link.proofs.Faults.{first_at, none_fails}
use Rattle.link.proofs.Calls.{passes_is, fails_is, names_of, of_names, none_else}

-- ---- Lists

pub view_at : {X Y : Type 0} (f : X → Y) (xs : List X) (k : ℕ) (x : X) → k < length xs → x ≡ get_or xs k x → slice_get (map f xs) k ≡ Some (f x)
view_at f [] k x lt at = absurd (omega arith)
view_at f (y ∷ xs) zero x lt at = ap (λ y. Some (f y)) (sym at)
view_at f (y ∷ xs) (suc k) x lt at = view_at f xs k x (omega arith) at

all_more : {X : Type 0} (P Q : X → Type 0) → ((x : X) → P x → Q x) → (xs : List X) → All P xs → All Q xs
all_more P Q k [] h = All-nil Q
all_more P Q k (x ∷ xs) h = All-cons Q x xs (k x (All-head P x xs h)) (all_more P Q k xs (All-tail P x xs h))

all_map : {X Y : Type 0} (P : Y → Type 0) (f : X → Y) (xs : List X) → All (λ x. P (f x)) xs → All P (map f xs)
all_map P f [] h = All-nil P
all_map P f (x ∷ xs) h = All-cons P (f x) (map f xs) (All-head (λ x. P (f x)) x xs h) (all_map P f xs (All-tail (λ x. P (f x)) x xs h))

get_map : {X Y : Type 0} (f : X → Y) (xs : List X) (k : ℕ) (x : X) → slice_get xs k ≡ Some x → slice_get (map f xs) k ≡ Some (f x)
get_map f [] k x e = absurd (cc)
get_map f (y ∷ xs) zero x e = let same : y ≡ x = cc in ap (λ y. Some (f y)) same
get_map f (y ∷ xs) (suc k) x e = get_map f xs k x e

get_left : {X : Type 0} (xs ys : List X) (k : ℕ) (x : X) → slice_get xs k ≡ Some x → slice_get (xs ++ ys) k ≡ Some x
get_left [] ys k x e = absurd (cc)
get_left (y ∷ xs) ys zero x e = e
get_left (y ∷ xs) ys (suc k) x e = get_left xs ys k x e

get_right : {X Y : Type 0} (f : Y → X) (ys : List Y) (xs : List X) (k : ℕ) (x : X) → slice_get xs k ≡ Some x → (n : ℕ) → n ≡ length ys + k → slice_get (map f ys ++ xs) n ≡ Some x
get_right f [] xs k x e n same = let here : n ≡ k = omega (arith, same) in ap (slice_get xs) here ∙ e
get_right f (y ∷ ys) xs k x e zero same = absurd (omega (arith, same))
get_right f (y ∷ ys) xs k x e (suc n) same = get_right f ys xs k x e n (omega (arith, same))

take_left : {X Y : Type 0} (P : X → Type 0) (f : Y → X) (ys : List Y) (xs : List X) (k : ℕ) → k ≤ length ys → All (λ y. P (f y)) (take k ys) → All P (take k (map f ys ++ xs))
take_left P f ys xs zero le h = All-nil P
take_left P f [] xs (suc k) le h = absurd (omega arith)
take_left P f (y ∷ ys) xs (suc k) le h = All-cons P (f y) (take k (map f ys ++ xs)) (All-head (λ y. P (f y)) y (take k ys) h) (take_left P f ys xs k (omega arith) (All-tail (λ y. P (f y)) y (take k ys) h))

take_map : {X Y : Type 0} (P : X → Type 0) (f : Y → X) (ys : List Y) (k : ℕ) → All (λ y. P (f y)) (take k ys) → All P (take k (map f ys))
take_map P f ys zero h = All-nil P
take_map P f [] (suc k) h = All-nil P
take_map P f (y ∷ ys) (suc k) h = All-cons P (f y) (take k (map f ys)) (All-head (λ y. P (f y)) y (take k ys) h) (take_map P f ys k (All-tail (λ y. P (f y)) y (take k ys) h))

take_right : {X Y : Type 0} (P : X → Type 0) (f : Y → X) (ys : List Y) (xs : List X) (k n : ℕ) → n ≡ length ys + k → All (λ y. P (f y)) ys → All P (take k xs) → All P (take n (map f ys ++ xs))
take_right P f [] xs k n same h h' = let here : k ≡ n = omega (arith, same) in subst (λ n. All P (take n xs)) here h'
take_right P f (y ∷ ys) xs k zero same h h' = absurd (omega (arith, same))
take_right P f (y ∷ ys) xs k (suc n) same h h' = All-cons P (f y) (take n (map f ys ++ xs)) (All-head (λ y. P (f y)) y ys h) (take_right P f ys xs k n (omega (arith, same)) (All-tail (λ y. P (f y)) y ys h) h')

limits_there : (xs : List Limits) (k : ℕ) → k < length xs → (l : Limits) × (slice_get xs k ≡ Some l)
limits_there [] k lt = absurd (omega arith)
limits_there (x ∷ xs) zero lt = (x, refl)
limits_there (x ∷ xs) (suc k) lt = limits_there xs k (omega arith)

-- ---- Numbers

most_of : (a b : ℕ) → nat_le a b ≡ true → a ≤ b
most_of a b h = grind (arith, nat_tests)

more_of : (a b : ℕ) → nat_le a b ≡ false → b < a
more_of a b h = grind (arith, nat_tests)

-- ---- Imports

none_named : (i : Import) → call_named i ≡ None → (call : HostCall) → ¬ (Names i call)
none_named i e call h = let p = of_names i call h in absurd (cc)

module _ (m : Module) where
  fault_of : (k : ℕ) (i : Import) → slice_get m.imports k ≡ Some i → first_fault (is_call m.types) 0 m.imports ≡ Some k → IsFirstFault m.types m.imports k i
  fault_of k i there e =
      let first = first_at (is_call m.types) k m.imports e in
      let at = first.there in
      let same : first.item ≡ i = cc in
      record {
        there = there;
        faulty = fails_is m.types i (ap (is_call m.types) (sym same) ∙ first.fails);
        earlier = all_more (λ i. is_call m.types i ≡ true) (λ i. (call : HostCall) × IsCall m.types i call) (passes_is m.types) (take k m.imports) first.earlier;
      }

  pub unknown_import : (k n : ℕ) (i : Import) → n ≡ k → slice_get m.imports k ≡ Some i → first_fault (is_call m.types) 0 m.imports ≡ Some k → call_named i ≡ None → UnknownImport m n
  unknown_import k n i same there e none = subst (UnknownImport m) (sym same) (record { import = i; first = fault_of k i there e; unknown = none_named i none })

  pub import_type : (k n : ℕ) (i : Import) (call : HostCall) → n ≡ k → slice_get m.imports k ≡ Some i → first_fault (is_call m.types) 0 m.imports ≡ Some k → call_named i ≡ Some call → ImportType m n
  import_type k n i call same there e known = subst (ImportType m) (sym same) (record { import = i; first = fault_of k i there e; call = call; known = names_of i call known })

  -- ---- Index spaces

  own_tables : AllCalls m → tables m ≡ m.tables
  own_tables h = ap (λ ls. ls ++ m.tables) (none_else table_of (λ i. refl) m.types m.imports h)

  own_memories : AllCalls m → memories m ≡ m.memories
  own_memories h = ap (λ ls. ls ++ m.memories) (none_else memory_of (λ i. refl) m.types m.imports h)

  no_globals : AllCalls m → imported_globals m ≡ []
  no_globals h = none_else global_of (λ i. refl) m.types m.imports h

  -- ---- Segments

  offset_known : (is : Instrs) → IsConstant [] is I32 → (at : ℕ) × (offset_number is ≡ Some at)
  offset_known (seq (Plain (Const (value.I32 n))) nothing) h = (cast_unsigned w32 n, refl)
  offset_known (seq (Plain (Const (value.I64 n))) nothing) h = absurd (cc)
  offset_known (seq (Plain (GlobalGet index)) nothing) h = absurd (cc)
  offset_known _ h = absurd h

  in_table : (o : Option ℕ) (count : ℕ) (l : Option Limits) → ends_in_table o count l ≡ true → (at : ℕ) × (limits : Limits) × (o ≡ Some at) × (l ≡ Some limits) × (at + count ≤ limits.min)
  in_table None count None e = absurd (cc)
  in_table None count (Some l) e = absurd (cc)
  in_table (Some at) count None e = absurd (cc)
  in_table (Some at) count (Some l) e = (at, l, refl, refl, most_of (at + count) l.min e)

  in_memory : (o : Option ℕ) (count : ℕ) (l : Option Limits) → ends_in_memory o count l ≡ true → (at : ℕ) × (limits : Limits) × (o ≡ Some at) × (l ≡ Some limits) × (at + count ≤ limits.min * page_size)
  in_memory None count None e = absurd (cc)
  in_memory None count (Some l) e = absurd (cc)
  in_memory (Some at) count None e = absurd (cc)
  in_memory (Some at) count (Some l) e = (at, l, refl, refl, most_of (at + count) (l.min * page_size) e)

  element_in : AllCalls m → (e : Element) → element_fits m.tables e ≡ true → InRange m (InTable e)
  element_in h e fits =
      let (at, limits, o, l, le) = in_table (offset_number e.offset) (length e.funcs) (slice_get m.tables e.table) fits in
      (at + length e.funcs, limits.min, (at, limits, o, ap (λ ts. slice_get ts e.table) (own_tables h) ∙ l, refl, refl), le)

  data_in : AllCalls m → (d : DataSegment) → data_fits m.memories d ≡ true → InRange m (InMemory d)
  data_in h d fits =
      let (at, limits, o, l, le) = in_memory (offset_number d.offset) (length d.bytes) (slice_get m.memories d.memory) fits in
      (at + length d.bytes, limits.min * page_size, (at, limits, o, ap (λ ts. slice_get ts d.memory) (own_memories h) ∙ l, refl, refl), le)

  element_out : AllCalls m → (e : Element) → ElementTyped m e → element_fits m.tables e ≡ false → OutOfRange m (InTable e)
  element_out h e typed fails =
      let (at, o) = offset_known e.offset (subst (λ gs. IsConstant gs e.offset I32) (no_globals h) typed.1) in
      let (limits, l) = limits_there (tables m) e.table typed.0 in
      let l' : slice_get m.tables e.table ≡ Some limits = ap (λ ts. slice_get ts e.table) (sym (own_tables h)) ∙ l in
      let past : nat_le (at + length e.funcs) limits.min ≡ false = sym (ap₂ (λ o l. ends_in_table o (length e.funcs) l) o l') ∙ fails in
      (at + length e.funcs, limits.min, (at, limits, o, l, refl, refl), more_of (at + length e.funcs) limits.min past)

  data_out : AllCalls m → (d : DataSegment) → DataTyped m d → data_fits m.memories d ≡ false → OutOfRange m (InMemory d)
  data_out h d typed fails =
      let (at, o) = offset_known d.offset (subst (λ gs. IsConstant gs d.offset I32) (no_globals h) typed.1) in
      let (limits, l) = limits_there (memories m) d.memory typed.0 in
      let l' : slice_get m.memories d.memory ≡ Some limits = ap (λ ts. slice_get ts d.memory) (sym (own_memories h)) ∙ l in
      let past : nat_le (at + length d.bytes) (limits.min * page_size) ≡ false = sym (ap₂ (λ o l. ends_in_memory o (length d.bytes) l) o l') ∙ fails in
      (at + length d.bytes, limits.min * page_size, (at, limits, o, l, refl, refl), more_of (at + length d.bytes) (limits.min * page_size) past)

  elements_in : AllCalls m → (es : List Element) → All (λ e. element_fits m.tables e ≡ true) es → All (λ e. InRange m (InTable e)) es
  elements_in h es all = all_more (λ e. element_fits m.tables e ≡ true) (λ e. InRange m (InTable e)) (element_in h) es all

  datas_in : AllCalls m → (ds : List DataSegment) → All (λ d. data_fits m.memories d ≡ true) ds → All (λ d. InRange m (InMemory d)) ds
  datas_in h ds all = all_more (λ d. data_fits m.memories d ≡ true) (λ d. InRange m (InMemory d)) (data_in h) ds all

  pub all_in_range : AllCalls m → first_fault (element_fits m.tables) 0 m.elements ≡ None → first_fault (data_fits m.memories) 0 m.datas ≡ None → All (InRange m) (segments m)
  all_in_range h e d = All-append (InRange m) (map InTable m.elements) (map InMemory m.datas)
      (all_map (InRange m) InTable m.elements (elements_in h m.elements (none_fails (element_fits m.tables) 0 m.elements e)))
      (all_map (InRange m) InMemory m.datas (datas_in h m.datas (none_fails (data_fits m.memories) 0 m.datas d)))

  pub element_range : AllCalls m → ModuleTyped m → (k n : ℕ) → n ≡ k → first_fault (element_fits m.tables) 0 m.elements ≡ Some k → SegmentRange m n
  element_range h typed k n same e =
      let first = first_at (element_fits m.tables) k m.elements e in
      subst (SegmentRange m) (sym same) (record {
        segment = InTable first.item;
        there = get_left (map InTable m.elements) (map InMemory m.datas) k (InTable first.item) (get_map InTable m.elements k first.item first.there);
        outside = element_out h first.item (all_at (ElementTyped m) m.elements k first.item typed.element_segments first.there) first.fails;
        earlier = take_left (InRange m) InTable m.elements (map InMemory m.datas) k (omega (arith, first.below)) (elements_in h (take k m.elements) first.earlier);
      })

  pub data_range : AllCalls m → ModuleTyped m → (k n : ℕ) → n ≡ length m.elements + k → first_fault (element_fits m.tables) 0 m.elements ≡ None → first_fault (data_fits m.memories) 0 m.datas ≡ Some k → SegmentRange m n
  data_range h typed k n same none e =
      let first = first_at (data_fits m.memories) k m.datas e in
      record {
        segment = InMemory first.item;
        there = get_right InTable m.elements (map InMemory m.datas) k (InMemory first.item) (get_map InMemory m.datas k first.item first.there) n same;
        outside = data_out h first.item (all_at (DataTyped m) m.datas k first.item typed.data_segments first.there) first.fails;
        earlier = take_right (InRange m) InTable m.elements (map InMemory m.datas) k n same (elements_in h m.elements (none_fails (element_fits m.tables) 0 m.elements none)) (take_map (InRange m) InMemory m.datas k (datas_in h (take k m.datas) first.earlier));
      }

  -- ---- Limits

  within_all : (most : ℕ) (ls : List Limits) → list_all (is_within most) ls ≡ true → All (λ limits. limits.min ≤ most) ls
  within_all most [] e = All-nil (λ limits. limits.min ≤ most)
  within_all most (l ∷ ls) e = let h = both (is_within most l) (list_all (is_within most) ls) e in All-cons (λ limits. limits.min ≤ most) l ls (most_of l.min most h.0) (within_all most ls h.1)

  beyond : (most : ℕ) (ls : List Limits) → list_all (is_within most) ls ≡ false → (n : ℕ) × (limits : Limits) × (slice_get ls n ≡ Some limits) × (most < limits.min)
  beyond most [] e = absurd (cc)
  beyond most (l ∷ ls) e = at (is_within most l) refl (list_all (is_within most) ls) (λ e. beyond most ls e) e
    where
      at : (b : Bool) → is_within most l ≡ b → (c : Bool) → (c ≡ false → (n : ℕ) × (limits : Limits) × (slice_get ls n ≡ Some limits) × (most < limits.min)) → (b && c) ≡ false → (n : ℕ) × (limits : Limits) × (slice_get (l ∷ ls) n ≡ Some limits) × (most < limits.min)
      at true is c k e = let (n, limits, there, lt) = k e in (suc n, limits, there, lt)
      at false is c k e = (0, l, refl, more_of l.min most is)

  pub pages_within : AllCalls m → list_all (is_within page_limit) m.memories ≡ true → All (λ limits. limits.min ≤ page_limit) (memories m)
  pages_within h e = within_all page_limit (memories m) (ap (list_all (is_within page_limit)) (own_memories h) ∙ e)

  pub elements_within : AllCalls m → list_all (is_within element_limit) m.tables ≡ true → All (λ limits. limits.min ≤ element_limit) (tables m)
  elements_within h e = within_all element_limit (tables m) (ap (list_all (is_within element_limit)) (own_tables h) ∙ e)

  pub too_many_pages : AllCalls m → list_all (is_within page_limit) m.memories ≡ false → TooManyPages m
  too_many_pages h e = beyond page_limit (memories m) (ap (list_all (is_within page_limit)) (own_memories h) ∙ e)

  pub table_too_large : AllCalls m → list_all (is_within element_limit) m.tables ≡ false → TableTooLarge m
  table_too_large h e = beyond element_limit (tables m) (ap (list_all (is_within element_limit)) (own_tables h) ∙ e)
