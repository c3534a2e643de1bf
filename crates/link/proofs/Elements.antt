-- Element segments in tables.
use Rattle.std.proofs.Common.{◌≡◌, ℕ, suc, ◌+◌, ◌≤◌, ◌<◌, List, [], ◌∷◌, ◌++◌, length, map, take, drop, refl, sym, ap, ◌∙◌, subst, arith, append_assoc, length-append, length-take, zero, None, Some, Option, slice_get, get_or, drop-cons}
use Rattle.std.proofs.Math.Seq.{set-append_seam}
use Rattle.std.specs.Prelude.{slice_index_or, slice_set, All, replicate}
use Rattle.std.proofs.lemmas.List.{take_more, map-append, length-drop, length-replicate}
use Rattle.std.proofs.lemmas.List.Elements.{All-nil, All-cons, All-head, All-tail}
use Rattle.wtypes.specs.declared.HostCall.{HostCall}
use Rattle.module_tree.specs.declared.module.Module as tree
use Rattle.module_tree.specs.declared.module.Element as tree_element
use Rattle.module_tree.specs.ModuleView.{element_view, limits_view}
use Rattle.module_tree.specs.Modules.{module_view}
use Rattle.spec_modules.specs.Syntax.{Limits, Element, Module}
use Rattle.spec_modules.specs.Profile.{element_limit}
use Rattle.spec_modules.specs.Operators.{bits_of}
use Rattle.spec_typing.specs.Modules.{tables, table_of}
use Rattle.spec_typing.specs.Linking.{IsLinked, InTable, InRange}
use Rattle.spec_modules.specs.Memory.{written}
use Rattle.spec_execution.specs.Configuration.{constant, size_of, with_elements, fresh}
use Rattle.link.proofs.Laying.{none_else, all_at_map, only_one, const_number, all_left}

pub map_index : {X Y : Type 0} (f : X → Y) (xs : List X) (k : ℕ) (d : X) → slice_index_or (map f xs) k (f d) ≡ f (slice_index_or xs k d)
map_index f [] k d = refl
map_index f (x ∷ xs) zero d = refl
map_index f (x ∷ xs) (suc k) d = map_index f xs k d

pub length_map : {X Y : Type 0} (f : X → Y) (xs : List X) → length (map f xs) ≡ length xs
length_map f [] = refl
length_map f (x ∷ xs) = ap (λ (n : ℕ). suc n) (length_map f xs)

pub length_in_place : {X : Type 0} (at : ℕ) (items old : List X) → at + length items ≤ length old → length (written at items old) ≡ length old
length_in_place at items old le =
    length-append (take at old) (items ++ drop (at + length items) old) ∙ (omega (arith, length-append items (drop (at + length items) old), length-take at old, length-drop (at + length items) old))

-- one element more
pub put_next : {X : Type 0} (old items : List X) (at : ℕ) (x : X) → at + length items < length old → slice_set (written at items old) (at + length items) x ≡ written at (items ++ x ∷ []) old
put_next {X} old items at x lt =
    let n : ℕ = at + length items in
    let front : List X = take at old ++ items in
    let rest : List X = drop (suc n) old in
    let long : length front ≡ n = length-append (take at old) items ∙ omega (arith, length-take at old) in
    let split : written at items old ≡ front ++ get_or old n x ∷ rest = sym (append_assoc (take at old) items (drop n old)) ∙ ap (λ zs. front ++ zs) (drop-cons old n x lt) in
    let more : suc n ≡ at + length (items ++ x ∷ []) = omega (arith, length-append items (x ∷ [])) in
    ap (λ zs. slice_set zs n x) split ∙ ap (λ k. slice_set (front ++ get_or old n x ∷ rest) k x) (sym long) ∙ set-append_seam front (get_or old n x) rest x
    ∙ append_assoc (take at old) items (x ∷ rest) ∙ ap (λ zs. take at old ++ zs) (sym (append_assoc items (x ∷ []) rest) ∙ ap (λ k. (items ++ x ∷ []) ++ drop k old) more)

-- one function more
pub put_function : (old : List (Option ℕ)) (funcs : List ℕ) (at i : ℕ) → at + length funcs ≤ length old → i < length funcs →
    slice_set (written at (map Some (take i funcs)) old) (at + i) (Some (slice_index_or funcs i 0)) ≡ written at (map Some (take (i + 1) funcs)) old
put_function old funcs at i le lt =
    let count : length (map Some (take i funcs)) ≡ i = length_map Some (take i funcs) ∙ omega (arith, length-take i funcs) in
    let one : map Some (take (i + 1) funcs) ≡ map Some (take i funcs) ++ Some (slice_index_or funcs i 0) ∷ [] = ap (map Some) (take_more funcs i 0 lt) ∙ map-append Some (take i funcs) (slice_index_or funcs i 0 ∷ []) in
    ap (λ k. slice_set (written at (map Some (take i funcs)) old) (at + k) (Some (slice_index_or funcs i 0))) (sym count)
    ∙ put_next old (map Some (take i funcs)) at (Some (slice_index_or funcs i 0)) (omega (arith, count)) ∙ ap (λ xs. written at xs old) (sym one)

module _ (m : Module) (calls : List HostCall) (l : IsLinked m calls) where
  tables_own : tables m ≡ m.tables
  tables_own = ap (λ xs. xs ++ m.tables) (none_else table_of (λ i. refl) m.types m.imports calls l.imports)

  element_in : (k : ℕ) (e : Element) → k < length m.elements → InRange m (InTable (slice_index_or m.elements k e))
  element_in k e lt = all_at_map (InRange m) InTable m.elements (all_left (InRange m) (map InTable m.elements) _ l.segments_fit) k e lt

  few_first : (ts : List Limits) → All (λ limits. limits.min ≤ element_limit) ts → size_of ts ≤ element_limit
  few_first [] h = omega arith
  few_first (l ∷ ls) h = All-head (λ (l : Limits). l.min ≤ element_limit) l ls h

  -- a table has few elements
  pub elements_few : size_of m.tables ≤ element_limit
  elements_few = few_first m.tables (subst (All (λ (limits : Limits). limits.min ≤ element_limit)) tables_own l.elements)

  pub element_fits : (k : ℕ) (e : Element) → k < length m.elements → e ≡ slice_index_or m.elements k e → bits_of (constant e.offset) + length e.funcs ≤ size_of m.tables
  element_fits k e lt there =
      let (end, size, (at, limits, off, found, end_is, size_is), le) = subst (λ (x : Element). InRange m (InTable x)) (sym there) (element_in k e lt) in
      let number : bits_of (constant e.offset) ≡ at = const_number e.offset at off in
      let own : size_of m.tables ≡ limits.min = only_one m.tables e.table limits (subst (λ (ts : List Limits). length ts ≤ 1) tables_own l.typed.one_table) (subst (λ (ts : List Limits). slice_get ts e.table ≡ Some limits) tables_own found) in
      omega (arith, number, own, end_is, size_is, le)

length_with : (es : List Element) (t : List (Option ℕ)) → All (λ (e : Element). bits_of (constant e.offset) + length e.funcs ≤ length t) es → length (with_elements es t) ≡ length t
length_with [] t h = refl
length_with (e ∷ es) t h =
    let n = bits_of (constant e.offset) in
    let le = All-head (λ (e : Element). bits_of (constant e.offset) + length e.funcs ≤ length t) e es h in
    let one : length (written n (map Some e.funcs) t) ≡ length t = length_in_place n (map Some e.funcs) t (omega (arith, le, length_map {X = ℕ} {Y = Option ℕ} Some e.funcs)) in
    length_with es (written n (map Some e.funcs) t) (subst (λ k. All (λ (e : Element). bits_of (constant e.offset) + length e.funcs ≤ k) es) (sym one) (All-tail (λ (e : Element). bits_of (constant e.offset) + length e.funcs ≤ length t) e es h)) ∙ one

all_indexed : {X : Type 0} (P : X → Type 0) (xs : List X) → ((k : ℕ) (x : X) → k < length xs → x ≡ slice_index_or xs k x → P x) → All P xs
all_indexed P [] h = All-nil P
all_indexed P (x ∷ xs) h = All-cons P x xs (h 0 x (omega arith) refl) (all_indexed P xs (λ k y lt is. h (suc k) y (omega (arith, lt)) is))

-- the table of a linked module has few elements
pub table_few : (m : Module) (calls : List HostCall) → IsLinked m calls → length (fresh m).table ≤ element_limit
table_few m calls l =
    let n = size_of m.tables in
    let z : length (replicate {A = Option ℕ} n None) ≡ n = length-replicate n None in
    let fit = all_indexed (λ (e : Element). bits_of (constant e.offset) + length e.funcs ≤ length (replicate {A = Option ℕ} n None)) m.elements (λ k e lt is. omega (arith, z, element_fits m calls l k e lt is)) in
    omega (arith, z, length_with m.elements (replicate n None) fit, elements_few m calls l)

with_one_more : (es : List Element) (e : Element) (t : List (Option ℕ)) → with_elements (es ++ e ∷ []) t ≡ written (bits_of (constant e.offset)) (map Some e.funcs) (with_elements es t)
with_one_more [] e t = refl
with_one_more (x ∷ es) e t = with_one_more es e (written (bits_of (constant x.offset)) (map Some x.funcs) t)

-- a segment of a deployed module
module _ {A : Type 0} (t : tree.Module A) (calls : List HostCall) (linked : IsLinked (module_view t) calls) (i : ℕ) (x : tree_element.Element A) (lt : i < length t.elements.items) (is : x ≡ slice_index_or t.elements.items i x) where
  there_is : element_view x ≡ slice_index_or (module_view t).elements i (element_view x)
  there_is = ap element_view is ∙ sym (map_index element_view t.elements.items i x)

  below : i < length (module_view t).elements
  below = omega (arith, length_map element_view t.elements.items)

  pub segment_fits : bits_of (constant (element_view x).offset) + length x.funcs.items ≤ size_of (map limits_view t.tables.items)
  segment_fits = element_fits (module_view t) calls linked i (element_view x) below there_is

  pub one_segment_more : (z : List (Option ℕ)) → with_elements (map element_view (take (i + 1) t.elements.items)) z ≡ written (bits_of (constant (element_view x).offset)) (map Some x.funcs.items) (with_elements (map element_view (take i t.elements.items)) z)
  one_segment_more z =
      ap (λ es. with_elements (map element_view es) z) (take_more t.elements.items i x lt ∙ ap (λ y. take i t.elements.items ++ y ∷ []) (sym is))
      ∙ ap (λ es. with_elements es z) (map-append element_view (take i t.elements.items) (x ∷ [])) ∙ with_one_more (map element_view (take i t.elements.items)) (element_view x) z
