-- A module has one refusal.
use Rattle.std.proofs.Common.{◌≡◌, ◌≢◌, ℕ, zero, suc, ◌<◌, ◌≤◌, List, [], ◌∷◌, Some, take, slice_get, refl, sym, ap, ◌∙◌, subst, arith}
use Rattle.wtypes.specs.declared.HostCall.{HostCall}
use Rattle.spec_modules.specs.Profile.{page_limit}
use Rattle.spec_modules.specs.Syntax.{FuncType, Import, Module}
use Rattle.spec_typing.specs.Modules.{memories}
use Rattle.spec_typing.specs.Linking.{Names, IsCall, IsFirstFault, InRange, segments}
use Rattle.spec_typing.specs.Linking as linking
use Rattle.spec_typing.proofs.Linked.{all_at, no_first_fault, not_both}
use Rattle.link.specs.declared.refusal.LinkRefusal.{LinkRefusal}
use Rattle.link.specs.declared.refusal.LinkRefusal.TheVariants.{UnknownImport, ImportType, SegmentRange, TooManyPages, TableTooLarge, NoMemory}
use Rattle.link.specs.Refusals.{Says, ImportsPass, SegmentsPass, MemoryPasses, PassedBefore}

neither : (a b : ℕ) → ¬ (a < b) → ¬ (b < a) → a ≡ b
neither a b p q =
    let below : a ≤ b = omega (arith, p, q) in
    let above : b ≤ a = omega (arith, p, q) in
    omega (arith, below, above)

get_take : {X : Type 0} (xs : List X) (k n : ℕ) (x : X) → k < n → slice_get xs k ≡ Some x → slice_get (take n xs) k ≡ Some x
get_take xs k zero x lt e = absurd (omega (arith, lt))
get_take [] k (suc n) x lt e = absurd (cc)
get_take (y ∷ xs) zero (suc n) x lt e = e
get_take (y ∷ xs) (suc k) (suc n) x lt e = get_take xs k n x (omega (arith, lt)) e

module _ (types : List FuncType) (imports : List Import) where
  not_before : (n k : ℕ) (i j : Import) → IsFirstFault types imports n i → IsFirstFault types imports k j → ¬ (n < k)
  not_before n k i j f g lt =
      let (call, is) = all_at (λ i. (call : HostCall) × IsCall types i call) (take k imports) n i g.earlier (get_take imports n k i lt f.there) in
      f.faulty call is

  one_place : (n k : ℕ) (i j : Import) → IsFirstFault types imports n i → IsFirstFault types imports k j → n ≡ k
  one_place n k i j f g = neither n k (not_before n k i j f g) (not_before k n j i g f)

  one_import : (n k : ℕ) (i j : Import) → IsFirstFault types imports n i → IsFirstFault types imports k j → i ≡ j
  one_import n k i j f g = let at : slice_get imports k ≡ Some i = ap (slice_get imports) (sym (one_place n k i j f g)) ∙ f.there in let there = g.there in cc

module _ (m : Module) where
  segment_before : (n k : ℕ) → linking.SegmentRange m n → linking.SegmentRange m k → ¬ (n < k)
  segment_before n k s t lt = not_both m s.segment s.outside (all_at (InRange m) (take k (segments m)) n s.segment t.earlier (get_take (segments m) n k s.segment lt s.there))

  two_imports : (n k : ℕ) → linking.UnknownImport m n → linking.ImportType m k → ⊥
  two_imports n k s t =
      let same : s.import ≡ t.import = one_import m.types m.imports n k s.import t.import s.first t.first in
      s.unknown t.call (subst (λ i. Names i t.call) (sym same) t.known)

  unknown_passes : (n : ℕ) → linking.UnknownImport m n → ImportsPass m → ⊥
  unknown_passes n s (calls, h) = no_first_fault m.types m.imports calls n s.import s.first h

  type_passes : (n : ℕ) → linking.ImportType m n → ImportsPass m → ⊥
  type_passes n s (calls, h) = no_first_fault m.types m.imports calls n s.import s.first h

  segment_passes : (n : ℕ) → linking.SegmentRange m n → SegmentsPass m → ⊥
  segment_passes n s h = not_both m s.segment s.outside (all_at (InRange m) (segments m) n s.segment h s.there)

  memory_passes : linking.TooManyPages m → MemoryPasses m → ⊥
  memory_passes (n, limits, there, lt) h =
      let le : limits.min ≤ page_limit = all_at (λ limits. limits.min ≤ page_limit) (memories m) n limits h there in
      absurd (omega (arith, le, lt))

  pub one_refusal : (e f : LinkRefusal) → e ≢ NoMemory → f ≢ NoMemory → Says e m → PassedBefore e m → Says f m → PassedBefore f m → e ≡ f
  one_refusal NoMemory f a b s p t q = absurd (a refl)
  one_refusal (UnknownImport n) NoMemory a b s p t q = absurd (b refl)
  one_refusal (UnknownImport n) (UnknownImport k) a b s p t q = ap UnknownImport (one_place m.types m.imports n k s.import t.import s.first t.first)
  one_refusal (UnknownImport n) (ImportType k) a b s p t q = absurd (two_imports n k s t)
  one_refusal (UnknownImport n) (SegmentRange k) a b s p t q = absurd (unknown_passes n s q)
  one_refusal (UnknownImport n) TooManyPages a b s p t q = absurd (unknown_passes n s q.0)
  one_refusal (UnknownImport n) TableTooLarge a b s p t q = absurd (unknown_passes n s q.0)
  one_refusal (ImportType n) NoMemory a b s p t q = absurd (b refl)
  one_refusal (ImportType n) (UnknownImport k) a b s p t q = absurd (two_imports k n t s)
  one_refusal (ImportType n) (ImportType k) a b s p t q = ap ImportType (one_place m.types m.imports n k s.import t.import s.first t.first)
  one_refusal (ImportType n) (SegmentRange k) a b s p t q = absurd (type_passes n s q)
  one_refusal (ImportType n) TooManyPages a b s p t q = absurd (type_passes n s q.0)
  one_refusal (ImportType n) TableTooLarge a b s p t q = absurd (type_passes n s q.0)
  one_refusal (SegmentRange n) NoMemory a b s p t q = absurd (b refl)
  one_refusal (SegmentRange n) (UnknownImport k) a b s p t q = absurd (unknown_passes k t p)
  one_refusal (SegmentRange n) (ImportType k) a b s p t q = absurd (type_passes k t p)
  one_refusal (SegmentRange n) (SegmentRange k) a b s p t q = ap SegmentRange (neither n k (segment_before n k s t) (segment_before k n t s))
  one_refusal (SegmentRange n) TooManyPages a b s p t q = absurd (segment_passes n s q.1)
  one_refusal (SegmentRange n) TableTooLarge a b s p t q = absurd (segment_passes n s q.1)
  one_refusal TooManyPages NoMemory a b s p t q = absurd (b refl)
  one_refusal TooManyPages (UnknownImport k) a b s p t q = absurd (unknown_passes k t p.0)
  one_refusal TooManyPages (ImportType k) a b s p t q = absurd (type_passes k t p.0)
  one_refusal TooManyPages (SegmentRange k) a b s p t q = absurd (segment_passes k t p.1)
  one_refusal TooManyPages TooManyPages a b s p t q = refl
  one_refusal TooManyPages TableTooLarge a b s p t q = absurd (memory_passes s q.2)
  one_refusal TableTooLarge NoMemory a b s p t q = absurd (b refl)
  one_refusal TableTooLarge (UnknownImport k) a b s p t q = absurd (unknown_passes k t p.0)
  one_refusal TableTooLarge (ImportType k) a b s p t q = absurd (type_passes k t p.0)
  one_refusal TableTooLarge (SegmentRange k) a b s p t q = absurd (segment_passes k t p.1)
  one_refusal TableTooLarge TooManyPages a b s p t q = absurd (memory_passes t p.2)
  one_refusal TableTooLarge TableTooLarge a b s p t q = refl
