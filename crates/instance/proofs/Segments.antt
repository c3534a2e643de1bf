-- The memories of a linked module.
use Rattle.std.proofs.Common.{◌≡◌, ℕ, ◌+◌, ◌≤◌, min, Bool, true, false, nat_le, List, [], ◌∷◌, ◌++◌, refl, ap, ◌∙◌, subst, arith, Some, None, Option}
use Rattle.std.specs.Prelude.{IfSome, unwrap_or, All, filter_map}
use Rattle.std.specs.List.{cons_option}
use Rattle.std.proofs.Math.Logic.{∥∥₁_elim}
use Rattle.std.proofs.lemmas.List.Elements.{All-head}
use Rattle.std.proofs.lemmas.Bool.{leb-true, le-leb}
use Rattle.wtypes.specs.declared.HostCall.{HostCall}
use Rattle.spec_ledger.specs.declared.Version.{Version}
use Rattle.spec_ledger.specs.declared.Version.TheVariants.{One, Two}
use Rattle.spec_modules.specs.Syntax.{FuncType, Limits, Import, ImportDesc, ImportFunc, Module}
use Rattle.spec_modules.specs.Profile.{page_limit}
use Rattle.spec_typing.specs.Modules.{memories, memory_of, MemoryTyped}
use Rattle.spec_typing.specs.Linking.{IsLinked, Resolves}
use Rattle.spec_execution.specs.Configuration.{size_of}
use Rattle.spec_execution.specs.Reduction.{pages_of, most_pages}

-- imports are functions alone
pub none_else : {X : Type 0} (f : ImportDesc → Option X) → ((index : ℕ) → f (ImportFunc index) ≡ None) → (types : List FuncType) (is : List Import) (cs : List HostCall) → Resolves types is cs → filter_map (λ (i : Import). f i.desc) is ≡ []
none_else f k types [] [] r = refl
none_else f k types [] (c ∷ cs) r = absurd r
none_else f k types (i ∷ is) [] r = absurd r
none_else f k types (i ∷ is) (c ∷ cs) r =
    let e : f i.desc ≡ None = ap f r.0.1.1 ∙ k r.0.1.0 in
    ap (λ o. cons_option o (filter_map (λ (i : Import). f i.desc) is)) e ∙ none_else f k types is cs r.1

below_bound : (v : Version) (n : ℕ) → n ≤ page_limit → n ≤ pages_of v n
below_bound One n le = omega arith
below_bound Two n le = le

below_most : (n bound : ℕ) (max : Option ℕ) → n ≤ bound → IfSome max (λ x. n ≤ x) → n ≤ min bound (unwrap_or max bound)
below_most n bound None le h = omega (arith, le)
below_most n bound (Some x) le h = omega (arith, le, h)

few_list : (ms : List Limits) → All (λ limits. limits.min ≤ page_limit) ms → size_of ms ≤ page_limit
few_list [] h = omega arith
few_list (l ∷ ls) h = All-head (λ (l : Limits). l.min ≤ page_limit) l ls h

fits_list : (v : Version) (ms : List Limits) → All (λ limits. limits.min ≤ page_limit) ms → All MemoryTyped ms → size_of ms ≤ most_pages v ms
fits_list v [] h k = omega arith
fits_list v (l ∷ ls) h k = below_most l.min (pages_of v l.min) l.max (below_bound v l.min (All-head (λ (l : Limits). l.min ≤ page_limit) l ls h)) (All-head MemoryTyped l ls k).0

module _ (m : Module) (calls : List HostCall) (l : IsLinked m calls) where
  memories_own : memories m ≡ m.memories
  memories_own = ap (λ xs. xs ++ m.memories) (none_else memory_of (λ i. refl) m.types m.imports calls l.imports)

  pages_own : All (λ (limits : Limits). limits.min ≤ page_limit) m.memories
  pages_own = subst (All (λ limits. limits.min ≤ page_limit)) memories_own l.pages

  pub memory_few : size_of m.memories ≤ page_limit
  memory_few = few_list m.memories pages_own

  pub memory_fits : (v : Version) → size_of m.memories ≤ most_pages v m.memories
  memory_fits v = fits_list v m.memories pages_own (subst (All MemoryTyped) memories_own l.typed.memory_limits)

not_both : (x y : ℕ) → x ≤ y → nat_le x y ≡ false → ⊥
not_both x y le e = let t : nat_le x y ≡ true = le-leb x y le in cc

-- an order that is only known to be so
pub known_le : {X : Type 0} (x y : ℕ) → ∥ X ∥₁ → (X → x ≤ y) → x ≤ y
known_le {X} x y known so = by_test (nat_le x y) refl
  where
    by_test : (b : Bool) → nat_le x y ≡ b → x ≤ y
    by_test true b = leb-true _ _ b
    by_test false b = absurd (∥∥₁_elim known (λ a b. absurd a) (λ k. not_both x y (so k) b))

pub few_known : (m : Module) (calls : List HostCall) → ∥ IsLinked m calls ∥₁ → size_of m.memories ≤ page_limit
few_known m calls linked = known_le _ _ linked (memory_few m calls)

pub fits_known : (v : Version) (m : Module) (calls : List HostCall) → ∥ IsLinked m calls ∥₁ → size_of m.memories ≤ most_pages v m.memories
fits_known v m calls linked = known_le _ _ linked (λ l. memory_fits m calls l v)
