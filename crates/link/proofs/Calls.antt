-- The tests of imports say which are host calls.
use Rattle.std.proofs.Common.{◌≡◌, ◌≢◌, ℕ, Bool, true, false, ◌&&◌, List, [], ◌∷◌, Option, Some, None, All, length, slice_get, refl, sym, ap, ap₂, subst, ◌∙◌, arith}
use Rattle.std.specs.List.{filter_map, cons_option}
use Rattle.std.specs.Str.{bytes_eq}
use Rattle.std.proofs.lemmas.Slice.Eq.{bytes_eq-Decides}
use Rattle.std.proofs.lemmas.List.Elements.{All-head, All-tail}
use Rattle.wtypes.specs.declared.ValType.{ValType}
use Rattle.wtypes.specs.declared.HostCall.{HostCall}
use Rattle.wtypes.specs.declared.HostCall.TheVariants.{Get, Has, Put, Del, Add, Total, Ask, Answer}
use Rattle.spec_modules.specs.Syntax.{FuncType, Name, Import, ImportDesc, ImportFunc, ImportTable, ImportMemory, ImportGlobal, Module}
use Rattle.spec_modules.specs.Profile.{host_module, host_name, host_type}
use Rattle.spec_modules.specs.Operators.{same_type}
use Rattle.spec_typing.specs.Linking.{Names, IsCall, Resolves}
use Rattle.spec_typing.proofs.Sound.{same_type_eq, both}
use Rattle.spec_typing.proofs.Complete.{same_type_of, join_true}
use Rattle.link.specs.Tests.{pick, named, same_types, is_type, declared_type, is_function, when, call_named, typed_as, call_of, is_there, is_call, AllCalls}
use Rattle.link.specs.Refusals.{ImportsPass}

-- ---- Types

pub same_of : (ts us : List ValType) → same_types ts us ≡ true → ts ≡ us
same_of [] [] e = refl
same_of [] (u ∷ us) e = absurd (cc)
same_of (t ∷ ts) [] e = absurd (cc)
same_of (t ∷ ts) (u ∷ us) e = let h = both (same_type t u) (same_types ts us) e in ap₂ (λ t ts. t ∷ ts) (same_type_eq t u h.0) (same_of ts us h.1)

pub same_self : (ts : List ValType) → same_types ts ts ≡ true
same_self [] = refl
same_self (t ∷ ts) = join_true (same_type t t) (same_types ts ts) (same_type_of t t refl) (same_self ts)

pub not_as_long : (ts us : List ValType) → length ts ≢ length us → false ≡ same_types ts us
not_as_long [] [] h = absurd (h refl)
not_as_long [] (u ∷ us) h = refl
not_as_long (t ∷ ts) [] h = refl
not_as_long (t ∷ ts) (u ∷ us) h = at (same_type t u) (same_types ts us) (not_as_long ts us (λ e. h (omega (arith, e))))
  where
    at : (a b : Bool) → false ≡ b → false ≡ (a && b)
    at true b e = e
    at false b e = refl

type_is : (want : FuncType) (t : FuncType) → is_type want (Some t) ≡ true → t ≡ want
type_is want t e = let h = both (same_types t.params want.params) (same_types t.results want.results) e in
    ap₂ {C = FuncType} (λ ps rs. record { params = ps; results = rs }) (same_of t.params want.params h.0) (same_of t.results want.results h.1)

has_type_of : (types : List FuncType) (want : FuncType) (desc : ImportDesc) → is_type want (declared_type types desc) ≡ true → (index : ℕ) × (desc ≡ ImportFunc index) × (slice_get types index ≡ Some want)
has_type_of types want (ImportFunc index) e = at (slice_get types index) refl e
  where
    at : (o : Option FuncType) → slice_get types index ≡ o → is_type want o ≡ true → (i : ℕ) × (ImportFunc index ≡ ImportFunc i) × (slice_get types i ≡ Some want)
    at None is e = absurd (cc)
    at (Some t) is e = (index, refl, is ∙ ap Some (type_is want t e))
has_type_of types want (ImportTable l) e = absurd (cc)
has_type_of types want (ImportMemory l) e = absurd (cc)
has_type_of types want (ImportGlobal g) e = absurd (cc)

of_has_type : (types : List FuncType) (want : FuncType) (desc : ImportDesc) (index : ℕ) → desc ≡ ImportFunc index → slice_get types index ≡ Some want → is_type want (declared_type types desc) ≡ true
of_has_type types want desc index d e =
    ap (λ d. is_type want (declared_type types d)) d ∙ (ap (is_type want) e ∙ join_true (same_types want.params want.params) (same_types want.results want.results) (same_self want.params) (same_self want.results))

-- ---- Names

same_name : (a b : Name) → bytes_eq a b ≡ true → a ≡ b
same_name a b e = (bytes_eq-Decides a b).0 e

bytes_self : (a : Name) → bytes_eq a a ≡ true
bytes_self a = (bytes_eq-Decides a a).1 refl

picked : (n : Name) (call c : HostCall) (rest : Option HostCall) → (rest ≡ Some c → n ≡ host_name c) → pick (bytes_eq n (host_name call)) call rest ≡ Some c → n ≡ host_name c
picked n call c rest k e = at (bytes_eq n (host_name call)) refl e
  where
    at : (b : Bool) → bytes_eq n (host_name call) ≡ b → pick b call rest ≡ Some c → n ≡ host_name c
    at true is e = let same : call ≡ c = cc in same_name n (host_name call) is ∙ ap host_name same
    at false is e = k e

named_is : (n : Name) (c : HostCall) → named n ≡ Some c → n ≡ host_name c
named_is n c e = picked n Get c _ (λ e. picked n Has c _ (λ e. picked n Put c _ (λ e. picked n Del c _ (λ e. picked n Add c _ (λ e. picked n Total c _ (λ e. picked n Ask c _ (λ e. picked n Answer c _ (λ e. absurd (cc)) e) e) e) e) e) e) e) e

named_self : (c : HostCall) → named (host_name c) ≡ Some c
named_self Get = refl
named_self Has = refl
named_self Put = refl
named_self Del = refl
named_self Add = refl
named_self Total = refl
named_self Ask = refl
named_self Answer = refl

function_is : (desc : ImportDesc) → is_function desc ≡ true → (index : ℕ) × (desc ≡ ImportFunc index)
function_is (ImportFunc index) e = (index, refl)
function_is (ImportTable l) e = absurd (cc)
function_is (ImportMemory l) e = absurd (cc)
function_is (ImportGlobal g) e = absurd (cc)

when_is : (b : Bool) (o : Option HostCall) (c : HostCall) → when b o ≡ Some c → (b ≡ true) × (o ≡ Some c)
when_is true o c e = (refl, e)
when_is false o c e = absurd (cc)

pub names_of : (i : Import) (c : HostCall) → call_named i ≡ Some c → Names i c
names_of i c e =
    let h = when_is (bytes_eq i.from_module host_module && is_function i.desc) (named i.name) c e in
    let k = both (bytes_eq i.from_module host_module) (is_function i.desc) h.0 in
    record { from_host = same_name i.from_module host_module k.0; name_is = named_is i.name c h.1; is_function = function_is i.desc k.1 }

pub of_names : (i : Import) (c : HostCall) → Names i c → call_named i ≡ Some c
of_names i c h =
    let p : (bytes_eq i.from_module host_module && is_function i.desc) ≡ true = join_true (bytes_eq i.from_module host_module) (is_function i.desc) (ap (λ n. bytes_eq n host_module) h.from_host ∙ bytes_self host_module) (ap is_function h.is_function.1) in
    ap (λ b. when b (named i.name)) p ∙ (ap named h.name_is ∙ named_self c)

typed_is : (types : List FuncType) (desc : ImportDesc) (o : Option HostCall) (c : HostCall) → typed_as types desc o ≡ Some c → (o ≡ Some c) × (is_type (host_type c) (declared_type types desc) ≡ true)
typed_is types desc None c e = absurd (cc)
typed_is types desc (Some a) c e =
    let h = when_is (is_type (host_type a) (declared_type types desc)) (Some a) c e in
    let same : a ≡ c = cc in (h.1, subst (λ a. is_type (host_type a) (declared_type types desc) ≡ true) same h.0)

pub call_is : (types : List FuncType) (i : Import) (c : HostCall) → call_of types i ≡ Some c → IsCall types i c
call_is types i c e = let h = typed_is types i.desc (call_named i) c e in (names_of i c h.0, has_type_of types (host_type c) i.desc h.1)

pub of_call : (types : List FuncType) (i : Import) (c : HostCall) → IsCall types i c → call_of types i ≡ Some c
of_call types i c h =
    let (index, d, s) = h.1 in
    ap (typed_as types i.desc) (of_names i c h.0) ∙ ap (λ b. when b (Some c)) (of_has_type types (host_type c) i.desc index d s)

-- ---- The test

there_is : (o : Option HostCall) → is_there o ≡ true → (c : HostCall) × (o ≡ Some c)
there_is None e = absurd (cc)
there_is (Some c) e = (c, refl)

pub passes_is : (types : List FuncType) (i : Import) → is_call types i ≡ true → (c : HostCall) × IsCall types i c
passes_is types i e = let (c, h) = there_is (call_of types i) e in (c, call_is types i c h)

pub fails_is : (types : List FuncType) (i : Import) → is_call types i ≡ false → (c : HostCall) → ¬ (IsCall types i c)
fails_is types i e c h = let p : is_call types i ≡ true = ap is_there (of_call types i c h) in absurd (cc)

-- ---- All of them

pub all_resolve : (types : List FuncType) (is : List Import) → All (λ i. is_call types i ≡ true) is → Resolves types is (filter_map (call_of types) is)
all_resolve types [] h = tt
all_resolve types (i ∷ is) h =
    let (c, e) = there_is (call_of types i) (All-head (λ i. is_call types i ≡ true) i is h) in
    subst (λ o. Resolves types (i ∷ is) (cons_option o (filter_map (call_of types) is))) (sym e) (call_is types i c e, all_resolve types is (All-tail (λ i. is_call types i ≡ true) i is h))

pub resolved : (m : Module) → AllCalls m → ImportsPass m
resolved m h = (filter_map (call_of m.types) m.imports, all_resolve m.types m.imports h)

module _ {X : Type 0} (f : ImportDesc → Option X) (k : (index : ℕ) → f (ImportFunc index) ≡ None) where
  pub none_else : (types : List FuncType) (is : List Import) → All (λ i. is_call types i ≡ true) is → filter_map (λ (i : Import). f i.desc) is ≡ []
  none_else types [] h = refl
  none_else types (i ∷ is) h =
      let (c, (n, t)) = passes_is types i (All-head (λ i. is_call types i ≡ true) i is h) in
      let e : f i.desc ≡ None = ap f t.1 ∙ k t.0 in
      let r = none_else types is (All-tail (λ i. is_call types i ≡ true) i is h) in
      ap (λ o. cons_option o (filter_map (λ (i : Import). f i.desc) is)) e ∙ r
