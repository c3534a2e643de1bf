-- One more export, of a name that is none of those before it.
use Rattle.std.proofs.Common.{◌≡◌, ℕ, ◌+◌, ◌<◌, Bool, true, false, not, ◌&&◌, ◌||◌, List, [], ◌∷◌, ◌++◌, map, take, drop, length, get_or, string_bytes, refl, sym, ap, ◌∙◌}
use Rattle.std.specs.List.{list_any}
use Rattle.std.specs.Str.{bytes_eq}
use Rattle.std.proofs.lemmas.List.{map-append, take_more, drop_more}
use Rattle.std.proofs.lemmas.List.Folds.{list_any-append}
use Rattle.spec_modules.specs.Syntax as syntax
use Rattle.module_tree.specs.declared.module.Export.{Export}
use Rattle.module_tree.specs.ModuleView.{export_view, export_desc_view}
use Rattle.typing.specs.Tests.{exports_pass}

abbrev names_of : {A : Type 0} → List (Export A) → List syntax.Name
names_of es = map (λ e. e.name) (map export_view es)

names_more : {A : Type 0} (es : List (Export A)) (i : ℕ) (x : Export A) → i < length es → x ≡ get_or es i x → names_of (take (i + 1) es) ≡ names_of (take i es) ++ string_bytes x.name ∷ []
names_more es i x lt at =
    ap names_of (take_more es i x lt ∙ ap (λ y. take i es ++ y ∷ []) (sym at))
    ∙ (ap (λ (vs : List syntax.Export). map (λ e. e.name) vs) (map-append export_view (take i es) (x ∷ [])) ∙ map-append (λ (e : syntax.Export). e.name) (map export_view (take i es)) (export_view x ∷ []))

passes_on : (a b c : Bool) → a ≡ false → b ≡ true → (not a && (b && c)) ≡ c
passes_on false true c p q = refl
passes_on true b c p q = cc
passes_on false false c p q = cc

pub one_passes : {A : Type 0} (there : syntax.ExportDesc → Bool) (es : List (Export A)) (i : ℕ) (x : Export A) (whole : Bool) → i < length es → x ≡ get_or es i x →
    list_any (λ n. bytes_eq n (string_bytes x.name)) (names_of (take i es)) ≡ false → there (export_desc_view x.desc) ≡ true →
    exports_pass there (names_of (take i es)) (map export_view (drop i es)) ≡ whole → exports_pass there (names_of (take (i + 1) es)) (map export_view (drop (i + 1) es)) ≡ whole
one_passes there es i x whole lt at fresh is_there so_far =
    let earlier = names_of (take i es) in
    let rest = map export_view (drop (i + 1) es) in
    let on = exports_pass there (earlier ++ string_bytes x.name ∷ []) rest in
    ap (λ (ns : List syntax.Name). exports_pass there ns rest) (names_more es i x lt at)
    ∙ (sym (passes_on (list_any (λ n. bytes_eq n (string_bytes x.name)) earlier) (there (export_desc_view x.desc)) on fresh is_there)
    ∙ (sym (ap (λ (es : List (Export _)). exports_pass there earlier (map export_view es)) (drop_more es i x lt ∙ ap (λ y. y ∷ drop (i + 1) es) (sym at))) ∙ so_far))

swapped : (a b : Bool) → (a || b) ≡ (b || (a || false))
swapped true true = refl
swapped true false = refl
swapped false true = refl
swapped false false = refl

pub one_named : {A : Type 0} (es : List (Export A)) (i : ℕ) (x : Export A) (n : syntax.Name) (before after : Bool) → i < length es → x ≡ get_or es i x →
    before ≡ list_any (λ m. bytes_eq m n) (names_of (take i es)) → after ≡ (bytes_eq (string_bytes x.name) n || before) → after ≡ list_any (λ m. bytes_eq m n) (names_of (take (i + 1) es))
one_named es i x n before after lt at so_far now =
    let test : syntax.Name → Bool = λ m. bytes_eq m n in
    now
    ∙ (swapped (test (string_bytes x.name)) before
    ∙ (ap (λ b. b || (test (string_bytes x.name) || false)) so_far
    ∙ (sym (list_any-append test (names_of (take i es)) (string_bytes x.name ∷ [])) ∙ ap (list_any test) (sym (names_more es i x lt at)))))
