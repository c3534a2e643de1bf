-- Expressions and the names of locals, as they are resolved and by the definitions.
use Rattle.std.proofs.Common.{◌≡◌, ℕ, ◌+◌, ◌<◌, ◌≤◌, Bool, true, false, List, [], ◌∷◌, ◌++◌, length, get_or, take, map, append_assoc, Option, Some, None, Result, Ok, Err, refl, sym, ap, ap₂, ◌∙◌}
use Rattle.std.specs.Prelude.{IfOk, IfErr, not, is_some, option_map, slice_get}
use Rattle.std.proofs.lemmas.List.{take_more, map-append}
use Rattle.wtypes.specs.declared.ValType.{ValType}
use Rattle.wtypes.specs.declared.ValType.TheVariants.{I32}
use Rattle.std.proofs.lemmas.Bool.{cond-true, cond-false, lt-ltb}
use Rattle.std.proofs.lemmas.Option.{none-some, same_Some, slice_get-map, slice_get_past, slice_get-get_or}
use Rattle.spec_modules.specs.Syntax as S
use Rattle.std.specs.List.{list_all}
use Rattle.spec_modules.specs.Limits.{is_u32, export_fits, both, first, second}
use Rattle.spec_modules.specs.Spells.{ExpressionFits}
use Rattle.spec_text.specs.FieldsOfBytes as N
use Rattle.spec_text.specs.Spaces.{Names, Spaces, FirstAt, AreDistinct, no_names, unnamed, a_name}
use Rattle.spec_text.specs.Instructions.{Body}
use Rattle.text_resolve.specs.declared.refusal.ResolveFault.{ResolveFault}
use Rattle.text_resolve.specs.declared.refusal.ResolveFault.TheVariants.{UnknownName, RepeatedName, NumberRange, TooLarge, Broken, NoMemory}
use Rattle.text_resolve.specs.Outcome.{Unless, Gives}
use Rattle.text_resolve.specs.Lookup.{find}
use Rattle.text_resolve.proofs.Lookups.{found_is_first, not_found}
use Rattle.text_resolve.specs.Bodies.{Read, body_at, NoBody}
use Rattle.text_resolve.proofs.Bodied.{expression_is_read, expression_is}
use Rattle.text_fields.specs.Parts as P
use Rattle.text_fields.specs.Parts.{whole, expression_at, distinct, distinct_at, none_of, exported}

pub hand_on : {P Q : Type 0} (e : ResolveFault) → (P → Q) → Unless P e → Unless Q e
hand_on NoMemory f p = p
hand_on Broken f p = f p
hand_on (UnknownName at) f p = f p
hand_on (RepeatedName at) f p = f p
hand_on (NumberRange at) f p = f p
hand_on (TooLarge limit) f p = f p

append_nil : {X : Type 0} (l : List X) → l ++ [] ≡ l
append_nil [] = refl
append_nil (x ∷ l) = ap (λ k. x ∷ k) (append_nil l)

-- ---- expressions

pub expression_found : (s : Spaces) (locals : Names) (fs : List N.Flat) (is : S.Instrs) → Body s locals [] fs [] is → ExpressionFits is → expression_at s locals fs ≡ Some is
unfolding expression_at
expression_found s locals fs is b f = ap whole (expression_is_read s locals fs is b f)

whole_is : (r : Read S.Instrs) (is : S.Instrs) → whole r ≡ Some is → r ≡ Some (is, [])
whole_is None is e = absurd (none-some is e)
whole_is (Some (js, [])) is e = ap (λ (k : S.Instrs). Some (k, [])) (same_Some js is e)
whole_is (Some (js, f ∷ fs)) is e = absurd (none-some is e)

pub found_expression : (s : Spaces) (locals : Names) (fs : List N.Flat) (is : S.Instrs) → expression_at s locals fs ≡ Some is → Body s locals [] fs [] is × ExpressionFits is
unfolding expression_at
found_expression s locals fs is e = expression_is s locals fs [] is [] refl refl (whole_is (body_at s locals 129 [] fs) is e)

none_found : (s : Spaces) (locals : Names) (fs : List N.Flat) (o : Option S.Instrs) → expression_at s locals fs ≡ o → NoBody s locals fs → expression_at s locals fs ≡ None
none_found s locals fs None e refuted = e
none_found s locals fs (Some is) e refuted = let p = found_expression s locals fs is e in absurd (refuted is p.0 p.1)

pub expression_gives : {X : Type 0} (view : X → S.Instrs) (r : Result X ResolveFault) (s : Spaces) (locals : Names) (fs : List N.Flat) → IfOk r (λ v. Body s locals [] fs [] (view v))
    → IfOk r (λ v. ExpressionFits (view v)) → IfErr r (Unless (NoBody s locals fs)) → Gives view r (expression_at s locals fs)
expression_gives view (Ok v) s locals fs b f refuted = expression_found s locals fs (view v) b f
expression_gives view (Err e) s locals fs b f refuted = hand_on e (none_found s locals fs (expression_at s locals fs) refl) refuted

-- ---- names

not_true : (b : Bool) → not b ≡ true → b ≡ false
not_true true e = absurd (cc)
not_true false e = refl

pub distinct_means : (ns : Names) → distinct ns ≡ true → AreDistinct ns
distinct_means [] e = no_names
distinct_means (None ∷ ns) e = unnamed (distinct_means ns e)
distinct_means (Some id ∷ ns) e =
    a_name (not_found id ns (not_true (is_some (find id ns)) (first (not (is_some (find id ns))) (distinct ns) e))) (distinct_means ns (second (not (is_some (find id ns))) (distinct ns) e))

not_there : (id : List ℕ) (ns : Names) (o : Option ℕ) → find id ns ≡ o → ((i : ℕ) → FirstAt id ns i → ⊥) → not (is_some (find id ns)) ≡ true
not_there id ns None e f = ap (λ (o : Option ℕ). not (is_some o)) e
not_there id ns (Some i) e f = absurd (f i (found_is_first id ns i e))

pub means_distinct : {ns : Names} → AreDistinct ns → distinct ns ≡ true
means_distinct no_names = refl
means_distinct (unnamed d) = means_distinct d
means_distinct (a_name {id} {ns} f d) = both (not (is_some (find id ns))) (distinct ns) (not_there id ns (find id ns) refl f) (means_distinct d)

pub distinct_found : (ns : Names) → AreDistinct ns → distinct_at ns ≡ Some ns
unfolding distinct_at
distinct_found ns d = cond-true (distinct ns) (Some ns) None (means_distinct d)

pub found_distinct : (ns ms : Names) → distinct_at ns ≡ Some ms → AreDistinct ns × (ns ≡ ms)
unfolding distinct_at
found_distinct ns ms e = by_test (distinct ns) refl
  where
    by_test : (b : Bool) → distinct ns ≡ b → AreDistinct ns × (ns ≡ ms)
    by_test true t = (distinct_means ns t, same_Some ns ms (sym (cond-true (distinct ns) (Some ns) None t) ∙ e))
    by_test false t = absurd (none-some ms (sym (cond-false (distinct ns) (Some ns) None t) ∙ e))

repeated_names : (ns : Names) → (AreDistinct ns → ⊥) → distinct_at ns ≡ None
unfolding distinct_at
repeated_names ns refuted = by_test (distinct ns) refl
  where
    by_test : (b : Bool) → distinct ns ≡ b → distinct_at ns ≡ None
    by_test true t = absurd (refuted (distinct_means ns t))
    by_test false t = cond-false (distinct ns) (Some ns) None t

pub names_give : {X P : Type 0} (f : X → List P) (g : P → Option (List ℕ)) (r : Result X ResolveFault) (ps : List P) → IfOk r (λ x. f x ≡ ps) → IfOk r (λ _. AreDistinct (map g ps))
    → IfErr r (Unless (AreDistinct (map g ps) → ⊥)) → Gives (λ x. map g (f x)) r (distinct_at (map g ps))
names_give f g (Ok x) ps same d refuted = distinct_found (map g ps) d ∙ ap (λ l. Some (map g l)) (sym same)
names_give f g (Err e) ps same d refuted = hand_on e (repeated_names (map g ps)) refuted

-- one more parameter without a name
pub unnamed_more : {Q : Type 0} (g : Option Q → Option (List ℕ)) (ps qs : List (Option Q)) (before : Names) (xs : List ValType) (i : ℕ) → g None ≡ None → i < length xs
    → map g ps ≡ before ++ none_of (take i xs) → qs ≡ ps ++ None ∷ [] → map g qs ≡ before ++ none_of (take (i + 1) xs)
unnamed_more g ps qs before xs i keeps l so_far step =
    ap (map g) step ∙ map-append g ps (None ∷ []) ∙ ap₂ (λ (l : Names) (n : Option (List ℕ)). l ++ n ∷ []) so_far keeps ∙ append_assoc before (none_of (take i xs)) (None ∷ [])
    ∙ ap (λ (l : Names). before ++ l) (sym (ap none_of (take_more xs i I32 l) ∙ map-append (λ (t : ValType). None) (take i xs) (get_or xs i I32 ∷ [])))

pub places_past : {X : Type 0} (view : X → S.FuncType) (xs : List X) (n : ℕ) (before : Names) → length xs ≤ n → before ≡ before ++ P.unnamed (slice_get (map view xs) n)
places_past view xs n before l = sym (ap (λ o. before ++ P.unnamed o) (slice_get-map view xs n ∙ ap (option_map view) (slice_get_past xs n l)) ∙ append_nil before)

pub places_at : {X : Type 0} (view : X → S.FuncType) (xs : List X) (n : ℕ) (x : X) → n < length xs → x ≡ get_or xs n x → P.unnamed (slice_get (map view xs) n) ≡ none_of (view x).params
places_at view xs n x l at = ap P.unnamed (slice_get-map view xs n ∙ ap (option_map view) (slice_get-get_or xs n x l)) ∙ ap (λ y. none_of (view y).params) (sym at)

pub no_names_are : (ns : Names) → distinct_at [] ≡ Some ns → ns ≡ []
no_names_are ns e = sym (found_distinct [] ns e).1

-- ---- exports

pub exports_fit : (f : ℕ) (items : List (List ℕ)) → f < 4294967296 → list_all export_fits (map (exported f) items) ≡ true
exports_fit f [] l = refl
exports_fit f (item ∷ items) l = both (is_u32 f) (list_all export_fits (map (exported f) items)) (lt-ltb f 4294967296 l) (exports_fit f items l)
