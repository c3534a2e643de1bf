-- Names as they are listed, and spaces by the definition.
use Rattle.std.proofs.Common.{◌≡◌, ℕ, ◌+◌, ◌<◌, ◌≤◌, List, [], ◌∷◌, ◌++◌, length, get_or, drop, map, refl, sym, ap, ◌∙◌, append_assoc}
use Rattle.std.specs.List.{flat_map, filter_map}
use Rattle.std.proofs.lemmas.List.{drop_more}
use Rattle.std.proofs.Math.ListN.{drop_of_length-le}
use Rattle.spec_modules.specs.Syntax.{FuncType}
use Rattle.spec_text.specs.Spaces.{Names, Spaces}
use Rattle.spec_text.specs.TypeUses.{inline_of_field}
use Rattle.spec_text.specs.Fields.{declared_type}
use Rattle.text_fields.proofs.Adding.{types_are_one}
use Rattle.text_fields.specs.NameLists.{SpacesAreOne}

-- as far as a loop has come
pub names_more : {X Y Z : Type 0} (g : Y → List Z) (f : X → Y) (xs : List X) (i : ℕ) (x : X) (ts us whole : List Z) → i < length xs → x ≡ get_or xs i x
    → ts ++ flat_map g (map f (drop i xs)) ≡ whole → us ≡ ts ++ g (f x) → us ++ flat_map g (map f (drop (i + 1) xs)) ≡ whole
names_more g f xs i x ts us whole l at so_far step =
    ap (λ k. k ++ flat_map g (map f (drop (i + 1) xs))) step ∙ append_assoc ts (g (f x)) (flat_map g (map f (drop (i + 1) xs)))
    ∙ ap (λ k. ts ++ flat_map g (map f k)) (sym (drop_more xs i x l ∙ ap (λ y. y ∷ drop (i + 1) xs) (sym at))) ∙ so_far

append_nil : {X : Type 0} (l : List X) → l ++ [] ≡ l
append_nil [] = refl
append_nil (x ∷ l) = ap (λ k. x ∷ k) (append_nil l)

pub all_listed : {X Y Z : Type 0} (g : Y → List Z) (f : X → Y) (xs : List X) (i : ℕ) (ts whole : List Z) → length xs ≤ i → ts ++ flat_map g (map f (drop i xs)) ≡ whole → ts ≡ whole
all_listed g f xs i ts whole l e = sym (append_nil ts) ∙ ap (λ k. ts ++ flat_map g (map f k)) (sym (drop_of_length-le xs l)) ∙ e

abbrev pub made : List FuncType → Names → Names → Names → Names → Names → Spaces
made types a b c d e = record { types = types; type_names = a; funcs = b; tables = c; memories = d; globals = e }

alike : {ts us : List FuncType} {a1 b1 a2 b2 a3 b3 a4 b4 a5 b5 : Names} → ts ≡ us → a1 ≡ b1 → a2 ≡ b2 → a3 ≡ b3 → a4 ≡ b4 → a5 ≡ b5
    → made ts a1 a2 a3 a4 a5 ≡ made us b1 b2 b3 b4 b5
alike p a b c d e = rw p rw a rw b rw c rw d rw e refl

pub spaces_are_one : SpacesAreOne
spaces_are_one fields s t a b =
    alike (types_are_one (filter_map declared_type fields) (flat_map inline_of_field fields) s.types t.types a.types b.types)
    (a.type_names.0 ∙ sym b.type_names.0) (a.funcs.0 ∙ sym b.funcs.0) (a.tables.0 ∙ sym b.tables.0) (a.memories.0 ∙ sym b.memories.0) (a.globals.0 ∙ sym b.globals.0)
