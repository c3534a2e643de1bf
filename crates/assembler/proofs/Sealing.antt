-- The module that is sealed is the one that the fields make.
use Rattle.std.proofs.Common.{◌≡◌, true, List, length, Some, sym, subst, ◌∙◌}
use Rattle.std.specs.Prelude.{nat_le}
use Rattle.spec_modules.specs.Syntax as S
use Rattle.spec_modules.specs.Profile.{byte_limit}
use Rattle.spec_modules.specs.Limits.{module_fits}
use Rattle.spec_modules.specs.Shortest.{shortest}
use Rattle.spec_modules.specs.Spells.{ModuleFits}
use Rattle.spec_text.specs.FieldsOfBytes as N
use Rattle.spec_text.specs.Spaces.{Spaces}
use Rattle.spec_text.specs.Fields.{AreSpaces, Resolves, count_imported}
use Rattle.text_fields.specs.NameLists.{SpacesAreOne}
use Rattle.assembler.specs.ModuleParts.{make_at, ExpressionsFit, ReadingIsExact}
use Rattle.assembler.specs.PartsView.{with_types, AreInRange}
use Rattle.assembler.specs.ListsView.{IsTooLarge}
use Rattle.assembler.specs.NamedModules.{ResolveToNothing}
use Rattle.assembler.proofs.Limits.{is_within, is_judged, is_short}
use Rattle.assembler.proofs.Naming.{resolved, made_fits, made}

-- a sealed module is what the fields make
pub sealed_resolves : (fields : List N.Field) (s : Spaces) (m n : S.Module) → ReadingIsExact → AreSpaces fields s → make_at s fields (count_imported fields) ≡ Some m → n ≡ m → Resolves fields n
sealed_resolves fields s m n exact are e same = subst (λ (k : S.Module). Resolves fields k) (sym same) (resolved fields s m exact are e)

-- a sealed module is within the limits
pub sealed_fits : (fields : List N.Field) (s : Spaces) (m n : S.Module) → ReadingIsExact → make_at s fields (count_imported fields) ≡ Some m → n ≡ m
    → module_fits n ≡ true → nat_le (length (shortest n)) byte_limit ≡ true → ModuleFits n
sealed_fits fields s m n exact e same judged short = is_within n (subst (λ (k : S.Module). ExpressionsFit k) (sym same) (made_fits fields s m exact e)) judged short

in_range_typed : (types : List S.FuncType) (m : S.Module) → AreInRange m → AreInRange (with_types types m)
in_range_typed types m r = record {
  imports = r.imports;
  bodies = r.bodies;
  tables = r.tables;
  memories = r.memories;
  globals = r.globals;
  exports = r.exports;
  start = r.start;
  elements = r.elements;
  datas = r.datas;
}

some_one : {X : Type 0} {x y : X} → Some x ≡ Some y → x ≡ y
some_one e = cc

-- what is too large to be sealed is no module within the limits
pub not_sealed : (fields : List N.Field) (s : Spaces) (types : List S.FuncType) (p n : S.Module) → SpacesAreOne → ReadingIsExact → AreSpaces fields s
    → make_at s fields (count_imported fields) ≡ Some (with_types types p) → AreInRange p → n ≡ with_types types p → IsTooLarge n → ResolveToNothing fields
not_sealed fields s types p n one exact are e range same large m r fit =
    let read : Some m ≡ Some (with_types types p) = sym (made fields s m one exact are r fit) ∙ e in
    let given : m ≡ with_types types p = some_one read in
    let here : m ≡ n = given ∙ sym same in
    let ranged : AreInRange m = subst (λ (k : S.Module). AreInRange k) (sym given) (in_range_typed types p range) in
    large (subst (λ (k : S.Module). module_fits k ≡ true) here (is_judged m ranged fit), subst (λ (k : S.Module). nat_le (length (shortest k)) byte_limit ≡ true) here (is_short m fit))
