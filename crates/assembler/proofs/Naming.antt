-- What a text names.
use Rattle.std.proofs.Common.{◌≡◌, ℕ, ◌≤◌, List, length, Some, None, refl, sym, subst, ap, ◌∙◌}
use Rattle.std.proofs.lemmas.Option.{none-some}
use Rattle.spec_modules.specs.Syntax as S
use Rattle.spec_modules.specs.Profile.{byte_limit}
use Rattle.spec_modules.specs.Spells.{ModuleFits}
use Rattle.spec_text.specs.Lexical.{Token, Lexes, LexesToOne}
use Rattle.spec_text.specs.FieldsOfBytes as N
use Rattle.spec_text.specs.FieldsOfPlaces as P
use Rattle.spec_text.specs.Spaces.{Spaces}
use Rattle.spec_text.specs.Fields.{AreSpaces, Resolves, count_imported}
use Rattle.spec_text.specs.Names.{Names}
use Rattle.text_resolve.specs.Outcome as inner
use Rattle.text_resolve.specs.Refusals.{Unless}
use Rattle.text_resolve.specs.declared.refusal.ResolveFault.{ResolveFault}
use Rattle.text_resolve.specs.declared.refusal.ResolveFault.TheVariants as unresolved
use Rattle.text_resolve.specs.declared.refusal.AsmRefusal.{AsmRefusal}
use Rattle.text_resolve.specs.declared.refusal.AsmRefusal.TheVariants.{Lex, Unexpected, UnknownName, RepeatedName, NumberRange, TooLarge, NoMemory}
use Rattle.text_tree.specs.Texts.{IsText, NoText, TextsAreOne}
use Rattle.text_fields.specs.NameLists.{NoSpaces, SpacesAreOne}
use Rattle.assembler.specs.ModuleParts.{make_at, ExpressionsFit, ReadingIsExact}
use Rattle.assembler.proofs.Ordered.{made_in_order}
use Rattle.assembler.proofs.Unplaced.{order_kept}
use Rattle.assembler.specs.OfFields.{IsOfFields}
use Rattle.assembler.specs.NamedModules.{HasFields, NamesNothing, LexesToNothing, ResolveToNothing, MakesNothing, IsWhy}

-- ---- tokens and fields

pub no_tokens : (text : List ℕ) → LexesToNothing text → NamesNothing text
no_tokens text none m n = none n.spelled.tokens n.spelled.lexes

own_text : (text : List ℕ) (ts : List Token) (m : S.Module) → LexesToOne → Lexes text ts → (n : Names text m) → IsText ts n.spelled.fields
own_text text ts m lexed lexes n =
    let p = n.spelled in
    let own : IsText p.tokens p.fields = (p.words, p.are_words, (p.grammar, sym (order_kept p.fields) ∙ made_in_order p.resolves.2)) in
    subst (λ (us : List Token). IsText us p.fields) (lexed text p.tokens ts p.lexes lexes) own

pub no_fields : (text : List ℕ) (ts : List Token) → LexesToOne → Lexes text ts → NoText ts → NamesNothing text
no_fields text ts lexed lexes none m n = none n.spelled.fields (own_text text ts m lexed lexes n)

pub has_fields : (text : List ℕ) (ts : List Token) (fields : List P.Field) → LexesToOne → TextsAreOne → Lexes text ts → IsText ts fields → HasFields text fields
has_fields text ts fields lexed texts lexes is_text = record {
  tokens = ts;
  lexes = lexes;
  is_text = is_text;
  only = λ m n. subst (λ (fs : List P.Field). Resolves (P.without_places fs) m) (texts ts n.spelled.fields fields (own_text text ts m lexed lexes n) is_text) n.spelled.resolves;
}

pub named : (text : List ℕ) (fields : List P.Field) (m : S.Module) → length text ≤ byte_limit → HasFields text fields → Resolves (P.without_places fields) m → ModuleFits m → Names text m
named text fields m few has resolves fits = record {
  text_fits = few;
  spelled = record {
    tokens = has.tokens;
    words = has.is_text.0;
    fields = fields;
    lexes = has.lexes;
    are_words = has.is_text.1;
    grammar = has.is_text.2.0;
    resolves = resolves;
  };
  tree_fits = fits;
}

pub not_named : (text : List ℕ) (fields : List P.Field) → HasFields text fields → ResolveToNothing (P.without_places fields) → NamesNothing text
not_named text fields has none m n = none m (has.only m n) n.tree_fits

-- any refusal is right where the text names no module
rightly : {P : Type 0} (e : AsmRefusal) → P → Unless P e
rightly NoMemory p = tt
rightly (Lex refusal) p = p
rightly (Unexpected at) p = p
rightly (UnknownName at) p = p
rightly (RepeatedName at) p = p
rightly (NumberRange at) p = p
rightly (TooLarge limit) p = p

-- one refusal in place of another
pub told : {P Q : Type 0} (e : ResolveFault) (r : AsmRefusal) → (e ≡ unresolved.NoMemory → r ≡ NoMemory) → (P → Q) → inner.Unless P e → Unless Q r
told unresolved.NoMemory r same f p = rw (same refl) tt
told unresolved.Broken r same f p = rightly r (f p)
told (unresolved.UnknownName at) r same f p = rightly r (f p)
told (unresolved.RepeatedName at) r same f p = rightly r (f p)
told (unresolved.NumberRange at) r same f p = rightly r (f p)
told (unresolved.TooLarge limit) r same f p = rightly r (f p)

-- a refusal of fields is why the text names nothing
of_fields : (text : List ℕ) (r : AsmRefusal) → IsOfFields r → MakesNothing text → IsWhy text r
of_fields text NoMemory is none = tt
of_fields text (Lex refusal) is none = absurd is
of_fields text (Unexpected at) is none = absurd is
of_fields text (UnknownName at) is none = none
of_fields text (RepeatedName at) is none = none
of_fields text (NumberRange at) is none = none
of_fields text (TooLarge limit) is none = none

-- and so it is in place of another refusal
pub why_of_fields : {P : Type 0} (text : List ℕ) (e : ResolveFault) (r : AsmRefusal) → (e ≡ unresolved.NoMemory → r ≡ NoMemory) → IsOfFields r → (P → MakesNothing text) → inner.Unless P e → IsWhy text r
why_of_fields text unresolved.NoMemory r same is f p = rw (same refl) tt
why_of_fields text unresolved.Broken r same is f p = of_fields text r is (f p)
why_of_fields text (unresolved.UnknownName at) r same is f p = of_fields text r is (f p)
why_of_fields text (unresolved.RepeatedName at) r same is f p = of_fields text r is (f p)
why_of_fields text (unresolved.NumberRange at) r same is f p = of_fields text r is (f p)
why_of_fields text (unresolved.TooLarge limit) r same is f p = of_fields text r is (f p)

pub makes_nothing : (text : List ℕ) (fields : List P.Field) → HasFields text fields → ResolveToNothing (P.without_places fields) → MakesNothing text
makes_nothing text fields has none = record { fields = fields; has = has; names_nothing = not_named text fields has none }

-- a text that is too long names nothing
pub too_long : (text : List ℕ) (fields : List P.Field) → HasFields text fields → ¬ (length text ≤ byte_limit) → MakesNothing text
too_long text fields has long = record { fields = fields; has = has; names_nothing = λ m n. long n.text_fits }

-- ---- modules

expressions_fit : {m : S.Module} → ModuleFits m → ExpressionsFit m
expressions_fit {m} fit = record { bodies = λ k d l. (fit.bodies k d l).body; globals = fit.globals; elements = fit.elements; datas = fit.datas }

pub resolved : (fields : List N.Field) (s : Spaces) (m : S.Module) → ReadingIsExact → AreSpaces fields s → make_at s fields (count_imported fields) ≡ Some m → Resolves fields m
resolved fields s m exact are e = (s, are, ((exact s fields (count_imported fields) m).1 e).0)

pub made_fits : (fields : List N.Field) (s : Spaces) (m : S.Module) → ReadingIsExact → make_at s fields (count_imported fields) ≡ Some m → ExpressionsFit m
made_fits fields s m exact e = ((exact s fields (count_imported fields) m).1 e).1

-- what else fields make within the limits is read too
pub made : (fields : List N.Field) (s : Spaces) (m : S.Module) → SpacesAreOne → ReadingIsExact → AreSpaces fields s → Resolves fields m → ModuleFits m → make_at s fields (count_imported fields) ≡ Some m
made fields s m one exact are r fit =
    ap (λ t. make_at t fields (count_imported fields)) (one fields s r.0 are r.1) ∙ (exact r.0 fields (count_imported fields) m).0 r.2 (expressions_fit fit)

pub no_spaces : (fields : List N.Field) → NoSpaces fields → ResolveToNothing fields
no_spaces fields none m r fit = none r.0 r.1

pub not_made : (fields : List N.Field) (s : Spaces) → SpacesAreOne → ReadingIsExact → AreSpaces fields s → make_at s fields (count_imported fields) ≡ None → ResolveToNothing fields
not_made fields s one exact are none m r fit = none-some m (sym none ∙ made fields s m one exact are r fit)
