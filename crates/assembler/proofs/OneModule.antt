-- No text names two modules.
use Rattle.std.proofs.Common.{◌≡◌, List, sym, ◌∙◌, subst}
use Rattle.spec_modules.specs.Syntax as S
use Rattle.spec_modules.specs.Spells.{ModuleFits}
use Rattle.spec_text.specs.Lexical.{LexesToOne}
use Rattle.spec_text.specs.FieldsOfPlaces as P
use Rattle.spec_text.specs.Spaces.{Spaces}
use Rattle.spec_text.specs.Fields.{AreSpaces, Makes, count_imported}
use Rattle.spec_text.specs.Names.{NamesOne}
use Rattle.text_tree.specs.Texts.{IsText, TextsAreOne}
use Rattle.text_fields.specs.NameLists.{SpacesAreOne}
use Rattle.assembler.specs.ModuleParts.{ExpressionsFit, ModulesAreOne}
use Rattle.assembler.proofs.Ordered.{made_in_order}
use Rattle.assembler.proofs.Unplaced.{order_kept}

expressions_fit : {m : S.Module} → ModuleFits m → ExpressionsFit m
expressions_fit {m} fit = record { bodies = λ k d l. (fit.bodies k d l).body; globals = fit.globals; elements = fit.elements; datas = fit.datas }

pub names_one : LexesToOne → TextsAreOne → SpacesAreOne → ModulesAreOne → NamesOne
names_one lexed texts spaces modules text m n a b =
    let p = a.spelled in
    let q = b.spelled in
    let fields = P.without_places q.fields in
    let s = p.resolves.0 in
    let t = q.resolves.0 in
    let same_tokens : p.tokens ≡ q.tokens = lexed text p.tokens q.tokens p.lexes q.lexes in
    let one : IsText p.tokens p.fields = (p.words, p.are_words, (p.grammar, sym (order_kept p.fields) ∙ made_in_order p.resolves.2)) in
    let other : IsText q.tokens q.fields = (q.words, q.are_words, (q.grammar, sym (order_kept q.fields) ∙ made_in_order q.resolves.2)) in
    let same_fields : p.fields ≡ q.fields = texts q.tokens p.fields q.fields (subst (λ ts. IsText ts p.fields) same_tokens one) other in
    let same_spaces : s ≡ t = spaces fields s t (subst (λ (fs : List P.Field). AreSpaces (P.without_places fs) s) same_fields p.resolves.1) q.resolves.1 in
    let moved = subst (λ (fs : List P.Field). Makes s (P.without_places fs) (count_imported (P.without_places fs)) m) same_fields p.resolves.2 in
    let made = subst (λ (u : Spaces). Makes u fields (count_imported fields) m) same_spaces moved in
    modules t fields (count_imported fields) m n made (expressions_fit a.tree_fits) q.resolves.2 (expressions_fit b.tree_fits)
