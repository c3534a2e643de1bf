use Rattle.std.proofs.Common.{◌≡◌, ℕ, List, Some, ◌++◌, true, false, sym, ap, ◌∙◌, subst}
use Rattle.std.specs.Prelude.{IsUtf8, string_bytes}
use Rattle.std.proofs.lemmas.Str.{IsUtf8-string_bytes}
use Rattle.lexer.specs.Strings.{decoded}
use Rattle.text_tree.proofs.Strings.{utf8_some, utf8_none}
use Rattle.text_tree.proofs.parts.utf8_of.Goals as goal

pub returns-in-Ok-clause-value : goal.returns-in-Ok-clause-value
returns-in-Ok-clause-value g c =
    let text = decoded c.args.body.now in
    let read : c.put_string.new.found.items ≡ text = c.in_ok-put_string.ensures.added ∙ ap (λ (xs : List ℕ). xs ++ text) c.new-bytes.ensures.items in
    let same : string_bytes c.in-Ok.found ≡ text = ap (λ v. v.items) c.in-Ok.ensures.ok ∙ read in
    ap (λ (s : List ℕ). Some s) same ∙ sym (utf8_some text (subst (λ (s : List ℕ). IsUtf8 s) same (IsUtf8-string_bytes c.in-Ok.found)))

false_true : false ≡ true → ⊥
false_true e = cc

pub returns-clause-value : goal.returns-clause-value
returns-clause-value g c =
    let text = decoded c.args.body.now in
    let read : c.put_string.new.found.items ≡ text = c.in_ok-put_string.ensures.added ∙ ap (λ (xs : List ℕ). xs ++ text) c.new-bytes.ensures.items in
    sym (utf8_none text (λ u. false_true (c.in-Err.ensures.succeeds (subst (λ (s : List ℕ). IsUtf8 s) (sym read) u))))
