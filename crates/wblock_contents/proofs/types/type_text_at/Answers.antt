use Rattle.std.proofs.Common.{rules, ◌≡◌, ℕ, List, [], IfOk, string_bytes, subst, sym, ◌∙◌}
use Rattle.wblock_contents.proofs.AtIndex.{type_some, type_none}
use Rattle.wblock_contents.proofs.types.type_text_at.Goals as goal

pub returns-in-Some : goal.returns-in-Some
returns-in-Some c =
    let there = c.in-Some.ensures.lookup in
    subst (λ (t : List ℕ). IfOk c.func_type_text_of.result (λ text. string_bytes text ≡ t)) (sym (type_some c.args.types.now c.args.index c.in-Some.func_type.now there.3.0 there.1)) c.func_type_text_of.ensures

pub returns-in-None : goal.returns-in-None
returns-in-None c =
    let empty : string_bytes c.new.result ≡ [] = search rules in
    empty ∙ sym (type_none c.args.types.now c.args.index c.in-None.ensures.lookup.3)
