use Rattle.std.proofs.Common.{rules, ◌≡◌, List, map, true, false, refl, sym, subst}
use Rattle.wblock_line.specs.Answers.{write_of}
use Rattle.wblock_line.specs.declared.answer.Write.{Write}
use Rattle.wblock_chain.specs.Answered.{IsTold}
use Rattle.wblock_chain.proofs.Answering.{apart_told, none_told}
use Rattle.wblock_chain.proofs.session.told_apart.Goals as goal

pub returns-then-not-is_told : goal.returns-then-not-is_told
returns-then-not-is_told c = (
  refl,
  λ told.
      let never : false ≡ true = c.if-not-is_told.ensures.1 (subst (λ (ws : List Write). IsTold (map write_of ws)) (sym c.as_slice.ensures.value) told) in
      absurd cc,
)

pub returns-in-Some : goal.returns-in-Some
returns-in-Some c =
    apart_told c.args.writes.items c.pop.new.self.items c.in-Some.write c.in-Some.ensures.items (subst (λ (ws : List Write). IsTold (map write_of ws)) c.as_slice.ensures.value (c.if-not-is_told.ensures.0 (search rules)))

pub returns-in-None : goal.returns-in-None
returns-in-None c = absurd (none_told c.args.writes c.in-None.ensures.cases.0 (subst (λ (ws : List Write). IsTold (map write_of ws)) c.as_slice.ensures.value (c.if-not-is_told.ensures.0 (search rules))))
