use Rattle.std.proofs.Common.{inl, inr, ap}
use Rattle.wblock_words.specs.Names.{names_in}
use Rattle.wblock_words.proofs.Fronts.{at_none, at_some}
use Rattle.wblock_words.proofs.Sections.{carries, no_map, no_payload, no_subsection}
use Rattle.wblock_words.proofs.function_names.names_of.Goals as goal

pub returns-in_default-clause-carried : goal.returns-in_default-clause-carried
returns-in_default-clause-carried g c = inr (ap names_in c.new.ensures.items, λ other h. no_payload c.args.bytes.now other h c.in_default.ensures)

pub returns-in_default-functions_in-clause-carried : goal.returns-in_default-functions_in-clause-carried
returns-in_default-functions_in-clause-carried g c =
    inr (ap names_in c.new-in_default-functions_in.ensures.items, λ other h. no_subsection c.args.bytes.now other h c.in-Some.payload.now c.in-Some.ensures c.in_default-functions_in.ensures)

pub returns-in-Some-2-clause-carried : goal.returns-in-Some-2-clause-carried
returns-in-Some-2-clause-carried g c =
    inl (carries c.args.bytes.now c.in-Some.payload.now c.in-Some-functions_in.functions.now (names_in c.in-Some-2.names.items) c.in-Some.ensures.0 c.in-Some-functions_in.ensures.0 (at_some _ _ _ _ c.in-Some-2.is c.in_ok-names.ensures))

pub returns-in-None-clause-carried : goal.returns-in-None-clause-carried
returns-in-None-clause-carried g c = inr (
  ap names_in c.new-in-None.ensures.items,
  λ other h. no_map c.args.bytes.now other h c.in-Some.payload.now c.in-Some.ensures c.in-Some-functions_in.functions.now c.in-Some-functions_in.ensures (at_none _ _ _ c.in-None.is c.in_ok-names.ensures),
)
