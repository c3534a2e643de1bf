use Rattle.std.proofs.Common.{subst, sym, List}
use Rattle.spec_text.specs.FieldsOfBytes as N
use Rattle.spec_text.specs.Fields.{Resolves}
use Rattle.module_tree.specs.Modules.{module_view}
use Rattle.text_tree.specs.Places.{fields_of}
use Rattle.assembler.specs.NamedModules.{ResolveToNothing}
use Rattle.assembler.proofs.Naming.{named, not_named, told, why_of_fields, makes_nothing, too_long}
use Rattle.assembler.proofs.Unplaced.{fields_same}
use Rattle.assembler.proofs.assemble.Goals as goal

pub returns-in-Err-clause-refused : goal.returns-in-Err-clause-refused
returns-in-Err-clause-refused g c =
    told c.in-Err.met c.fault_of.result c.fault_of.ensures.memory
    (λ none. not_named c.args.text.now (fields_of c.in_ok-tree.tree) c.in_ok-tree.ensures.fields (subst (λ (fs : List N.Field). ResolveToNothing fs) (fields_same c.in_ok-tree.tree) none)) c.in-Err.ensures.refused

pub returns-clause-names : goal.returns-clause-names
returns-clause-names g c =
    named c.args.text.now (fields_of c.in_ok-tree.tree) (module_view c.in-Ok.module) c.if-text-gt-BYTE_LIMIT.false c.in_ok-tree.ensures.fields
    (subst (λ (fs : List N.Field). Resolves fs (module_view c.in-Ok.module)) (fields_same c.in_ok-tree.tree) c.in-Ok.ensures.resolves) c.in-Ok.ensures.fits

pub returns-in-Err-clause-why : goal.returns-in-Err-clause-why
returns-in-Err-clause-why g c =
    why_of_fields c.args.text.now c.in-Err.met c.fault_of.result c.fault_of.ensures.memory c.fault_of.ensures.of_fields
    (λ none. makes_nothing c.args.text.now (fields_of c.in_ok-tree.tree) c.in_ok-tree.ensures.fields (subst (λ (fs : List N.Field). ResolveToNothing fs) (fields_same c.in_ok-tree.tree) none)) c.in-Err.ensures.refused
