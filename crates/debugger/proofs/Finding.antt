-- Instructions of contracts, as they are lent.
use Rattle.std.proofs.Common.{◌≡◌, ℕ, Bool, List, Option, Some, None, option_map, slice_get, is_some, refl, sym, ap, ◌∙◌}
use Rattle.std.specs.Prelude.{◌↔◌, IsTrue, IsSome, option_and_then}
use Rattle.std.proofs.lemmas.Option.{slice_get-map}
use Rattle.link.specs.declared.deployed.Deployed as in_memory
use Rattle.link.specs.Parts.{tree_of}
use Rattle.module_tree.specs.Modules.{module_view}
use Rattle.spec_execution.specs.Configuration.{Deployed}
use Rattle.interp.specs.Callee.{contract_view, contracts_view}
use Rattle.debugger.specs.declared.place.Place.{Place}
use Rattle.debugger.specs.Breaks.{instr_of, instr_there}

module _ {A : Type 0} (lent : List (in_memory.Deployed A)) (contracts : List Deployed) (is : contracts_view lent ≡ contracts) (p : Place) where
  pub there : (d : in_memory.Deployed A) → slice_get lent p.contract ≡ Some d → instr_there contracts p ≡ instr_of (module_view (tree_of d)) p.func p.ordinal
  there d found =
      ap (option_and_then (λ (k : Deployed). instr_of k.tree p.func p.ordinal))
      (ap (λ cs. slice_get cs p.contract) (sym is) ∙ slice_get-map contract_view lent p.contract ∙ ap (option_map contract_view) found)

  pub nowhere : slice_get lent p.contract ≡ None → instr_there contracts p ≡ None
  nowhere none =
      ap (option_and_then (λ (k : Deployed). instr_of k.tree p.func p.ordinal))
      (ap (λ cs. slice_get cs p.contract) (sym is) ∙ slice_get-map contract_view lent p.contract ∙ ap (option_map contract_view) none)

some_mapped : {X Y : Type 0} (f : X → Y) (r : Option X) → is_some (option_map f r) ≡ is_some r
some_mapped f None = refl
some_mapped f (Some x) = refl

pub is_found : {X Y : Type 0} (f : X → Y) (r : Option X) (o : Option Y) (b : Bool) → b ≡ is_some r → option_map f r ≡ o → IsTrue b ↔ IsSome o
is_found f r o b test is = let same : is_some o ≡ b = ap is_some (sym is) ∙ some_mapped f r ∙ sym test in ((λ h. same ∙ h), (λ h. sym same ∙ h))
