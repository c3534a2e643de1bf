use Rattle.std.proofs.Common.{◌≡◌, ◌||◌, ℕ, Bool, true, false, cond, List, Bor, refl, ap, ◌∙◌}
use Rattle.std.specs.Str.{bytes_eq}
use Rattle.std.proofs.lemmas.Map.Text.{is_eq-slice_cmp}
use Rattle.typing.specs.Names.{has_name}
use Rattle.typing.proofs.uses.add_name.Goals as goal

either : (a b : Bool) → cond a true b ≡ (a || b)
either true b = refl
either false b = refl

pub returns-clause-names : goal.returns-clause-names
returns-clause-names g c = λ n.
    let q : Bor (List ℕ) = record { ref_ptr = (0, 0); now = n } in
    let before = has_name c.args.names.now n in
    c.in_ok-is_new.ensures.updates.0 q ∙ (ap (λ b. cond b true before) (is_eq-slice_cmp c.args.name.now n) ∙ either (bytes_eq c.args.name.now n) before)
