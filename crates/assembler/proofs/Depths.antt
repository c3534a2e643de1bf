-- How deep the rest of a list is nested.
use Rattle.std.proofs.Common.{◌≡◌, ℕ, ◌<◌, ◌≤◌, max, Bool, true, false, nat_le, List, length, get_or, drop, ap, ◌∙◌, sym, arith, ⊎_elim, ◌+◌}
use Rattle.std.proofs.lemmas.Bool.{le-leb, lt-leb, leb-true, leb-false, cases_lt}
use Rattle.spec_modules.specs.Shape.{instr_depth, instrs_depth}
use Rattle.module_tree.specs.declared.instr.Instr.{Instr}
use Rattle.module_tree.specs.View.{instr_view, instrs_view}
use Rattle.module_tree.proofs.Walks.{drop_next}

max_more : (d e n : ℕ) → nat_le d n ≡ true → nat_le (max d e) n ≡ nat_le e n
max_more d e n h =
    let l : d ≤ n = leb-true d n h in
    ⊎_elim
    (λ (o : n < e). lt-leb (max d e) n (omega arith) ∙ sym (lt-leb e n o))
    (λ (w : e ≤ n). le-leb (max d e) n (omega arith) ∙ sym (le-leb e n w))
    (cases_lt n e)

max_over : (d e n : ℕ) → nat_le d n ≡ false → nat_le (max d e) n ≡ false
max_over d e n h =
    let l : n < d = leb-false d n h in
    lt-leb (max d e) n (omega arith)

module _ {A : Type 0} (is : List (Instr A)) (x : Instr A) (i : ℕ) (lt : i < length is) (at : x ≡ get_or is i x) (n : ℕ) (whole : Bool) (so : nat_le (instrs_depth (instrs_view (drop i is))) n ≡ whole) where
  depth_here : nat_le (instrs_depth (instrs_view (drop i is))) n ≡ nat_le (max (instr_depth (instr_view x)) (instrs_depth (instrs_view (drop (i + 1) is)))) n
  depth_here = ap (λ v. nat_le (instrs_depth v) n) (drop_next is x i lt at)

  pub within_next : nat_le (instr_depth (instr_view x)) n ≡ true → nat_le (instrs_depth (instrs_view (drop (i + 1) is))) n ≡ whole
  within_next h = sym (depth_here ∙ max_more (instr_depth (instr_view x)) (instrs_depth (instrs_view (drop (i + 1) is))) n h) ∙ so

  pub over_here : nat_le (instr_depth (instr_view x)) n ≡ false → false ≡ whole
  over_here h = sym (depth_here ∙ max_over (instr_depth (instr_view x)) (instrs_depth (instrs_view (drop (i + 1) is))) n h) ∙ so
