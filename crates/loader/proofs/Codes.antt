-- One more entry of code.
use Rattle.std.proofs.Common.{◌≡◌, ℕ, List, [], ◌∷◌, ◌++◌, length, Some, None, refl, sym, ap, ◌∙◌}
use Rattle.std.proofs.lemmas.List.{append-nil, nil_from_length}
use Rattle.std.specs.Prelude.{option_map}
use Rattle.wtypes.specs.declared.ValType.{ValType}
use Rattle.spec_modules.specs.Syntax.{Instrs, Func}
use Rattle.spec_modules.specs.Reading.{Read}
use Rattle.laws_modules.specs.ReadingModules.{inside_at, both_at, locals_at, init_at, code_at, codes_at}
use Rattle.expr_reader.proofs.Steps.{front}
use Rattle.loader.proofs.Fronts.{front_append}

abbrev pub one_code : List ℕ → Read (List ValType × Instrs)
one_code = inside_at (both_at locals_at init_at)

abbrev pub func_with : ℕ → List ValType × Instrs → Func
func_with i c = record { type_index = i; locals = c.0; body = c.1 }

module _ (whole : Read (List Func)) (xs : List Func) (is : List ℕ) (bs : List ℕ) (so_far : front xs (codes_at is bs) ≡ whole) where
  pub code_more : (i : ℕ) (later : List ℕ) (c : List ValType × Instrs) (rest : List ℕ) (zs : List Func) → is ≡ i ∷ later → one_code bs ≡ Some (c, rest) → zs ≡ xs ++ func_with i c ∷ []
      → front zs (codes_at later rest) ≡ whole
  unfolding codes_at code_at
  code_more i later c rest zs here found put =
      let step : codes_at is bs ≡ option_map (λ (s : List Func × List ℕ). (func_with i c ∷ s.0, s.1)) (codes_at later rest) = rw (here, found) refl in
      ap (λ l. front l (codes_at later rest)) put ∙ sym (front_append xs (func_with i c ∷ []) (codes_at later rest)) ∙ ap (front xs) (sym step) ∙ so_far

  pub code_none : (i : ℕ) (later : List ℕ) → is ≡ i ∷ later → one_code bs ≡ None → whole ≡ None
  unfolding codes_at code_at
  code_none i later here none =
      let step : codes_at is bs ≡ None = rw (here, none) refl in
      sym so_far ∙ ap (front xs) step

  pub codes_done : length is ≡ 0 → whole ≡ Some (xs, bs)
  unfolding codes_at
  codes_done none =
      let step : codes_at is bs ≡ Some ([], bs) = rw (nil_from_length is none) refl in
      sym so_far ∙ ap (front xs) step ∙ ap (λ l. Some (l, bs)) (append-nil xs)
