-- One more run of locals.
use Rattle.std.proofs.Common.{◌≡◌, ℕ, suc, ◌-◌, ◌<◌, ◌≤◌, true, false, List, [], ◌++◌, Some, None, refl, sym, ap, ◌∙◌, replicate}
use Rattle.std.proofs.lemmas.List.{append-nil}
use Rattle.std.specs.Prelude.{option_map, nat_le}
use Rattle.std.proofs.lemmas.Bool.{le-leb, lt-leb}
use Rattle.wtypes.specs.declared.ValType.{ValType}
use Rattle.spec_modules.specs.Reading.{Read}
use Rattle.laws_modules.specs.ReadingModules.{u32_at, value_type_at, runs_at}
use Rattle.expr_reader.proofs.Steps.{front}
use Rattle.loader.proofs.Fronts.{front_append}

module _ (whole : Read (List ValType)) (xs : List ValType) (room n m : ℕ) (bs : List ℕ) (so_far : front xs (runs_at room n bs) ≡ whole) where
  pub run_more : n ≡ suc m → (c : ℕ) (t : ValType) (mid rest : List ℕ) (zs : List ValType) → u32_at bs ≡ Some (c, mid) → c ≤ room → value_type_at mid ≡ Some (t, rest)
      → zs ≡ xs ++ replicate c t → front zs (runs_at (room - c) m rest) ≡ whole
  unfolding runs_at
  run_more is c t mid rest zs count within typed put =
      let fits : nat_le c room ≡ true = le-leb c room within in
      let step : runs_at room n bs ≡ option_map (λ (s : List ValType × List ℕ). (replicate c t ++ s.0, s.1)) (runs_at (room - c) m rest) = rw (is, count, fits, typed) refl in
      ap (λ l. front l (runs_at (room - c) m rest)) put ∙ sym (front_append xs (replicate c t) (runs_at (room - c) m rest)) ∙ ap (front xs) (sym step) ∙ so_far

  pub run_uncounted : n ≡ suc m → u32_at bs ≡ None → whole ≡ None
  unfolding runs_at
  run_uncounted is none =
      let step : runs_at room n bs ≡ None = rw (is, none) refl in
      sym so_far ∙ ap (front xs) step

  pub run_too_long : n ≡ suc m → (c : ℕ) (mid : List ℕ) → u32_at bs ≡ Some (c, mid) → room < c → whole ≡ None
  unfolding runs_at
  run_too_long is c mid count past =
      let fits : nat_le c room ≡ false = lt-leb c room past in
      let step : runs_at room n bs ≡ None = rw (is, count, fits) refl in
      sym so_far ∙ ap (front xs) step

  pub run_untyped : n ≡ suc m → (c : ℕ) (mid : List ℕ) → u32_at bs ≡ Some (c, mid) → c ≤ room → value_type_at mid ≡ None → whole ≡ None
  unfolding runs_at
  run_untyped is c mid count within none =
      let fits : nat_le c room ≡ true = le-leb c room within in
      let step : runs_at room n bs ≡ None = rw (is, count, fits, none) refl in
      sym so_far ∙ ap (front xs) step

pub runs_done : (whole : Read (List ValType)) (xs : List ValType) (room n : ℕ) (bs : List ℕ) → front xs (runs_at room n bs) ≡ whole → n ≡ 0 → whole ≡ Some (xs, bs)
unfolding runs_at
runs_done whole xs room n bs so_far is =
    let step : runs_at room n bs ≡ Some ([], bs) = rw is refl in
    sym so_far ∙ ap (front xs) step ∙ ap (λ l. Some (l, bs)) (append-nil xs)
