-- Limits, and the fuel that calls use, of one call more.
use Rattle.std.proofs.Common.{◌≡◌, ℕ, ◌+◌, List, [], ◌∷◌, ◌++◌, sym, ◌∙◌, ap}
use Rattle.std.specs.Prelude.{slice_index}
use Rattle.std.proofs.lemmas.List.Sums.{sum-map, sum_by_push}
use Rattle.spec_ledger.specs.Order.{limits_of}
use Rattle.spec_execution.specs.Serial.{CallResult}
use Rattle.publish.specs.Publication.{fuel_of_results}

pub limits_of-push : (limits order : List ℕ) (n : ℕ) → limits_of limits (order ++ n ∷ []) ≡ limits_of limits order + slice_index limits n
limits_of-push limits order n =
    sum-map (λ c. slice_index limits c) (order ++ n ∷ []) ∙ sum_by_push (λ c. slice_index limits c) order n
    ∙ ap (λ s. s + slice_index limits n) (sym (sum-map (λ c. slice_index limits c) order))

pub fuel_of_results-push : (rs : List CallResult) (r : CallResult) → fuel_of_results (rs ++ r ∷ []) ≡ fuel_of_results rs + r.receipt.used
fuel_of_results-push rs r =
    sum-map (λ (x : CallResult). x.receipt.used) (rs ++ r ∷ []) ∙ sum_by_push (λ (x : CallResult). x.receipt.used) rs r
    ∙ ap (λ s. s + r.receipt.used) (sym (sum-map (λ (x : CallResult). x.receipt.used) rs))
