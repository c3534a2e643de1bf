-- Limits of the calls of an order, added up.
use Rattle.std.proofs.Common.{◌≡◌, ℕ, ◌+◌, ◌<◌, ◌≤◌, List, option_map, length, take, get_or, refl, sym, ap, ◌∙◌, arith}
use Rattle.std.specs.Prelude.{slice_index}
use Rattle.std.proofs.lemmas.Option.{slice_get-map, slice_get_read, get_or_from_slice_get}
use Rattle.std.proofs.lemmas.List.Sums.{sum-map, sum_by_more, sum_by_more_le}
use Rattle.spec_ledger.specs.Order.{limits_of}
use Rattle.spec_block.specs.Worlds.{Call, limits}

pub limit_at : (calls : List Call) (n : ℕ) (call : Call) → n < length calls → call ≡ get_or calls n call → slice_index (limits calls) n ≡ call.fuel
limit_at calls n call below is =
    get_or_from_slice_get (limits calls) n call.fuel 0
    (slice_get-map (λ (c : Call). c.fuel) calls n ∙ ap (option_map (λ (c : Call). c.fuel)) (slice_get_read calls (length calls) n call refl below is))

-- one call more
pub limits_more : (ls order : List ℕ) (i : ℕ) → i < length order → limits_of ls (take (i + 1) order) ≡ limits_of ls (take i order) + slice_index ls (get_or order i 0)
limits_more ls order i below =
    sum-map (λ n. slice_index ls n) (take (i + 1) order) ∙ sum_by_more (λ n. slice_index ls n) order i 0 below
    ∙ ap (λ s. s + slice_index ls (get_or order i 0)) (sym (sum-map (λ n. slice_index ls n) (take i order)))

-- is within all
pub limits_within : (ls order : List ℕ) (i : ℕ) → i < length order → limits_of ls (take i order) + slice_index ls (get_or order i 0) ≤ limits_of ls order
limits_within ls order i below =
    let all = sum-map (λ n. slice_index ls n) order in
    let some = sum-map (λ n. slice_index ls n) (take i order) in
    let le = sum_by_more_le (λ n. slice_index ls n) order i 0 below in
    omega (arith, all, some, le)
