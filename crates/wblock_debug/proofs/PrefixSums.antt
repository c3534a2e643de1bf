-- Limits of the calls of some positions, added up as far as a bound.
use Rattle.std.proofs.Common.{◌≡◌, ℕ, ◌+◌, ◌<◌, List, length, map, min, take, get_or, sym, ap, ◌∙◌, subst, arith}
use Rattle.std.specs.Prelude.{slice_index}
use Rattle.std.proofs.lemmas.List.{length-map, get_or-map}
use Rattle.std.proofs.lemmas.List.Sums.{sum-map, sum_by_more}
use Rattle.spec_ledger.specs.Order.{limits_of}
use Rattle.spec_block.specs.Worlds.{Position}

abbrev pub numbers : List Position → List ℕ
numbers ps = map (λ (p : Position). p.call) ps

capped : (sum limit most : ℕ) → min (min sum most + limit) most ≡ min (sum + limit) most
capped sum limit most = omega arith

-- one position more
pub limits_more : (ls : List ℕ) (ps : List Position) (i : ℕ) (p : Position) (fuel limit next most : ℕ)
    → i < length ps → p ≡ get_or ps i p → limit ≡ slice_index ls p.call → next ≡ min (fuel + limit) most
    → fuel ≡ min (limits_of ls (take i (numbers ps))) most → next ≡ min (limits_of ls (take (i + 1) (numbers ps))) most
limits_more ls ps i p fuel limit next most below is limit_is next_is fuel_is =
    let order = numbers ps in
    let within : i < length order = subst (λ n. i < n) (sym (length-map ps (λ (q : Position). q.call))) below in
    let number : get_or order i 0 ≡ p.call = get_or-map (λ (q : Position). q.call) ps i p 0 below ∙ ap (λ (q : Position). q.call) (sym is) in
    let more : limits_of ls (take (i + 1) order) ≡ limits_of ls (take i order) + slice_index ls (get_or order i 0) =
    sum-map (λ n. slice_index ls n) (take (i + 1) order) ∙ sum_by_more (λ n. slice_index ls n) order i 0 within
    ∙ ap (λ s. s + slice_index ls (get_or order i 0)) (sym (sum-map (λ n. slice_index ls n) (take i order))) in
    next_is ∙ ap (λ f. min (f + limit) most) fuel_is ∙ capped (limits_of ls (take i order)) limit most
    ∙ ap (λ l. min (limits_of ls (take i order) + l) most) (limit_is ∙ ap (slice_index ls) (sym number)) ∙ ap (λ s. min s most) (sym more)
