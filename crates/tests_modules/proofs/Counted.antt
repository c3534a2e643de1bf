-- Ordinals that rise by one.
use Rattle.std.proofs.Common.{◌≡◌, ℕ, zero, suc, ◌+◌, ◌-◌, ◌≤◌, true, List, refl, ap, ◌∙◌, arith}
use Rattle.std.specs.List.{range_with_len}
use Rattle.std.proofs.lemmas.Bool.{eq-eqb}
use Rattle.spec_modules.specs.Limits.{counts_from}
use Rattle.module_tree.specs.Numbering.{Numbered}

counts : (n m : ℕ) → counts_from n (range_with_len n m) ≡ true
counts n zero = refl
counts n (suc m) = rw (eq-eqb n n refl) (counts (n + 1) m)

pub numbered_whole : (from to : ℕ) (ns : List ℕ) → from ≤ 0 → Numbered from to ns → counts_from 0 ns ≡ true
numbered_whole from to ns l p =
    let e : 0 ≡ from = omega arith in
    ap (λ n. counts_from n ns) e ∙ ap (counts_from from) p.1 ∙ counts from (to - from)
