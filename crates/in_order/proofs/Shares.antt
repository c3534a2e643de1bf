-- Calls that are kept with their read-write sets.
use Rattle.std.proofs.Common.{◌≡◌, ℕ, ◌-◌, ◌≤◌, List, [], ◌∷◌, ◌++◌, length, take, drop, length-append, length-drop, sym, ◌∙◌, ap, subst, arith}
use Rattle.std.proofs.Math.Seq.{take-append-le, drop-append-le, drop-append_seam, take-length}
use Rattle.std.proofs.lemmas.List.Elements.{All-append, All-cons, All-nil, All-weaker}
use Rattle.spec_execution.specs.Configuration.{Setting}
use Rattle.spec_execution.specs.Run.{ContractCall}
use Rattle.spec_execution.specs.declared.footprints.Access.{Access}
use Rattle.serial.specs.Calls.{IsFootprintOf}
use Rattle.in_order.specs.declared.speculative_run.SpeculativeRun.{SpeculativeRun}
use Rattle.in_order.specs.Shares.{IsSpeculativeRun, AreAllPrepared}

-- a part of a list is the same part of a longer one
part_kept : {A : Type 0} (xs more : List A) (from until : ℕ) → from ≤ until → until ≤ length xs → take (until - from) (drop from (xs ++ more)) ≡ take (until - from) (drop from xs)
part_kept xs more from until begins ends =
    ap (take (until - from)) (drop-append-le from xs more (omega arith)) ∙ take-append-le (until - from) (drop from xs) more (omega (arith, length-drop from xs))

-- what is put behind a list is its last part
last_part : {A : Type 0} (xs more : List A) (until : ℕ) → until ≡ length (xs ++ more) → take (until - length xs) (drop (length xs) (xs ++ more)) ≡ more
last_part xs more until is =
    let rest = drop-append_seam xs more in
    let count : until - length xs ≡ length more = omega (arith, length-append xs more) in
    ap (take (until - length xs)) rest ∙ ap (λ n. take n more) count ∙ take-length more

still_prepared : {A : Type 0} (setting : Setting) (calls : List ContractCall) (accesses more : List Access) (p : SpeculativeRun A) → IsSpeculativeRun setting calls accesses p → IsSpeculativeRun setting calls (accesses ++ more) p
still_prepared setting calls accesses more p is = record {
  begins = is.begins;
  ends = omega (arith, is.ends, length-append accesses more);
  read_write_set = subst (λ own. IsFootprintOf setting calls p.call own p.executed) (sym (part_kept accesses more p.from p.until is.begins is.ends)) is.read_write_set;
}

-- one call more, whose accesses were put behind the others
pub one_more_prepared : {A : Type 0} (setting : Setting) (calls : List ContractCall) (accesses own now : List Access) (xs zs : List (SpeculativeRun A)) (x : SpeculativeRun A)
    → zs ≡ xs ++ x ∷ [] → now ≡ accesses ++ own → AreAllPrepared setting calls accesses xs → x.from ≡ length accesses → x.until ≡ length now → IsFootprintOf setting calls x.call own x.executed
    → AreAllPrepared setting calls now zs
one_more_prepared setting calls accesses own now xs zs x is behind all from until read_write_set =
    let ends : x.until ≡ length (accesses ++ own) = until ∙ ap length behind in
    let mine : take (x.until - x.from) (drop x.from (accesses ++ own)) ≡ own = ap (λ n. take (x.until - n) (drop n (accesses ++ own))) from ∙ last_part accesses own x.until ends in
    let one : IsSpeculativeRun setting calls (accesses ++ own) x = record {
      begins = omega (arith, from, ends, length-append accesses own);
      ends = omega (arith, ends);
      read_write_set = subst (λ part. IsFootprintOf setting calls x.call part x.executed) (sym mine) read_write_set;
    } in
    let others = All-weaker (IsSpeculativeRun setting calls accesses) (IsSpeculativeRun setting calls (accesses ++ own)) (still_prepared setting calls accesses own) xs all in
    subst (λ l. AreAllPrepared setting calls l zs) (sym behind)
    (subst (AreAllPrepared setting calls (accesses ++ own)) (sym is)
    (All-append (IsSpeculativeRun setting calls (accesses ++ own)) xs (x ∷ []) others (All-cons (IsSpeculativeRun setting calls (accesses ++ own)) x [] one (All-nil (IsSpeculativeRun setting calls (accesses ++ own))))))
