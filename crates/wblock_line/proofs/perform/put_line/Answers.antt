use Rattle.std.proofs.lemmas.Result.{err_from_is_err_and}
use Rattle.wblock_line.proofs.Saying.{cut_in_name, cut_at_end}
use Rattle.wblock_line.proofs.perform.put_line.Goals as goal

pub returns-in_err-put_all-2-clause-cut_short : goal.returns-in_err-put_all-2-clause-cut_short
returns-in_err-put_all-2-clause-cut_short g c =
    let p = err_from_is_err_and c.from_residual-in_err-put_all-2.result c.from_residual-in_err-put_all-2.ensures.1 in
    rw p.1 (λ t. cut_in_name _ _ _ _ _ _ _ c.as_bytes.ensures.value c.as_bytes-2.ensures.value (c.in_ok-put_all.ensures.put t) (c.in_err-put_all-2.ensures.cut_short t))

pub returns-in_err-put_all-3-clause-cut_short : goal.returns-in_err-put_all-3-clause-cut_short
returns-in_err-put_all-3-clause-cut_short g c =
    let p = err_from_is_err_and c.from_residual-in_err-put_all-3.result c.from_residual-in_err-put_all-3.ensures.1 in
    rw p.1 (λ t. cut_at_end _ _ _ _ _ _ _ _ c.as_bytes.ensures.value c.as_bytes-2.ensures.value (c.in_ok-put_all.ensures.put t) (c.in_ok-put_all-2.ensures.put t) (c.in_err-put_all-3.ensures.cut_short t))
