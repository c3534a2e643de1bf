use Rattle.leb.proofs.+put_signed.Given as goal

abbrev pub decreases-put_signed : goal.decreases-put_signed
decreases-put_signed g l = l.more
