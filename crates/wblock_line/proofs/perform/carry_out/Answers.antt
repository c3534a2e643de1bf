use Rattle.std.proofs.Common.{ℕ, List, [], ◌∷◌, ◌++◌, codes, map, refl, inr, subst}
use Rattle.byte_sinks.specs.Putting.{IsCutShort}
use Rattle.wblock_line.specs.Answers.{Wrote, IsSaid, write_of}
use Rattle.wblock_line.proofs.perform.carry_out.Goals as goal

pub returns-clause-explained : goal.returns-clause-explained
returns-clause-explained g c = λ r t.
    rw c.in-Refused.is
    (subst (λ (why : List ℕ). IsSaid (why ++ 10 ∷ []) (g.E.Sink.told c.args.err.now) (g.E.Sink.told c.print_refusal.new.err) (g.E.Sink.failures c.args.err.now) (g.E.Sink.failures c.print_refusal.new.err)) c.as_str-in-Refused-2.ensures.value (c.print_refusal.ensures.explained r t))

pub returns-in-Ok-clause-failing : goal.returns-in-Ok-clause-failing
returns-in-Ok-clause-failing g c = λ d. (
  codes "stdout",
  rw c.in-Done.is (inr (record {
    output_is = refl;
    counted = c.print_text.ensures.counted d;
    wrote = λ f. subst (λ writes. Wrote (map write_of writes) (g.F.Files.holds c.args.files.now) (g.F.Files.holds c.write_files.new.files)) c.as_slice.ensures.value (c.in-Ok.ensures.wrote f);
    calm = c.in-Ok.ensures.calm;
    told = λ t. subst (IsCutShort (g.O.Sink.told c.args.out.now) (g.O.Sink.told c.print_text.new.out)) c.as_str.ensures.value (c.print_text.ensures.cut d t);
  })),
  c.print_text.ensures.said d,
)

pub returns-clause-failing : goal.returns-clause-failing
returns-clause-failing g c = λ d. (
  codes "stdout",
  rw c.in-Refused.is (inr (record {
    output_is = refl;
    counted = c.print_refusal.ensures.counted d;
    wrote = λ f. refl;
    calm = refl;
    told = λ t. subst (IsCutShort (g.O.Sink.told c.args.out.now) (g.O.Sink.told c.print_refusal.new.out)) c.as_str-in-Refused.ensures.value (c.print_refusal.ensures.cut d t);
  })),
  c.print_refusal.ensures.said d,
)
