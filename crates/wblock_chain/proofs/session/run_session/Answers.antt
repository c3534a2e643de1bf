use Rattle.std.proofs.Common.{◌++◌, List, ℕ, [], string_bytes, inl, inr, ap, subst, ◌∙◌}
use Rattle.world.specs.Views.{world_view}
use Rattle.wblock_io.specs.Holding.{Holding}
use Rattle.wblock_line.specs.Inputs.{GivesWorld}
use Rattle.wblock_line.specs.declared.inputs.WorldFile.{WorldFile}
use Rattle.wblock_line.specs.declared.perform.Status.TheVariants as status
use Rattle.wblock_chain.specs.Replies.{reply}
use Rattle.wblock_chain.specs.Sessions.{IsSessionOver, IsStoppedOver}
use Rattle.wblock_chain.proofs.Running.{ended_not_refused, ended_not_usage, fault_not_done, fault_not_refused, fault_not_usage, fault_quiet, ran_quiet, refusal_quiet, refusal_not_usage, refused_not_done}
use Rattle.wblock_chain.proofs.session.run_session.Goals as goal

-- the world was read

pub returns-in-Ok-Read-clause-done : goal.returns-in-Ok-Read-clause-done
returns-in-Ok-Read-clause-done g c = λ d f l o. record {
  world = world_view c.in-Ok-Read.world;
  held = subst (λ (found : WorldFile). GivesWorld (g.F.Files.holds c.args.files.now) c.args.name.now found) c.in-Ok-Read.field-0-is (c.in-Ok-Read.ensures.gives f);
  session = subst (λ (h : Holding). IsSessionOver c.args.name.now (world_view c.in-Ok-Read.world) (g.L.Lines.coming c.args.lines.now) h (g.F.Files.holds c.run_over.new.files) (g.O.Sink.told c.args.out.now) (g.O.Sink.told c.run_over.new.out)) (c.in-Ok-Read.ensures.kept f) (c.run_over.ensures.done d f l o);
}

pub returns-in-Ok-Read-clause-refused : goal.returns-in-Ok-Read-clause-refused
returns-in-Ok-Read-clause-refused g c = λ r. absurd (ended_not_refused c.run_over.result c.run_over.ensures.ended r)

pub returns-in-Ok-Read-clause-stopped : goal.returns-in-Ok-Read-clause-stopped
returns-in-Ok-Read-clause-stopped g c = λ e f l o. inl (record {
  world = world_view c.in-Ok-Read.world;
  held = subst (λ (found : WorldFile). GivesWorld (g.F.Files.holds c.args.files.now) c.args.name.now found) c.in-Ok-Read.field-0-is (c.in-Ok-Read.ensures.gives f);
  stopped = subst (λ (h : Holding). IsStoppedOver c.args.name.now (world_view c.in-Ok-Read.world) (g.L.Lines.coming c.args.lines.now) c.run_over.result h (g.F.Files.holds c.run_over.new.files) (g.O.Sink.told c.args.out.now) (g.O.Sink.told c.run_over.new.out)) (c.in-Ok-Read.ensures.kept f) (c.run_over.ensures.stopped e f l o);
})

pub returns-in-Ok-Read-clause-answered : goal.returns-in-Ok-Read-clause-answered
returns-in-Ok-Read-clause-answered g c = λ u. ended_not_usage c.run_over.result c.run_over.ensures.ended u

pub returns-in-Ok-Read-clause-quiet : goal.returns-in-Ok-Read-clause-quiet
returns-in-Ok-Read-clause-quiet g c = ran_quiet c.run_over.result _ c.run_over.ensures.ended c.run_over.ensures.quiet

-- the file of the world holds none

pub returns-in-Ok-Refused-clause-done : goal.returns-in-Ok-Refused-clause-done
returns-in-Ok-Refused-clause-done g c = λ d. absurd (refused_not_done c.end_refused.result c.end_refused.ensures.status d)

pub returns-in-Ok-Refused-clause-refused : goal.returns-in-Ok-Refused-clause-refused
returns-in-Ok-Refused-clause-refused g c = λ r f o.
    let told = c.end_refused.ensures.refused r o in record {
      files = c.in-Ok-Refused.ensures.kept f;
      line = string_bytes c.in-Ok-Refused.line;
      none = subst (λ (found : WorldFile). GivesWorld (g.F.Files.holds c.args.files.now) c.args.name.now found) c.in-Ok-Refused.field-0-is (c.in-Ok-Refused.ensures.gives f);
      said = told.0;
      told = told.1 ∙ ap (λ (line : List ℕ). g.O.Sink.told c.args.out.now ++ reply line told.0 status.Refused) c.as_str.ensures.value;
    }

pub returns-in-Ok-Refused-clause-stopped : goal.returns-in-Ok-Refused-clause-stopped
returns-in-Ok-Refused-clause-stopped g c = λ e f l o.
    let told = c.end_refused.ensures.told (fault_not_refused c.end_refused.result e) o in
    inr (record { files = c.in-Ok-Refused.ensures.kept f; text = told.0; said = told.1; shown = told.2; told = told.3 })

pub returns-in-Ok-Refused-clause-answered : goal.returns-in-Ok-Refused-clause-answered
returns-in-Ok-Refused-clause-answered g c = λ u. refusal_not_usage c.end_refused.result c.end_refused.ensures.status u

pub returns-in-Ok-Refused-clause-quiet : goal.returns-in-Ok-Refused-clause-quiet
returns-in-Ok-Refused-clause-quiet g c = refusal_quiet c.end_refused.result _ c.end_refused.ensures.status c.end_refused.ensures.quiet

-- the file of the world failed

pub returns-in-Err-clause-done : goal.returns-in-Err-clause-done
returns-in-Err-clause-done g c = λ d. absurd (fault_not_done c.end_unbegun.result c.end_unbegun.ensures.status d)

pub returns-in-Err-clause-refused : goal.returns-in-Err-clause-refused
returns-in-Err-clause-refused g c = λ r. absurd (fault_not_refused c.end_unbegun.result c.end_unbegun.ensures.status r)

pub returns-in-Err-clause-stopped : goal.returns-in-Err-clause-stopped
returns-in-Err-clause-stopped g c = λ e f l o.
    let told = c.end_unbegun.ensures.told o in
    inr (record { files = c.in-Err.ensures.kept f; text = []; said = told.0; shown = c.end_unbegun.result; told = told.1 })

pub returns-in-Err-clause-answered : goal.returns-in-Err-clause-answered
returns-in-Err-clause-answered g c = λ u. fault_not_usage c.end_unbegun.result c.end_unbegun.ensures.status u

pub returns-in-Err-clause-quiet : goal.returns-in-Err-clause-quiet
returns-in-Err-clause-quiet g c = fault_quiet c.end_unbegun.result _ c.end_unbegun.ensures.status
