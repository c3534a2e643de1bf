use Rattle.std.proofs.Common.{◌≡◌, ◌++◌, ◌∙◌, List, ℕ, [], Some, None, Option, refl, ap, sym, subst, codes}
use Rattle.world.specs.Views.{world_view}
use Rattle.byte_sinks.specs.Putting.{IsCutShort}
use Rattle.wblock_line.specs.Answers.{IsSaid, file_line, memory_line}
use Rattle.wblock_line.specs.declared.perform.Status.TheVariants as status
use Rattle.wblock_chain.specs.Requests.{IsRequest}
use Rattle.wblock_chain.specs.declared.request.Request.{Request}
use Rattle.wblock_chain.proofs.Running.{begun, cut_off, ended, next, one_more, quit, stopped_with}
use Rattle.wblock_chain.proofs.session.run_over.Goals as goal

pub loop-init : goal.loop-init
loop-init g c = record { far = λ f l o. begun c.args.name.now (world_view c.args.world) (g.L.Lines.coming c.args.lines.now) (g.F.Files.holds c.args.files.now) (g.O.Sink.told c.args.out.now); quiet = refl }

-- no line is left
pub returns-in-Ok-None-clause-done : goal.returns-in-Ok-None-clause-done
returns-in-Ok-None-clause-done g c = λ d f l o.
    let name = c.args.name.now in
    let w = world_view c.args.world in
    let last = world_view c.loop.world in
    let all = g.L.Lines.coming c.args.lines.now in
    let mid = g.L.Lines.coming c.loop.lines in
    let old = g.F.Files.holds c.args.files.now in
    let files = g.F.Files.holds c.loop.files in
    let before = g.O.Sink.told c.args.out.now in
    let after = g.O.Sink.told c.loop.out in
    let rest = g.L.Lines.coming c.next_request.new.lines in
    let is = subst (λ (r : Option Request). IsRequest mid r rest) c.in-Ok-None.field-0-is (c.in-Ok-None.ensures.read l) in
    ended name w last all mid rest old files before after (c.loop.invariant.far f l o) is

-- the input failed
pub returns-in-Err-Failed-clause-stopped : goal.returns-in-Err-Failed-clause-stopped
returns-in-Err-Failed-clause-stopped g c = λ e f l o.
    let name = c.args.name.now in
    let w = world_view c.args.world in
    let last = world_view c.loop.world in
    let all = g.L.Lines.coming c.args.lines.now in
    let mid = g.L.Lines.coming c.loop.lines in
    let old = g.F.Files.holds c.args.files.now in
    let files = g.F.Files.holds c.loop.files in
    let before = g.O.Sink.told c.args.out.now in
    let after = g.O.Sink.told c.loop.out in
    stopped_with name w last all mid old files files (file_line (codes "stdin")) status.File c.end_for_input.result before after (g.O.Sink.told c.end_for_input.new.out) (c.loop.invariant.far f l o) refl c.end_for_input.ensures.status (c.end_for_input.ensures.told o)

-- memory was refused where a line was read
pub returns-in-Err-NoMemory-clause-stopped : goal.returns-in-Err-NoMemory-clause-stopped
returns-in-Err-NoMemory-clause-stopped g c = λ e f l o.
    let name = c.args.name.now in
    let w = world_view c.args.world in
    let last = world_view c.loop.world in
    let all = g.L.Lines.coming c.args.lines.now in
    let mid = g.L.Lines.coming c.loop.lines in
    let old = g.F.Files.holds c.args.files.now in
    let files = g.F.Files.holds c.loop.files in
    let before = g.O.Sink.told c.args.out.now in
    let after = g.O.Sink.told c.loop.out in
    stopped_with name w last all mid old files files memory_line status.Memory c.end_for_memory.result before after (g.O.Sink.told c.end_for_memory.new.out) (c.loop.invariant.far f l o) refl c.end_for_memory.ensures.status (c.end_for_memory.ensures.told o)

pub returns-in-Err-NoMemory-clause-memory_said : goal.returns-in-Err-NoMemory-clause-memory_said
returns-in-Err-NoMemory-clause-memory_said g c = λ m t. subst (λ e. IsSaid memory_line (g.E.Sink.told e) (g.E.Sink.told c.end_for_memory.new.err) (g.E.Sink.failures e) (g.E.Sink.failures c.end_for_memory.new.err)) c.loop.invariant.quiet (c.end_for_memory.ensures.said t)

-- memory was refused where a line was answered
pub returns-in_default-clause-stopped : goal.returns-in_default-clause-stopped
returns-in_default-clause-stopped g c = λ e f l o.
    let name = c.args.name.now in
    let w = world_view c.args.world in
    let last = world_view c.loop.world in
    let all = g.L.Lines.coming c.args.lines.now in
    let mid = g.L.Lines.coming c.loop.lines in
    let old = g.F.Files.holds c.args.files.now in
    let files = g.F.Files.holds c.loop.files in
    let before = g.O.Sink.told c.args.out.now in
    let after = g.O.Sink.told c.loop.out in
    stopped_with name w last all mid old files (g.F.Files.holds c.answer.new.files) memory_line status.Memory c.end_for_memory-in_default.result before after (g.O.Sink.told c.end_for_memory-in_default.new.out) (c.loop.invariant.far f l o) (c.in_default.ensures.kept f) c.end_for_memory-in_default.ensures.status (c.end_for_memory-in_default.ensures.told o)

pub returns-in_default-clause-memory_said : goal.returns-in_default-clause-memory_said
returns-in_default-clause-memory_said g c = λ m t. subst (λ e. IsSaid memory_line (g.E.Sink.told e) (g.E.Sink.told c.end_for_memory-in_default.new.err) (g.E.Sink.failures e) (g.E.Sink.failures c.end_for_memory-in_default.new.err)) c.loop.invariant.quiet (c.end_for_memory-in_default.ensures.said t)

-- the output failed
pub returns-in-Err-clause-stopped : goal.returns-in-Err-clause-stopped
returns-in-Err-clause-stopped g c = λ e f l o.
    let name = c.args.name.now in
    let w = world_view c.args.world in
    let last = world_view c.loop.world in
    let all = g.L.Lines.coming c.args.lines.now in
    let mid = g.L.Lines.coming c.loop.lines in
    let old = g.F.Files.holds c.args.files.now in
    let files = g.F.Files.holds c.loop.files in
    let before = g.O.Sink.told c.args.out.now in
    let after = g.O.Sink.told c.loop.out in
    let rest = g.L.Lines.coming c.next_request.new.lines in
    let is = subst (λ (r : Option Request). IsRequest mid r rest) c.in-Ok-Some.field-0-is (c.in-Ok-Some.ensures.read l) in
    let new = g.F.Files.holds c.answer.new.files in
    let a = c.in-Ok.answered in
    let n = next name c.in-Ok-Some.request mid rest files new last a is (c.in-Ok.ensures.answer f) in
    let later = g.O.Sink.told c.put_all.new.sink in
    cut_off name w last all mid rest old files new a c.tell_fault.result before after later (c.loop.invariant.far f l o) n (subst (IsCutShort after later) c.as_slice.ensures.value (c.in-Err.ensures.cut_short o))

-- the line was `quit`
pub returns-then-answered-clause-done : goal.returns-then-answered-clause-done
returns-then-answered-clause-done g c = λ d f l o.
    let name = c.args.name.now in
    let w = world_view c.args.world in
    let last = world_view c.loop.world in
    let all = g.L.Lines.coming c.args.lines.now in
    let mid = g.L.Lines.coming c.loop.lines in
    let old = g.F.Files.holds c.args.files.now in
    let files = g.F.Files.holds c.loop.files in
    let before = g.O.Sink.told c.args.out.now in
    let after = g.O.Sink.told c.loop.out in
    let rest = g.L.Lines.coming c.next_request.new.lines in
    let is = subst (λ (r : Option Request). IsRequest mid r rest) c.in-Ok-Some.field-0-is (c.in-Ok-Some.ensures.read l) in
    let new = g.F.Files.holds c.answer.new.files in
    let a = c.in-Ok.answered in
    let n = next name c.in-Ok-Some.request mid rest files new last a is (c.in-Ok.ensures.answer f) in
    let later = g.O.Sink.told c.put_all.new.sink in
    quit name w last all mid rest old files new a before after later (c.loop.invariant.far f l o) n (c.in_default-put_all.ensures.put o ∙ ap (λ (b : List ℕ). after ++ b) c.as_slice.ensures.value) c.if-answered.true

-- a line was taken and answered
pub loop-preserved : goal.loop-preserved
loop-preserved g c = record {
  far = λ f l o.
      let name = c.args.name.now in
      let w = world_view c.args.world in
      let last = world_view c.loop.world in
      let all = g.L.Lines.coming c.args.lines.now in
      let mid = g.L.Lines.coming c.loop.lines in
      let old = g.F.Files.holds c.args.files.now in
      let files = g.F.Files.holds c.loop.files in
      let before = g.O.Sink.told c.args.out.now in
      let after = g.O.Sink.told c.loop.out in
      let rest = g.L.Lines.coming c.next_request.new.lines in
      let is = subst (λ (r : Option Request). IsRequest mid r rest) c.in-Ok-Some.field-0-is (c.in-Ok-Some.ensures.read l) in
      let new = g.F.Files.holds c.answer.new.files in
      let a = c.in-Ok.answered in
      let n = next name c.in-Ok-Some.request mid rest files new last a is (c.in-Ok.ensures.answer f) in
      let later = g.O.Sink.told c.put_all.new.sink in
      one_more name w last all mid rest old files new a before after later (c.loop.invariant.far f l o) n (c.in_default-put_all.ensures.put o ∙ ap (λ (b : List ℕ). after ++ b) c.as_slice.ensures.value) c.if-answered.false;
  quiet = c.loop.invariant.quiet;
}

-- so many lines were answered
pub returns-clause-stopped : goal.returns-clause-stopped
returns-clause-stopped g c = λ e f l o.
    let name = c.args.name.now in
    let w = world_view c.args.world in
    let last = world_view c.loop.world in
    let all = g.L.Lines.coming c.args.lines.now in
    let mid = g.L.Lines.coming c.loop.lines in
    let old = g.F.Files.holds c.args.files.now in
    let files = g.F.Files.holds c.loop.files in
    let before = g.O.Sink.told c.args.out.now in
    let after = g.O.Sink.told c.loop.out in
    stopped_with name w last all mid old files files (file_line (codes "stdin")) status.File c.end_for_input-2.result before after (g.O.Sink.told c.end_for_input-2.new.out) (c.loop.invariant.far f l o) refl c.end_for_input-2.ensures.status (c.end_for_input-2.ensures.told o)
