use Rattle.std.proofs.Common.{◌≡◌, ℕ, List, Bool, false, true, Vec, Global, ap, subst, sym, ◌∙◌}
use Rattle.std.proofs.lemmas.Bool.{false≢true}
use Rattle.wblock_io.specs.Lines.{IsNextLine}
use Rattle.wblock_io.specs.declared.lines.NextLine.{NextLine}
use Rattle.wblock_calls.specs.Texts.{words_of}
use Rattle.wblock_chain.specs.Requests.{IsCallsRead}
use Rattle.wblock_chain.specs.Words.{takes_calls}
use Rattle.wblock_chain.specs.declared.request.CallsRead.{CallsRead}
use Rattle.wblock_chain.proofs.Reading.{read_long, read_no_text, read_none, text_alone, text_asking, text_line, text_too_long, text_unended}
use Rattle.wblock_chain.proofs.request.next_request.Goals as goal

pub returns-in-End-clause-read : goal.returns-in-End-clause-read
returns-in-End-clause-read g c = λ t.
    let old = g.L.Lines.coming c.args.lines.now in
    let new = g.L.Lines.coming c.next_line.new.self in
    let found = subst (λ (n : NextLine). IsNextLine old n new) c.in-End.is (c.in_ok-next_line.ensures.next t) in
    read_none old new found.0 found.1

pub returns-in-TooLong-clause-read : goal.returns-in-TooLong-clause-read
returns-in-TooLong-clause-read g c = λ t.
    let old = g.L.Lines.coming c.args.lines.now in
    let new = g.L.Lines.coming c.next_line.new.self in
    let found = subst (λ (n : NextLine). IsNextLine old n new) c.in-TooLong.is (c.in_ok-next_line.ensures.next t) in
    read_long found.0 old new found.1 found.2

pub returns-in_default-clause-read : goal.returns-in_default-clause-read
returns-in_default-clause-read g c = λ t.
    let old = g.L.Lines.coming c.args.lines.now in
    let new = g.L.Lines.coming c.next_line.new.self in
    let found = subst (λ (n : NextLine). IsNextLine old n new) c.in-Line.is (c.in_ok-next_line.ensures.next t) in
    read_no_text c.in-Line.line.items old new found.0 (λ utf8. false≢true (c.in_default.ensures.succeeds utf8))

pub returns-then-not-asks-clause-read : goal.returns-then-not-asks-clause-read
returns-then-not-asks-clause-read g c = λ t.
    let old = g.L.Lines.coming c.args.lines.now in
    let new = g.L.Lines.coming c.next_line.new.self in
    let found = subst (λ (n : NextLine). IsNextLine old n new) c.in-Line.is (c.in_ok-next_line.ensures.next t) in
    let line = text_line c.in-Ok.text c.in-Line.line c.as_str.result.now c.in-Ok-asks_calls.asks old new (ap (λ (v : Vec ℕ Global). v.items) c.in-Ok.ensures.ok) c.as_str.ensures.value found c.in-Ok-asks_calls.ensures in
    text_alone c.in-Ok.text c.in-Ok-asks_calls.asks old new line c.if-not-asks.true

pub returns-in-Text-clause-read : goal.returns-in-Text-clause-read
returns-in-Text-clause-read g c = λ t.
    let old = g.L.Lines.coming c.args.lines.now in
    let mid = g.L.Lines.coming c.next_line.new.self in
    let new = g.L.Lines.coming c.read_calls.new.lines in
    let found = subst (λ (n : NextLine). IsNextLine old n mid) c.in-Line.is (c.in_ok-next_line.ensures.next t) in
    let line = text_line c.in-Ok.text c.in-Line.line c.as_str.result.now c.in-Ok-asks_calls.asks old mid (ap (λ (v : Vec ℕ Global). v.items) c.in-Ok.ensures.ok) c.as_str.ensures.value found c.in-Ok-asks_calls.ensures in
    text_asking c.in-Ok.text c.in-Text.calls c.in-Ok-asks_calls.asks old mid new line c.if-not-asks.false (subst (λ (r : CallsRead). IsCallsRead mid r new) c.in-Text.is (c.in_ok-calls.ensures.read t))

pub returns-in-Text-clause-asked : goal.returns-in-Text-clause-asked
returns-in-Text-clause-asked g c = sym (c.in-Ok-asks_calls.ensures ∙ ap (λ (b : List ℕ). takes_calls (words_of b)) c.as_str.ensures.value) ∙ c.if-not-asks.false

pub returns-in-TooLong-2-clause-read : goal.returns-in-TooLong-2-clause-read
returns-in-TooLong-2-clause-read g c = λ t.
    let old = g.L.Lines.coming c.args.lines.now in
    let mid = g.L.Lines.coming c.next_line.new.self in
    let new = g.L.Lines.coming c.read_calls.new.lines in
    let found = subst (λ (n : NextLine). IsNextLine old n mid) c.in-Line.is (c.in_ok-next_line.ensures.next t) in
    let line = text_line c.in-Ok.text c.in-Line.line c.as_str.result.now c.in-Ok-asks_calls.asks old mid (ap (λ (v : Vec ℕ Global). v.items) c.in-Ok.ensures.ok) c.as_str.ensures.value found c.in-Ok-asks_calls.ensures in
    text_too_long c.in-Ok.text c.in-Ok-asks_calls.asks old mid new line c.if-not-asks.false (subst (λ (r : CallsRead). IsCallsRead mid r new) c.in-TooLong-2.is (c.in_ok-calls.ensures.read t))

pub returns-in-Unfinished-clause-read : goal.returns-in-Unfinished-clause-read
returns-in-Unfinished-clause-read g c = λ t.
    let old = g.L.Lines.coming c.args.lines.now in
    let mid = g.L.Lines.coming c.next_line.new.self in
    let new = g.L.Lines.coming c.read_calls.new.lines in
    let found = subst (λ (n : NextLine). IsNextLine old n mid) c.in-Line.is (c.in_ok-next_line.ensures.next t) in
    let line = text_line c.in-Ok.text c.in-Line.line c.as_str.result.now c.in-Ok-asks_calls.asks old mid (ap (λ (v : Vec ℕ Global). v.items) c.in-Ok.ensures.ok) c.as_str.ensures.value found c.in-Ok-asks_calls.ensures in
    text_unended c.in-Ok.text c.in-Ok-asks_calls.asks old mid new line c.if-not-asks.false (subst (λ (r : CallsRead). IsCallsRead mid r new) c.in-Unfinished.is (c.in_ok-calls.ensures.read t))
