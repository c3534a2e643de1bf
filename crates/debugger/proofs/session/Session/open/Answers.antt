use Rattle.std.proofs.Common.{ap, ◌∙◌}
use Rattle.debugger.proofs.Keeping.{kept_first}
use Rattle.debugger.proofs.session.Session.open.Goals as goal

pub returns-in-Ok-clause-opened : goal.returns-in-Ok-clause-opened
returns-in-Ok-clause-opened g c =
    let same = c.in-Ok.ensures in
    let opened = c.in_ok-origin.ensures.opened in
    record {
      setting_is = ap (λ p. p.setting) same.machine ∙ opened.setting_is;
      call_is = ap (λ p. p.call) same.machine ∙ opened.call_is;
      cells_are = ap (λ s. s.cells) same.start ∙ opened.cells;
      turns = ap (λ p. p.used) same.machine ∙ opened.none;
      breaks = c.new.ensures.items;
    }

pub invariant_of-result : goal.invariant_of-result
invariant_of-result g c =
    kept_first c.in_ok-origin.origin c.in-Ok.here c.none_kept.result c.in_ok-origin.ensures.at c.in_ok-origin.ensures.opened.none c.in-Ok.ensures c.none_kept.ensures.none c.none_kept.ensures.last c.none_kept.ensures.distance
