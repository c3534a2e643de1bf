use Rattle.std.proofs.Common.{rules, ◌≡◌, ◌++◌, true, string_bytes, subst, refl}
use Rattle.wblock_debug.specs.Prints.{Does, Refuses, Performs}
use Rattle.wblock_debug.proofs.Printing.{adds_line, adds_refusal}
use Rattle.wblock_debug.proofs.run.append.Goals as goal

pub returns-in_ok-push_str-in-Line : goal.returns-in_ok-push_str-in-Line
returns-in_ok-push_str-in-Line c =
    let does : Does c.args.style c.args.command c.args.session.now c.perform.new.session (string_bytes c.in-Line.line) =
    subst (λ said. Performs c.args.style c.args.command c.args.session.now c.perform.new.session said) c.in-Line.is c.in_ok-line.ensures in
    let pushed : string_bytes c.push_str.new.self ≡ string_bytes c.args.printed.now.text ++ string_bytes c.in-Line.line = search rules in
    adds_line c.args.style c.args.command c.args.session.now c.perform.new.session c.args.printed.now (record { text = c.push_str.new.self; refused = c.args.printed.now.refused; why = c.args.printed.now.why }) (string_bytes c.in-Line.line) does c.is_sight.ensures refl pushed

pub returns-in_ok-push_str-in-Refused : goal.returns-in_ok-push_str-in-Refused
returns-in_ok-push_str-in-Refused c =
    let why : Refuses c.args.command c.args.session.now c.in-Refused.refusal × (c.perform.new.session ≡ c.args.session.now) =
    subst (λ said. Performs c.args.style c.args.command c.args.session.now c.perform.new.session said) c.in-Refused.is c.in_ok-line.ensures in
    let pushed : string_bytes c.push_str-in-Refused.new.self ≡ string_bytes c.args.printed.now.text ++ string_bytes c.in_ok-line-in-Refused.line = search rules in
    adds_refusal c.args.style c.args.command c.args.session.now c.perform.new.session c.args.printed.now (record { text = c.push_str-in-Refused.new.self; refused = true; why = c.explain.new.why }) c.in-Refused.refusal (string_bytes c.in_ok-line-in-Refused.line) why.0 why.1 c.in_ok-line-in-Refused.ensures refl pushed
