use Rattle.std.proofs.Common.{◌≡◌, ◌∙◌, ℕ, ◌+◌, ◌≤◌, List, Bor, IsTrue, length, map, string_bytes, sym, subst, inl, inr, arith}
use Rattle.std.specs.Prelude.{vec_len}
use Rattle.std.proofs.lemmas.List.{length-map}
use Rattle.std.proofs.lemmas.Result.{IfOk-weaker, err_from_is_err_and}
use Rattle.wblock_io.specs.Holding.{Holding}
use Rattle.spec_block.specs.Bytes.{world_bytes}
use Rattle.world.specs.Views.{contract_view, world_view}
use Rattle.wblock_line.specs.declared.answer.Fault.{Fault}
use Rattle.wblock_line.specs.declared.answer.Fault.TheVariants.{File, NoMemory}
use Rattle.wblock_line.specs.Answers.{IsOfFile, upshot_of}
use Rattle.wblock_line.specs.FaultLaws.{of_file_weaker}
use Rattle.wblock_modules.specs.Deploys.{HasCount, IsBase, IsDone, IsOld, IsNextModule, IsNextDeployed, IsReadBehind, GivesBase, extended}
use Rattle.wblock_modules.specs.declared.deploy.Modules.TheVariants as modules
use Rattle.wblock_modules.proofs.Onto.{no_base, refused}
use Rattle.wblock_modules.proofs.deploy.deploy_modules.Goals as goal

pub returns-in-Refused-clause-answers : goal.returns-in-Refused-clause-answers
returns-in-Refused-clause-answers g c = IfOk-weaker c.refuse.result _ _ (λ a told t.
    let holds = g.F.Files.holds c.args.files.now in
    inl (no_base c.args.json holds c.args.onto (length (map (λ w. w.now) c.args.modules.now)) (string_bytes c.in-Refused.line) a (subst (λ found. GivesBase holds c.args.onto found) c.in-Refused.is (c.in_ok-base.ensures.gives t)) told)) c.refuse.ensures.told

pub returns-in-Refused-2-clause-answers : goal.returns-in-Refused-2-clause-answers
returns-in-Refused-2-clause-answers g c = λ t.
    let holds = g.F.Files.holds c.args.files.now in
    let base = world_view c.in-Read.base in
    let names = map (λ w. w.now) c.args.modules.now in
    let is : IsBase holds c.args.onto base = subst (λ found. GivesBase holds c.args.onto found) c.in-Read.is (c.in_ok-base.ensures.gives t) in
    refused c.args.json holds c.args.world.now c.args.onto base names c.in-Refused-2.told c.in-Refused-2.why is
    (subst (λ (h : Holding). IsReadBehind c.args.json h base names (modules.Refused c.in-Refused-2.told c.in-Refused-2.why)) (c.in_ok-base.ensures.kept t) (subst (IsReadBehind c.args.json (g.F.Files.holds c.read_base.new.files) base names) c.in-Refused-2.is (c.in_ok-told.ensures.read t)))

pub returns-in-Ok-clause-answers : goal.returns-in-Ok-clause-answers
returns-in-Ok-clause-answers g c = λ t.
    let holds = g.F.Files.holds c.args.files.now in
    let base = world_view c.in-Read.base in
    let names = map (λ w. w.now) c.args.modules.now in
    let contracts = map contract_view c.in-Linked.contracts.items in
    let is : IsBase holds c.args.onto base = subst (λ found. GivesBase holds c.args.onto found) c.in-Read.is (c.in_ok-base.ensures.gives t) in
    let read = subst (λ (h : Holding). IsReadBehind c.args.json h base names (modules.Linked c.in-Linked.contracts)) (c.in_ok-base.ensures.kept t) (subst (IsReadBehind c.args.json (g.F.Files.holds c.read_base.new.files) base names) c.in-Linked.is (c.in_ok-told.ensures.read t)) in
    let many = subst (HasCount (length c.args.modules.now)) c.in-Linked.is c.in_ok-told.ensures.count in
    let count : vec_len c.in-Linked.contracts ≡ length names = many ∙ sym (length-map c.args.modules.now (λ (w : Bor (List ℕ)). w.now)) in
    let done = subst (λ (n : ℕ). IsDone c.args.json c.args.world.now (world_bytes (extended base contracts)) n c.args.onto (length base.contracts) (upshot_of c.in-Ok.answer)) count c.in-Ok.ensures in
    inr (record { base = base; room = record { is_base = is; room = read.0 }; extends = inl (record { contracts = contracts; held = read.1; is = done }) })

pub returns-in_err-base-clause-next : goal.returns-in_err-base-clause-next
returns-in_err-base-clause-next g c =
    let holds = g.F.Files.holds c.args.files.now in
    let names = map (λ w. w.now) c.args.modules.now in
    let p = err_from_is_err_and c.from_residual.result c.from_residual.ensures.1 in
    rw (p.1, p.2) (of_file_weaker (IsOld c.args.onto) (λ name. IsTrue g.F.Files.tells → IsNextDeployed holds c.args.onto names name) c.in_err-base.field-0.0
    (λ name is t. inl is) c.in_err-base.ensures.named)

-- what is true of a file's name follows from two things that are
of_file_both : (P Q R : List ℕ → Type 0) (f : Fault) → ((name : List ℕ) → P name → Q name → R name) → IsOfFile P f → IsOfFile Q f → IsOfFile R f
of_file_both P Q R (File name cause) both p q = both name.now p q
of_file_both P Q R NoMemory both p q = tt

pub returns-in_err-told-clause-next : goal.returns-in_err-told-clause-next
returns-in_err-told-clause-next g c =
    let holds = g.F.Files.holds c.args.files.now in
    let base = world_view c.in-Read.base in
    let names = map (λ w. w.now) c.args.modules.now in
    let count = length-map c.args.modules.now (λ (w : Bor (List ℕ)). w.now) in
    let p = err_from_is_err_and c.from_residual-in_err-told.result c.from_residual-in_err-told.ensures.1 in
    rw (p.1, p.2) (of_file_both (λ name. length base.contracts + length c.args.modules.now ≤ 1024) (λ name. IsTrue g.F.Files.tells → IsNextModule (g.F.Files.holds c.read_base.new.files) names name) (λ name. IsTrue g.F.Files.tells → IsNextDeployed holds c.args.onto names name) c.in_err-told.field-0.0
    (λ name fits next t.
    let is : IsBase holds c.args.onto base = subst (λ found. GivesBase holds c.args.onto found) c.in-Read.is (c.in_ok-base.ensures.gives t) in
    inr (record {
      base = base;
      room = record { is_base = is; room = omega (arith, count, fits) };
      next = subst (λ (h : Holding). IsNextModule h names name) (c.in_ok-base.ensures.kept t) (next t);
    })) c.in_err-told.ensures.room c.in_err-told.ensures.next)
