-- A run that is computed, with the end that it has come to, is a run.
use Rattle.std.proofs.Common.{◌≡◌, ℕ, zero, suc, ◌+◌, ◌≤◌, Bool, true, false, ◌&&◌, cond, nat_le, ◌==◌, List, [], ◌∷◌, ◌++◌, Option, Some, None, refl, sym, subst, arith, append-nil}
use Rattle.std.proofs.lemmas.Bool.Decides.{nat_tests}
use Rattle.spec_ledger.specs.declared.Op.{Op}
use Rattle.spec_ledger.specs.declared.Reply.{Reply}
use Rattle.spec_ledger.specs.declared.TraceStep.{TraceStep}
use Rattle.spec_ledger.specs.declared.TraceStep.TheVariants.{Did}
use Rattle.spec_ledger.specs.declared.Outcome.{Outcome}
use Rattle.spec_ledger.specs.declared.Outcome.TheVariants.{OutOfFuel, Rejected}
use Rattle.spec_execution.specs.Configuration.{Setting}
use Rattle.spec_execution.specs.Run.{IsReply, ContractCall, Opening, Refused, Opens, opening}
use Rattle.spec_execution.specs.Levels.{Levels, Move, On, Host, Over, Nowhere, move, closing, first_level, IsChargedMove, Reached, at_first, moved, replied, Ends, over, exhausted, IsRun, RunsWith, refused, ran}
use Rattle.spec_execution.specs.Walk.{Point, went, advance, go_on, walk, start_at}

-- what a run has come to at its end
pub record Came : Type 0 where
  pub trace : List TraceStep
  pub outcome : Outcome
  pub fuel : ℕ

-- the end by what comes next, if it is one
abbrev end_by : (limit : ℕ) → List TraceStep → ℕ → Levels → Move → Option Came
end_by limit trace used c (Over o) = Some (record { trace = trace; outcome = o; fuel = used })
end_by limit trace used c (On charge marks d) = cond ((charge == 1) && (used == limit)) (Some (record { trace = trace ++ closing c; outcome = OutOfFuel; fuel = used })) None
end_by limit trace used c _ = None

abbrev end_of : Setting → (limit : ℕ) → Point → Option Came
end_of setting limit p = end_by limit p.trace p.used p.config (move setting p.config)

abbrev computed_from : Setting → ℕ → (List TraceStep → Op → Reply) → ContractCall → Opening → Option Came
computed_from setting n host call (Refused code) = Some (record { trace = []; outcome = Rejected code; fuel = 0 })
computed_from setting n host call (Opens c func) = end_of setting call.fuel (walk setting call.fuel host n (start_at (first_level c func call.args)))

-- the run of a call, by so many moves
abbrev pub computed : ℕ → Setting → (List TraceStep → Op → Reply) → ContractCall → Option Came
computed n setting host call = computed_from setting n host call (opening setting call)

both : (a b : Bool) → (a && b) ≡ true → (a ≡ true) × (b ≡ true)
both true true e = (refl, refl)
both true false e = absurd (cc)
both false b e = absurd (cc)

module _ (host : List TraceStep → Op → Reply) (fit : (trace : List TraceStep) (op : Op) → IsReply op (host trace op)) where
  module _ (setting : Setting) (start : Levels) (limit : ℕ) where
    abbrev At : Point → Type 0
    At p = Reached setting start limit p.trace p.used p.config

    within : {X : Type 0} (a b : ℕ) (t : Bool) (x y : X) → nat_le a b ≡ t → cond t (Some x) None ≡ Some y → (a ≤ b) × (x ≡ y)
    within a b true x y e g = (grind (arith, nat_tests), cc)
    within a b false x y e g = absurd (cc)

    by_move : (trace : List TraceStep) (used : ℕ) (a : Levels) (m : Move) (p : Point) → Reached setting start limit trace used a → move setting a ≡ m → went setting limit host trace used m ≡ Some p → At p
    by_move trace used a (On charge marks b) p r e g =
        let w = within (used + charge) limit (nat_le (used + charge) limit) _ p refl g in
        subst At w.1 (moved trace used a charge marks b r e w.0)
    by_move trace used a (Host op go) p r e g =
        let same : record { trace = trace ++ Did op (host trace op) ∷ []; used = used; config = go (host trace op) } ≡ p = cc in
        subst At same (replied trace used a op go (host trace op) r e (fit trace op))
    by_move trace used a (Over o) p r e g = absurd (cc)
    by_move trace used a Nowhere p r e g = absurd (cc)

    going_on : (n : ℕ) (p : Point) (o : Option Point) → At p → advance setting limit host p ≡ o → ((q : Point) → At q → At (walk setting limit host n q)) → At (go_on setting limit host p o (walk setting limit host n))
    going_on n p None r e again = r
    going_on n p (Some q) r e again = again q (by_move p.trace p.used p.config (move setting p.config) q r refl e)

    walked : (n : ℕ) (p : Point) → At p → At (walk setting limit host n p)
    unfolding walk
    walked zero p r = r
    walked (suc n) p r = going_on n p (advance setting limit host p) r refl (walked n)

    exhausts : (trace : List TraceStep) (used : ℕ) (a : Levels) (charge : ℕ) (marks : List TraceStep) (b : Levels) (t : Bool) (r : Came) → move setting a ≡ On charge marks b → ((charge == 1) && (used == limit)) ≡ t → Reached setting start limit trace used a →
        cond t (Some (record { trace = trace ++ closing a; outcome = OutOfFuel; fuel = used })) None ≡ Some r → IsRun setting start limit r.trace r.outcome r.fuel
    exhausts trace used a charge marks b false r e test reach g = absurd (cc)
    exhausts trace used a charge marks b true r e test reach g =
        let (one, all) = both (charge == 1) (used == limit) test in
        let is_one : charge ≡ 1 = grind (arith, nat_tests) in
        let is_all : used ≡ limit = grind (arith, nat_tests) in
        let same : record { trace = trace ++ closing a; outcome = OutOfFuel; fuel = used } ≡ r = cc in
        subst (λ (r : Came). IsRun setting start limit r.trace r.outcome r.fuel) same (record {
          before = trace;
          last = a;
          marks = closing a;
          reached = reach;
          ends = subst (λ (u : ℕ). Ends setting limit u a OutOfFuel (closing a)) (sym is_all) (exhausted a (subst IsChargedMove (sym e) is_one));
          trace_is = refl;
        })

    ended_by : (trace : List TraceStep) (used : ℕ) (a : Levels) (m : Move) (r : Came) → Reached setting start limit trace used a → move setting a ≡ m → end_by limit trace used a m ≡ Some r → IsRun setting start limit r.trace r.outcome r.fuel
    ended_by trace used a (Over o) r reach e g =
        let same : record { trace = trace; outcome = o; fuel = used } ≡ r = cc in
        subst (λ (r : Came). IsRun setting start limit r.trace r.outcome r.fuel) same (record { before = trace; last = a; marks = []; reached = reach; ends = over used a o e; trace_is = sym (append-nil trace) })
    ended_by trace used a (On charge marks b) r reach e g = exhausts trace used a charge marks b _ r e refl reach g
    ended_by trace used a (Host op go) r reach e g = absurd (cc)
    ended_by trace used a Nowhere r reach e g = absurd (cc)

  by_opening : (n : ℕ) (setting : Setting) (call : ContractCall) (o : Opening) (r : Came) → opening setting call ≡ o → computed_from setting n host call o ≡ Some r → RunsWith setting call r.trace r.outcome r.fuel
  by_opening n setting call (Refused code) r e g =
      let same : record { trace = []; outcome = Rejected code; fuel = 0 } ≡ r = cc in
      subst (λ (r : Came). RunsWith setting call r.trace r.outcome r.fuel) same (refused code e)
  by_opening n setting call (Opens c func) r e g =
      let p = walk setting call.fuel host n (start_at (first_level c func call.args)) in
      ran c func r.trace r.outcome r.fuel e (ended_by setting (first_level c func call.args) call.fuel p.trace p.used p.config (move setting p.config) r (walked setting (first_level c func call.args) call.fuel n (start_at (first_level c func call.args)) at_first) refl g)

  pub is_run : (n : ℕ) (setting : Setting) (call : ContractCall) (r : Came) → computed n setting host call ≡ Some r → RunsWith setting call r.trace r.outcome r.fuel
  is_run n setting call r g = by_opening n setting call (opening setting call) r refl g
