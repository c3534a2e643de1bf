-- The beginning of a run.
use Rattle.std.proofs.Common.{◌≡◌, ℕ, ℤ, ◌-◌, ◌<◌, ◌≤◌, Bool, true, false, nat_lt, List, [], ◌∷◌, length, refl, sym, ap, ap₂, ◌∙◌, subst, arith, Option, Some, None, slice_get}
use Rattle.std.specs.Prelude.{if◌then◌else◌, option_map, option_and_then, slice_index_or, IfSome}
use Rattle.std.proofs.Math.Logic.{∥∥₁_elim, ∥∥₁_prop, ∥∥₁_map}
use Rattle.std.proofs.lemmas.Bool.{lt-ltb, ltb-true, ltb-false}
use Rattle.std.proofs.lemmas.List.Elements.{All-nil, All-cons}
use Rattle.wtypes.specs.declared.Value.{Value}
use Rattle.wtypes.specs.declared.HostCall.{HostCall}
use Rattle.wtypes.specs.declared.HostCall.TheVariants as host
use Rattle.spec_ledger.specs.declared.Version.{Version}
use Rattle.spec_ledger.specs.declared.TraceStep.{TraceStep}
use Rattle.spec_ledger.specs.declared.Outcome.TheVariants.{Returned, Trapped}
use Rattle.spec_modules.specs.Syntax.{FuncType, Module}
use Rattle.spec_modules.specs.Profile.{host_type}
use Rattle.spec_typing.specs.Modules.{StartTyped}
use Rattle.spec_typing.specs.Linking.{IsLinked}
use Rattle.spec_execution.specs.Configuration.{Setting, Deployed, Contract, Hosted, defined, function_at, function_type, State, Seq, End, Invoke, Config, Running, arguments, fresh}
use Rattle.spec_execution.specs.Run.{ContractCall, opening, Opens, after_start, first, result_of}
use Rattle.spec_execution.specs.Levels.{Level, Levels, by_next, first_level, no_answer, Reached, at_first, IsSafe}
use Rattle.spec_execution.specs.CallStates.{FreeMoves, Rests, to_come, ended}
use Rattle.spec_execution.proofs.Lifting.{frees_lifted, charged_lifted}
use Rattle.spec_execution.proofs.Lifting.{at as at_level}
use Rattle.spec_execution.specs.Turns as one
use Rattle.spec_execution.specs.Turns.{Frees, IsAtRest}
use Rattle.laws_soundness.specs.Laws.{AreLinked, DeployedCallsAreSafe}
use Rattle.laws_soundness.proofs.Functions.{starts}
use Rattle.module_tree.specs.declared.instr.Instr.{Instr}
use Rattle.module_tree.specs.declared.module.Module as in_memory
use Rattle.module_tree.specs.Modules.{module_view}
use Rattle.instance.specs.declared.Instance.{Instance}
use Rattle.instance.specs.States.{based, IsFresh}
use Rattle.link.specs.declared.deployed.Deployed as linked
use Rattle.link.specs.Parts.{tree_of, hosts_of}
use Rattle.interp.specs.declared.turns.Status.{Status}
use Rattle.interp.specs.declared.turns.Status.TheVariants as status
use Rattle.interp.specs.declared.turns.Turn.{Turn}
use Rattle.interp.specs.declared.turns.Turn.TheVariants as turn
use Rattle.laws_reduction.specs.Meaning.{View, frames, state, sequence, config, calling, IsOrdered, IsReady}
use Rattle.laws_reduction.specs.Tails.{with_tail}
use Rattle.interp_state.specs.Waiting.{alone}
use Rattle.interp_state.specs.declared.parts.Entry.{Entry}
use Rattle.interp_state.specs.declared.parts.Parts.{Parts}
use Rattle.interp_state.specs.Steps.{AreNumbered, EachNumbered, IsCounted}
use Rattle.interp_state.specs.Views.{opens_of, items_of}
use Rattle.interp_state.specs.Views.{view as view_parts}
use Rattle.interp.specs.Callee.{contract_view, contracts_view}
use Rattle.interp.specs.Progress.{IsStartOf}
use Rattle.interp.specs.Machine.{Seen, on, levels, config_of, first_config, progress, first_of, IsAt, IsLive, IsMachine, IsCalling, HasStarted, IsBegunAs, HasBegun}
use Rattle.laws_reduction.specs.Joining.{stuck_joined, at_rest}
use Rattle.laws_reduction.specs.Finding.{read_at}
use Rattle.interp.proofs.Turning.{innermost, by_frees, never_stuck}
use Rattle.interp.proofs.Asking.{same_levels}

-- no configuration is stuck: from what linking keeps of each contract
pub safe_of : (setting : Setting) (call : ContractCall) (c : Contract) (func : ℕ) → ∥ AreLinked setting.contracts ∥₁ → DeployedCallsAreSafe → opening setting call ≡ Opens c func → IsSafe setting (first_level c func call.args) call.fuel
safe_of setting call c func linked law opens = λ trace used a reached stuck. ∥∥₁_elim linked (λ a b. absurd a) (λ l. law setting call c func l opens trace used a reached stuck)

-- each contract that is lent is linked, which each keeps by its type
pub all_linked : {A : Type 0} (ds : List (linked.Deployed A)) → ∥ AreLinked (contracts_view ds) ∥₁
all_linked [] = ∣ All-nil (λ (d : Deployed). IsLinked d.tree d.hosts) ∣₁
all_linked (d ∷ ds) = ∥∥₁_elim d.linked ∥∥₁_prop (λ h. ∥∥₁_map (all_linked ds) (λ hs. All-cons (λ (d : Deployed). IsLinked d.tree d.hosts) (contract_view d) (contracts_view ds) h hs))

-- ---- the start function is the module's own: a function of the host takes arguments or gives a result

no_such_host : (h : HostCall) → host_type h ≡ record { params = []; results = [] } → ⊥
no_such_host host.Get e = let n : 1 ≡ 0 = ap (λ (t : FuncType). length t.params) e in omega (arith, n)
no_such_host host.Has e = let n : 1 ≡ 0 = ap (λ (t : FuncType). length t.params) e in omega (arith, n)
no_such_host host.Put e = let n : 2 ≡ 0 = ap (λ (t : FuncType). length t.params) e in omega (arith, n)
no_such_host host.Del e = let n : 1 ≡ 0 = ap (λ (t : FuncType). length t.params) e in omega (arith, n)
no_such_host host.Add e = let n : 2 ≡ 0 = ap (λ (t : FuncType). length t.params) e in omega (arith, n)
no_such_host host.Total e = let n : 1 ≡ 0 = ap (λ (t : FuncType). length t.params) e in omega (arith, n)
no_such_host host.Ask e = let n : 3 ≡ 0 = ap (λ (t : FuncType). length t.params) e in omega (arith, n)
no_such_host host.Answer e = let n : 1 ≡ 0 = ap (λ (t : FuncType). length t.results) e in omega (arith, n)

no_start : (d : Deployed) (f : ℕ) → IsLinked d.tree d.hosts → d.tree.start ≡ Some f → f < length d.hosts → ⊥
no_start d f linked e lt =
    let typed : StartTyped d.tree f = subst (λ (o : Option ℕ). IfSome o (StartTyped d.tree)) e linked.typed.start_func in
    let found = starts d linked f typed.0 (record { params = []; results = [] }) typed.1 typed.2 in
    let h : HostCall = slice_index_or d.hosts f host.Get in
    let hosted : function_at d f ≡ Some (Hosted h) =
    ap (λ x. if x then option_map Hosted (slice_get d.hosts f) else option_and_then (defined d.tree) (slice_get d.tree.funcs (f - length d.hosts))) (lt-ltb f (length d.hosts) lt)
    ∙ ap (option_map Hosted) (read_at d.hosts f host.Get lt) in
    let same : found.0 ≡ Hosted h = (let s : Some found.0 ≡ Some (Hosted h) = sym found.1 ∙ hosted in cc) in
    no_such_host h (sym (ap function_type same) ∙ found.2)

pub start_own : (d : Deployed) (f : ℕ) → ∥ IsLinked d.tree d.hosts ∥₁ → d.tree.start ≡ Some f → length d.hosts ≤ f
start_own d f linked e = by_test (nat_lt f (length d.hosts)) refl
  where
    by_test : (b : Bool) → nat_lt f (length d.hosts) ≡ b → length d.hosts ≤ f
    by_test true is = absurd (∥∥₁_elim linked (λ a b. absurd a) (λ l. no_start d f l e (ltb-true _ _ is)))
    by_test false is = ltb-false _ _ is

-- with nothing open and the entry waiting, the first configuration is the one in which the start function is called, or else the waiting one itself
first_without : (m : Module) (start : Option ℕ) (rest : Seq) → start ≡ None → with_tail rest (config (alone (fresh m) [] [])) ≡ Running (fresh m) (after_start start rest)
first_without m None rest e = refl
first_without m (Some f) rest e = absurd (cc)

first_with : (m : Module) (start : Option ℕ) (rest : Seq) (f : ℕ) → start ≡ Some f → with_tail rest (calling (alone (fresh m) [] []) f) ≡ Running (fresh m) (after_start start rest)
first_with m start rest f e = ap (λ o. Running (fresh m) (after_start o rest)) (sym e)

module _ (s : Seen) (view : s.view ≡ alone (fresh s.contract.deployed.tree) [] []) where
  abbrev m : Module
  m = s.contract.deployed.tree

  pub opens_without : m.start ≡ None → with_tail s.tail (config s.view) ≡ first_config s
  opens_without e = ap (λ v. with_tail s.tail (config v)) view ∙ first_without m m.start s.tail e

  pub opens_with : (f : ℕ) → m.start ≡ Some f → with_tail s.tail (calling s.view f) ≡ first_config s
  opens_with f e = ap (λ v. with_tail s.tail (calling v f)) view ∙ first_with m m.start s.tail f e

  module _ (opens : opening s.setting s.call ≡ Opens s.first s.func) (safe : IsSafe s.setting (first_of s) s.call.fuel) (reached : Reached s.setting (first_of s) s.call.fuel s.trace s.used (levels s (first_config s))) (within : s.used ≤ s.call.fuel) where
    reached_first : (x : Config) → x ≡ first_config s → Reached s.setting (first_of s) s.call.fuel s.trace s.used (levels s x)
    reached_first x e = subst (λ (y : Config). Reached s.setting (first_of s) s.call.fuel s.trace s.used (levels s y)) (sym e) reached

    -- the call of the start function
    pub start_calling : (f : ℕ) → m.start ≡ Some f → IsCalling s f
    start_calling f e = record {
      opens = opens;
      safe = safe;
      reached = reached_first _ (opens_with f e);
      ordered = subst (λ (v : View). IsOrdered v) (sym view) (record { stands = tt; each = tt });
      within = within;
    }

    -- with no start function the entry is entered, and what is at its end is left
    module _ (none : m.start ≡ None) (running : s.status ≡ status.Running)
        (w : View) (rest : Seq) (frees : Frees s.contract (with_tail s.tail (config s.view)) (with_tail rest (config w))) (ordered : IsOrdered w) (ready : IsReady w) (last : w.code ≡ [] → rest ≡ End) where
      abbrev entered_seen : Seen
      entered_seen = record s { view = w; tail = rest }

      come : Reached s.setting (first_of s) s.call.fuel s.trace s.used (levels s (with_tail rest (config w)))
      come = by_frees s s.trace s.used _ _ (reached_first _ (opens_without none)) within frees

      rests : IsAtRest s.contract (with_tail rest (config w))
      rests = at_rest s.contract w rest (record { not_stuck = λ h. never_stuck s safe _ _ _ _ come (stuck_joined rest s.contract (state w) (sequence w) h) }) ready last

      pub machine_entered : IsMachine entered_seen
      machine_entered = record {
        opens = opens;
        safe = safe;
        at = subst (IsAt entered_seen) (sym running) (let now : IsLive entered_seen = record { reached = come; ordered = ordered; ready = ready; last = last; within = within } in now);
      }

      pub has_entered : HasBegun s turn.Stepped entered_seen
      has_entered = subst (λ (x : Status). IsBegunAs s (on entered_seen x)) (sym running)
          (record { same = record { setting = refl; call = refl; first = refl; func = refl; trace = refl; used = refl; contract = refl; answer = refl; outer = refl }; frees = subst (λ (x : Config). Frees s.contract x (with_tail rest (config w))) (opens_without none) frees; at_rest = rests; goes_on = tt })

    -- the start function is called
    pub has_started : (f : ℕ) → m.start ≡ Some f → (a : Turn) (t : Seen) → HasStarted s f a t → HasBegun s a t
    has_started f e turn.Stepped t h = record { same = h.same; frees = subst (λ (x : Config). Frees s.contract x (config_of t)) (opens_with f e) h.frees; at_rest = h.at_rest; goes_on = h.goes_on }
    has_started f e (turn.Host op) t h = h
    has_started f e turn.Enter t h = h
    has_started f e (turn.Leave keep) t h = h
    has_started f e turn.NoMemory t h = h
    has_started f e (turn.Done o) t h = h

-- what a machine is before its first turn
pub start_of : (s t : Seen) → s.trace ≡ [] → s.used ≡ 0 → levels s (first_config s) ≡ first_of s → s.outer ≡ [] → IsBegunAs s t → IsStartOf s.setting s.call (progress t)
start_of s t trace used firsts outermost begun = record {
  setting = begun.same.setting;
  call_is = begun.same.call;
  trace = begun.same.trace ∙ trace;
  used = begun.same.used ∙ used;
  frees = subst (λ (z : Setting). FreeMoves z (first_of t) [] (progress t).config) (sym begun.same.setting)
      (subst (λ (a : Levels). FreeMoves s.setting a [] (progress t).config) (firsts ∙ sym first_same)
      (subst (λ (b : Levels). FreeMoves s.setting (levels s (first_config s)) [] b) (sym same) (frees_lifted s.setting (innermost s) s.outer _ _ begun.frees)));
  at_rest = subst (λ (z : Setting). Rests z (progress t).config) (sym begun.same.setting)
      (subst (λ (b : Levels). Rests s.setting b) (ap (λ (ls : List Level). record { inner = record { contract = s.contract; config = config_of t; answer = s.answer }; outer = ls }) (sym outermost) ∙ sym same) (rests_of s.setting (config_of t) begun.at_rest));
  goes_on = begun.goes_on;
}
  where
    same : levels t (config_of t) ≡ levels s (config_of t)
    same = same_levels s t begun.same.contract begun.same.answer begun.same.outer (config_of t)

    first_same : first_of t ≡ first_of s
    first_same = ap (λ (c : Contract). first_level c t.func t.call.args) begun.same.first ∙ ap (λ f. first_level s.first f t.call.args) begun.same.func ∙ ap (λ (k : ContractCall). first_level s.first s.func k.args) begun.same.call

    -- with no level around
    rests_of : (setting : Setting) (x : Config) → IsAtRest s.contract x → Rests setting (record { inner = record { contract = s.contract; config = x; answer = s.answer }; outer = [] })
    rests_of setting x (one.to_come st q h) = to_come _ (charged_lifted setting (innermost s) [] st q h)
    rests_of setting x (one.ended st q vs e) = ended _ (Returned (result_of vs)) (ap (by_next setting (at_level (innermost s) (Running st q)) [] st) e)
    rests_of setting x (one.by_trap st t) = ended _ (Trapped t) refl

abbrev pub at_number : {A : Type 0} → Version → ℕ → in_memory.Module A → List HostCall → Contract
at_number version n m hosts = record { number = n; deployed = record { tree = module_view m; hosts = hosts }; version = version }

pub record IsOpen {A : Type 0} (version : Version) (n : ℕ) (m : in_memory.Module A) (hosts : List HostCall) (n0 : ℕ) (d0 : linked.Deployed A) : Type 0 where
  pub same : at_number version n m hosts ≡ at_number version n0 (tree_of d0) (hosts_of d0)

-- the contract that is lent is the one that the call opens with
pub contract_same : {A : Type 0} (version : Version) (n n0 : ℕ) (m : in_memory.Module A) (hosts : List HostCall) (d d0 : linked.Deployed A) → n ≡ n0 → m ≡ tree_of d → hosts ≡ hosts_of d → d ≡ d0 →
    IsOpen version n m hosts n0 d0
contract_same version n n0 m hosts d d0 e f h k = record {
  same =
      ap (λ x. at_number version x m hosts) e
      ∙ ap (λ x. at_number version n0 x hosts) (f ∙ ap tree_of k)
      ∙ ap (λ x. at_number version n0 (tree_of d0) x) (h ∙ ap hosts_of k);
}

-- the state of a fresh instance
pub based_fresh : {A : Type 0} (version : Version) (m : Module) (i : Instance A) → IsFresh version i m → based (fresh m) i ≡ fresh m
based_fresh version m i made =
    ap₂ (λ (gs : List Value) (bs : List ℕ). record (fresh m) { globals = gs; memory = bs; table = i.table.now }) made.globals made.memory
    ∙ ap (λ (es : List (Option ℕ)). record (fresh m) { table = es }) made.table

-- parts with nothing open, in an instance
module _ {A : Type 0} (p : Parts A) (i : Instance A) (instance : p.instance ≡ i) (code : p.code.now ≡ []) (entries : p.entries.items ≡ []) (depth : p.depth ≡ 0) (stack : p.stack.items ≡ []) (locals : p.locals.items ≡ []) where
  pub nothing_view : (b : State) → view_parts b p ≡ alone (based b i) [] []
  nothing_view b =
      ap (λ (x : Instance A). record { base = based b x; entries = opens_of p.entries.items; stack = p.stack.items; locals = p.locals.items; code = items_of p.code.now }) instance
      ∙ ap₂ (λ (es : List (Entry A)) (is : List (Instr A)). record { base = based b i; entries = opens_of es; stack = p.stack.items; locals = p.locals.items; code = items_of is }) entries code
      ∙ ap₂ (λ (vs ls : List Value). record { base = based b i; entries = []; stack = vs; locals = ls; code = [] }) stack locals

  pub nothing_counted : IsCounted p
  nothing_counted = record {
    count = depth ∙ ap (λ (es : List (Entry A)). frames (opens_of es) 0) (sym entries);
    few = subst (λ (n : ℕ). n ≤ 256) (sym depth) (omega arith);
    code = subst (λ (is : List (Instr A)). AreNumbered is) (sym code) tt;
    each = subst (λ (es : List (Entry A)). EachNumbered es) (sym entries) tt;
  }

-- with no level around, the first configuration of the innermost one is the call's
pub firsts_same : (s : Seen) → s.contract ≡ s.first → s.tail ≡ arguments s.call.args (Invoke s.func End) → s.answer ≡ no_answer → s.outer ≡ [] → levels s (first_config s) ≡ first_of s
firsts_same s contract tail answer outermost =
    ap (λ (q : Seq). record { inner = record { contract = s.contract; config = Running (fresh s.contract.deployed.tree) (after_start s.contract.deployed.tree.start q); answer = s.answer }; outer = s.outer }) tail
    ∙ ap (λ (k : Contract). record { inner = record { contract = k; config = first k s.func s.call.args; answer = s.answer }; outer = s.outer }) contract
    ∙ ap₂ (λ (a : ℤ) (ls : List Level). record { inner = record { contract = s.first; config = first s.first s.func s.call.args; answer = a }; outer = ls }) answer outermost

pub reached_at_first : (s : Seen) → s.trace ≡ [] → s.used ≡ 0 → levels s (first_config s) ≡ first_of s → Reached s.setting (first_of s) s.call.fuel s.trace s.used (levels s (first_config s))
reached_at_first s trace used firsts =
    subst (λ (t : List TraceStep). Reached s.setting (first_of s) s.call.fuel t s.used (levels s (first_config s))) (sym trace)
    (subst (λ (n : ℕ). Reached s.setting (first_of s) s.call.fuel [] n (levels s (first_config s))) (sym used)
    (subst (λ (a : Levels). Reached s.setting (first_of s) s.call.fuel [] 0 a) (sym firsts) at_first))
