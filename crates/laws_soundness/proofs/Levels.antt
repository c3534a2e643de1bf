-- What a typed configuration does next is typed, at each level; so no configuration that a call reaches is stuck.
use Rattle.std.proofs.Common.{◌≡◌, ℕ, Bool, true, false, cond, nat_lt, pos, ℤ, ◌&&◌, List, [], ◌∷◌, length, reverse, refl, sym, ap, ap₂, ◌∙◌, subst, Option, Some, None, slice_get}
use Rattle.wtypes.specs.declared.ValType.{ValType}
use Rattle.wtypes.specs.declared.ValType.TheVariants.{I64}
use Rattle.wtypes.specs.declared.Value.{Value}
use Rattle.wtypes.specs.declared.Value.TheVariants as value
use Rattle.wtypes.specs.declared.TrapCode.{TrapCode}
use Rattle.spec_modules.specs.Syntax.{FuncType, Func, ExportDesc, ExportFunc, ExportTable, ExportMemory, ExportGlobal}
use Rattle.spec_ledger.specs.declared.Op.{Op}
use Rattle.spec_ledger.specs.declared.Reply.{Reply}
use Rattle.spec_ledger.specs.declared.Reply.TheVariants as reply
use Rattle.spec_ledger.specs.declared.TraceStep.{TraceStep}
use Rattle.spec_ledger.specs.declared.TraceStep.TheVariants.{Kept, Dropped}
use Rattle.spec_modules.specs.Operators.{same_type}
use Rattle.spec_typing.specs.Linking.{IsLinked}
use Rattle.spec_execution.specs.Configuration.{Setting, Deployed, Contract, Function, Hosted, Defined, function_at, function_type, Seq, End, Invoke, arguments, State, Config, Running, Trap}
use Rattle.spec_execution.specs.Reduction.{Of, Ask, Answer, Next, Goes, Traps, Asks, Branches, Returns, Ended, Stuck, same_types, same_function_type}
use Rattle.spec_execution.specs.Run.{next, IsReply, ContractCall, Opening, Refused, Opens, opening, after_start}
use Rattle.spec_execution.specs.Levels.{Level, Levels, Move, On, Host, Over, Nowhere, move, by_next, by_config, entering, returned, fallen, back_to, back_by, fresh_level, first_level, asked, by_asked_function, by_asked_export, by_asked_contract, ask_type, level_limit, trap_status, signed_of, no_answer, Reached, at_first, moved, replied}
use Rattle.laws_soundness.specs.ConfigurationTyping.{types, outermost, StateTyped, SeqTyped, NextTyped, ConfigTyped, LevelTyped, IsWaiting, leaves, AllWait, LevelsTyped}
use Rattle.laws_soundness.specs.Laws.{AreLinked, DeployedCallsAreSafe, DeployedCallsAreTyped, ResultsAreTyped}
use Rattle.laws_soundness.proofs.Executing.{same_is, all_at}
use Rattle.laws_soundness.proofs.Reducing.{steps_typed}
use Rattle.laws_soundness.proofs.Starting.{IsOpen, fresh_typed, first_typed, opened}
use Rattle.laws_soundness.proofs.Opened.{opened_linked}

abbrev MoveTyped : List ValType → Move → Type 0
MoveTyped to (On charge marks c) = LevelsTyped to c
MoveTyped to (Host op go) = (r : Reply) → IsReply op r → LevelsTyped to (go r)
MoveTyped to (Over o) = Unit {0}
MoveTyped to Nowhere = ⊥

level_next : (l : Level) (to : List ValType) (state : State) (q : Seq) → LevelTyped l to → l.config ≡ Running state q → StateTyped l.contract.deployed [] state × NextTyped l.contract.deployed outermost to (next l.contract state q)
level_next l to state q h e = let g = subst (ConfigTyped l.contract.deployed to) e h.config in (g.0, steps_typed l.contract 0 state outermost [] q to h.linked g.0 g.1)

-- ---- what may be asked

same_types_are : (ts us : List ValType) → same_types ts us ≡ true → ts ≡ us
same_types_are [] [] e = refl
same_types_are [] (u ∷ us) e = absurd (cc)
same_types_are (t ∷ ts) [] e = absurd (cc)
same_types_are (t ∷ ts) (u ∷ us) e = by_test (same_type t u) refl e (same_types_are ts us)
  where
    by_test : (b : Bool) → same_type t u ≡ b → (b && same_types ts us) ≡ true → (same_types ts us ≡ true → ts ≡ us) → t ∷ ts ≡ u ∷ us
    by_test true s e again = ap₂ (λ x xs. x ∷ xs) (same_is t u s) (again e)
    by_test false s e again = absurd (cc)

both_true : (a b : Bool) → (a && b) ≡ true → (a ≡ true) × (b ≡ true)
both_true true b e = (refl, e)
both_true false b e = absurd (cc)

record IsAsked (setting : Setting) (c : Contract) (f : ℕ) : Type 0 where
  linked : IsLinked c.deployed.tree c.deployed.hosts
  type : FuncType
  func : Func
  there : function_at c.deployed f ≡ Some (Defined type func)
  params : type.params ≡ I64 ∷ []
  results : type.results ≡ I64 ∷ []

module _ (setting : Setting) (all : AreLinked setting.contracts) where
  module _ (c' : Contract) (f' : ℕ) where
    asked_type : (c : Contract) (f : ℕ) (t : FuncType) (g : Func) (b : Bool) → IsLinked c.deployed.tree c.deployed.hosts → function_at c.deployed f ≡ Some (Defined t g) → same_function_type t ask_type ≡ b → cond b (Opens c f) (Refused 10) ≡ Opens c' f' → IsAsked setting c' f'
    asked_type c f t g true linked here s e =
        let contract : c ≡ c' = cc in
        let func : f ≡ f' = cc in
        let both = both_true (same_types t.params ask_type.params) (same_types t.results ask_type.results) s in
        subst (λ (k : Contract). IsAsked setting k f') contract (subst (λ (n : ℕ). IsAsked setting c n) func
        (record { linked = linked; type = t; func = g; there = here; params = same_types_are t.params ask_type.params both.0; results = same_types_are t.results ask_type.results both.1 }))
    asked_type c f t g false linked here s e = absurd (cc)

    asked_function : (c : Contract) (f : ℕ) (o : Option Function) → IsLinked c.deployed.tree c.deployed.hosts → function_at c.deployed f ≡ o → by_asked_function c f o ≡ Opens c' f' → IsAsked setting c' f'
    asked_function c f None linked here e = absurd (cc)
    asked_function c f (Some (Hosted h)) linked here e = absurd (cc)
    asked_function c f (Some (Defined t g)) linked here e = asked_type c f t g (same_function_type t ask_type) linked here refl e

    asked_export : (c : Contract) (o : Option ExportDesc) → IsLinked c.deployed.tree c.deployed.hosts → by_asked_export c o ≡ Opens c' f' → IsAsked setting c' f'
    asked_export c None linked e = absurd (cc)
    asked_export c (Some (ExportFunc f)) linked e = asked_function c f (function_at c.deployed f) linked refl e
    asked_export c (Some (ExportTable n)) linked e = absurd (cc)
    asked_export c (Some (ExportMemory n)) linked e = absurd (cc)
    asked_export c (Some (ExportGlobal n)) linked e = absurd (cc)

    asked_contract : (n e : ℕ) (o : Option Deployed) → slice_get setting.contracts n ≡ o → by_asked_contract setting.version n e o ≡ Opens c' f' → IsAsked setting c' f'
    asked_contract n x None there e = absurd (cc)
    asked_contract n x (Some d) there e = asked_export (record { number = n; deployed = d; version = setting.version }) _ (all_at (λ (d : Deployed). IsLinked d.tree d.hosts) setting.contracts n d all there) e

    is_asked : (level n e : ℕ) (b : Bool) → cond b (by_asked_contract setting.version n e (slice_get setting.contracts n)) (Refused 11) ≡ Opens c' f' → IsAsked setting c' f'
    is_asked level n x true e = asked_contract n x (slice_get setting.contracts n) refl e
    is_asked level n x false e = absurd (cc)

  entered_typed : (c : Contract) (f : ℕ) (x : ℤ) → IsAsked setting c f → LevelTyped (fresh_level c f (value.I64 x ∷ [])) (I64 ∷ [])
  entered_typed c f x a = record {
    linked = a.linked;
    config = (
      fresh_typed c.deployed a.linked,
      subst (λ ts. SeqTyped c.deployed outermost (after_start c.deployed.tree.start (arguments (value.I64 x ∷ []) (Invoke f End))) [] ts) (ap reverse a.results)
          (first_typed c.deployed a.linked (value.I64 x ∷ []) f (record { type = a.type; func = a.func; there = a.there; fit = sym a.params })),
    );
  }

  -- ---- what a level does

  module _ (to : List ValType) where
    back_typed : (o : Level) (os : List Level) (status : ℕ) (answer : ℤ) (mark : TraceStep) → LevelTyped o (leaves os to) → IsWaiting o → AllWait os to → MoveTyped to (back_to o os status answer mark o.config)
    back_typed o os status answer mark h w rest =
        let n = level_next o (leaves os to) w.state w.seq h w.config_is in
        subst (λ (x : Config). MoveTyped to (back_to o os status answer mark x)) (sym w.config_is)
        (subst (λ (x : Next). MoveTyped to (back_by o os w.state status answer mark x)) (sym w.asks)
        (record { linked = h.linked; config = (n.0, subst (NextTyped o.contract.deployed outermost (leaves os to)) w.asks n.1 (reply.I32 (pos status)) tt) }, rest))

    returned_typed : (vs : List Value) (outer : List Level) → types vs ≡ leaves outer to → AllWait outer to → MoveTyped to (returned vs outer)
    returned_typed vs [] e h = tt
    returned_typed [] (o ∷ os) e h = absurd (cc)
    returned_typed (v ∷ []) (o ∷ os) e h = back_typed o os 0 (signed_of v) Kept h.0 h.1 h.2
    returned_typed (v ∷ w ∷ vs) (o ∷ os) e h = absurd (cc)

    fallen_typed : (t : TrapCode) (outer : List Level) → AllWait outer to → MoveTyped to (fallen t outer)
    fallen_typed t [] h = tt
    fallen_typed t (o ∷ os) h = back_typed o os (trap_status t) no_answer Dropped h.0 h.1 h.2

    module _ (l : Level) (outer : List Level) (s : State) (q : Seq) (h : LevelTyped l (leaves outer to)) (rest : AllWait outer to) (config_is : l.config ≡ Running s q) where
      entering_typed : (n e : ℕ) (x : ℤ) (go : Reply → Seq) (o : Opening) → next l.contract s q ≡ Asks (Ask n e x) go → asked setting (length outer) n e ≡ o → StateTyped l.contract.deployed [] s → NextTyped l.contract.deployed outermost (leaves outer to) (Asks (Ask n e x) go) → MoveTyped to (entering l outer s go x o)
      entering_typed n e x go (Opens c f) asks opens st g =
          (entered_typed c f x (is_asked c f (length outer) n e (nat_lt (length outer) level_limit) opens), (h, record { state = s; seq = q; number = n; export = e; argument = x; go = go; config_is = config_is; asks = asks }, rest))
      entering_typed n e x go (Refused status) asks opens st g = (record { linked = h.linked; config = (st, g (reply.I32 (pos status)) tt) }, rest)

      by_next_typed : (n : Next) → next l.contract s q ≡ n → StateTyped l.contract.deployed [] s → NextTyped l.contract.deployed outermost (leaves outer to) n → MoveTyped to (by_next setting l outer s n)
      by_next_typed (Goes charge s' q') e st g = (record { linked = h.linked; config = g }, rest)
      by_next_typed (Traps charge t) e st g = (record { linked = h.linked; config = tt }, rest)
      by_next_typed (Asks (Of op) go) e st g = λ r is. (record { linked = h.linked; config = (st, g r is) }, rest)
      by_next_typed (Asks (Ask n x v) go) e st g = entering_typed n x v go (asked setting (length outer) n x) e refl st g
      by_next_typed (Asks Answer go) e st g = (record { linked = h.linked; config = (st, g (reply.I64 l.answer) tt) }, rest)
      by_next_typed (Branches charge k vs) e st (target, below, is, x) = cc
      by_next_typed (Returns charge vs) e st (below, is, x) = cc
      by_next_typed (Ended vs) e st g = returned_typed vs outer g rest
      by_next_typed Stuck e st g = absurd g

    by_config_typed : (l : Level) (outer : List Level) (x : Config) → l.config ≡ x → LevelTyped l (leaves outer to) → AllWait outer to → MoveTyped to (by_config setting l outer x)
    by_config_typed l outer (Running s q) e h rest = let n = level_next l (leaves outer to) s q h e in by_next_typed l outer s q h rest e (next l.contract s q) refl n.0 n.1
    by_config_typed l outer (Trap s t) e h rest = fallen_typed t outer rest

    move_typed : (c : Levels) → LevelsTyped to c → MoveTyped to (move setting c)
    move_typed c h = by_config_typed c.inner c.outer c.inner.config refl h.0 h.1

-- ---- what a call reaches

-- one function is at a place
one_type : (d : Deployed) (n : ℕ) (f g : Function) → function_at d n ≡ Some f → function_at d n ≡ Some g → f ≡ g
one_type d n f g e e' = let same : Some f ≡ Some g = sym e ∙ e' in cc

module _ (setting : Setting) (call : ContractCall) (c : Contract) (func : ℕ) (all : AreLinked setting.contracts) (opens : opening setting call ≡ Opens c func) where
  linked : IsLinked c.deployed.tree c.deployed.hosts
  linked = opened_linked setting.contracts setting.version call (slice_get setting.contracts call.contract) c func all refl opens

  is_open : IsOpen c.deployed call.args func
  is_open = opened setting.version call (slice_get setting.contracts call.contract) c func opens

  start_typed : LevelsTyped (reverse is_open.type.results) (first_level c func call.args)
  start_typed = (record { linked = linked; config = (fresh_typed c.deployed linked, first_typed c.deployed linked call.args func is_open) }, tt)

  reached : (trace : List TraceStep) (used : ℕ) (a : Levels) → Reached setting (first_level c func call.args) call.fuel trace used a → LevelsTyped (reverse is_open.type.results) a
  reached trace used a at_first = start_typed
  reached trace used a (moved t u b n marks x r e le) = subst (MoveTyped (reverse is_open.type.results)) e (move_typed setting all (reverse is_open.type.results) b (reached t u b r))
  reached trace used a (replied t u b op go r before e is) = subst (MoveTyped (reverse is_open.type.results)) e (move_typed setting all (reverse is_open.type.results) b (reached t u b before)) r is

pub safe : DeployedCallsAreSafe
safe setting call c func all opens trace used a r e =
    let to = reverse (is_open setting call c func all opens).type.results in
    subst (MoveTyped to) e (move_typed setting all to a (reached setting call c func all opens trace used a r))

pub typed : DeployedCallsAreTyped
typed setting call c func f trace used a all opens at r =
    let o = is_open setting call c func all opens in
    let to : reverse o.type.results ≡ reverse (function_type f).results = ap (λ (g : Function). reverse (function_type g).results) (one_type c.deployed func (Defined o.type o.func) f o.there at) in
    subst (λ (ts : List ValType). LevelsTyped ts a) to (reached setting call c func all opens trace used a r)

pub results : ResultsAreTyped
results setting call c func f trace used l state q vs all opens at r here e =
    let to = reverse (function_type f).results in
    let h = typed setting call c func f trace used (record { inner = l; outer = [] }) all opens at r in
    let g = level_next l to state q h.0 here in
    subst (λ (x : Next). NextTyped l.contract.deployed outermost to x) e g.1
