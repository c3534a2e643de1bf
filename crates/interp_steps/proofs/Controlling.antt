-- What the instructions do that choose the next one.
use Rattle.std.proofs.Common.{◌≡◌, ◌≢◌, ℕ, ◌+◌, ◌≤◌, List, [], ◌∷◌, ◌++◌, length, take, drop, refl, sym, ap, ◌∙◌, subst, arith, length-append, slice_get, Some, ◌<◌}
use Rattle.std.specs.Prelude.{if◌then◌else◌, ◌==◌, unwrap_or, Option, slice_set}
use Rattle.std.proofs.lemmas.Bool.{eq-eqb, ne_eqb}
use Rattle.wtypes.specs.declared.ValType.{ValType}
use Rattle.wtypes.specs.declared.ValType.TheVariants.{I32}
use Rattle.wtypes.specs.declared.Value.{Value}
use Rattle.wtypes.specs.declared.PlainInstr.TheVariants.{Br, BrIf, Return, GlobalGet, GlobalSet}
use Rattle.spec_modules.specs.Syntax.{Plain, BrTable, If, Instrs, nothing, seq}
use Rattle.spec_modules.specs.Syntax as syntax
use Rattle.spec_modules.specs.Shape.{size}
use Rattle.spec_modules.specs.Operators.{type_of, bits_of}
use Rattle.spec_execution.specs.Configuration.{Contract, Seq, Val, Free, Label, End, State, Config, Running, code, values}
use Rattle.spec_execution.specs.Reduction.{Next, Goes, Branches, Returns, reduce, execute, execute_plain, with_number, with_value, found, arity}
use Rattle.spec_execution.specs.Run.{Reduces}
use Rattle.spec_execution.specs.Turns.{Frees, none, one_more}
use Rattle.laws_reduction.specs.Forms.{HasOne}
use Rattle.laws_reduction.specs.Meaning.{Item, Scope, Block, Loop, Open, View, listed, numbered, put, item, outer, height, frames, outermost, at, whole, state, config, Stands, Begins, IsOrdered, IsSafeAt, Charged}
use Rattle.laws_reduction.specs.Plain.{onto}
use Rattle.laws_reduction.specs.Branches.{in_call, IsTarget, IsJump}
use Rattle.laws_reduction.specs.Context.{values_onto}
use Rattle.laws_reduction.specs.Charging.{mk, local, fine_at, take_push, drop_push, onto_top, above, Stands_at, Stands_push, put-append}
use Rattle.laws_reduction.specs.Finding.{one_taken, within, TookValue, value_taken}
use Rattle.laws_reduction.specs.Topmost.{number_is, last_one}
use Rattle.laws_reduction.specs.Leaving.{whole_open}
use Rattle.laws_reduction.specs.Calling.{code_is}
use Rattle.laws_reduction.specs.Branching.{branch_target, branch_lands, return_target, return_lands}

-- a view by its fields
pub view_is : (w : View) (b : State) (es : List Open) (stack locals : List Value) (is : List Item) → w.base ≡ b → w.entries ≡ es → w.stack ≡ stack → w.locals ≡ locals → w.code ≡ is → w ≡ mk b es stack locals is
view_is w b es stack locals is eb ee est el ec =
    ap (λ x. record w { base = x }) eb ∙ ap (λ x. record w { base = b; entries = x }) ee ∙ ap (λ x. mk b es x w.locals w.code) est ∙ ap (λ x. mk b es stack x w.code) el ∙ ap (mk b es stack locals) ec

-- what is left where the number that chooses is taken
pub popped : (v : View) → IsOrdered v → (height v.entries + 1 ≤ length v.stack) × HasOne I32 v.stack → (kept : List Value) (a : Value) → v.stack ≡ kept ++ a ∷ [] → (type_of a ≡ I32) × Stands v.entries (length kept)
popped v o top kept a before = (
  ap type_of (last_one kept top.1.kept a top.1.a (sym before ∙ top.1.before)) ∙ top.1.first,
  Stands_at v.entries (length v.stack) (length kept) (omega (arith, top.0, ap length before, length-append kept (a ∷ []))) o.stands,
)

module _ (c : Contract) (v : View) (safe : IsSafeAt c v) (ordered : IsOrdered v) (n : ℕ) (is : List Item) where
  abbrev pub inside : List Value → List Item → Next
  inside stack js = reduce c (frames v.entries 0) (at v.base v.locals) (onto (drop (height v.entries) stack) []) (listed js End)

  -- ---- br and return

  module _ (l : ℕ) (here : v.code ≡ record { ordinal = n; instr = Plain (Br l) } ∷ is) where
    branches_here : inside v.stack v.code ≡ Branches 1 l (onto (drop (height v.entries) v.stack) [])
    unfolding reduce execute execute_plain
    branches_here = ap (inside v.stack) here

    pub br_target : IsTarget v.entries v.stack (drop l v.entries)
    br_target = branch_target c v 1 l (listed v.code End) ordered safe.fine.not_stuck branches_here

    pub br_charged : (w : View) → IsJump v (drop l v.entries) w → Charged c v w
    br_charged w j =
        let r = branch_lands c v 1 l (listed v.code End) ordered safe.fine.not_stuck branches_here w j in
        record { middle = r.0.between; reduces = r.0.reduces; frees = r.0.frees; ordered = r.1 }

  module _ (here : v.code ≡ record { ordinal = n; instr = Plain Return } ∷ is) where
    returns_here : inside v.stack v.code ≡ Returns 1 (onto (drop (height v.entries) v.stack) [])
    unfolding reduce execute execute_plain
    returns_here = ap (inside v.stack) here

    pub out_target : IsTarget v.entries v.stack (in_call v.entries)
    out_target = return_target c v 1 (listed v.code End) ordered safe.fine.not_stuck returns_here

    pub out_charged : (w : View) → IsJump v (in_call v.entries) w → Charged c v w
    out_charged w j =
        let r = return_lands c v 1 (listed v.code End) ordered safe.fine.not_stuck returns_here w j in
        record { middle = r.0.between; reduces = r.0.reduces; frees = r.0.frees; ordered = r.1 }

  -- ---- a number that chooses

  module _ (go : ℕ → List Value → Next) (asks : (stack : List Value) → inside stack v.code ≡ with_number I32 (onto (drop (height v.entries) stack) []) go) where
    pub choice_there : (height v.entries + 1 ≤ length v.stack) × HasOne I32 v.stack
    choice_there = one_taken c v.base v.entries v.stack v.locals End ordered.stands I32 go (λ h. fine_at c v.base v.entries v.stack v.locals (listed v.code End) safe.fine.not_stuck (asks v.stack ∙ h))

    module _ (kept : List Value) (a : Value) (before : v.stack ≡ kept ++ a ∷ []) (typed : type_of a ≡ I32) (stands : Stands v.entries (length kept)) where
      pub choice_goes : (y : Seq) → go (bits_of a) (onto (drop (height v.entries) kept) []) ≡ Goes 1 (at v.base v.locals) (values (onto (drop (height v.entries) kept) []) y) → Reduces c (config v) 1 (Running (state v) (whole v.entries kept v.locals y))
      choice_goes y e =
          local c v.base v.base v.entries v.stack kept v.locals v.locals 1 (listed v.code End) y (sym (ap (take (height v.entries)) before ∙ take_push v.entries kept (a ∷ []) stands))
          (asks v.stack ∙ ap (λ s. with_number I32 (onto (drop (height v.entries) s) []) go) before ∙ ap (λ vs. with_number I32 vs go) (onto_top v.entries kept (a ∷ []) stands)
          ∙ number_is I32 a (onto (drop (height v.entries) kept) []) go typed ∙ e ∙ ap (Goes 1 (at v.base v.locals)) (values_onto (drop (height v.entries) kept) [] y))

  -- ---- a branch that is free

  module _ (kept : List Value) (stands : Stands v.entries (length kept)) (l : ℕ) (one : Reduces c (config v) 1 (Running (state v) (whole v.entries kept v.locals (Free (Plain (Br l)) (listed is End))))) where
    abbrev pub freed : View
    freed = record v { stack = kept; code = is }

    abbrev branching : Seq
    branching = Free (Plain (Br l)) (listed is End)

    freed_ordered : IsOrdered freed
    freed_ordered = record { stands = stands; each = ordered.each }

    branches_free : reduce c (frames v.entries 0) (at v.base v.locals) (onto (drop (height v.entries) kept) []) branching ≡ Branches 0 l (onto (drop (height v.entries) kept) [])
    unfolding reduce execute execute_plain
    branches_free = refl

    pub free_target : IsTarget v.entries kept (drop l v.entries)
    free_target = branch_target c freed 0 l branching freed_ordered (safe.after.not_stuck _ _ one) branches_free

    pub free_charged : (w : View) → IsJump freed (drop l v.entries) w → Charged c v w
    free_charged w j =
        let r = branch_lands c freed 0 l branching freed_ordered (safe.after.not_stuck _ _ one) branches_free w j in
        record { middle = _; reduces = one; frees = one_more _ _ _ r.0.reduces r.0.frees; ordered = r.1 }

  -- ---- br_if

  module _ (l : ℕ) (here : v.code ≡ record { ordinal = n; instr = Plain (BrIf l) } ∷ is) where
    abbrev if_goes : ℕ → List Value → Next
    if_goes k vs = Goes 1 (at v.base v.locals) (values vs (if k == 0 then listed is End else Free (Plain (Br l)) (listed is End)))

    if_asks : (stack : List Value) → inside stack v.code ≡ with_number I32 (onto (drop (height v.entries) stack) []) if_goes
    unfolding reduce execute execute_plain
    if_asks stack = ap (inside stack) here

    pub br_if_choice : (height v.entries + 1 ≤ length v.stack) × HasOne I32 v.stack
    br_if_choice = choice_there if_goes if_asks

    module _ (kept : List Value) (a : Value) (before : v.stack ≡ kept ++ a ∷ []) (typed : type_of a ≡ I32) (stands : Stands v.entries (length kept)) where
      stays : bits_of a ≡ 0 → Reduces c (config v) 1 (Running (state v) (whole v.entries kept v.locals (listed is End)))
      stays z = choice_goes if_goes if_asks kept a before typed stands (listed is End) (ap (λ b. Goes 1 (at v.base v.locals) (values (onto (drop (height v.entries) kept) []) (if b then listed is End else Free (Plain (Br l)) (listed is End)))) (eq-eqb (bits_of a) 0 z))

      pub br_if_one : bits_of a ≢ 0 → Reduces c (config v) 1 (Running (state v) (whole v.entries kept v.locals (Free (Plain (Br l)) (listed is End))))
      br_if_one nz = choice_goes if_goes if_asks kept a before typed stands (Free (Plain (Br l)) (listed is End)) (ap (λ b. Goes 1 (at v.base v.locals) (values (onto (drop (height v.entries) kept) []) (if b then listed is End else Free (Plain (Br l)) (listed is End)))) (ne_eqb (bits_of a) 0 nz))

      pub br_if_stays : bits_of a ≡ 0 → (w : View) → w.base ≡ v.base → w.entries ≡ v.entries → w.stack ≡ kept → w.locals ≡ v.locals → w.code ≡ is → Charged c v w
      br_if_stays z w eb ee est el ec =
          subst (λ (x : View). Charged c v x) (sym (view_is w v.base v.entries kept v.locals is eb ee est el ec))
          (record { middle = _; reduces = stays z; frees = none _; ordered = record { stands = stands; each = ordered.each } })

  -- ---- br_table

  module _ (ls : List ℕ) (fallback : ℕ) (here : v.code ≡ record { ordinal = n; instr = BrTable ls fallback } ∷ is) where
    abbrev table_goes : ℕ → List Value → Next
    table_goes k vs = Goes 1 (at v.base v.locals) (values vs (Free (Plain (Br (unwrap_or (slice_get ls k) fallback))) (listed is End)))

    table_asks : (stack : List Value) → inside stack v.code ≡ with_number I32 (onto (drop (height v.entries) stack) []) table_goes
    unfolding reduce execute execute_plain
    table_asks stack = ap (inside stack) here

    pub table_choice : (height v.entries + 1 ≤ length v.stack) × HasOne I32 v.stack
    table_choice = choice_there table_goes table_asks

    pub table_one : (kept : List Value) (a : Value) → v.stack ≡ kept ++ a ∷ [] → type_of a ≡ I32 → Stands v.entries (length kept) →
        Reduces c (config v) 1 (Running (state v) (whole v.entries kept v.locals (Free (Plain (Br (unwrap_or (slice_get ls (bits_of a)) fallback))) (listed is End))))
    table_one kept a before typed stands = choice_goes table_goes table_asks kept a before typed stands _ refl

  -- ---- a label that is opened

  abbrev label_inside : Scope → ℕ → List Item → List Item → Seq
  label_inside k a from js = item k n a from v.locals (listed js End)

  module _ (k : Scope) (a : ℕ) (from js : List Item) (kept : List Value) (stands : Stands v.entries (length kept)) (same_outer : outer k v.locals ≡ v.locals) (begins : Begins k n from)
      (one : Reduces c (config v) 1 (Running (state v) (whole v.entries kept v.locals (label_inside k a from js)))) where
    abbrev opened_entry : Open
    opened_entry = record { scope = k; ordinal = n; arity = a; height = length kept; from = from }

    opened_config : config (mk v.base (opened_entry ∷ v.entries) kept v.locals js) ≡ Running (state v) (whole v.entries kept v.locals (label_inside k a from js))
    opened_config =
        ap (Running (at v.base (outermost v.entries (outer k v.locals)))) (whole_open v.entries opened_entry kept v.locals (listed js End) refl)
        ∙ ap (λ ls. Running (at v.base (outermost v.entries ls)) (whole v.entries kept ls (label_inside k a from js))) same_outer

    pub opened : (w : View) → w.base ≡ v.base → w.entries ≡ opened_entry ∷ v.entries → w.stack ≡ kept → w.locals ≡ v.locals → w.code ≡ js → Charged c v w
    opened w eb ee est el ec =
        subst (λ (x : View). Charged c v x) (sym (view_is w v.base (opened_entry ∷ v.entries) kept v.locals js eb ee est el ec)) (record {
          middle = Running (state v) (whole v.entries kept v.locals (label_inside k a from js));
          reduces = one;
          frees = subst (λ (x : Config). Frees c (Running (state v) (whole v.entries kept v.locals (label_inside k a from js))) x) (sym opened_config) (none _);
          ordered = record { stands = (omega arith, stands); each = (begins, ordered.each) };
        })

  module _ (t : Option ValType) (body : Instrs) (js : List Item) (js_are : js ≡ numbered (n + 1) body) where
    abbrev s : State
    s = at v.base v.locals

    body_listed : code (n + 1) body End ≡ listed js End
    body_listed = code_is (n + 1) body End ∙ ap (λ x. listed x End) (sym js_are)

    pub block_one : v.code ≡ record { ordinal = n; instr = syntax.Block t body } ∷ is → Reduces c (config v) 1 (Running (state v) (whole v.entries v.stack v.locals (label_inside Block (arity t) is js)))
    unfolding reduce execute
    block_one here =
        local c v.base v.base v.entries v.stack v.stack v.locals v.locals 1 (listed v.code End) _ refl
        (ap (inside v.stack) here ∙ ap (λ x. Goes 1 s (values (onto (drop (height v.entries) v.stack) []) (Label (arity t) n nothing x (listed is End)))) body_listed ∙ ap (Goes 1 s) (values_onto (drop (height v.entries) v.stack) [] _))

    pub loop_one : v.code ≡ record { ordinal = n; instr = syntax.Loop t body } ∷ is → Reduces c (config v) 1 (Running (state v) (whole v.entries v.stack v.locals (label_inside Loop 0 (record { ordinal = n; instr = syntax.Loop t body } ∷ is) js)))
    unfolding reduce execute
    loop_one here =
        local c v.base v.base v.entries v.stack v.stack v.locals v.locals 1 (listed v.code End) _ refl
        (ap (inside v.stack) here ∙ ap (λ x. Goes 1 s (values (onto (drop (height v.entries) v.stack) []) (Label 0 n (seq (syntax.Loop t body) nothing) x (listed is End)))) body_listed ∙ ap (Goes 1 s) (values_onto (drop (height v.entries) v.stack) [] _))

  -- ---- if

  module _ (t : Option ValType) (met unmet : Instrs) (here : v.code ≡ record { ordinal = n; instr = If t met unmet } ∷ is) where
    abbrev arm : ℕ → Seq
    arm k = if k == 0 then code (n + 1 + size met) unmet End else code (n + 1) met End

    abbrev arm_goes : ℕ → List Value → Next
    arm_goes k vs = Goes 1 (at v.base v.locals) (values vs (Label (arity t) n nothing (arm k) (listed is End)))

    arm_asks : (stack : List Value) → inside stack v.code ≡ with_number I32 (onto (drop (height v.entries) stack) []) arm_goes
    unfolding reduce execute execute_plain
    arm_asks stack = ap (inside stack) here

    pub if_choice : (height v.entries + 1 ≤ length v.stack) × HasOne I32 v.stack
    if_choice = choice_there arm_goes arm_asks

    module _ (kept : List Value) (a : Value) (before : v.stack ≡ kept ++ a ∷ []) (typed : type_of a ≡ I32) (stands : Stands v.entries (length kept)) (js : List Item) where
      by_arm : arm (bits_of a) ≡ listed js End → Reduces c (config v) 1 (Running (state v) (whole v.entries kept v.locals (label_inside Block (arity t) is js)))
      by_arm e = choice_goes arm_goes arm_asks kept a before typed stands _ (ap (λ x. Goes 1 (at v.base v.locals) (values (onto (drop (height v.entries) kept) []) (Label (arity t) n nothing x (listed is End)))) e)

      pub if_unmet : bits_of a ≡ 0 → js ≡ numbered (n + 1 + size met) unmet → Reduces c (config v) 1 (Running (state v) (whole v.entries kept v.locals (label_inside Block (arity t) is js)))
      if_unmet z e = by_arm (ap (λ b. if b then code (n + 1 + size met) unmet End else code (n + 1) met End) (eq-eqb (bits_of a) 0 z) ∙ code_is (n + 1 + size met) unmet End ∙ ap (λ x. listed x End) (sym e))

      pub if_met : bits_of a ≢ 0 → js ≡ numbered (n + 1) met → Reduces c (config v) 1 (Running (state v) (whole v.entries kept v.locals (label_inside Block (arity t) is js)))
      if_met nz e = by_arm (ap (λ b. if b then code (n + 1 + size met) unmet End else code (n + 1) met End) (ne_eqb (bits_of a) 0 nz) ∙ code_is (n + 1) met End ∙ ap (λ x. listed x End) (sym e))

  -- ---- globals

  module _ (x : ℕ) where
    abbrev gets : List Value → Next
    gets vs = found (slice_get v.base.globals x) (λ a. Goes 1 (at v.base v.locals) (values vs (Val a (listed is End))))

    module _ (here : v.code ≡ record { ordinal = n; instr = Plain (GlobalGet x) } ∷ is) where
      get_is : inside v.stack v.code ≡ gets (onto (drop (height v.entries) v.stack) [])
      unfolding reduce execute execute_plain
      get_is = ap (inside v.stack) here

      pub global_there : x < length v.base.globals
      global_there = within v.base.globals x (λ e. fine_at c v.base v.entries v.stack v.locals (listed v.code End) safe.fine.not_stuck (get_is ∙ ap (λ o. found o (λ a. Goes 1 (at v.base v.locals) (values (onto (drop (height v.entries) v.stack) []) (Val a (listed is End))))) e))

      pub global_got : (a : Value) → slice_get v.base.globals x ≡ Some a → (w : View) → w.base ≡ v.base → w.entries ≡ v.entries → w.stack ≡ v.stack ++ a ∷ [] → w.locals ≡ v.locals → w.code ≡ is → Charged c v w
      global_got a there w eb ee est el ec =
          subst (λ (x : View). Charged c v x) (sym (view_is w v.base v.entries (v.stack ++ a ∷ []) v.locals is eb ee est el ec)) (record {
            middle = _;
            reduces = local c v.base v.base v.entries v.stack (v.stack ++ a ∷ []) v.locals v.locals 1 (listed v.code End) (listed is End) (take_push v.entries v.stack (a ∷ []) ordered.stands)
                (get_is ∙ ap (λ o. found o (λ a. Goes 1 (at v.base v.locals) (values (onto (drop (height v.entries) v.stack) []) (Val a (listed is End))))) there
                ∙ ap (Goes 1 (at v.base v.locals)) (values_onto (drop (height v.entries) v.stack) [] (Val a (listed is End)) ∙ sym (put-append (drop (height v.entries) v.stack) (a ∷ []) (listed is End))
                ∙ ap (λ vs. put vs (listed is End)) (sym (drop_push v.entries v.stack (a ∷ []) ordered.stands))));
            frees = none _;
            ordered = record { stands = Stands_push v.entries v.stack (a ∷ []) ordered.stands; each = ordered.each };
          })

    abbrev sets : List Value → Next
    sets vs = with_value vs (λ a ws. found (slice_get v.base.globals x) (λ old. Goes 1 (at (record v.base { globals = slice_set v.base.globals x a }) v.locals) (values ws (listed is End))))

    module _ (here : v.code ≡ record { ordinal = n; instr = Plain (GlobalSet x) } ∷ is) where
      set_is : (stack : List Value) → inside stack v.code ≡ sets (onto (drop (height v.entries) stack) [])
      unfolding reduce execute execute_plain
      set_is stack = ap (inside stack) here

      set_value : TookValue (onto (drop (height v.entries) v.stack) []) (λ a ws. found (slice_get v.base.globals x) (λ old. Goes 1 (at (record v.base { globals = slice_set v.base.globals x a }) v.locals) (values ws (listed is End))))
      set_value = value_taken _ _ (λ h. fine_at c v.base v.entries v.stack v.locals (listed v.code End) safe.fine.not_stuck (set_is v.stack ∙ h))

      pub set_there : (height v.entries + 1 ≤ length v.stack) × (x < length v.base.globals)
      set_there = (
        above v.entries v.stack 1 ordered.stands (omega (arith, ap length set_value.is)),
        within v.base.globals x (λ e. set_value.more (ap (λ o. found o (λ old. Goes 1 (at (record v.base { globals = slice_set v.base.globals x set_value.value }) v.locals) (values set_value.below (listed is End)))) e)),
      )

      pub global_was_set : (kept : List Value) (a old : Value) → v.stack ≡ kept ++ a ∷ [] → slice_get v.base.globals x ≡ Some old →
          (w : View) → w.base ≡ record v.base { globals = slice_set v.base.globals x a } → w.entries ≡ v.entries → w.stack ≡ kept → w.locals ≡ v.locals → w.code ≡ is → Charged c v w
      global_was_set kept a old before there w eb ee est el ec =
          let stands : Stands v.entries (length kept) = Stands_at v.entries (length v.stack) (length kept) (omega (arith, set_there.0, ap length before, length-append kept (a ∷ []))) ordered.stands in
          let b' : State = record v.base { globals = slice_set v.base.globals x a } in
          subst (λ (x : View). Charged c v x) (sym (view_is w b' v.entries kept v.locals is eb ee est el ec)) (record {
            middle = _;
            reduces = local c v.base b' v.entries v.stack kept v.locals v.locals 1 (listed v.code End) (listed is End) (sym (ap (take (height v.entries)) before ∙ take_push v.entries kept (a ∷ []) stands))
                (set_is v.stack ∙ ap (λ s. sets (onto (drop (height v.entries) s) [])) before ∙ ap sets (onto_top v.entries kept (a ∷ []) stands)
                ∙ ap (λ o. found o (λ old. Goes 1 (at b' v.locals) (values (onto (drop (height v.entries) kept) []) (listed is End)))) there
                ∙ ap (Goes 1 (at b' v.locals)) (values_onto (drop (height v.entries) kept) [] (listed is End)));
            frees = none _;
            ordered = record { stands = stands; each = ordered.each };
          })
