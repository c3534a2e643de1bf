-- What the instructions do that read or write memory.
use Rattle.std.proofs.Common.{◌≡◌, ℕ, ◌+◌, ◌≤◌, ◌<◌, Bool, true, false, nat_le, List, [], ◌∷◌, ◌++◌, length, take, drop, refl, sym, ap, ◌∙◌, subst, arith, length-append, Ok, Err}
use Rattle.std.specs.Prelude.{if◌then◌else◌, replicate, Result, ◌*◌, ◌-◌, ◌^◌}
use Rattle.std.proofs.lemmas.Bool.{le-leb, leb-true}
use Rattle.wtypes.specs.declared.ValType.{ValType}
use Rattle.wtypes.specs.declared.ValType.TheVariants.{I32}
use Rattle.wtypes.specs.declared.Value.{Value}
use Rattle.wtypes.specs.declared.LoadOp.{LoadOp}
use Rattle.wtypes.specs.declared.StoreOp.{StoreOp}
use Rattle.wtypes.specs.declared.TrapCode.{TrapCode}
use Rattle.wtypes.specs.declared.TrapCode.TheVariants.{MemoryOutOfBounds}
use Rattle.wtypes.specs.declared.PlainInstr.TheVariants.{Load, Store, MemorySize, MemoryGrow}
use Rattle.spec_modules.specs.Syntax.{Plain}
use Rattle.spec_modules.specs.Operators.{type_of, bits_of, value_of}
use Rattle.spec_modules.specs.Storage.{load_type, load_width, extended, store_type, store_width, bytes_of_number}
use Rattle.spec_modules.specs.Memory.{load, written}
use Rattle.spec_execution.specs.Configuration.{Contract, Seq, Val, End, State, Trap, values}
use Rattle.spec_execution.specs.Reduction.{Next, Goes, Traps, reduce, execute, execute_plain, with_number, answered, loaded, stored, grown, with_memory, pages, most_pages}
use Rattle.spec_execution.specs.Run.{Reduces}
use Rattle.spec_execution.specs.Turns.{none}
use Rattle.laws_reduction.specs.Forms.{HasOne}
use Rattle.laws_reduction.specs.Meaning.{Item, View, listed, put, height, frames, outermost, at, config, Stands, IsOrdered, IsSafeAt, Charged, ChargedTrap}
use Rattle.interp_state.specs.Memories.{IsLoaded, IsNotLoaded, DidLoad, HasPlace, DidStore, DidGrow, grows, stays}
use Rattle.spec_modules.specs.Profile.{page_size}
use Rattle.memory.specs.Linear.{Memory}
use Rattle.interp_steps.specs.Steps.{ViewLeadsTo}
use Rattle.interp_state.specs.declared.plain.After.{After}
use Rattle.interp_state.specs.declared.plain.After.TheVariants as after
use Rattle.laws_reduction.specs.Plain.{onto}
use Rattle.laws_reduction.specs.Context.{values_onto}
use Rattle.laws_reduction.specs.Charging.{local, local_trap, fine_at, take_push, drop_push, onto_top, above, Stands_at, Stands_push, put-append}
use Rattle.laws_reduction.specs.Finding.{append-nil, TookNumber, number_taken, found_top}
use Rattle.laws_reduction.specs.Topmost.{number_is, last_two}
use Rattle.interp_steps.proofs.Controlling.{popped, choice_there, view_is}

loaded_ok : (s : State) (t : ValType) (n : ℕ) (extend : ℕ → ℕ) (at : ℕ) (vs : List Value) (rest : Seq) (x : ℕ) → load s.memory at n ≡ Ok x → loaded 1 s t n extend at vs rest ≡ Goes 1 s (values vs (Val (value_of t (extend x)) rest))
unfolding loaded
loaded_ok s t n extend at vs rest x e = ap (λ (r : Result ℕ TrapCode). answered 1 r (λ y. Goes 1 s (values vs (Val (value_of t (extend y)) rest)))) e

loaded_err : (s : State) (t : ValType) (n : ℕ) (extend : ℕ → ℕ) (at : ℕ) (vs : List Value) (rest : Seq) (code : TrapCode) → load s.memory at n ≡ Err code → loaded 1 s t n extend at vs rest ≡ Traps 1 code
unfolding loaded
loaded_err s t n extend at vs rest code e = ap (λ (r : Result ℕ TrapCode). answered 1 r (λ y. Goes 1 s (values vs (Val (value_of t (extend y)) rest)))) e

-- what a store comes to, by whether its bytes lie in memory
store_goes_on : (s : State) (n at x : ℕ) (vs : List Value) (rest : Seq) → Bool → Next
store_goes_on s n at x vs rest b = answered 1 (if b then Ok (written at (bytes_of_number n x) s.memory) else Err MemoryOutOfBounds) (λ memory. Goes 1 (with_memory s memory) (values vs rest))

stored_ok : (s : State) (n at x : ℕ) (vs : List Value) (rest : Seq) → at + n ≤ length s.memory → stored 1 s n at x vs rest ≡ Goes 1 (with_memory s (written at (bytes_of_number n x) s.memory)) (values vs rest)
unfolding stored store_goes_on
stored_ok s n at x vs rest le = ap (store_goes_on s n at x vs rest) (le-leb (at + n) (length s.memory) le)

stored_out : (s : State) (n at x : ℕ) (vs : List Value) (rest : Seq) → length s.memory < at + n → stored 1 s n at x vs rest ≡ Traps 1 MemoryOutOfBounds
unfolding stored store_goes_on
stored_out s n at x vs rest lt = by_test (nat_le (at + n) (length s.memory)) refl
  where
    by_test : (b : Bool) → nat_le (at + n) (length s.memory) ≡ b → stored 1 s n at x vs rest ≡ Traps 1 MemoryOutOfBounds
    by_test true b = absurd (omega (arith, leb-true _ _ b))
    by_test false b = ap (store_goes_on s n at x vs rest) b

grown_ok : (c : Contract) (s : State) (delta : ℕ) (vs : List Value) (rest : Seq) → pages s.memory + delta ≤ most_pages c.version c.deployed.tree.memories →
    grown c 1 s delta vs rest ≡ Goes 1 (with_memory s (s.memory ++ replicate (page_size * delta) 0)) (values vs (Val (value_of I32 (pages s.memory)) rest))
unfolding grown
grown_ok c s delta vs rest le =
    ap (λ b. if b then Goes 1 (with_memory s (s.memory ++ replicate (page_size * delta) 0)) (values vs (Val (value_of I32 (pages s.memory)) rest)) else Goes 1 s (values vs (Val (value_of I32 (2 ^ 32 - 1)) rest))) (le-leb _ _ le)

grown_not : (c : Contract) (s : State) (delta : ℕ) (vs : List Value) (rest : Seq) → most_pages c.version c.deployed.tree.memories < pages s.memory + delta → grown c 1 s delta vs rest ≡ Goes 1 s (values vs (Val (value_of I32 (2 ^ 32 - 1)) rest))
unfolding grown
grown_not c s delta vs rest lt = by_test (nat_le (pages s.memory + delta) (most_pages c.version c.deployed.tree.memories)) refl
  where
    by_test : (b : Bool) → nat_le (pages s.memory + delta) (most_pages c.version c.deployed.tree.memories) ≡ b → grown c 1 s delta vs rest ≡ Goes 1 s (values vs (Val (value_of I32 (2 ^ 32 - 1)) rest))
    by_test true b = absurd (omega (arith, leb-true _ _ b))
    by_test false b = ap (λ b. if b then Goes 1 (with_memory s (s.memory ++ replicate (page_size * delta) 0)) (values vs (Val (value_of I32 (pages s.memory)) rest)) else Goes 1 s (values vs (Val (value_of I32 (2 ^ 32 - 1)) rest))) b

module _ (c : Contract) (v : View) (safe : IsSafeAt c v) (ordered : IsOrdered v) (n : ℕ) (is : List Item) where
  abbrev s : State
  s = at v.base v.locals

  abbrev within : List Value → Next
  within stack = reduce c (frames v.entries 0) s (onto (drop (height v.entries) stack) []) (listed v.code End)

  abbrev under : List Value → List Value
  under kept = onto (drop (height v.entries) kept) []

  gone : (b : State) (kept taken given : List Value) → v.stack ≡ kept ++ taken → Stands v.entries (length kept) → within v.stack ≡ Goes 1 (at b v.locals) (values (under kept) (put given (listed is End))) →
      (w : View) → w.base ≡ b → w.entries ≡ v.entries → w.stack ≡ kept ++ given → w.locals ≡ v.locals → w.code ≡ is → Charged c v w
  gone b kept taken given before stands e w eb ee est el ec =
      subst (λ (x : View). Charged c v x) (sym (view_is w b v.entries (kept ++ given) v.locals is eb ee est el ec)) (record {
        middle = _;
        reduces = local c v.base b v.entries v.stack (kept ++ given) v.locals v.locals 1 (listed v.code End) (listed is End) (take_push v.entries kept given stands ∙ sym (ap (take (height v.entries)) before ∙ take_push v.entries kept taken stands))
            (e ∙ ap (Goes 1 (at b v.locals)) (values_onto (drop (height v.entries) kept) [] (put given (listed is End)) ∙ sym (put-append (drop (height v.entries) kept) given (listed is End)) ∙ ap (λ vs. put vs (listed is End)) (sym (drop_push v.entries kept given stands))));
        frees = none _;
        ordered = record { stands = Stands_push v.entries kept given stands; each = ordered.each };
      })

  fallen : (t : TrapCode) → within v.stack ≡ Traps 1 t → (w : View) → w.base ≡ v.base → w.entries ≡ v.entries → w.locals ≡ v.locals → ChargedTrap c v t w
  fallen t e w eb ee el = record {
    reduces = subst (λ (x : State). Reduces c (config v) 1 (Trap x t)) (sym (ap (λ b. at b (outermost w.entries w.locals)) eb ∙ ap (λ es. at v.base (outermost es w.locals)) ee ∙ ap (λ ls. at v.base (outermost v.entries ls)) el))
        (local_trap c v.base v.entries v.stack v.locals 1 (listed v.code End) t e);
  }

  -- ---- load

  module _ (o : LoadOp) (align offset : ℕ) (here : v.code ≡ record { ordinal = n; instr = Plain (Load o align offset) } ∷ is) where
    abbrev load_goes : ℕ → List Value → Next
    load_goes k vs = loaded 1 s (load_type o) (load_width o) (extended o) (k + offset) vs (listed is End)

    load_asks : (stack : List Value) → within stack ≡ with_number I32 (under stack) load_goes
    unfolding reduce execute execute_plain
    load_asks stack = ap (λ js. reduce c (frames v.entries 0) s (under stack) (listed js End)) here

    pub load_place : (height v.entries + 1 ≤ length v.stack) × HasOne I32 v.stack
    load_place = choice_there c v safe ordered n is load_goes load_asks

    load_is : (kept : List Value) (a : Value) → v.stack ≡ kept ++ a ∷ [] → within v.stack ≡ load_goes (bits_of a) (under kept)
    load_is kept a before =
        let fits = popped v ordered load_place kept a before in
        load_asks v.stack ∙ ap (λ xs. with_number I32 (under xs) load_goes) before ∙ ap (λ vs. with_number I32 vs load_goes) (onto_top v.entries kept (a ∷ []) fits.1) ∙ number_is I32 a (under kept) load_goes fits.0

    pub load_charged : (stack : List Value) → IsLoaded o offset v.base.memory v.stack stack → (w : View) → w.base ≡ v.base → w.entries ≡ v.entries → w.stack ≡ stack → w.locals ≡ v.locals → w.code ≡ is → Charged c v w
    load_charged stack d w eb ee est el ec =
        let fits = popped v ordered load_place d.kept d.address d.before in
        gone v.base d.kept (d.address ∷ []) (value_of (load_type o) (extended o d.number) ∷ []) d.before fits.1
        (load_is d.kept d.address d.before ∙ loaded_ok s (load_type o) (load_width o) (extended o) (bits_of d.address + offset) (under d.kept) (listed is End) d.number d.there) w eb ee (est ∙ d.after) el ec

    pub load_fell : (t : TrapCode) → IsNotLoaded o offset v.base.memory v.stack t → (w : View) → w.base ≡ v.base → w.entries ≡ v.entries → w.locals ≡ v.locals → ChargedTrap c v t w
    load_fell t d w = fallen t (load_is d.kept d.address d.before ∙ loaded_err s (load_type o) (load_width o) (extended o) (bits_of d.address + offset) (under d.kept) (listed is End) t d.out) w

    pub load_led : (a : After) (stack : List Value) → DidLoad o offset v.base.memory v.stack a stack → (w : View) → w.base ≡ v.base → w.entries ≡ v.entries → w.stack ≡ stack → w.locals ≡ v.locals → w.code ≡ is → ViewLeadsTo c v a w
    load_led after.Ran stack d w eb ee est el ec = load_charged stack d w eb ee est el ec
    load_led (after.Fell t) stack d w eb ee est el ec = load_fell t d w eb ee el
    load_led (after.Calls f) stack d w eb ee est el ec = absurd d

  -- ---- store

  module _ (o : StoreOp) (align offset : ℕ) (here : v.code ≡ record { ordinal = n; instr = Plain (Store o align offset) } ∷ is) where
    abbrev store_goes : ℕ → ℕ → List Value → Next
    store_goes x a vs = stored 1 s (store_width o) (a + offset) x vs (listed is End)

    store_asks : (stack : List Value) → within stack ≡ with_number (store_type o) (under stack) (λ x ws. with_number I32 ws (λ a us. store_goes x a us))
    unfolding reduce execute execute_plain
    store_asks stack = ap (λ js. reduce c (frames v.entries 0) s (under stack) (listed js End)) here

    pub store_place : (height v.entries + 2 ≤ length v.stack) × HasPlace o v.stack
    store_place =
        let top : TookNumber (store_type o) (under v.stack) (λ x ws. with_number I32 ws (λ a us. store_goes x a us)) =
        number_taken (store_type o) (under v.stack) _ (λ h. fine_at c v.base v.entries v.stack v.locals (listed v.code End) safe.fine.not_stuck (store_asks v.stack ∙ h)) in
        let low : TookNumber I32 top.below (λ a us. store_goes (bits_of top.value) a us) = number_taken I32 top.below _ top.more in
        let both : under v.stack ≡ top.value ∷ low.value ∷ low.below = top.is ∙ ap (λ ws. top.value ∷ ws) low.is in (
          above v.entries v.stack 2 ordered.stands (omega (arith, ap length both)),
          record {
            kept = take (height v.entries) v.stack ++ onto low.below [];
            address = low.value;
            value = top.value;
            before = found_top (height v.entries) v.stack (low.value ∷ top.value ∷ []) low.below both;
            address_type = low.typed;
            value_type = top.typed;
          },
        )

    module _ (kept : List Value) (a x : Value) (before : v.stack ≡ kept ++ a ∷ x ∷ []) where
      store_stands : Stands v.entries (length kept)
      store_stands = Stands_at v.entries (length v.stack) (length kept) (omega (arith, store_place.0, ap length before, length-append kept (a ∷ x ∷ []))) ordered.stands

      store_is : within v.stack ≡ store_goes (bits_of x) (bits_of a) (under kept)
      store_is =
          let p = store_place.1 in
          let same = last_two kept p.kept a x p.address p.value (sym before ∙ p.before) in
          store_asks v.stack ∙ ap (λ xs. with_number (store_type o) (under xs) (λ x ws. with_number I32 ws (λ a us. store_goes x a us))) before
          ∙ ap (λ vs. with_number (store_type o) vs (λ x ws. with_number I32 ws (λ a us. store_goes x a us))) (onto_top v.entries kept (a ∷ x ∷ []) store_stands)
          ∙ number_is (store_type o) x (a ∷ under kept) (λ x ws. with_number I32 ws (λ a us. store_goes x a us)) (ap type_of same.1 ∙ p.value_type)
          ∙ number_is I32 a (under kept) (λ a us. store_goes (bits_of x) a us) (ap type_of same.0 ∙ p.address_type)

    pub store_charged : (kept : List Value) (a x : Value) → v.stack ≡ kept ++ a ∷ x ∷ [] → bits_of a + offset + store_width o ≤ length v.base.memory → (w : View) →
        w.base ≡ record v.base { memory = written (bits_of a + offset) (bytes_of_number (store_width o) (bits_of x)) v.base.memory } → w.entries ≡ v.entries → w.stack ≡ kept → w.locals ≡ v.locals → w.code ≡ is → Charged c v w
    store_charged kept a x before le w eb ee est el ec =
        gone (record v.base { memory = written (bits_of a + offset) (bytes_of_number (store_width o) (bits_of x)) v.base.memory }) kept (a ∷ x ∷ []) [] before (store_stands kept a x before)
        (store_is kept a x before ∙ stored_ok s (store_width o) (bits_of a + offset) (bits_of x) (under kept) (listed is End) le) w eb ee (est ∙ sym (append-nil kept)) el ec

    pub store_fell : (kept : List Value) (a x : Value) → v.stack ≡ kept ++ a ∷ x ∷ [] → length v.base.memory < bits_of a + offset + store_width o → (w : View) → w.base ≡ v.base → w.entries ≡ v.entries → w.locals ≡ v.locals → ChargedTrap c v MemoryOutOfBounds w
    store_fell kept a x before lt w = fallen MemoryOutOfBounds (store_is kept a x before ∙ stored_out s (store_width o) (bits_of a + offset) (bits_of x) (under kept) (listed is End) lt) w

    pub store_led : (old new : Memory) → v.base.memory ≡ old.bytes → (a : After) (stack : List Value) → DidStore o offset old new v.stack a stack → (w : View) →
        w.base ≡ record v.base { memory = new.bytes } → w.entries ≡ v.entries → w.stack ≡ stack → w.locals ≡ v.locals → w.code ≡ is → ViewLeadsTo c v a w
    store_led old new e after.Ran stack d w eb ee est el ec =
        store_charged stack d.address d.value d.before (subst (λ m. bits_of d.address + offset + store_width o ≤ length m) (sym e) d.fits) w
        (eb ∙ ap (λ (m : Memory). record v.base { memory = m.bytes }) d.after ∙ ap (λ m. record v.base { memory = written (bits_of d.address + offset) (bytes_of_number (store_width o) (bits_of d.value)) m }) (sym e)) ee est el ec
    store_led old new e (after.Fell t) stack d w eb ee est el ec =
        subst (λ t. ChargedTrap c v t w) (sym d.code)
        (store_fell d.kept d.address d.value d.before (subst (λ m. length m < bits_of d.address + offset + store_width o) (sym e) d.out) w
        (eb ∙ ap (λ (m : Memory). record v.base { memory = m.bytes }) d.same ∙ ap (λ m. record v.base { memory = m }) (sym e)) ee el)
    store_led old new e (after.Calls f) stack d w eb ee est el ec = absurd d

  -- ---- memory.size

  module _ (here : v.code ≡ record { ordinal = n; instr = Plain MemorySize } ∷ is) where
    size_is : within v.stack ≡ Goes 1 s (values (under v.stack) (Val (value_of I32 (pages v.base.memory)) (listed is End)))
    unfolding reduce execute execute_plain
    size_is = ap (λ js. reduce c (frames v.entries 0) s (under v.stack) (listed js End)) here

    pub size_charged : (w : View) → w.base ≡ v.base → w.entries ≡ v.entries → w.stack ≡ v.stack ++ value_of I32 (pages v.base.memory) ∷ [] → w.locals ≡ v.locals → w.code ≡ is → Charged c v w
    size_charged = gone v.base v.stack [] (value_of I32 (pages v.base.memory) ∷ []) (sym (append-nil v.stack)) ordered.stands size_is

  -- ---- memory.grow

  module _ (here : v.code ≡ record { ordinal = n; instr = Plain MemoryGrow } ∷ is) where
    abbrev grow_goes : ℕ → List Value → Next
    grow_goes k vs = grown c 1 s k vs (listed is End)

    grow_asks : (stack : List Value) → within stack ≡ with_number I32 (under stack) grow_goes
    unfolding reduce execute execute_plain
    grow_asks stack = ap (λ js. reduce c (frames v.entries 0) s (under stack) (listed js End)) here

    pub grow_place : (height v.entries + 1 ≤ length v.stack) × HasOne I32 v.stack
    grow_place = choice_there c v safe ordered n is grow_goes grow_asks

    grow_is : (kept : List Value) (a : Value) → v.stack ≡ kept ++ a ∷ [] → within v.stack ≡ grow_goes (bits_of a) (under kept)
    grow_is kept a before =
        let fits = popped v ordered grow_place kept a before in
        grow_asks v.stack ∙ ap (λ xs. with_number I32 (under xs) grow_goes) before ∙ ap (λ vs. with_number I32 vs grow_goes) (onto_top v.entries kept (a ∷ []) fits.1) ∙ number_is I32 a (under kept) grow_goes fits.0

    pub grow_charged : (old new : Memory) → v.base.memory ≡ old.bytes → old.max ≡ most_pages c.version c.deployed.tree.memories → (stack : List Value) → DidGrow old new v.stack stack → (w : View) →
        w.base ≡ record v.base { memory = new.bytes } → w.entries ≡ v.entries → w.stack ≡ stack → w.locals ≡ v.locals → w.code ≡ is → Charged c v w
    grow_charged old new e most stack (grows d) w eb ee est el ec =
        let le : pages v.base.memory + bits_of d.delta ≤ most_pages c.version c.deployed.tree.memories = subst (λ m. pages v.base.memory + bits_of d.delta ≤ m) most (subst (λ m. pages m + bits_of d.delta ≤ old.max) (sym e) d.fits) in
        gone (record v.base { memory = v.base.memory ++ replicate (page_size * bits_of d.delta) 0 }) d.kept (d.delta ∷ []) (value_of I32 (pages v.base.memory) ∷ []) d.before (popped v ordered grow_place d.kept d.delta d.before).1
        (grow_is d.kept d.delta d.before ∙ grown_ok c s (bits_of d.delta) (under d.kept) (listed is End) le) w
        (eb ∙ ap (λ m. record v.base { memory = m }) (d.grown ∙ ap (λ m. m ++ replicate (page_size * bits_of d.delta) 0) (sym e))) ee (est ∙ d.result ∙ ap (λ m. d.kept ++ value_of I32 (pages m) ∷ []) (sym e)) el ec
    grow_charged old new e most stack (stays d) w eb ee est el ec =
        let lt : most_pages c.version c.deployed.tree.memories < pages v.base.memory + bits_of d.delta = subst (λ m. m < pages v.base.memory + bits_of d.delta) most (subst (λ m. old.max < pages m + bits_of d.delta) (sym e) d.past) in
        gone v.base d.kept (d.delta ∷ []) (value_of I32 (2 ^ 32 - 1) ∷ []) d.before (popped v ordered grow_place d.kept d.delta d.before).1
        (grow_is d.kept d.delta d.before ∙ grown_not c s (bits_of d.delta) (under d.kept) (listed is End) lt) w
        (eb ∙ ap (λ m. record v.base { memory = m }) (d.same ∙ sym e)) ee (est ∙ d.result) el ec
