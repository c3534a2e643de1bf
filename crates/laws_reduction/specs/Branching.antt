-- A branch to a label, or a return from a call.
use Rattle.std.proofs.Common.{◌≡◌, ℕ, zero, suc, ◌+◌, ◌-◌, ◌≤◌, Bool, true, false, nat_le, List, [], ◌∷◌, ◌++◌, length, take, drop, refl, sym, ap, ◌∙◌, subst, arith, length-append}
use Rattle.std.specs.Prelude.{if◌then◌else◌}
use Rattle.std.proofs.lemmas.Bool.{leb-true, le-leb}
use Rattle.std.proofs.lemmas.List.{length-take, length-drop, take-append-drop, take-append-le, drop-append-le}
use Rattle.std.proofs.Math.Seq.{take-append_seam, drop-append-add}
use Rattle.wtypes.specs.declared.Value.{Value}
use Rattle.laws_reduction.specs.Meaning.{Item, Scope, Block, Loop, Frame, Open, View, config, state, listed, put, outer, behind, continuation, height, around, whole, frames, deeper, outermost, at, Stands, EachBegins, Begins, IsOrdered}
use Rattle.laws_reduction.specs.Branches.{in_call, from_call, IsTarget, IsJump}
use Rattle.laws_reduction.specs.Plain.{onto}
use Rattle.laws_reduction.specs.Context.{values_onto, lift, lift_goes, lift_stuck, through, reduce_put}
use Rattle.laws_reduction.specs.Charging.{mk, next_whole, height-le, Stands-le, length-onto, onto-append, local, put-append}
use Rattle.laws_reduction.specs.Finding.{onto_is}
use Rattle.laws_reduction.specs.Leaving.{take_take}
use Rattle.spec_execution.specs.Configuration.{Contract, Seq, End, State, Config, Running, code, values}
use Rattle.spec_execution.specs.Configuration as c
use Rattle.spec_execution.specs.Reduction.{Next, Goes, Branches, Returns, Stuck, reduce, with_values, in_frame}
use Rattle.spec_execution.specs.Run.{Reduces, goes, IsStuck, next}
use Rattle.spec_execution.specs.Turns.{Frees, none, one_more}

-- what a branch or a return comes to, through the labels inside it
record Climbed (s : State) (es : List Open) (stack locals : List Value) (target : List Open) (before after : Next) : Type 0 where
  entry : Open
  outside : List Open
  there : target ≡ entry ∷ outside
  stands : Stands (entry ∷ outside) (length stack)
  each : EachBegins (entry ∷ outside)
  lower : entry.height ≤ height es
  same : lift s es (take (height es) stack) locals before ≡ lift s (entry ∷ outside) (take entry.height stack) locals after
  same_locals : outermost es locals ≡ outermost (entry ∷ outside) locals
  same_frames : frames es 0 ≡ frames (entry ∷ outside) 0

-- one label further out
climb_out : (s : State) (e : Open) (es : List Open) (stack locals : List Value) (target : List Open) (before between after : Next) → Stands (e ∷ es) (length stack) →
    outer e.scope locals ≡ locals → deeper e.scope (frames es 0) ≡ frames es 0 → through s e.scope e.ordinal e.arity e.from locals (drop (height es) (take e.height stack)) before ≡ between →
    (IsStuck (lift s (e ∷ es) (take e.height stack) locals before) → ⊥) → ((IsStuck (lift s es (take (height es) stack) locals between) → ⊥) → Climbed s es stack locals target between after) → Climbed s (e ∷ es) stack locals target before after
climb_out s e es stack locals target before between after h eo ed et f rec =
    let same : lift s (e ∷ es) (take e.height stack) locals before ≡ lift s es (take (height es) stack) locals between =
    ap (lift s es (take (height es) (take e.height stack)) (outer e.scope locals)) et
    ∙ ap (λ b. lift s es b (outer e.scope locals) between) (take_take (height es) e.height stack (height-le es _ h.1) h.0)
    ∙ ap (λ o. lift s es (take (height es) stack) o between) eo in
    let up : Climbed s es stack locals target between after = rec (λ x. f (subst IsStuck (sym same) x)) in
    let le : height es ≤ e.height = height-le es _ h.1 in
    let lower : up.entry.height ≤ height es = up.lower in
    record {
      entry = up.entry;
      outside = up.outside;
      there = up.there;
      stands = up.stands;
      each = up.each;
      lower = omega arith;
      same = same ∙ up.same;
      same_locals = ap (outermost es) eo ∙ up.same_locals;
      same_frames = ed ∙ up.same_frames;
    }

climb : (l : ℕ) (s : State) (es : List Open) (stack locals vs : List Value) (charge : ℕ) → Stands es (length stack) → EachBegins es →
    (IsStuck (lift s es (take (height es) stack) locals (Branches charge l vs)) → ⊥) → Climbed s es stack locals (drop l es) (Branches charge l vs) (Branches charge 0 vs)
climb zero s [] stack locals vs charge h r f = absurd (f tt)
climb zero s (e ∷ es) stack locals vs charge h r f = record { entry = e; outside = es; there = refl; stands = h; each = r; lower = omega arith; same = refl; same_locals = refl; same_frames = refl }
climb (suc l) s [] stack locals vs charge h r f = absurd (f tt)
climb (suc l) s (e ∷ es) stack locals vs charge h r f = by_scope (λ g. climb l s es stack locals vs charge (Stands-le es _ _ h.0 h.1) r.1 g) e.scope refl
  where
    by_scope : ((IsStuck (lift s es (take (height es) stack) locals (Branches charge l vs)) → ⊥) → Climbed s es stack locals (drop l es) (Branches charge l vs) (Branches charge 0 vs)) →
        (k : Scope) → e.scope ≡ k → Climbed s (e ∷ es) stack locals (drop l es) (Branches charge (suc l) vs) (Branches charge 0 vs)
    by_scope rec Block ek =
        climb_out s e es stack locals (drop l es) _ (Branches charge l vs) _ h (ap (λ k. outer k locals) ek) (ap (λ k. deeper k (frames es 0)) ek)
        (ap (λ k. through s k e.ordinal e.arity e.from locals (drop (height es) (take e.height stack)) (Branches charge (suc l) vs)) ek) f rec
    by_scope rec Loop ek =
        climb_out s e es stack locals (drop l es) _ (Branches charge l vs) _ h (ap (λ k. outer k locals) ek) (ap (λ k. deeper k (frames es 0)) ek)
        (ap (λ k. through s k e.ordinal e.arity e.from locals (drop (height es) (take e.height stack)) (Branches charge (suc l) vs)) ek) f rec
    by_scope rec (Frame func saved) ek =
        absurd (f (subst IsStuck (sym (ap (λ k. lift s es (take (height es) (take e.height stack)) (outer k locals) (through s k e.ordinal e.arity e.from locals (drop (height es) (take e.height stack)) (Branches charge (suc l) vs))) ek
        ∙ lift_stuck s es (take (height es) (take e.height stack)) saved)) tt))

climb_call : (s : State) (es : List Open) (stack locals vs : List Value) (charge : ℕ) → Stands es (length stack) → EachBegins es →
    (IsStuck (lift s es (take (height es) stack) locals (Returns charge vs)) → ⊥) → Climbed s es stack locals (in_call es) (Returns charge vs) (Returns charge vs)
climb_call s [] stack locals vs charge h r f = absurd (f tt)
climb_call s (e ∷ es) stack locals vs charge h r f = by_scope (λ g. climb_call s es stack locals vs charge (Stands-le es _ _ h.0 h.1) r.1 g) e.scope refl
  where
    by_scope : ((IsStuck (lift s es (take (height es) stack) locals (Returns charge vs)) → ⊥) → Climbed s es stack locals (in_call es) (Returns charge vs) (Returns charge vs)) →
        (k : Scope) → e.scope ≡ k → Climbed s (e ∷ es) stack locals (from_call e.scope e es (in_call es)) (Returns charge vs) (Returns charge vs)
    by_scope rec Block ek =
        subst (λ (t : List Open). Climbed s (e ∷ es) stack locals t (Returns charge vs) (Returns charge vs)) (ap (λ k. from_call k e es (in_call es)) (sym ek))
        (climb_out s e es stack locals (in_call es) _ (Returns charge vs) _ h (ap (λ k. outer k locals) ek) (ap (λ k. deeper k (frames es 0)) ek)
        (ap (λ k. through s k e.ordinal e.arity e.from locals (drop (height es) (take e.height stack)) (Returns charge vs)) ek) f rec)
    by_scope rec Loop ek =
        subst (λ (t : List Open). Climbed s (e ∷ es) stack locals t (Returns charge vs) (Returns charge vs)) (ap (λ k. from_call k e es (in_call es)) (sym ek))
        (climb_out s e es stack locals (in_call es) _ (Returns charge vs) _ h (ap (λ k. outer k locals) ek) (ap (λ k. deeper k (frames es 0)) ek)
        (ap (λ k. through s k e.ordinal e.arity e.from locals (drop (height es) (take e.height stack)) (Returns charge vs)) ek) f rec)
    by_scope rec (Frame func saved) ek =
        subst (λ (t : List Open). Climbed s (e ∷ es) stack locals t (Returns charge vs) (Returns charge vs)) (ap (λ k. from_call k e es (in_call es)) (sym ek))
        (record { entry = e; outside = es; there = refl; stands = h; each = r; lower = omega arith; same = refl; same_locals = refl; same_frames = refl })

-- what is gone out to is a call
call_scope : (es : List Open) (e : Open) (outside : List Open) → in_call es ≡ e ∷ outside → (f : ℕ) × (saved : List Value) × (e.scope ≡ Frame f saved)
call_scope [] e outside h = absurd (cc)
call_scope (x ∷ es) e outside h = by_scope x.scope refl (call_scope es e outside)
  where
    by_scope : (k : Scope) → x.scope ≡ k → (in_call es ≡ e ∷ outside → (f : ℕ) × (saved : List Value) × (e.scope ≡ Frame f saved)) → (f : ℕ) × (saved : List Value) × (e.scope ≡ Frame f saved)
    by_scope Block ek rec = rec (sym (ap (λ k. from_call k x es (in_call es)) ek) ∙ h)
    by_scope Loop ek rec = rec (sym (ap (λ k. from_call k x es (in_call es)) ek) ∙ h)
    by_scope (Frame f saved) ek rec =
        let both : x ∷ es ≡ e ∷ outside = sym (ap (λ k. from_call k x es (in_call es)) ek) ∙ h in
        let same : e ≡ x = cc in
        (f, saved, ap (λ (o : Open). o.scope) same ∙ ek)

-- the topmost values of a list
take_onto : (n : ℕ) (xs : List Value) → n ≤ length xs → take n (onto xs []) ≡ onto (drop (length xs - n) xs) []
take_onto n xs le =
    let m = length xs - n in
    let long : length (onto (drop m xs) []) ≡ n = length-onto (drop m xs) [] ∙ (omega (arith, length-drop m xs)) in
    ap (λ ys. take n (onto ys [])) (sym (take-append-drop m xs)) ∙ ap (take n) (onto-append (take m xs) (drop m xs) [] ∙ onto_is (drop m xs) (onto (take m xs) []))
    ∙ ap (λ k. take k (onto (drop m xs) [] ++ onto (take m xs) [])) (sym long) ∙ take-append_seam (onto (drop m xs) []) (onto (take m xs) [])

-- a list's last values are those of what is left of it from some place on
drop_last : (n m : ℕ) (xs : List Value) → n + m ≤ length xs → drop (length (drop n xs) - m) (drop n xs) ≡ drop (length xs - m) xs
drop_last n m xs le =
    let k = length (drop n xs) - m in
    let e : length (take n xs) + k ≡ length xs - m = omega (arith, length-take n xs, length-drop n xs) in
    sym (drop-append-add (take n xs) (drop n xs) k) ∙ ap (drop (length (take n xs) + k)) (take-append-drop n xs) ∙ ap (λ j. drop j xs) e

-- values above a height
pub whole_push : (es : List Open) (kept more locals : List Value) (x : Seq) → height es ≤ length kept → whole es (kept ++ more) locals x ≡ whole es kept locals (put more x)
whole_push es kept more locals x le =
    ap (λ b. around es b locals (put (drop (height es) (kept ++ more)) x)) (take-append-le (height es) kept more le)
    ∙ ap (λ vs. around es (take (height es) kept) locals (put vs x)) (drop-append-le (height es) kept more le)
    ∙ ap (around es (take (height es) kept) locals) (put-append (drop (height es) kept) more x)

-- enough values, or stuck
enough : (F : Next → Next) (vs : List Value) (a : ℕ) (go : List Value → List Value → Next) → F Stuck ≡ Stuck → (IsStuck (F (with_values a vs go)) → ⊥) → a ≤ length vs
enough F vs a go stops f = by_test (nat_le a (length vs)) refl
  where
    by_test : (b : Bool) → nat_le a (length vs) ≡ b → a ≤ length vs
    by_test true b = leb-true _ _ b
    by_test false b = absurd (f (subst IsStuck (sym (ap (λ c. F (if c then go (take a vs) (drop a vs) else Stuck)) b ∙ stops)) tt))

with_top : (a : ℕ) (xs : List Value) (go : List Value → List Value → Next) → a ≤ length xs → with_values a (onto xs []) go ≡ go (onto (drop (length xs - a) xs) []) (drop a (onto xs []))
with_top a xs go le =
    ap (λ b. if b then go (take a (onto xs [])) (drop a (onto xs [])) else Stuck) (le-leb a (length (onto xs [])) (omega (arith, length-onto xs [])))
    ∙ ap (λ ys. go ys (drop a (onto xs []))) (take_onto a xs le)

-- the code that a label goes on with: its continuation, and what comes behind it
label_code : (k : Scope) (o : ℕ) (is : List Item) → Begins k o is → code o (continuation k is) (listed (behind k is) End) ≡ listed is End
label_code Block o is h = refl
label_code Loop o [] h = refl
label_code Loop o (i ∷ is) h = ap (λ n. c.Code n i.instr (listed is End)) h
label_code (Frame f saved) o is h = refl

-- where a branch or a return lands
pub record Lands (k : Contract) (a : Config) (charge : ℕ) (w : Config) : Type 0 where
  pub between : Config
  pub reduces : Reduces k a charge between
  pub frees : Frees k between w

-- the configuration that a jump to an entry comes to
abbrev landed : State → Scope → List Item → List Open → List Value → List Value → Config
landed b k is es stack locals = Running (at b (outermost es (outer k locals))) (whole es stack (outer k locals) (listed is End))

frame_leaves : (d : Contract) (b : State) (n f a : ℕ) (saved locals vs zs : List Value) (after : Seq) →
    reduce d n (at b saved) (onto vs []) (c.Frame f a locals (put zs End) after) ≡ Goes 0 (at b saved) (put (vs ++ zs) after)
unfolding reduce
frame_leaves d b n f a saved locals vs zs after =
    ap (in_frame (at b saved) f a locals (onto vs []) after) (reduce_put d (n + 1) (at b locals) zs [] End)
    ∙ ap (Goes 0 (at b saved)) (values_onto vs [] _ ∙ ap (put vs) (values_onto zs [] _) ∙ sym (put-append vs zs after))

module _ (d : Contract) (b : State) (a : ℕ) (es : List Open) (low xs : List Value) (charge : ℕ) (le : height es ≤ length low) where
  abbrev vs : List Value
  vs = drop (height es) low

  abbrev zs : List Value
  zs = drop (length xs - a) xs

  -- a branch to a block or a loop, behind which this is left
  land_label : (locals : List Value) (is : List Item) (behind_it : Seq) → behind_it ≡ listed is End → (x : State) (seq : Seq) → (IsStuck (next d x seq) → ⊥) →
      next d x seq ≡ lift b es (take (height es) low) locals (with_values a (onto xs []) (λ top below. Goes charge (at b locals) (values (onto vs []) (values top behind_it)))) →
      (a ≤ length xs) × Lands d (Running x seq) charge (Running (at b (outermost es locals)) (whole es (low ++ zs) locals (listed is End)))
  land_label locals is behind_it same x seq fine e =
      let go : List Value → List Value → Next = λ top below. Goes charge (at b locals) (values (onto vs []) (values top behind_it)) in
      let fits = enough (lift b es (take (height es) low) locals) (onto xs []) a go (lift_stuck b es (take (height es) low) locals) (λ h. fine (subst IsStuck (sym e) h)) in
      let fits' : a ≤ length xs = omega (arith, fits, length-onto xs []) in (
        fits',
        record {
          between = Running (at b (outermost es locals)) (whole es (low ++ zs) locals (listed is End));
          reduces = goes _ _ _ _ _ (e
              ∙ ap (lift b es (take (height es) low) locals) (with_top a xs go fits' ∙ ap (Goes charge (at b locals)) (values_onto vs [] _ ∙ ap (put vs) (values_onto zs [] _ ∙ ap (put zs) same)))
              ∙ lift_goes b es (take (height es) low) locals charge (at b locals) _
              ∙ ap (Goes charge (at b (outermost es locals))) (sym (whole_push es low zs locals (listed is End) le)));
          frees = none _;
        },
      )

  -- a branch to the label of a call's body, which ends the call
  land_frame : (f : ℕ) (saved locals : List Value) (after : Seq) (x : State) (seq : Seq) → (IsStuck (next d x seq) → ⊥) →
      next d x seq ≡ lift b es (take (height es) low) saved (in_frame (at b saved) f a locals (onto vs []) after (with_values a (onto xs []) (λ top below. Goes charge (at b locals) (values top End)))) →
      (a ≤ length xs) × Lands d (Running x seq) charge (Running (at b (outermost es saved)) (whole es (low ++ zs) saved after))
  land_frame f saved locals after x seq fine e =
      let go : List Value → List Value → Next = λ top below. Goes charge (at b locals) (values top End) in
      let F : Next → Next = λ step. lift b es (take (height es) low) saved (in_frame (at b saved) f a locals (onto vs []) after step) in
      let fits = enough F (onto xs []) a go (lift_stuck b es (take (height es) low) saved) (λ h. fine (subst IsStuck (sym e) h)) in
      let fits' : a ≤ length xs = omega (arith, fits, length-onto xs []) in (
        fits',
        record {
          between = Running (at b (outermost es saved)) (whole es low saved (c.Frame f a locals (put zs End) after));
          reduces = goes _ _ _ _ _ (e ∙ ap F (with_top a xs go fits')
              ∙ ap (λ y. lift b es (take (height es) low) saved (Goes charge (at b saved) y)) (values_onto vs [] _ ∙ ap (λ y. put vs (c.Frame f a locals y after)) (values_onto zs [] End))
              ∙ lift_goes b es (take (height es) low) saved charge (at b saved) _);
          frees = one_more _ _ _ (local d b b es low (low ++ zs) saved saved 0 _ _ (take-append-le (height es) low zs le)
              (frame_leaves d b (frames es 0) f a saved locals vs zs after ∙ ap (λ ys. Goes 0 (at b saved) (put ys after)) (sym (drop-append-le (height es) low zs le)))) (none _);
        },
      )

  -- a return
  land_return : (saved : List Value) (after : Seq) (x : State) (seq : Seq) → (IsStuck (next d x seq) → ⊥) →
      next d x seq ≡ lift b es (take (height es) low) saved (with_values a (onto xs []) (λ top below. Goes charge (at b saved) (values (onto vs []) (values top after)))) →
      (a ≤ length xs) × Lands d (Running x seq) charge (Running (at b (outermost es saved)) (whole es (low ++ zs) saved after))
  land_return saved after x seq fine e =
      let go : List Value → List Value → Next = λ top below. Goes charge (at b saved) (values (onto vs []) (values top after)) in
      let fits = enough (lift b es (take (height es) low) saved) (onto xs []) a go (lift_stuck b es (take (height es) low) saved) (λ h. fine (subst IsStuck (sym e) h)) in
      let fits' : a ≤ length xs = omega (arith, fits, length-onto xs []) in (
        fits',
        record {
          between = Running (at b (outermost es saved)) (whole es (low ++ zs) saved after);
          reduces = goes _ _ _ _ _ (e
              ∙ ap (lift b es (take (height es) low) saved) (with_top a xs go fits' ∙ ap (Goes charge (at b saved)) (values_onto vs [] _ ∙ ap (put vs) (values_onto zs [] _)))
              ∙ lift_goes b es (take (height es) low) saved charge (at b saved) _
              ∙ ap (Goes charge (at b (outermost es saved))) (sym (whole_push es low zs saved after le)));
          frees = none _;
        },
      )

land : (d : Contract) (b x : State) (seq : Seq) (k : Scope) (o a : ℕ) (is : List Item) (es : List Open) (low locals xs : List Value) (charge : ℕ) → height es ≤ length low → Begins k o is → (IsStuck (next d x seq) → ⊥) →
    next d x seq ≡ lift b es (take (height es) low) (outer k locals) (through b k o a is locals (drop (height es) low) (Branches charge 0 (onto xs []))) →
    (a ≤ length xs) × Lands d (Running x seq) charge (landed b k is es (low ++ drop (length xs - a) xs) locals)
land d b x seq Block o a is es low locals xs charge le begins fine e = land_label d b a es low xs charge le locals is _ (label_code Block o is begins) x seq fine e
land d b x seq Loop o a is es low locals xs charge le begins fine e = land_label d b a es low xs charge le locals is _ (label_code Loop o is begins) x seq fine e
land d b x seq (Frame f saved) o a is es low locals xs charge le begins fine e = land_frame d b a es low xs charge le f saved locals (listed is End) x seq fine e

-- what was landed at is the configuration of a jump
module _ (v : View) (stands : Stands v.entries (length v.stack)) (e : Open) (outside : List Open) (lower : e.height ≤ height v.entries) (entry_stands : Stands (e ∷ outside) (length v.stack)) (each : EachBegins (e ∷ outside)) where
  abbrev above_it : List Value
  above_it = drop (height v.entries) v.stack

  abbrev low : List Value
  low = take e.height v.stack

  abbrev after_it : List Value
  after_it = low ++ drop (length above_it - e.arity) above_it

  pub low_fits : height outside ≤ length low
  low_fits = let h = entry_stands.0 in omega (arith, length-take e.height v.stack, height-le outside _ entry_stands.1)

  module _ (fits : e.arity ≤ length above_it) where
    pub stack_fits : e.height + e.arity ≤ length v.stack
    stack_fits = omega (arith, fits, lower, length-drop (height v.entries) v.stack, height-le v.entries _ stands)

    module _ (target : List Open) (there : target ≡ e ∷ outside) (w : View) (j : IsJump v target w) where
      abbrev both : j.entry ∷ w.entries ≡ e ∷ outside
      both = sym j.there ∙ there

      same_entry : j.entry ≡ e
      same_entry = let h : j.entry ∷ w.entries ≡ e ∷ outside = both in cc

      same_outside : w.entries ≡ outside
      same_outside = let h : j.entry ∷ w.entries ≡ e ∷ outside = both in cc

      stack_is : w.stack ≡ after_it
      stack_is =
          j.stack ∙ ap (λ (e : Open). take e.height v.stack ++ drop (length v.stack - e.arity) v.stack) same_entry
          ∙ ap (λ ys. low ++ ys) (sym (drop_last (height v.entries) e.arity v.stack (omega (arith, fits, length-drop (height v.entries) v.stack, height-le v.entries _ stands))))

      locals_are : w.locals ≡ outer e.scope v.locals
      locals_are = j.locals ∙ ap (λ (e : Open). outer e.scope v.locals) same_entry

      code_is : w.code ≡ e.from
      code_is = j.code ∙ ap (λ (e : Open). e.from) same_entry

      pub config_is : config w ≡ landed v.base e.scope e.from outside after_it v.locals
      config_is =
          ap (λ b. config (record w { base = b })) j.base
          ∙ ap (λ es. config (record w { base = v.base; entries = es })) same_outside
          ∙ ap (λ vs. config (record w { base = v.base; entries = outside; stack = vs })) stack_is
          ∙ ap (λ ls. config (mk v.base outside after_it ls w.code)) locals_are
          ∙ ap (λ is. config (mk v.base outside after_it (outer e.scope v.locals) is)) code_is

      pub jump_ordered : IsOrdered w
      jump_ordered = record {
        stands = subst (λ (es : List Open). Stands es (length w.stack)) (sym same_outside)
            (Stands-le outside e.height _ (let h = entry_stands.0 in omega (arith, ap length stack_is, length-append low (drop (length above_it - e.arity) above_it), length-take e.height v.stack)) entry_stands.1);
        each = subst EachBegins (sym same_outside) each.1;
      }

-- a branch is to come in the innermost sequence
module _ (d : Contract) (v : View) (charge l : ℕ) (x : Seq) (ordered : IsOrdered v) (fine : IsStuck (next d (state v) (whole v.entries v.stack v.locals x)) → ⊥)
    (branches : reduce d (frames v.entries 0) (at v.base v.locals) (onto (drop (height v.entries) v.stack) []) x ≡ Branches charge l (onto (drop (height v.entries) v.stack) [])) where
  abbrev values_above : List Value
  values_above = drop (height v.entries) v.stack

  step : next d (state v) (whole v.entries v.stack v.locals x) ≡ lift v.base v.entries (take (height v.entries) v.stack) v.locals (Branches charge l (onto values_above []))
  step = next_whole d v.base v.entries v.stack v.locals x ∙ ap (lift v.base v.entries (take (height v.entries) v.stack) v.locals) branches

  up : Climbed v.base v.entries v.stack v.locals (drop l v.entries) (Branches charge l (onto values_above [])) (Branches charge 0 (onto values_above []))
  up = climb l v.base v.entries v.stack v.locals (onto values_above []) charge ordered.stands ordered.each (λ h. fine (subst IsStuck (sym step) h))

  abbrev low_of : List Value
  low_of = take up.entry.height v.stack

  landing : (up.entry.arity ≤ length values_above) × Lands d (Running (state v) (whole v.entries v.stack v.locals x)) charge (landed v.base up.entry.scope up.entry.from up.outside (low_of ++ drop (length values_above - up.entry.arity) values_above) v.locals)
  landing = land d v.base _ _ up.entry.scope up.entry.ordinal up.entry.arity up.entry.from up.outside low_of v.locals values_above charge (low_fits v ordered.stands up.entry up.outside up.lower up.stands up.each) up.each.0 fine (step ∙ up.same)

  pub branch_target : IsTarget v.entries v.stack (drop l v.entries)
  branch_target = record {
    entry = up.entry;
    outside = up.outside;
    there = up.there;
    enough = stack_fits v ordered.stands up.entry up.outside up.lower up.stands up.each landing.0;
    same_frames = up.same_frames ∙ ap (λ es. frames es 0) (sym up.there);
  }

  pub branch_lands : (w : View) → IsJump v (drop l v.entries) w → Lands d (Running (state v) (whole v.entries v.stack v.locals x)) charge (config w) × IsOrdered w
  branch_lands w j = (
    subst (λ (c : Config). Lands d (Running (state v) (whole v.entries v.stack v.locals x)) charge c) (sym (config_is v ordered.stands up.entry up.outside up.lower up.stands up.each landing.0 _ up.there w j)) landing.1,
    jump_ordered v ordered.stands up.entry up.outside up.lower up.stands up.each landing.0 _ up.there w j,
  )

-- a return is to come in the innermost sequence
module _ (d : Contract) (v : View) (charge : ℕ) (x : Seq) (ordered : IsOrdered v) (fine : IsStuck (next d (state v) (whole v.entries v.stack v.locals x)) → ⊥)
    (returns : reduce d (frames v.entries 0) (at v.base v.locals) (onto (drop (height v.entries) v.stack) []) x ≡ Returns charge (onto (drop (height v.entries) v.stack) [])) where
  abbrev values_there : List Value
  values_there = drop (height v.entries) v.stack

  return_step : next d (state v) (whole v.entries v.stack v.locals x) ≡ lift v.base v.entries (take (height v.entries) v.stack) v.locals (Returns charge (onto values_there []))
  return_step = next_whole d v.base v.entries v.stack v.locals x ∙ ap (lift v.base v.entries (take (height v.entries) v.stack) v.locals) returns

  out : Climbed v.base v.entries v.stack v.locals (in_call v.entries) (Returns charge (onto values_there [])) (Returns charge (onto values_there []))
  out = climb_call v.base v.entries v.stack v.locals (onto values_there []) charge ordered.stands ordered.each (λ h. fine (subst IsStuck (sym return_step) h))

  abbrev low_there : List Value
  low_there = take out.entry.height v.stack

  return_landing : (out.entry.arity ≤ length values_there) × Lands d (Running (state v) (whole v.entries v.stack v.locals x)) charge (landed v.base out.entry.scope out.entry.from out.outside (low_there ++ drop (length values_there - out.entry.arity) values_there) v.locals)
  return_landing = by_scope out.entry.scope refl (call_scope v.entries out.entry out.outside out.there)
    where
      fits : height out.outside ≤ length low_there
      fits = low_fits v ordered.stands out.entry out.outside out.lower out.stands out.each

      by_scope : (k : Scope) → out.entry.scope ≡ k → (f : ℕ) × (saved : List Value) × (out.entry.scope ≡ Frame f saved) →
          (out.entry.arity ≤ length values_there) × Lands d (Running (state v) (whole v.entries v.stack v.locals x)) charge (landed v.base out.entry.scope out.entry.from out.outside (low_there ++ drop (length values_there - out.entry.arity) values_there) v.locals)
      by_scope Block ek call = let no_block : Block ≡ Frame call.0 call.1 = sym ek ∙ call.2 in absurd (cc)
      by_scope Loop ek call = let no_loop : Loop ≡ Frame call.0 call.1 = sym ek ∙ call.2 in absurd (cc)
      by_scope (Frame f saved) ek call =
          subst (λ (k : Scope). (out.entry.arity ≤ length values_there) × Lands d (Running (state v) (whole v.entries v.stack v.locals x)) charge (landed v.base k out.entry.from out.outside (low_there ++ drop (length values_there - out.entry.arity) values_there) v.locals)) (sym ek)
          (land_return d v.base out.entry.arity out.outside low_there values_there charge fits saved (listed out.entry.from End) _ _ fine
          (return_step ∙ out.same ∙ ap (λ k. lift v.base out.outside (take (height out.outside) low_there) (outer k v.locals) (through v.base k out.entry.ordinal out.entry.arity out.entry.from v.locals (drop (height out.outside) low_there) (Returns charge (onto values_there [])))) ek))

  pub return_target : IsTarget v.entries v.stack (in_call v.entries)
  return_target = record {
    entry = out.entry;
    outside = out.outside;
    there = out.there;
    enough = stack_fits v ordered.stands out.entry out.outside out.lower out.stands out.each return_landing.0;
    same_frames = out.same_frames ∙ ap (λ es. frames es 0) (sym out.there);
  }

  pub return_lands : (w : View) → IsJump v (in_call v.entries) w → Lands d (Running (state v) (whole v.entries v.stack v.locals x)) charge (config w) × IsOrdered w
  return_lands w j = (
    subst (λ (c : Config). Lands d (Running (state v) (whole v.entries v.stack v.locals x)) charge c) (sym (config_is v ordered.stands out.entry out.outside out.lower out.stands out.each return_landing.0 _ out.there w j)) return_landing.1,
    jump_ordered v ordered.stands out.entry out.outside out.lower out.stands out.each return_landing.0 _ out.there w j,
  )
