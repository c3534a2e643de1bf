-- The entries of a closed book are gone over with the runs of their calls.
use Rattle.std.proofs.Common.{◌≡◌, ℕ, ◌+◌, ◌-◌, ◌<◌, ◌≤◌, ◌^◌, Bool, true, false, cond, List, [], ◌∷◌, ◌++◌, length, take, drop, get_or, map, refl, sym, ◌∙◌, ap, subst, append_assoc, arith}
use Rattle.std.specs.Prelude.{slice_set, ◌↔◌, IsTrue}
use Rattle.std.specs.FinMap.{empty}
use Rattle.std.proofs.lemmas.List.{append-nil, drop_more, drop_all, take_all}
use Rattle.std.proofs.lemmas.Option.{slice_get_within}
use Rattle.spec_ledger.specs.declared.Receipt.{Receipt}
use Rattle.spec_ledger.specs.Book.{CommittedCall, GetsReplies, IsDefined, after, has_returned, settled, settled_by}
use Rattle.spec_ledger.specs.Cells.{Cells}
use Rattle.spec_ledger.specs.Modes.{Modes}
use Rattle.spec_execution.specs.Configuration.{Setting}
use Rattle.spec_execution.specs.Run.{ContractCall}
use Rattle.spec_execution.specs.Levels.{RunsWith, asks_in}
use Rattle.spec_execution.specs.Exec.{Executes}
use Rattle.serial.specs.Positions.{results_of}
use Rattle.serial.proofs.Orders.{results_of-push}
use Rattle.publish.specs.declared.adopting.CallRun.{CallRun}
use Rattle.publish.specs.Publication.{Publication, limits, HasRoom, MayFollow, is_marked}
use Rattle.publish.specs.Adoption.{IsMade, AreMade, IsRunOf, MayFollowBy, ran_by}
use Rattle.publish.proofs.Keeping.{WalkState, with_parts, IsKeptWith, opened, fits, fits_used, more, kept_more, is_more, may_follow}

-- ---- how many there are

pub as_many_locks : {A : Type 0} (setting : Setting) (calls : List ContractCall) (rs : List (CallRun A)) (ms : List Modes) → AreMade setting calls rs ms → length ms ≡ length rs
as_many_locks setting calls [] [] made = refl
as_many_locks setting calls [] (m ∷ ms) made = absurd made
as_many_locks setting calls (r ∷ rs) [] made = absurd made
as_many_locks setting calls (r ∷ rs) (m ∷ ms) made = let h = as_many_locks setting calls rs ms made.1 in omega arith

pub as_many_entries : {A : Type 0} (limits : List ℕ) (fuel : ℕ) (order : List ℕ) (es : List CommittedCall) (rs : List (CallRun A)) → MayFollowBy limits fuel order es rs → length es ≡ length rs
as_many_entries limits fuel order [] [] f = refl
as_many_entries limits fuel order [] (r ∷ rs) f = absurd f
as_many_entries limits fuel order (e ∷ es) [] f = absurd f
as_many_entries limits fuel order (e ∷ es) (r ∷ rs) f = let h = as_many_entries limits fuel (order ++ e.call ∷ []) es rs f.1.1 in omega arith

-- ---- what is gone over, and what is left to go over

pub record IsWalked {A : Type 0} (p : Publication) (es : List CommittedCall) (rs : List (CallRun A)) (ms : List Modes) (b : WalkState) (es' : List CommittedCall) (rs' : List (CallRun A)) (ms' : List Modes) : Type 0 where
  pub now : Cells
  pub kept : IsKeptWith p now b
  pub defined : IsDefined now es'
  pub last : settled now es' ≡ settled p.opening es
  pub order : b.order ++ map (λ (e : CommittedCall). e.call) es' ≡ map (λ (e : CommittedCall). e.call) es
  pub ran : results_of b.receipts b.touched ++ ran_by rs' ms' ≡ ran_by rs ms
  pub made : AreMade p.setting p.calls rs' ms'
  pub follow : MayFollowBy (limits p.calls) p.fuel b.order es' rs' ↔ MayFollowBy (limits p.calls) p.fuel [] es rs

-- nothing yet
pub walked_none : {A : Type 0} (setting : Setting) (calls : List ContractCall) (opening : Cells) (fuel : ℕ) (es : List CommittedCall) (rs : List (CallRun A)) (ms : List Modes) (b : WalkState)
    → IsKeptWith (opened setting calls opening fuel) opening b → b.order ≡ [] → b.receipts ≡ [] → IsDefined opening es → AreMade setting calls rs ms
    → IsWalked (opened setting calls opening fuel) es rs ms b es rs ms
walked_none setting calls opening fuel es rs ms b kept order receipts defined made = record {
  now = opening;
  kept = kept;
  defined = defined;
  last = refl;
  order = ap (λ xs. xs ++ map (λ (e : CommittedCall). e.call) es) order;
  ran = ap (λ xs. results_of xs b.touched ++ ran_by rs ms) receipts;
  made = made;
  follow = (λ f. subst (λ o. MayFollowBy (limits calls) fuel o es rs) order f, λ f. subst (λ o. MayFollowBy (limits calls) fuel o es rs) (sym order) f);
}

-- what an entry leaves is what its run leaves
pub executed_by : {A : Type 0} (setting : Setting) (calls : List ContractCall) (e : CommittedCall) (r : CallRun A) (m : Modes) (now : Cells)
    → IsMade setting calls r m → IsRunOf e r → RunsWith r.finished.setting r.finished.call r.finished.trace r.finished.outcome r.finished.used
    → (es : List CommittedCall) → IsDefined now (e ∷ es) → Executes setting r.finished.call now (settled_by e now) (record { outcome = r.finished.outcome; used = r.finished.used; asks = asks_in r.finished.trace }) m
executed_by setting calls e r m now made is run es defined = record {
  trace = r.finished.trace;
  run = subst (λ cs. RunsWith cs r.finished.call r.finished.trace r.finished.outcome r.finished.used) made.lent run;
  asks = refl;
  replies = subst (λ t. GetsReplies t now) (sym is.trace) defined.0;
  later_is = λ k. cond (has_returned (sym is.outcome k)) (after (sym is.trace k) now) now;
  locks_are = made.locks_are;
}

-- one entry more
module _ {A : Type 0} (p : Publication) (es : List CommittedCall) (rs : List (CallRun A)) (ms : List Modes) (b : WalkState) (e : CommittedCall) (es' : List CommittedCall) (r : CallRun A) (rs' : List (CallRun A)) (m : Modes) (ms' : List Modes)
    (w : IsWalked p es rs ms b (e ∷ es') (r ∷ rs') (m ∷ ms')) where
  abbrev here : Publication
  here = record p { cells = w.now }

  pub run_is : MayFollowBy (limits p.calls) p.fuel [] es rs → IsRunOf e r
  run_is f = (w.follow.1 f).0

  pub call_follows : MayFollowBy (limits p.calls) p.fuel [] es rs → HasRoom (limits p.calls) p.fuel b.order r.call
  call_follows f = let all = w.follow.1 f in subst (HasRoom (limits p.calls) p.fuel b.order) (sym all.0.call) all.1.0

  pub known_call : r.call < length b.marks
  known_call = let at = slice_get_within p.calls r.call r.finished.call w.made.0.call_is in let size = w.kept.size in omega arith

  pub may : (limit : ℕ) → limit ≡ r.finished.call.fuel → (answer : Bool) → IsTrue answer ↔ ((is_marked b.marks r.call ≡ false) × (limit ≤ b.remaining)) → IsTrue answer ↔ MayFollow (with_parts p w.now b) r.call
  may limit limit_is answer says =
      may_follow here b r.call r.finished.call w.kept w.made.0.call_is answer (subst (λ l. IsTrue answer ↔ ((is_marked b.marks r.call ≡ false) × (l ≤ b.remaining))) limit_is says)

  pub no_room : (limit : ℕ) → limit ≡ r.finished.call.fuel → (answer : Bool) → IsTrue answer ↔ ((is_marked b.marks r.call ≡ false) × (limit ≤ b.remaining)) → answer ≡ false → ¬ MayFollowBy (limits p.calls) p.fuel [] es rs
  no_room limit limit_is answer says none f =
      let follows : MayFollow (with_parts p w.now b) r.call = record { known = slice_get_within p.calls r.call r.finished.call w.made.0.call_is; room = call_follows f } in
      let yes = (may limit limit_is answer says).1 follows in let no : false ≡ true = sym none ∙ yes in cc

  module _ (limit : ℕ) (limit_is : limit ≡ r.finished.call.fuel) (follows : MayFollow (with_parts p w.now b) r.call) (is : IsRunOf e r)
      (run : RunsWith r.finished.setting r.finished.call r.finished.trace r.finished.outcome r.finished.used) where
    abbrev receipt : Receipt
    receipt = record { outcome = r.finished.outcome; used = r.finished.used; asks = asks_in r.finished.trace }

    pub executed : Executes p.setting r.finished.call w.now (settled_by e w.now) receipt m
    executed = executed_by p.setting p.calls e r m w.now w.made.0 is run es' w.defined

    pub fits_here : limit ≤ b.remaining
    fits_here = fits here b r.call limit r.finished.call (settled_by e w.now) receipt m w.kept w.made.0.call_is limit_is follows executed

    pub used_here : p.fuel < 2 ^ 64 → b.used + r.finished.used < 2 ^ 64
    used_here = fits_used here b r.call limit r.finished.call (settled_by e w.now) receipt m w.kept w.made.0.call_is limit_is follows executed

    pub walked_more : IsWalked p es rs ms (more here b r.call limit r.finished.call (settled_by e w.now) receipt m w.kept w.made.0.call_is limit_is follows executed) es' rs' ms'
    walked_more =
        let same = ap (λ n. b.order ++ n ∷ []) is.call in
        let room : HasRoom (limits p.calls) p.fuel b.order e.call = subst (HasRoom (limits p.calls) p.fuel b.order) is.call follows.room in
        record {
          now = settled_by e w.now;
          kept = kept_more here b r.call limit r.finished.call (settled_by e w.now) receipt m w.kept w.made.0.call_is limit_is follows executed;
          defined = w.defined.1;
          last = w.last;
          order = append_assoc b.order (r.call ∷ []) (map (λ (x : CommittedCall). x.call) es') ∙ ap (λ n. b.order ++ n ∷ map (λ (x : CommittedCall). x.call) es') is.call ∙ w.order;
          ran = ap (λ xs. xs ++ ran_by rs' ms') (results_of-push b.receipts b.touched receipt m w.kept.even) ∙ append_assoc (results_of b.receipts b.touched) (record { receipt = receipt; touched = m } ∷ []) (ran_by rs' ms') ∙ w.ran;
          made = w.made.1;
          follow = (
            λ f. w.follow.0 (is, (room, subst (λ o. MayFollowBy (limits p.calls) p.fuel o es' rs') same f)),
            λ f. subst (λ o. MayFollowBy (limits p.calls) p.fuel o es' rs') (sym same) (w.follow.1 f).1.1,
          );
        }

-- one index more
module _ {A : Type 0} (p : Publication) (es : List CommittedCall) (rs : List (CallRun A)) (ms : List Modes) (b : WalkState) (i : ℕ) (e : CommittedCall) (r : CallRun A) (below : i < length rs) (even : length es ≡ length rs) (locked : length ms ≡ length rs)
    (e_is : e ≡ get_or es i e) (r_is : r ≡ get_or rs i r) (w : IsWalked p es rs ms b (drop i es) (drop i rs) (drop i ms)) where
  pub next_is : IsWalked p es rs ms b (e ∷ drop (i + 1) es) (r ∷ drop (i + 1) rs) (get_or ms i empty ∷ drop (i + 1) ms)
  next_is =
      let entry : drop i es ≡ e ∷ drop (i + 1) es = drop_more es i e (omega arith) ∙ ap (λ x. x ∷ drop (i + 1) es) (sym e_is) in
      let run : drop i rs ≡ r ∷ drop (i + 1) rs = drop_more rs i r below ∙ ap (λ x. x ∷ drop (i + 1) rs) (sym r_is) in
      let locks : drop i ms ≡ get_or ms i empty ∷ drop (i + 1) ms = drop_more ms i empty (omega arith) in
      subst (λ x. IsWalked p es rs ms b x (r ∷ drop (i + 1) rs) (get_or ms i empty ∷ drop (i + 1) ms)) entry
      (subst (λ x. IsWalked p es rs ms b (drop i es) x (get_or ms i empty ∷ drop (i + 1) ms)) run
      (subst (λ x. IsWalked p es rs ms b (drop i es) (drop i rs) x) locks w))

  pub is_run_here : MayFollowBy (limits p.calls) p.fuel [] es rs → IsRunOf e r
  is_run_here = run_is p es rs ms b e (drop (i + 1) es) r (drop (i + 1) rs) (get_or ms i empty) (drop (i + 1) ms) next_is

  pub known_here : r.call < length b.marks
  known_here = known_call p es rs ms b e (drop (i + 1) es) r (drop (i + 1) rs) (get_or ms i empty) (drop (i + 1) ms) next_is

  pub no_room_here : (limit : ℕ) → limit ≡ r.finished.call.fuel → (answer : Bool) → IsTrue answer ↔ ((is_marked b.marks r.call ≡ false) × (limit ≤ b.remaining)) → answer ≡ false → ¬ MayFollowBy (limits p.calls) p.fuel [] es rs
  no_room_here = no_room p es rs ms b e (drop (i + 1) es) r (drop (i + 1) rs) (get_or ms i empty) (drop (i + 1) ms) next_is

  pub follows_here : (limit : ℕ) → limit ≡ r.finished.call.fuel → (answer : Bool) → IsTrue answer ↔ ((is_marked b.marks r.call ≡ false) × (limit ≤ b.remaining)) → IsTrue answer → MayFollow (with_parts p (next_is).now b) r.call
  follows_here limit limit_is answer says = (may p es rs ms b e (drop (i + 1) es) r (drop (i + 1) rs) (get_or ms i empty) (drop (i + 1) ms) next_is limit limit_is answer says).0

  module _ (limit : ℕ) (limit_is : limit ≡ r.finished.call.fuel) (follows : MayFollow (with_parts p (next_is).now b) r.call) (is : IsRunOf e r)
      (run : RunsWith r.finished.setting r.finished.call r.finished.trace r.finished.outcome r.finished.used) where
    pub fits_next : limit ≤ b.remaining
    fits_next = fits_here p es rs ms b e (drop (i + 1) es) r (drop (i + 1) rs) (get_or ms i empty) (drop (i + 1) ms) next_is limit limit_is follows is run

    pub used_next : p.fuel < 2 ^ 64 → b.used + r.finished.used < 2 ^ 64
    used_next = used_here p es rs ms b e (drop (i + 1) es) r (drop (i + 1) rs) (get_or ms i empty) (drop (i + 1) ms) next_is limit limit_is follows is run

    pub walked_on : (room after : WalkState) → room.order ≡ b.order → room.receipts ≡ b.receipts → room.touched ≡ b.touched → room.marks ≡ b.marks → room.remaining ≡ b.remaining → room.used ≡ b.used
        → after.order ≡ room.order ++ r.call ∷ [] → after.receipts ≡ room.receipts ++ record { outcome = r.finished.outcome; used = r.finished.used; asks = asks_in r.finished.trace } ∷ [] → after.touched ≡ room.touched ++ get_or ms i empty ∷ [] → after.marks ≡ slice_set room.marks r.call true
        → after.remaining ≡ room.remaining - limit → after.used ≡ room.used + r.finished.used → after.counts ≡ empty
        → IsWalked p es rs ms after (drop (i + 1) es) (drop (i + 1) rs) (drop (i + 1) ms)
    walked_on room after o rs' ms' marks rest used o' rs'' ms'' marks' rest' used' counts =
        let w' = next_is in
        let h : Publication = record p { cells = w'.now } in
        let m : Modes = get_or ms i empty in
        let receipt : Receipt = record { outcome = r.finished.outcome; used = r.finished.used; asks = asks_in r.finished.trace } in
        let ex = executed_by p.setting p.calls e r m w'.now w'.made.0 is run (drop (i + 1) es) w'.defined in
        let same = is_more h b r.call limit r.finished.call (settled_by e w'.now) receipt m w'.kept w'.made.0.call_is limit_is follows ex room after o rs' ms' marks rest used o' rs'' ms'' marks' rest' used' counts in
        subst (λ x. IsWalked p es rs ms x (drop (i + 1) es) (drop (i + 1) rs) (drop (i + 1) ms)) (sym same)
        (walked_more p es rs ms b e (drop (i + 1) es) r (drop (i + 1) rs) m (drop (i + 1) ms) w' limit limit_is follows is run)

-- all is gone over
module _ {A : Type 0} (p : Publication) (es : List CommittedCall) (rs : List (CallRun A)) (ms : List Modes) (b : WalkState) (i : ℕ) (all : length rs ≤ i) (even : length es ≡ length rs) (locked : length ms ≡ length rs)
    (touched_is : b.touched ≡ take i ms) (w : IsWalked p es rs ms b (drop i es) (drop i rs) (drop i ms)) where
  no_entry : drop i es ≡ []
  no_entry = drop_all i es (omega arith)

  no_run : drop i rs ≡ []
  no_run = drop_all i rs all

  pub all_touched : b.touched ≡ ms
  all_touched = touched_is ∙ take_all i ms (omega arith)

  pub all_order : b.order ≡ map (λ (e : CommittedCall). e.call) es
  all_order = sym (append-nil b.order) ∙ ap (λ xs. b.order ++ map (λ (e : CommittedCall). e.call) xs) (sym no_entry) ∙ w.order

  pub all_ran : results_of b.receipts ms ≡ ran_by rs ms
  all_ran = sym (append-nil (results_of b.receipts ms)) ∙ ap (λ x. results_of b.receipts x ++ []) (sym all_touched) ∙ ap (λ xs. results_of b.receipts b.touched ++ ran_by xs (drop i ms)) (sym no_run) ∙ w.ran

  pub all_follow : MayFollowBy (limits p.calls) p.fuel [] es rs
  all_follow = w.follow.0 (subst (λ xs. MayFollowBy (limits p.calls) p.fuel b.order xs (drop i rs)) (sym no_entry) (subst (λ ys. MayFollowBy (limits p.calls) p.fuel b.order [] ys) (sym no_run) tt))

  pub all_kept : IsKeptWith p (settled p.opening es) (record b { touched = ms })
  all_kept =
      let last : w.now ≡ settled p.opening es = ap (settled w.now) (sym no_entry) ∙ w.last in
      subst (λ x. IsKeptWith p (settled p.opening es) (record b { touched = x })) all_touched (subst (λ m. IsKeptWith p m b) last w.kept)
