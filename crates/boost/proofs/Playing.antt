-- One event more.
use Rattle.std.proofs.Common.{◌≡◌, ℕ, ◌+◌, ◌<◌, List, [], ◌∷◌, ◌++◌, length, take, get_or, map, refl, sym, ◌∙◌, ap, subst}
use Rattle.std.proofs.lemmas.List.{take_more, map-append}
use Rattle.spec_ledger.specs.Book.{Content}
use Rattle.boost.specs.declared.play.Answer.{Answer}
use Rattle.boost.specs.declared.play.Event.{Event as TheEvent}
use Rattle.boost.specs.Play.{Event, Happens, Plays, event_of}

pub Plays-push : (old mid new : Content) (es : List Event) (answers : List Answer) (e : Event) (a : Answer) → Plays old es answers mid → Happens mid e a new → Plays old (es ++ e ∷ []) (answers ++ a ∷ []) new
Plays-push old mid new [] [] e a h step = (new, subst (λ x. Happens x e a new) h step, refl)
Plays-push old mid new (x ∷ es) (y ∷ answers) e a h step = (h.0, h.1, Plays-push h.0 mid new es answers e a h.2 step)
Plays-push old mid new [] (y ∷ answers) e a h step = absurd h
Plays-push old mid new (x ∷ es) [] e a h step = absurd h

pub plays_more : (old mid new : Content) (events : List TheEvent) (i : ℕ) (d : TheEvent) (answers next : List Answer) (a : Answer) → i < length events
    → Plays old (map event_of (take i events)) answers mid → Happens mid (event_of (get_or events i d)) a new → next ≡ answers ++ a ∷ [] → Plays old (map event_of (take (i + 1) events)) next new
plays_more old mid new events i d answers next a below h step e =
    let more : map event_of (take (i + 1) events) ≡ map event_of (take i events) ++ event_of (get_or events i d) ∷ [] =
    ap (map event_of) (take_more events i d below) ∙ map-append event_of (take i events) (get_or events i d ∷ []) in
    subst (λ es. Plays old es next new) (sym more) (subst (λ xs. Plays old (map event_of (take i events) ++ event_of (get_or events i d) ∷ []) xs new) (sym e)
    (Plays-push old mid new (map event_of (take i events)) answers (event_of (get_or events i d)) a h step))
