-- One more file at the end of a log, and drafts.
use Rattle.std.proofs.Common.{◌≡◌, ◌≢◌, ℕ, List, [], ◌∷◌, ◌++◌, Option, Some, None, refl, true, false, ◌∙◌, sym, ap, Bool, map, take, drop, length, ◌<◌, ◌+◌, ◌-◌, get_or, slice_index_or, slice_set, if◌then◌else◌, subst, ap₂, arith, string_bytes}
use Rattle.std.proofs.lemmas.Slice.Eq.{bytes_eq-Decides}
use Rattle.std.proofs.lemmas.List.{take_more, length-map, length_push, get_or_at, map-set, set_at}
use Rattle.std.proofs.Math.ListN.{get_or-map}
use Rattle.std.specs.Str.{bytes_eq}
use Rattle.wblock_io.specs.Log.{held, after, draft_of}
use Rattle.wblock_io.specs.Holding.{Holding, Draft, Changes, IsKept}
use Rattle.wblock_io.specs.declared.memory.Held.{Held}

held-push : (hs : List Held) (h : Held) (name : List ℕ) (before : Option (List ℕ)) → held (hs ++ h ∷ []) name before ≡ after h name (held hs name before)
held-push [] h name before = refl
held-push (x ∷ hs) h name before = held-push hs h name (after x name before)

not_true : (b : Bool) → (b ≡ true → ⊥) → b ≡ false
not_true true h = absurd (h refl)
not_true false h = refl

pub here_after : (h : Held) (name : List ℕ) (before : Option (List ℕ)) → string_bytes h.name ≡ name → after h name before ≡ Some h.bytes.items
here_after h name before is = ap (λ t. if t then Some h.bytes.items else before) ((bytes_eq-Decides (string_bytes h.name) name).1 is)

pub other_after : (h : Held) (name : List ℕ) (before : Option (List ℕ)) → string_bytes h.name ≢ name → after h name before ≡ before
other_after h name before ne = ap (λ t. if t then Some h.bytes.items else before) (not_true (bytes_eq (string_bytes h.name) name) (λ e. ne ((bytes_eq-Decides (string_bytes h.name) name).0 e)))

-- one more file held, which changes that file alone
pub changed : (hs new : List Held) (h : Held) → new ≡ hs ++ h ∷ [] → Changes (λ name. held hs name None) (λ name. held new name None) (string_bytes h.name) h.bytes.items
changed hs new h is = record {
  here = ap (λ l. held l (string_bytes h.name) None) is ∙ (held-push hs h (string_bytes h.name) None ∙ here_after h (string_bytes h.name) (held hs (string_bytes h.name) None) refl);
  others = λ other ne. ap (λ l. held l other None) is ∙ (held-push hs h other None ∙ other_after h other (held hs other None) (λ e. ne (sym e)));
}

-- one more read
pub read_more : (hs : List Held) (i : ℕ) (h : Held) (name : List ℕ) (now new : Option (List ℕ)) → i < length hs → get_or hs i h ≡ h → now ≡ held (take i hs) name None → new ≡ after h name now → new ≡ held (take (i + 1) hs) name None
read_more hs i h name now new lt item before step =
    let more : take (i + 1) hs ≡ take i hs ++ h ∷ [] = take_more hs i h lt ∙ ap (λ x. take i hs ++ x ∷ []) item in
    step ∙ (ap (λ b. after h name b) before ∙ (sym (held-push (take i hs) h name None) ∙ ap (λ l. held l name None) (sym more)))

-- ---- drafts

parts_of : (x y : Draft) (xs ys : List Draft) → x ∷ xs ≡ y ∷ ys → (x ≡ y) × (xs ≡ ys)
parts_of x y xs ys e = (cc, cc)

-- the first draft is kept
pub first_kept : (old new : List Held) (h : Held) (name : List ℕ) (before after : Holding) → h ≡ slice_index_or old 0 h → new ≡ take 0 old ++ drop 1 old → Changes before after (string_bytes h.name) h.bytes.items
    → IsKept name (map draft_of old) (map draft_of new) before after
first_kept [] new h name before after first rest changes = λ bytes others e. absurd cc
first_kept (x ∷ xs) new h name before after first rest changes = λ bytes others e.
    let parts = parts_of (draft_of x) (name, bytes) (map draft_of xs) others e in
    (subst (λ (d : Draft). Changes before after d.0 d.1) (ap draft_of first ∙ parts.0) changes, ap (map draft_of) rest ∙ parts.1)

-- bytes are put at the end of the last draft
pub last_grown : (xs : List Held) (x y : Held) (n : ℕ) (others : List Draft) (name front bytes : List ℕ) → n ≡ length xs → x ≡ slice_index_or xs (n - 1) x → string_bytes y.name ≡ name → y.bytes.items ≡ x.bytes.items ++ bytes
    → map draft_of xs ≡ others ++ (name, front) ∷ [] → map draft_of (slice_set xs (n - 1) y) ≡ others ++ (name, front ++ bytes) ∷ []
last_grown xs x y n others name front bytes count last named grown is =
    let all : length xs ≡ length others + 1 = sym (length-map xs draft_of) ∙ (ap length is ∙ length_push others (name, front)) in
    let at : length others ≡ n - 1 = omega (arith, all, count) in
    let before : draft_of x ≡ (name, front) =
    (ap draft_of last ∙ sym (get_or-map draft_of xs (n - 1) x)) ∙ (ap (λ (ds : List Draft). slice_index_or ds (n - 1) (draft_of x)) is ∙ get_or_at others (name, front) [] (draft_of x) (n - 1) at) in
    let now : draft_of y ≡ (name, front ++ bytes) = ap₂ (λ (a b : List ℕ). (a, b)) named (grown ∙ ap (λ (d : Draft). d.1 ++ bytes) before) in
    map-set draft_of xs (n - 1) y ∙ (ap (λ (ds : List Draft). slice_set ds (n - 1) (draft_of y)) is ∙ (set_at others (name, front) [] (draft_of y) (n - 1) at ∙ ap (λ (d : Draft). others ++ d ∷ []) now))
