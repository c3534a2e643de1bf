-- Pieces with the same bytes of their own stand for the same memory; and bytes that are read off pieces, one piece after the other.
use Rattle.std.proofs.Common.{◌≡◌, ℕ, zero, suc, ◌-◌, ◌*◌, ◌/◌, ◌%◌, refl, sym, ap, ◌∙◌, subst, length, arith, ◌≤◌, ◌<◌, inl, inr, slice_index_or, get_or, ◌+◌, ◌++◌, take, drop, append_assoc}
use Rattle.std.specs.Prelude.{false, nat_lt, List, [], ◌∷◌, Option, Some, None, unwrap_or, option_map, slice_get, map, Vec, vec_len, ◌⊎◌, All}
use Rattle.std.specs.List.{range_with_len}
use Rattle.std.proofs.lemmas.List.{length-map, length-drop, length-take-le, get_or-drop, get_or-take, ext_get_or}
use Rattle.std.proofs.lemmas.List.Elements.{All-cons, All-head, All-tail, All-map}
use Rattle.std.proofs.lemmas.List.FromFn.{length-map-range_with_len, get_or-map-range_with_len}
use Rattle.std.proofs.lemmas.Option.{slice_get-map, slice_get_read}
use mathlib.Core.Path.{fun_ext}
use Rattle.spec_modules.specs.Profile.{page_size}
use Rattle.memory.specs.Pieces.{piece_size, byte_of, own_in, byte_in, bytes_in, contents, number_in, IsPiece, IsUnmade, IsSound}
use Rattle.memory.proofs.Lists.{byte_at, length_bytes, none_there, behind, own_there, same_number}

abbrev own_byte : Option (List ℕ) → ℕ → Option ℕ
own_byte None j = None
own_byte (Some bytes) j = slice_get bytes j

byte_own : {A : Type 0} (o : Option (Vec ℕ A)) (j : ℕ) → byte_of o j ≡ own_byte (option_map (λ piece. piece.items) o) j
byte_own None j = refl
byte_own (Some piece) j = refl

byte_is : {A : Type 0} (ps : List (Vec ℕ A)) (at : ℕ) → own_in ps at ≡ own_byte (slice_get (contents ps) (at / piece_size)) (at % piece_size)
byte_is ps at = byte_own (slice_get ps (at / piece_size)) (at % piece_size) ∙ ap (λ o. own_byte o (at % piece_size)) (sym (slice_get-map (λ piece. piece.items) ps (at / piece_size)))

-- it has as many bytes of its own as a piece
abbrev IsWhole : List ℕ → Type 0
IsWhole bytes = (length bytes ≡ 0) ⊎ (length bytes ≡ piece_size)

piece_of : {A : Type 0} (p : Vec ℕ A) → IsWhole p.items → IsPiece p
piece_of p (inl e) = inl (omega (arith, p.ok.0, e))
piece_of p (inr e) = inr (omega (arith, p.ok.0, e))

of_piece : {A : Type 0} (p : Vec ℕ A) → IsPiece p → IsWhole p.items
of_piece p (inl e) = inl (omega (arith, p.ok.0, e))
of_piece p (inr e) = inr (omega (arith, p.ok.0, e))

whole_back : {A : Type 0} (ps : List (Vec ℕ A)) → All IsWhole (contents ps) → All IsPiece ps
whole_back [] h = λ k d below. absurd (omega (arith, below))
whole_back (p ∷ ps) h = All-cons IsPiece p ps (piece_of p (All-head IsWhole p.items (contents ps) h)) (whole_back ps (All-tail IsWhole p.items (contents ps) h))

module _ {A : Type 0} (ps qs : List (Vec ℕ A)) (same : contents qs ≡ contents ps) where
  same_length : length qs ≡ length ps
  same_length = sym (length-map qs (λ piece. piece.items)) ∙ ap length same ∙ length-map ps (λ piece. piece.items)

  same_byte : (at : ℕ) → own_in qs at ≡ own_in ps at
  same_byte at = byte_is qs at ∙ ap (λ bs. own_byte (slice_get bs (at / piece_size)) (at % piece_size)) same ∙ sym (byte_is ps at)

  pub same_bytes : (f : ℕ → ℕ) (n : ℕ) → bytes_in qs f 0 n ≡ bytes_in ps f 0 n
  same_bytes f n = ap (λ (g : ℕ → ℕ). map g (range_with_len 0 n)) (fun_ext (λ at. ap (λ o. unwrap_or o (f at)) (same_byte at)))

  pub same_sound : (f : ℕ → ℕ) (size max : ℕ) → IsSound ps f size max → IsSound qs f size max
  same_sound f size max s = record {
    whole = whole_back qs (subst (All IsWhole) (sym same) (All-map IsWhole (λ piece. piece.items) ps (λ k d below. of_piece (slice_index_or ps k d) (s.whole k d below))));
    reach = subst (λ n. piece_size * n ≤ page_size * size) (sym same_length) s.reach;
    fits = s.fits;
    limit = s.limit;
    ends = s.ends;
  }

-- what is read from an address on, of the whole
pub read : {A : Type 0} (ps : List (Vec ℕ A)) (f : ℕ → ℕ) (n from count : ℕ) → from + count ≤ n → bytes_in ps f from count ≡ take count (drop from (bytes_in ps f 0 n))
read ps f n from count h =
    let l = length-map-range_with_len (byte_in ps f) from count in
    let d = length-drop from (bytes_in ps f 0 n) in let w = length_bytes ps f n in
    let r = length-take-le count (drop from (bytes_in ps f 0 n)) (omega (arith, d, w, h)) in
    ext_get_or 0 (bytes_in ps f from count) (take count (drop from (bytes_in ps f 0 n))) (omega (arith, l, r))
    (λ k q. let below : k < count = omega (arith, l, q) in
    get_or-map-range_with_len (byte_in ps f) from count k (from + k) 0 below refl
    ∙ sym (get_or-take count (drop from (bytes_in ps f 0 n)) k 0 below ∙ (get_or-drop from (bytes_in ps f 0 n) k 0 ∙ byte_at ps f n (from + k) (omega (arith, h, below)))))

joined : (f : ℕ → ℕ) (from done part : ℕ) → map f (range_with_len from done) ++ map f (range_with_len (from + done) part) ≡ map f (range_with_len from (done + part))
joined f from zero part = let e : from + 0 ≡ from = omega arith in let n : part ≡ 0 + part = omega arith in ap (λ at. map f (range_with_len at part)) e ∙ ap (λ k. map f (range_with_len from k)) n
joined f from (suc n) part =
    let e : from + suc n ≡ from + 1 + n = omega arith in
    let m : suc (n + part) ≡ suc n + part = omega arith in
    ap (λ at. f from ∷ (map f (range_with_len (from + 1) n) ++ map f (range_with_len at part))) e
    ∙ (ap (λ l. f from ∷ l) (joined f (from + 1) n part) ∙ ap (λ k. map f (range_with_len from k)) m)

nothing : (xs : List ℕ) → xs ++ [] ≡ xs
nothing [] = refl
nothing (x ∷ xs) = ap (λ l. x ∷ l) (nothing xs)

pub nothing_more : (xs : List ℕ) → xs ≡ xs ++ []
nothing_more xs = sym (nothing xs)

-- so many bytes more
pub appended_more : (old : List ℕ) (f : ℕ → ℕ) (at done part : ℕ) (news : List ℕ) → news ≡ map f (range_with_len (at + done) part) → (old ++ map f (range_with_len at done)) ++ news ≡ old ++ map f (range_with_len at (done + part))
appended_more old f at done part news e =
    append_assoc old (map f (range_with_len at done)) news ∙ ap (λ l. old ++ l) (ap (λ l. map f (range_with_len at done) ++ l) e ∙ joined f at done part)

-- one part after the other
pub read_more : {A : Type 0} (ps : List (Vec ℕ A)) (f : ℕ → ℕ) (from done part : ℕ) → bytes_in ps f from done ++ bytes_in ps f (from + done) part ≡ bytes_in ps f from (done + part)
read_more ps f from done part = joined (byte_in ps f) from done part

-- the bytes of a piece that was found at an index
read_piece : {A : Type 0} (ps ds : List (Vec ℕ A)) (f : ℕ → ℕ) (at count : ℕ) (piece : Vec ℕ A) → ds ≡ ps → at / piece_size < length ds → piece ≡ get_or ds (at / piece_size) piece → at % piece_size + count ≤ vec_len piece → at % piece_size + count ≤ piece_size
    → take count (drop (at % piece_size) piece.items) ≡ bytes_in ps f at count
read_piece ps ds f at count piece e lt is fits within =
    let found : slice_get ps (at / piece_size) ≡ Some piece = ap (λ xs. slice_get xs (at / piece_size)) (sym e) ∙ slice_get_read ds (length ds) (at / piece_size) piece refl lt is in
    let o = piece.ok.0 in
    let l = length-map-range_with_len (byte_in ps f) at count in
    let r = length-take-le count (drop (at % piece_size) piece.items) (omega (arith, o, fits, length-drop (at % piece_size) piece.items)) in
    ext_get_or 0 (take count (drop (at % piece_size) piece.items)) (bytes_in ps f at count) (omega (arith, l, r))
    (λ k q. let below : k < count = omega (arith, r, q) in
    get_or-take count (drop (at % piece_size) piece.items) k 0 below ∙ (get_or-drop (at % piece_size) piece.items k 0
    ∙ sym (get_or-map-range_with_len (byte_in ps f) at count k (at + k) 0 below refl
    ∙ ap (λ b. unwrap_or b (f (at + k))) (own_there ps at k piece found (omega (arith, o, fits, below)) (omega (arith, within, below))))))

-- what is appended where the piece has bytes of its own
pub appended : {A : Type 0} (ps ds : List (Vec ℕ A)) (f : ℕ → ℕ) (at count : ℕ) (piece : Vec ℕ A) (bytes old new : List ℕ) → new ≡ old ++ take (at % piece_size + count - at % piece_size) (drop (at % piece_size) bytes) → bytes ≡ piece.items → ds ≡ ps
    → at / piece_size < length ds → piece ≡ get_or ds (at / piece_size) piece → at % piece_size + count ≤ vec_len piece → at % piece_size + count ≤ piece_size → new ≡ old ++ bytes_in ps f at count
appended ps ds f at count piece bytes old new added same e lt is fits within =
    let less : at % piece_size + count - at % piece_size ≡ count = omega arith in
    added ∙ (ap (λ n. old ++ take n (drop (at % piece_size) bytes)) less ∙ (ap (λ xs. old ++ take count (drop (at % piece_size) xs)) same ∙ ap (λ l. old ++ l) (read_piece ps ds f at count piece e lt is fits within)))

-- ---- bytes in no piece of their own

pub unmade_in : {A : Type 0} (ps : List (Vec ℕ A)) (at count : ℕ) → ((j : ℕ) → byte_of (slice_get ps (at / piece_size)) j ≡ None) → at % piece_size + count ≤ piece_size → IsUnmade ps at count
unmade_in ps at count none within j below =
    let there : (at + j) / piece_size ≡ at / piece_size = omega (arith, within, below) in
    ap (λ i. byte_of (slice_get ps i) ((at + j) % piece_size)) there ∙ none ((at + j) % piece_size)

same_map : (f g : ℕ → ℕ) (from count : ℕ) → ((k : ℕ) → k < count → f (from + k) ≡ g (from + k)) → map f (range_with_len from count) ≡ map g (range_with_len from count)
same_map f g from zero h = refl
same_map f g from (suc n) h =
    let e : from + 0 ≡ from = omega arith in
    let first : f from ≡ g from = subst (λ k. f k ≡ g k) e (h 0 (omega arith)) in
    let rest = same_map f g (from + 1) n (λ k l. let e : from + (k + 1) ≡ from + 1 + k = omega arith in subst (λ k. f k ≡ g k) e (h (k + 1) (omega arith))) in
    λ i. first i ∷ rest i

-- they read as the bytes that the memory begins with
pub read_unmade : {A : Type 0} (ps : List (Vec ℕ A)) (f : ℕ → ℕ) (at count : ℕ) → IsUnmade ps at count → bytes_in ps f at count ≡ map f (range_with_len at count)
read_unmade ps f at count none = same_map (byte_in ps f) f at count (λ k below. ap (λ o. unwrap_or o (f (at + k))) (none k below))

pub number_unmade : {A : Type 0} (ps : List (Vec ℕ A)) (f : ℕ → ℕ) (at n : ℕ) → IsUnmade ps at n → number_in f at n ≡ number_in (byte_in ps f) at n
number_unmade ps f at n none = same_number f (byte_in ps f) n at at (λ k below. sym (ap (λ o. unwrap_or o (f (at + k))) (none k below)))

-- a piece that was found at an index and is too short
pub found_none : {A : Type 0} (ps ds : List (Vec ℕ A)) (i n : ℕ) (piece : Vec ℕ A) → ds ≡ ps → i < length ds → piece ≡ get_or ds i piece → All IsPiece ps → vec_len piece < n → n ≤ piece_size → (j : ℕ) → byte_of (slice_get ps i) j ≡ None
found_none ps ds i n piece e lt is whole short most j =
    let found : slice_get ps i ≡ Some piece = ap (λ xs. slice_get xs i) (sym e) ∙ slice_get_read ds (length ds) i piece refl lt is in
    let one : IsPiece piece = subst IsPiece (sym (is ∙ ap (λ xs. get_or xs i piece) e)) (whole i piece (subst (λ xs. i < length xs) e lt)) in
    let o = piece.ok.0 in
    ap (λ p. byte_of p j) found ∙ none_there piece.items j (elim one [ inl z ↦ omega (arith, o, z) | inr z ↦ absurd (omega (arith, z, short, most)) ])

-- a piece that was found at an index and is empty
pub found_empty : {A : Type 0} (ps ds : List (Vec ℕ A)) (i : ℕ) (piece : Vec ℕ A) → ds ≡ ps → i < length ds → piece ≡ get_or ds i piece → vec_len piece ≡ 0 → (j : ℕ) → byte_of (slice_get ps i) j ≡ None
found_empty ps ds i piece e lt is none j =
    let found : slice_get ps i ≡ Some piece = ap (λ xs. slice_get xs i) (sym e) ∙ slice_get_read ds (length ds) i piece refl lt is in
    let o = piece.ok.0 in
    ap (λ p. byte_of p j) found ∙ none_there piece.items j (omega (arith, o, none))

not_below : (i n : ℕ) → false ≡ nat_lt i n → n ≤ i
not_below i n h = grind arith

-- no piece is found at an index
pub found_past : {A : Type 0} (ps ds : List (Vec ℕ A)) (i : ℕ) → ds ≡ ps → false ≡ nat_lt i (length ds) → (j : ℕ) → byte_of (slice_get ps i) j ≡ None
found_past ps ds i e past j = behind ps i j (subst (λ xs. length xs ≤ i) e (not_below i (length ds) past))
