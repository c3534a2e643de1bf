-- The first custom section `name`, and the subsection of the names of functions in it.
use Rattle.std.proofs.Common.{◌≡◌, ◌≢◌, ◌⊎◌, ℕ, zero, suc, List, [], ◌∷◌, ◌++◌, codes, length, arith, bytes_eq, true, false, true≢false, refl, sym, ap, ◌∙◌, subst, inl, inr, append_assoc}
use Rattle.std.proofs.lemmas.Slice.Eq.{bytes_eq-Decides}
use Rattle.spec_modules.specs.Language.{Language, empty, ◌⨾◌, ◌∣◌}
use Rattle.spec_modules.specs.Grammar.{name, section, times, header}
use Rattle.wblock_words.specs.Names.{Named, Carries, anything, is_called, name_map, other_section, subsections}
use Rattle.wblock_words.specs.Parts.{HasName, HasSection, HasFunctions, HasNameSection, IsNameData, IsOnly, exactly}
use Rattle.wblock_words.proofs.Fronts.{cut, name_front, name_spelled, one_name, one_section, section_shorter, section_front, section_spelled}

abbrev title : List ℕ
title = codes "name"

abbrev titled : List ℕ → Language
titled payload = name title ⨾ exactly payload

-- ---- what a custom section `name` holds

pub is_title : (text : List ℕ) → true ≡ bytes_eq text (codes "name") → text ≡ codes "name"
is_title text e = (bytes_eq-Decides text (codes "name")).0 (sym e)

pub is_no_title : (text : List ℕ) → false ≡ bytes_eq text (codes "name") → text ≡ codes "name" → ⊥
is_no_title text e is = true≢false (sym ((bytes_eq-Decides text (codes "name")).1 is) ∙ sym e)

pub data_there : (id : ℕ) (content text payload : List ℕ) → id ≡ 0 → HasName content text payload → text ≡ codes "name" → IsNameData id content payload
data_there id content text payload zero_is h is =
    let s = name_spelled title content payload (subst (λ t. HasName content t payload) is h) in
    (zero_is, (s.front, payload, s.bytes_are, s.is, refl))

pub name_of_data : (id : ℕ) (content payload : List ℕ) → IsNameData id content payload → HasName content (codes "name") payload
name_of_data id content payload h = name_front title h.1.0 payload content h.1.3 (h.1.2 ∙ ap (λ x. h.1.0 ++ x) h.1.4)

pub other_title : (id : ℕ) (content text rest payload : List ℕ) → HasName content text rest → (text ≡ codes "name" → ⊥) → IsNameData id content payload → ⊥
other_title id content text rest payload h isnt d = isnt (one_name content text title rest payload h (name_of_data id content payload d)).front

-- ---- the section that is the first one of the name

abbrev pub Sections : ℕ → List ℕ → Language
Sections k payload = times k other_section ⨾ section 0 (name (codes "name") ⨾ exactly payload) ⨾ anything

-- it is ahead, behind so many others
abbrev pub Ahead : (rest payload : List ℕ) → Type 0
Ahead rest payload = (k : ℕ) × Sections k payload rest

pub record Passes (id : ℕ) (content behind payload : List ℕ) : Type 0 where
  pub other : (p : List ℕ) → IsNameData id content p → ⊥
  pub ahead : Ahead behind payload

-- the section at the front is the one, or it is another
pub record Comes (rest payload : List ℕ) : Type 0 where
  pub id : ℕ
  pub content : List ℕ
  pub behind : List ℕ
  pub here : HasSection rest id content behind
  pub then : IsNameData id content payload ⊎ Passes id content behind payload

comes_at : (k : ℕ) (rest payload : List ℕ) → Sections k payload rest → Comes rest payload
comes_at zero rest payload h =
    let one = h.4 in
    let is : rest ≡ one.0 ++ one.1 = h.2 ∙ ap (λ e. e ++ h.1) h.3 ∙ one.2 in
    record { id = 0; content = one.3.4.1; behind = one.1; here = section_front 0 (titled payload) one.0 one.1 rest one.3 is; then = inl (refl, one.3.4.4) }
comes_at (suc k) rest payload h =
    let t = h.3 in
    let other = t.3 in
    let s = other.0.1 in
    let behind : List ℕ = t.1 ++ h.1 in
    let is : rest ≡ t.0 ++ behind = h.2 ∙ ap (λ e. e ++ h.1) t.2 ∙ append_assoc t.0 t.1 h.1 in
    record {
      id = other.0.0;
      content = s.4.1;
      behind = behind;
      here = section_front other.0.0 anything t.0 behind rest s is;
      then = inr (record {
        other = λ p d. other.1 (s.0, s.1, s.2, s.3 ∙ ap (λ (i : ℕ). i ∷ []) d.0, (s.4.0, s.4.1, s.4.2, s.4.3, (d.1.0, d.1.1, d.1.2, d.1.3, tt)));
        ahead = (k, (t.1, h.1, refl, t.4, h.4));
      });
    }

pub comes : (rest payload : List ℕ) → Ahead rest payload → Comes rest payload
comes rest payload a = comes_at a.0 rest payload a.1

pub nothing_ahead : (rest payload : List ℕ) → length rest ≡ 0 → Ahead rest payload → ⊥
nothing_ahead rest payload none a = let c = comes rest payload a in omega (arith, none, section_shorter rest c.id c.content c.behind c.here)

pub no_front : (rest payload : List ℕ) → ((id : ℕ) (content behind : List ℕ) → HasSection rest id content behind → ⊥) → Ahead rest payload → ⊥
no_front rest payload none a = let c = comes rest payload a in none c.id c.content c.behind c.here

-- ---- it is here

pub here : (rest : List ℕ) (id : ℕ) (content behind payload : List ℕ) → HasSection rest id content behind → IsNameData id content payload → Ahead rest payload
here rest id content behind payload h d =
    let s = section_spelled 0 (titled payload) rest content behind (subst (λ (i : ℕ). HasSection rest i content behind) d.0 h) d.1 in
    (zero, ([], rest, refl, refl, (s.front, behind, s.bytes_are, s.is, tt)))

module _ (rest : List ℕ) (id : ℕ) (content behind : List ℕ) (h : HasSection rest id content behind) where
  moved : (c : ℕ) (x y q : List ℕ) → HasSection rest c x y → IsNameData c x q → IsNameData id content q
  moved c x y q k d =
      let one = one_section rest c x y id content behind k h in
      (sym one.id_is ∙ d.0, subst (titled q) one.content_is d.1)

  only_case : (payload q : List ℕ) → IsNameData id content payload → (c : Comes rest q) → IsNameData c.id c.content q ⊎ Passes c.id c.content c.behind q → q ≡ payload
  only_case payload q d c (inl e) =
      let k = moved c.id c.content c.behind q c.here e in
      (one_name content title title q payload (name_of_data id content q k) (name_of_data id content payload d)).rest_is
  only_case payload q d c (inr p) =
      let one = one_section rest c.id c.content c.behind id content behind c.here h in
      absurd (p.other payload (one.id_is ∙ d.0, subst (titled payload) (sym one.content_is) d.1))

  pub here_only : (payload q : List ℕ) → IsNameData id content payload → Ahead rest q → q ≡ payload
  here_only payload q d a = let c = comes rest q a in only_case payload q d c c.then

  -- ---- it is not here

  past_case : (q : List ℕ) → ((p : List ℕ) → IsNameData id content p → ⊥) → (c : Comes rest q) → IsNameData c.id c.content q ⊎ Passes c.id c.content c.behind q → Ahead behind q
  past_case q none c (inl e) = absurd (none q (moved c.id c.content c.behind q c.here e))
  past_case q none c (inr p) = subst (λ x. Ahead x q) (one_section rest c.id c.content c.behind id content behind c.here h).rest_is p.ahead

  pub past : (q : List ℕ) → ((p : List ℕ) → IsNameData id content p → ⊥) → Ahead rest q → Ahead behind q
  past q none a = let c = comes rest q a in past_case q none c c.then

  pub before : (q : List ℕ) → ((p : List ℕ) → IsNameData id content p → ⊥) → Ahead behind q → Ahead rest q
  before q none a =
      let s = section_spelled id anything rest content behind h tt in
      let called : is_called (codes "name") s.front → ⊥ =
      λ c.
      let one = one_section rest 0 c.4.1 behind id content behind (section_front 0 (name title ⨾ anything) s.front behind rest c s.bytes_are) h in
      let n = c.4.4 in
      none n.1 (sym one.id_is, subst (titled n.1) one.content_is (n.0, n.1, n.2, n.3, refl)) in
      let w = a.1 in
      (suc a.0, (s.front ++ w.0, w.1, s.bytes_are ∙ ap (λ x. s.front ++ x) w.2 ∙ sym (append_assoc s.front w.0 w.1), (s.front, w.0, refl, ((id, s.is), called), w.3), w.4))

-- ---- the header

pub no_header : (bytes : List ℕ) → ((rest : List ℕ) → (header ⨾ exactly rest) bytes → ⊥) → (payload : List ℕ) → HasNameSection bytes payload → ⊥
no_header bytes none payload n = let w = n.1 in none w.1 (w.0, w.1, w.2, w.3, refl)

-- ---- behind the header

module _ (bytes rest : List ℕ) (h : (header ⨾ exactly rest) bytes) where
  pub ahead : (payload : List ℕ) → HasNameSection bytes payload → Ahead rest payload
  ahead payload n =
      let w = n.1 in
      let same : h.0 ++ h.1 ≡ w.0 ++ w.1 = sym h.2 ∙ w.2 in
      let fronts : h.0 ≡ w.0 = h.3 ∙ sym w.3 in
      let one = cut w.0 w.0 h.1 w.1 refl (ap (λ x. x ++ h.1) (sym fronts) ∙ same) in
      (n.0, subst (Sections n.0 payload) (sym one.rest_is ∙ h.4) w.4)

  pub found : (payload : List ℕ) → Ahead rest payload → HasNameSection bytes payload
  found payload a = (a.0, (h.0, h.1, h.2, h.3, subst (Sections a.0 payload) (sym h.4) a.1))

-- ---- the subsections

abbrev Starts : (payload functions : List ℕ) → Type 0
Starts payload functions = (behind : List ℕ) × HasSection payload 1 functions behind

pub record IsSecond (payload functions : List ℕ) : Type 0 where
  pub content : List ℕ
  pub behind : List ℕ
  pub first : HasSection payload 0 content behind
  pub second : Starts behind functions

starts_at : (functions bytes r : List ℕ) → bytes ≡ r → (section 1 (exactly functions) ⨾ anything) r → Starts bytes functions
starts_at functions bytes r is h =
    let s = h.3 in
    (h.1, subst (λ c. HasSection bytes 1 c h.1) s.4.4 (section_front 1 (exactly functions) h.0 h.1 bytes s (is ∙ h.2)))

by_first : (payload functions : List ℕ) (h : HasFunctions payload functions) → (empty ∣ section 0 anything) h.0 → Starts payload functions ⊎ IsSecond payload functions
by_first payload functions h (inl none) = inl (starts_at functions payload h.1 (h.2 ∙ ap (λ x. x ++ h.1) none) h.4)
by_first payload functions h (inr s) =
    inr (record { content = s.4.1; behind = h.1; first = section_front 0 anything h.0 h.1 payload s h.2; second = starts_at functions h.1 h.1 refl h.4 })

cases : (payload functions : List ℕ) → HasFunctions payload functions → Starts payload functions ⊎ IsSecond payload functions
cases payload functions h = by_first payload functions h h.3

module _ (payload : List ℕ) (id : ℕ) (content behind : List ℕ) (h : HasSection payload id content behind) where
  -- it is the first
  pub first_there : id ≡ 1 → HasFunctions payload content
  first_there is =
      let s = section_spelled 1 (exactly content) payload content behind (subst (λ (i : ℕ). HasSection payload i content behind) is h) refl in
      ([], payload, refl, inl refl, (s.front, behind, s.bytes_are, s.is, tt))

  first_case : id ≡ 1 → (f : List ℕ) → Starts payload f ⊎ IsSecond payload f → f ≡ content
  first_case is f (inl s) = (one_section payload 1 f s.0 id content behind s.1 h).content_is
  first_case is f (inr s) = absurd (omega (arith, (one_section payload 0 s.content s.behind id content behind s.first h).id_is, is))

  pub first_only : id ≡ 1 → (f : List ℕ) → HasFunctions payload f → f ≡ content
  first_only is f k = first_case is f (cases payload f k)

  -- it is not the first
  second_case : id ≢ 1 → (f : List ℕ) → Starts payload f ⊎ IsSecond payload f → (id ≡ 0) × Starts behind f
  second_case isnt f (inl s) = absurd (isnt (sym (one_section payload 1 f s.0 id content behind s.1 h).id_is))
  second_case isnt f (inr s) =
      let one = one_section payload 0 s.content s.behind id content behind s.first h in
      (sym one.id_is, subst (λ x. Starts x f) one.rest_is s.second)

  second_of : id ≢ 1 → (f : List ℕ) → HasFunctions payload f → (id ≡ 0) × Starts behind f
  second_of isnt f k = second_case isnt f (cases payload f k)

  pub neither : id ≢ 1 → id ≢ 0 → (f : List ℕ) → HasFunctions payload f → ⊥
  neither isnt nor f k = nor (second_of isnt f k).0

  pub no_second : id ≢ 1 → ((i : ℕ) (c r : List ℕ) → HasSection behind i c r → ⊥) → (f : List ℕ) → HasFunctions payload f → ⊥
  no_second isnt none f k = let s = (second_of isnt f k).1 in none 1 f s.0 s.1

  module _ (next : ℕ) (more rest : List ℕ) (k : HasSection behind next more rest) where
    pub other_second : id ≢ 1 → next ≢ 1 → (f : List ℕ) → HasFunctions payload f → ⊥
    other_second isnt nor f x = let s = (second_of isnt f x).1 in nor (sym (one_section behind 1 f s.0 next more rest s.1 k).id_is)

    pub second_there : id ≡ 0 → next ≡ 1 → HasFunctions payload more
    second_there is then =
        let a = section_spelled 0 anything payload content behind (subst (λ (i : ℕ). HasSection payload i content behind) is h) tt in
        let b = section_spelled 1 (exactly more) behind more rest (subst (λ (i : ℕ). HasSection behind i more rest) then k) refl in
        (a.front, behind, a.bytes_are, inr a.is, (b.front, rest, b.bytes_are, b.is, tt))

    pub second_only : id ≢ 1 → (f : List ℕ) → HasFunctions payload f → f ≡ more
    second_only isnt f x = let s = (second_of isnt f x).1 in (one_section behind 1 f s.0 next more rest s.1 k).content_is

pub no_functions : (payload : List ℕ) → ((id : ℕ) (content behind : List ℕ) → HasSection payload id content behind → ⊥) → (f : List ℕ) → HasFunctions payload f → ⊥
no_functions payload none f k = lost (cases payload f k)
  where
    lost : Starts payload f ⊎ IsSecond payload f → ⊥
    lost (inl s) = none 1 f s.0 s.1
    lost (inr s) = none 0 s.content s.behind s.first

-- ---- the names that a module carries

within : (id : ℕ) (P Q : Language) (bytes : List ℕ) → ((x : List ℕ) → P x → Q x) → section id P bytes → section id Q bytes
within id P Q bytes f s = (s.0, s.1, s.2, s.3, (s.4.0, s.4.1, s.4.2, s.4.3, f s.4.1 s.4.4))

named : (payload functions : List ℕ) (names : List Named) → HasFunctions payload functions → name_map names functions → subsections names payload
named payload functions names h m =
    let w = h.4 in
    (h.0, h.1, h.2, h.3, (w.0, w.1, w.2, within 1 (exactly functions) (name_map names) w.0 (λ x e. subst (name_map names) (sym e) m) w.3, w.4))

pub carries : (bytes payload functions : List ℕ) (names : List Named) → HasNameSection bytes payload → HasFunctions payload functions → name_map names functions → Carries bytes names
carries bytes payload functions names n h m =
    let all = named payload functions names h m in
    let w = n.1 in
    let v = w.4 in
    let u = v.4 in
    let there = within 0 (titled payload) (name title ⨾ subsections names) u.0 (λ x d. (d.0, d.1, d.2, d.3, subst (subsections names) (sym d.4) all)) u.3 in
    (n.0, (w.0, w.1, w.2, w.3, (v.0, v.1, v.2, v.3, (u.0, u.1, u.2, there, u.4))))

-- what a module that carries names has
pub record HasAll (bytes : List ℕ) (names : List Named) : Type 0 where
  pub payload : List ℕ
  pub section_is : HasNameSection bytes payload
  pub functions : List ℕ
  pub functions_are : HasFunctions payload functions
  pub map : name_map names functions

pub has_all : (bytes : List ℕ) (names : List Named) → Carries bytes names → HasAll bytes names
has_all bytes names c =
    let w = c.1 in
    let v = w.4 in
    let u = v.4 in
    let s = u.3 in
    let z = s.4 in
    let d = z.4 in
    let there : section 0 (titled d.1) u.0 = (s.0, s.1, s.2, s.3, (z.0, z.1, z.2, z.3, (d.0, d.1, d.2, d.3, refl))) in
    let m = d.4 in
    let f = m.4 in
    let g = f.3 in
    let inside : section 1 (exactly g.4.1) f.0 = (g.0, g.1, g.2, g.3, (g.4.0, g.4.1, g.4.2, g.4.3, refl)) in
    record {
      payload = d.1;
      section_is = (c.0, (w.0, w.1, w.2, w.3, (v.0, v.1, v.2, v.3, (u.0, u.1, u.2, there, u.4))));
      functions = g.4.1;
      functions_are = (m.0, m.1, m.2, m.3, (f.0, f.1, f.2, inside, f.4));
      map = g.4.4;
    }

module _ (bytes : List ℕ) (names : List Named) (h : Carries bytes names) where
  pub no_payload : ((payload : List ℕ) → HasNameSection bytes payload → ⊥) → ⊥
  no_payload none = let a = has_all bytes names h in none a.payload a.section_is

  module _ (payload : List ℕ) (only : IsOnly (HasNameSection bytes) payload) where
    functions_there : HasFunctions payload (has_all bytes names h).functions
    functions_there = let a = has_all bytes names h in subst (λ p. HasFunctions p a.functions) (only.1 a.payload a.section_is) a.functions_are

    pub no_subsection : ((functions : List ℕ) → HasFunctions payload functions → ⊥) → ⊥
    no_subsection none = none (has_all bytes names h).functions functions_there

    pub no_map : (functions : List ℕ) → IsOnly (HasFunctions payload) functions → ((other : List Named) → name_map other functions → ⊥) → ⊥
    no_map functions one none = let a = has_all bytes names h in none names (subst (name_map names) (one.1 a.functions functions_there) a.map)
