-- Texts that signatures tell apart.
use Rattle.std.proofs.Common.{◌≡◌, ◌≢◌, ℕ, suc, ◌+◌, ◌<◌, ◌≤◌, Bool, true, false, not, cond, ◌==◌, ◌⊎◌, inl, inr, List, [], ◌∷◌, ◌++◌, length, take, drop}
use Rattle.std.proofs.Common.{Vec, Option, None, Some, option_map, get_or, refl, sym, ap, ◌∙◌, subst, arith}
use Rattle.std.proofs.lemmas.List.{get_or-map, get_or-take, length-take, length-take-le, length-map, take_more, map_push, map-append, take-append-drop, drop_more}
use Rattle.std.proofs.lemmas.Slice.Eq.{bytes_eq-Decides}
use Rattle.std.specs.Global.{Global}
use Rattle.std.specs.Ordering.{nat_cmp}
use Rattle.std.specs.BTreeMap.{is_at}
use Rattle.std.specs.Str.{bytes_eq}
use Rattle.limbo_layout.specs.Adts.{Has}
use Rattle.link_sign.specs.TypeText.{place}
use Rattle.link_sign.specs.Signature.{fold}
use Rattle.link_sign.specs.Clashes.{AreApart, IsFirstClash, texts_of}
use Rattle.link_sign.specs.Laws.{OneClash}
use Rattle.link_sign.proofs.Places.{place_none}
use Rattle.link_sign.proofs.Opening.{eq_from_test, test_from_eq, still_placed, same_places}

-- the one that a place is of
pub record Found {A : Type 0} (test : A → Bool) (xs : List A) (k : ℕ) (d : A) : Type 0 where
  pub within : k < length xs
  pub passes : test (get_or xs k d) ≡ true
  pub stands : Has xs (get_or xs k d)

pub found : {A : Type 0} (test : A → Bool) (xs : List A) (k : ℕ) (d : A) → place test xs ≡ Some k → Found test xs k d
found test [] k d h = absurd (cc)
found {A} test (x ∷ xs) k d h = go (test x) (place test xs) refl (λ j e. found test xs j d e) h
  where
    go : (b : Bool) (o : Option ℕ) → test x ≡ b → ((j : ℕ) → o ≡ Some j → Found test xs j d) → cond b (Some 0) (option_map suc o) ≡ Some k
        → Found test (x ∷ xs) k d
    go true o t f g =
        let first : 0 ≡ k = cc in
        subst (λ n. Found test (x ∷ xs) n d) first (record { within = omega arith; passes = t; stands = inl refl })
    go false None t f g = absurd (cc)
    go false (Some j) t f g =
        let next : suc j ≡ k = cc in
        let r = f j refl in
        subst (λ n. Found test (x ∷ xs) n d) next (record { within = omega (arith, r.within); passes = r.passes; stands = inr r.stands })

-- none that passes stands in a list without a place
pub none_passes : {A : Type 0} (test : A → Bool) (xs : List A) (x : A) → place test xs ≡ None → Has xs x → test x ≡ true → ⊥
none_passes test [] x h (has) t = has
none_passes test (y ∷ ys) x h (inl e) t = let n = (place_none test y ys h).0 in let never : false ≡ true = sym n ∙ (ap test e ∙ t) in cc
none_passes test (y ∷ ys) x h (inr there) t = none_passes test ys x (place_none test y ys h).1 there t

pub has_front : {A : Type 0} (xs ys : List A) (x : A) → Has xs x → Has (xs ++ ys) x
has_front [] ys x h = absurd h
has_front (z ∷ zs) ys x (inl e) = inl e
has_front (z ∷ zs) ys x (inr h) = inr (has_front zs ys x h)

pub has_here : {A : Type 0} (xs : List A) (y : A) (ys : List A) → Has (xs ++ y ∷ ys) y
has_here [] y ys = inl refl
has_here (x ∷ xs) y ys = inr (has_here xs y ys)

has_split : {A : Type 0} (xs : List A) (y x : A) → Has (xs ++ y ∷ []) x → Has xs x ⊎ (y ≡ x)
has_split [] y x (inl e) = inr e
has_split [] y x (inr h) = absurd h
has_split (z ∷ zs) y x (inl e) = inl (inl e)
has_split (z ∷ zs) y x (inr h) = elim (has_split zs y x h) [ inl a ↦ inl (inr a) | inr e ↦ inr e ]

-- one more text
pub apart_more : (xs : List (List ℕ)) (y : List ℕ) → AreApart xs → ((s : List ℕ) → Has xs s → fold s ≡ fold y → s ≡ y) → AreApart (xs ++ y ∷ [])
apart_more xs y apart f s t hs ht e = go (has_split xs y s hs) (has_split xs y t ht)
  where
    go : Has xs s ⊎ (y ≡ s) → Has xs t ⊎ (y ≡ t) → s ≡ t
    go (inl a) (inl b) = apart s t a b e
    go (inl a) (inr b) = f s a (e ∙ ap fold (sym b)) ∙ b
    go (inr a) (inl b) = sym (f t b (sym e ∙ ap fold (sym a)) ∙ a)
    go (inr a) (inr b) = sym a ∙ b

-- what clashes isn't apart
pub clash_not_apart : (texts : List (List ℕ)) (first second : List ℕ) → IsFirstClash texts first second → AreApart texts → ⊥
clash_not_apart texts first second c apart =
    c.differ (apart first second
    (subst (λ z. Has z first) (sym c.stands) (has_front c.before (second ∷ c.behind) first c.stands_before))
    (subst (λ z. Has z second) (sym c.stands) (has_here c.before second c.behind)) c.one_sign)

-- ---- the texts so far, and the places of the first with each signature

pub record Knows (at : ℕ → Option ℕ) (texts : List (List ℕ)) : Type 0 where
  pub apart : AreApart texts
  pub firsts : (q : ℕ) → at q ≡ place (λ t. fold t == q) texts

module _ (at : ℕ → Option ℕ) (xs : List (List ℕ)) (y : List ℕ) (known : Knows at xs) where
  -- a text that is there already
  pub known_again : (k : ℕ) → at (fold y) ≡ Some k → get_or xs k y ≡ y → Knows at (xs ++ y ∷ [])
  known_again k h e =
      let found_at : place (λ t. fold t == fold y) xs ≡ Some k = sym (known.firsts (fold y)) ∙ h in
      let there : Has xs y = subst (λ z. Has xs z) e (found (λ t. fold t == fold y) xs k y found_at).stands in
      record {
        apart = apart_more xs y known.apart (λ s hs g. known.apart s y hs there g);
        firsts = λ q. known.firsts q ∙ same_places fold xs y q k found_at;
      }

  -- a text with a new signature
  pub known_new : (after : ℕ → Option ℕ) → at (fold y) ≡ None → ((q : ℕ) → after q ≡ cond (is_at (nat_cmp (fold y)) q) (Some (length xs)) (at q)) → Knows after (xs ++ y ∷ [])
  known_new after h f =
      let none : place (λ t. fold t == fold y) xs ≡ None = sym (known.firsts (fold y)) ∙ h in
      record {
        apart = apart_more xs y known.apart (λ s hs g. absurd (none_passes (λ t. fold t == fold y) xs s none hs (test_from_eq (fold s) (fold y) g)));
        firsts = λ q. f q ∙ still_placed fold xs y q none (at q) (known.firsts q);
      }

  -- a text that clashes
  pub known_clash : (k : ℕ) (zs : List (List ℕ)) → at (fold y) ≡ Some k → get_or xs k y ≢ y → IsFirstClash (xs ++ y ∷ zs) (get_or xs k y) y
  known_clash k zs h ne =
      let found_at : place (λ t. fold t == fold y) xs ≡ Some k = sym (known.firsts (fold y)) ∙ h in
      let f = found (λ t. fold t == fold y) xs k y found_at in
      record {
        before = xs;
        behind = zs;
        stands = refl;
        apart_before = known.apart;
        stands_before = f.stands;
        differ = ne;
        one_sign = eq_from_test (fold (get_or xs k y)) (fold y) f.passes;
      }

-- ---- texts of the code

pub text_there : (vs : List (Vec ℕ Global)) (i k : ℕ) (v : Vec ℕ Global) (d : List ℕ) → k < length (texts_of (take i vs)) → v ≡ get_or vs k v → get_or (texts_of (take i vs)) k d ≡ v.items
text_there vs i k v d h e =
    let len = length-map (take i vs) (λ (w : Vec ℕ Global). w.items) in
    let below : k < length (take i vs) = omega (arith, len, h) in
    let short : k < i = omega (arith, length-take i vs, below) in
    get_or-map (λ (w : Vec ℕ Global). w.items) (take i vs) k v d below ∙ ap (λ (w : Vec ℕ Global). w.items) (get_or-take i vs k v short ∙ sym e)

pub texts_more : (vs : List (Vec ℕ Global)) (i : ℕ) (v : Vec ℕ Global) → i < length vs → v ≡ get_or vs i v → texts_of (take (i + 1) vs) ≡ texts_of (take i vs) ++ v.items ∷ []
texts_more vs i v h e =
    ap texts_of (take_more vs i v h) ∙ map_push (λ (w : Vec ℕ Global). w.items) (take i vs) (get_or vs i v) ∙ ap (λ (w : Vec ℕ Global). texts_of (take i vs) ++ w.items ∷ []) (sym e)

pub texts_all : (vs : List (Vec ℕ Global)) (i : ℕ) (v : Vec ℕ Global) → i < length vs → v ≡ get_or vs i v → texts_of vs ≡ texts_of (take i vs) ++ v.items ∷ texts_of (drop (i + 1) vs)
texts_all vs i v h e =
    ap texts_of (sym (take-append-drop i vs) ∙ ap (λ z. take i vs ++ z) (drop_more vs i v h ∙ ap (λ z. z ∷ drop (i + 1) vs) (sym e)))
    ∙ map-append (λ (w : Vec ℕ Global). w.items) (take i vs) (v ∷ drop (i + 1) vs)

pub texts_length : (vs : List (Vec ℕ Global)) (i : ℕ) → i ≤ length vs → length (texts_of (take i vs)) ≡ i
texts_length vs i h = length-map (take i vs) (λ (w : Vec ℕ Global). w.items) ∙ length-take-le i vs h

-- what `==` tells of two texts
pub same_text : (s t : List ℕ) → true ≡ bytes_eq s t → s ≡ t
same_text s t h = (bytes_eq-Decides s t).0 (sym h)

pub other_text : (s t : List ℕ) → true ≡ not (bytes_eq s t) → s ≢ t
other_text s t h e = let same : bytes_eq s t ≡ true = (bytes_eq-Decides s t).1 e in let never : true ≡ false = h ∙ ap not same in cc

pub same_clash : (t u : List (List ℕ)) (f g s r : List ℕ) → t ≡ u → f ≡ g → s ≡ r → IsFirstClash t f s → IsFirstClash u g r
same_clash t u f g s r e d b c = subst (λ z. IsFirstClash z g r) e (subst (λ z. IsFirstClash t z r) d (subst (λ z. IsFirstClash t f z) b c))

-- ---- one first clash

-- one list and what stands behind it lie in another
record Inside (b : List (List ℕ)) (s : List ℕ) (c : List (List ℕ)) : Type 0 where
  each : (x : List ℕ) → Has b x → Has c x
  next : Has c s

-- two ways to cut a list at one of its texts
data Cut : (b : List (List ℕ)) (s : List ℕ) (c : List (List ℕ)) (t : List ℕ) → Type 0 where
  at_one : {b c : List (List ℕ)} {s t : List ℕ} → b ≡ c → s ≡ t → Cut b s c t
  sooner : {b c : List (List ℕ)} {s t : List ℕ} → Inside b s c → Cut b s c t
  later : {b c : List (List ℕ)} {s t : List ℕ} → Inside c t b → Cut b s c t

inside_more : (x : List ℕ) (b c : List (List ℕ)) (s : List ℕ) → Inside b s c → Inside (x ∷ b) s (x ∷ c)
inside_more x b c s i = record { each = λ y h. elim h [ inl e ↦ inl e | inr g ↦ inr (i.each y g) ]; next = inr i.next }

cut : (b c : List (List ℕ)) (s t : List ℕ) (y z : List (List ℕ)) → b ++ s ∷ y ≡ c ++ t ∷ z → Cut b s c t
cut [] [] s t y z e = at_one refl (cc)
cut [] (d ∷ ds) s t y z e = sooner (record { each = λ x h. absurd h; next = inl (let head : d ≡ s = cc in head) })
cut (b ∷ bs) [] s t y z e = later (record { each = λ x h. absurd h; next = inl (let head : b ≡ t = cc in head) })
cut (b ∷ bs) (d ∷ ds) s t y z e =
    let head : d ≡ b = cc in
    let tail : bs ++ s ∷ y ≡ ds ++ t ∷ z = cc in
    subst (λ h. Cut (b ∷ bs) s (h ∷ ds) t) (sym head) (elim (cut bs ds s t y z tail) [
      | at_one f g ↦ at_one (ap (λ z. b ∷ z) f) g
      | sooner i ↦ sooner (inside_more b bs ds s i)
      | later i ↦ later (inside_more b ds bs t i)
    ])

-- a first clash doesn't stand inside another's front
too_late : (texts : List (List ℕ)) (f s : List ℕ) (c : List (List ℕ)) (x : IsFirstClash texts f s) → Inside x.before s c → AreApart c → ⊥
too_late texts f s c x i apart = x.differ (apart f s (i.each f x.stands_before) i.next x.one_sign)

pub one_clash : OneClash
one_clash texts f g s t x y = go (cut x.before y.before s t x.behind y.behind (sym x.stands ∙ y.stands))
  where
    go : Cut x.before s y.before t → (f ≡ g) × (s ≡ t)
    go (at_one b e) =
        (x.apart_before f g x.stands_before (subst (λ z. Has z g) (sym b) y.stands_before) (x.one_sign ∙ ap fold e ∙ sym y.one_sign), e)
    go (sooner i) = absurd (too_late texts f s y.before x i y.apart_before)
    go (later i) = absurd (too_late texts g t x.before y i x.apart_before)
