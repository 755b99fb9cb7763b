-- Texts that are put behind others, function by function.
use Rattle.std.proofs.Common.{◌≡◌, ℕ, ◌+◌, ◌<◌, List, [], ◌∷◌, ◌++◌, map, take, length, get_or, refl, sym, ap, ◌∙◌, subst, append_assoc}
use Rattle.std.proofs.lemmas.List.{append-nil, take_more, map_push}
use Rattle.std.specs.List.{flat_map}
use Rattle.limbo_types.specs.Types.{FnTy}
use Rattle.limbo_layout.specs.Adts.{Def}
use Rattle.link_sign.specs.TypeText.{IsText}
use Rattle.limbo_typed.specs.Typed.{Module}
use Rattle.link_sign.specs.declared.builtin.TheConstants.{PRINT, FPRINT, SPRINT}
use Rattle.declared_signs.specs.Declared.{AreTexts, AreDeclaredTexts, members}
use Rattle.declared_signs.specs.Texts.{Adds}

module _ (defs : List Def) (modules : List (List ℕ)) where
  are_append : (fs gs : List FnTy) (s t : List (List ℕ)) → AreTexts defs modules fs s → AreTexts defs modules gs t
      → AreTexts defs modules (fs ++ gs) (s ++ t)
  are_append [] gs s t a b = subst (λ z. AreTexts defs modules gs (z ++ t)) (sym a) b
  are_append (f ∷ fs) gs s t a b =
      (a.0, a.1 ++ t, ap (λ z. z ++ t) a.2, a.3, are_append fs gs a.1 t a.4 b)

  pub adds_none : (a : List (List ℕ)) → Adds defs modules [] a a
  adds_none a = record { more = []; are = refl; grown = sym (append-nil a) }

  pub adds_one : (f : FnTy) (text : List ℕ) (a b : List (List ℕ)) → IsText defs modules f text → b ≡ a ++ text ∷ []
      → Adds defs modules (f ∷ []) a b
  adds_one f text a b is grown = record { more = text ∷ []; are = (text, [], refl, is, refl); grown = grown }

  pub adds_more : (fs gs : List FnTy) (a b c : List (List ℕ)) → Adds defs modules fs a b → Adds defs modules gs b c
      → Adds defs modules (fs ++ gs) a c
  adds_more fs gs a b c x y = record {
    more = x.more ++ y.more;
    are = are_append fs gs x.more y.more x.are y.are;
    grown = y.grown ∙ ap (λ z. z ++ y.more) x.grown ∙ append_assoc a x.more y.more;
  }

  -- the next one of a list, each of which has a type
  pub adds_next : {A B : Type 0} (view : A → B) (of : B → FnTy) (xs : List A) (i : ℕ) (x : A) (a b c : List (List ℕ)) → i < length xs
      → x ≡ get_or xs i x → Adds defs modules (map of (map view (take i xs))) a b → Adds defs modules (of (view x) ∷ []) b c
      → Adds defs modules (map of (map view (take (i + 1) xs))) a c
  adds_next {A} {B} view of xs i x a b c inside is before now =
      let grown : map of (map view (take (i + 1) xs)) ≡ map of (map view (take i xs)) ++ of (view x) ∷ [] =
      ap (λ (ys : List A). map of (map view ys)) (take_more xs i x inside)
      ∙ ap (map of) (map_push view (take i xs) (get_or xs i x))
      ∙ map_push of (map view (take i xs)) (view (get_or xs i x))
      ∙ ap (λ (z : A). map of (map view (take i xs)) ++ of (view z) ∷ []) (sym is) in
      subst (λ (fs : List FnTy). Adds defs modules fs a c) (sym grown)
      (adds_more (map of (map view (take i xs))) (of (view x) ∷ []) a b c before now)

  flat_push : {B : Type 0} (of : B → List FnTy) (ys : List B) (y : B) → flat_map of (ys ++ y ∷ []) ≡ flat_map of ys ++ of y
  flat_push of [] y = append-nil (of y)
  flat_push of (z ∷ zs) y = ap (λ (w : List FnTy). of z ++ w) (flat_push of zs y) ∙ sym (append_assoc (of z) (flat_map of zs) (of y))

  -- the next one, which has several types
  pub adds_members : {A B : Type 0} (view : A → B) (of : B → List FnTy) (xs : List A) (i : ℕ) (x : A) (a b c : List (List ℕ))
      → i < length xs → x ≡ get_or xs i x → Adds defs modules (flat_map of (map view (take i xs))) a b → Adds defs modules (of (view x)) b c
      → Adds defs modules (flat_map of (map view (take (i + 1) xs))) a c
  adds_members {A} {B} view of xs i x a b c inside is before now =
      let grown : flat_map of (map view (take (i + 1) xs)) ≡ flat_map of (map view (take i xs)) ++ of (view x) =
      ap (λ (ys : List A). flat_map of (map view ys)) (take_more xs i x inside)
      ∙ ap (flat_map of) (map_push view (take i xs) (get_or xs i x))
      ∙ flat_push of (map view (take i xs)) (view (get_or xs i x))
      ∙ ap (λ (z : A). flat_map of (map view (take i xs)) ++ of (view z)) (sym is) in
      subst (λ (fs : List FnTy). Adds defs modules fs a c) (sym grown)
      (adds_more (flat_map of (map view (take i xs))) (of (view x)) a b c before now)

-- the texts of all, from none
pub all_declared : (m : Module) (a b c d : List (List ℕ)) → a ≡ []
    → Adds m.adts m.modules (map (λ f. f.of) m.declared) a b → Adds m.adts m.modules (flat_map members m.interfaces) b c
    → d ≡ c ++ PRINT ∷ FPRINT ∷ SPRINT ∷ [] → AreDeclaredTexts m d
all_declared m a b c d none own imported prints =
    let all = adds_more m.adts m.modules (map (λ f. f.of) m.declared) (flat_map members m.interfaces) a b c own imported in
    record {
      own = all.more;
      are = all.are;
      all = prints ∙ ap (λ z. z ++ PRINT ∷ FPRINT ∷ SPRINT ∷ []) (all.grown ∙ ap (λ z. z ++ all.more) none);
    }
