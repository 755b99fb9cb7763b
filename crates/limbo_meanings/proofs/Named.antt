-- What names mean in the scopes of declarations.
use Rattle.std.proofs.Common.{◌≡◌, ◌↔◌, ◌⊎◌, inl, inr, ℕ, List, [], Option, Some, None, length, slice_get, refl, sym, ap, subst, ◌∙◌}
use Rattle.limbo_scope.specs.declared.meaning.Meaning.{Meaning}
use Rattle.limbo_scope.specs.Scopes.{Scope, seen, entered}
use Rattle.limbo_scope.specs.Laws.{declared_all}
use Rattle.limbo_entries.specs.Entries as entries
use Rattle.limbo_entries.specs.Entries.{Entry, IsEntry, AreOnce, IsMember, HasNone, Finds}
use Rattle.limbo_meanings.specs.Names.{names_in, scope_inside, outermost_scopes}
use Rattle.limbo_meanings.specs.Laws.{HasMeaning, NamesInside, NamesOutermost, TopHasMeanings}
use Rattle.limbo_meanings.proofs.Finding.{IsAmong, answer}
use Rattle.limbo_meanings.proofs.Inside.{names_from, names_to}

module _ (es : List Entry) (xs : List (Option Meaning)) (s : Option ℕ) (name : List ℕ) where
  from : (x : Meaning) → IsAmong (names_in s xs es) name x → (k : ℕ) × IsMember es s name k × HasMeaning xs k x
  from x a =
      let r = names_from s xs es name x a.place a.there in
      (r.0, record { entry = r.1; there = r.2; stands = r.3; named = r.4 }, r.5)

  to : (k : ℕ) (x : Meaning) → IsMember es s name k → HasMeaning xs k x → IsAmong (names_in s xs es) name x
  to k x m h = subst (λ (n : List ℕ). IsAmong (names_in s xs es) n x) m.named (names_to s xs es k m.entry x m.there m.stands h)

  -- the one that is among them is the one that is declared
  the_one : (k : ℕ) (x y : Meaning) → AreOnce es → IsMember es s name k → HasMeaning xs k x → IsAmong (names_in s xs es) name y → y ≡ x
  the_one k x y once m h a =
      let f = from y a in
      let p : f.0 ≡ k = once s name f.0 k f.1 m in
      let q : slice_get xs k ≡ Some (Some y) = subst (λ (z : ℕ). slice_get xs z ≡ Some (Some y)) p f.2 in
      cc

  said : (outer : List Scope) (k : ℕ) (x : Meaning) → AreOnce es → IsMember es s name k → HasMeaning xs k x
      → seen name (declared_all (names_in s xs es) (entered outer)) ≡ Some x
  said outer k x once m h = elim (answer name (names_in s xs es) outer) [
    | inl t ↦ absurd (t.0 x (to k x m h))
    | inr t ↦ t.2 ∙ ap Some (the_one k x t.0 once m h t.1)
  ]

same : (x y : Meaning) → Some y ≡ Some x → y ≡ x
same x y p = cc

pub names_inside : NamesInside
names_inside es xs a name x once many = (
  λ h. elim (answer name (names_in (Some a) xs es) []) [
    | inl t ↦ let p : None ≡ Some x = sym t.1 ∙ h in absurd cc
    | inr t ↦ let f = from es xs (Some a) name t.0 t.1 in
        (f.0, f.1, f.2 ∙ ap (λ z. Some (Some z)) (same x t.0 (sym t.2 ∙ h)))
  ],
  λ r. said es xs (Some a) name [] r.0 x once r.1 r.2,
)

module _ (es : List Entry) (xs : List (Option Meaning)) (m : ℕ) (name : List ℕ) (x : Meaning) (once : AreOnce es) (many : length xs ≡ length es) (top : TopHasMeanings xs es) where
  none_there : ((y : Meaning) → IsAmong (names_in None xs es) name y → ⊥) → HasNone es None name
  none_there never k w = let t = top k w.entry w.there w.stands in never t.0 (to es xs None name k t.0 w t.1)

  goes : seen name (outermost_scopes m xs es) ≡ Some x → (k : ℕ) × Finds es m name None k × HasMeaning xs k x
  goes h = elim (answer name (names_in None xs es) (scope_inside m xs es)) [
    | inl t ↦ let f = (names_inside es xs m name x once many).0 (sym t.1 ∙ h) in (f.0, entries.in_module f.0 (none_there t.0) f.1, f.2)
    | inr t ↦ let f = from es xs None name t.0 t.1 in
        (f.0, entries.here None f.0 f.1, f.2 ∙ ap (λ z. Some (Some z)) (same x t.0 (sym t.2 ∙ h)))
  ]

  comes : (s : Option ℕ) (k : ℕ) → Finds es m name s k → s ≡ None → HasMeaning xs k x → seen name (outermost_scopes m xs es) ≡ Some x
  comes _ _ (entries.here s k w) e h =
      said es xs None name (scope_inside m xs es) k x once (subst (λ (z : Option ℕ). IsMember es z name k) e w) h
  comes _ _ (entries.in_module k none w) e h = elim (answer name (names_in None xs es) (scope_inside m xs es)) [
    | inl t ↦ t.1 ∙ (names_inside es xs m name x once many).1 (k, w, h)
    | inr t ↦ let f = from es xs None name t.0 t.1 in absurd (none f.0 f.1)
  ]
  comes _ _ (entries.further j outer k none i f) e h = absurd cc

pub names_outermost : NamesOutermost
names_outermost es xs m name x once many top = (
  goes es xs m name x once many top,
  λ r. comes es xs m name x once many top None r.0 r.1 refl r.2,
)
