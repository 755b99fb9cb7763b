-- What refusals of the parts say of the source.
use Rattle.std.proofs.Common.{◌≡◌, ◌++◌, ◌∷◌, [], inl, inr, ◌+◌, ◌<◌, ℕ, List, Option, Some, option_map, take, get_or, slice_get, length, sym, ap, subst, ◌∙◌, arith}
use Rattle.std.specs.List.{Contains}
use Rattle.std.proofs.lemmas.List.{map-append, take_more}
use Rattle.std.proofs.lemmas.List.Elements.{Contains-push_cases}
use Rattle.std.proofs.lemmas.Option.{slice_get_within, slice_get-map, slice_get-get_or, get_or_from_slice_get}
use Rattle.limbo_declarations.specs.Rows.{Row, rows_of_members}
use Rattle.limbo_declarations.specs.View.{rows_of, view_row}
use Rattle.limbo_top.specs.Tops.{Placed, Definition}
use Rattle.limbo_top.specs.declared.naming.TopLevel as code
use Rattle.limbo_top.specs.Parts.{AreParts}
use Rattle.limbo_entries.specs.Entries as entries
use Rattle.limbo_top.specs.View.{placed, view_standing, view_definition, definitions_of}
use Rattle.std.specs.Borrow.{Bor}
use Rattle.inf_text.specs.declared.span.Span.{Span}
use Rattle.limbo_top.specs.declared.tops.Definition as code_definition
use Rattle.limbo_includes.specs.declared.included.Standing as code_standing
use Rattle.limbo_tree.specs.View.{view_top}
use Rattle.limbo_defined.specs.Defined.{IsDeclared, IsNested, IsDefined, AreDefinedOnce}
use Rattle.limbo_defined.specs.Refusals as refusals
use Rattle.limbo_declare.specs.Declares.{Parts, names_of, numbered, IsOnceIn, AreOnceInside, FailsTwice, FailsUnknown, inside, in_scope, defined, undefined, nested, undeclared}

-- the parts of a source, by those of the code
abbrev pub parts_of : (implements : List ℕ) (tops : List Placed) (t : code.TopLevel) → AreParts implements tops t → Parts implements tops
parts_of implements tops t a = record {
  path = a.path;
  members = a.members;
  alone = rows_of t.alone.items;
  is_module = a.is_module;
  are_alone = a.alone_are;
}

pub rows_numbered : (implements : List ℕ) (tops : List Placed) (t : code.TopLevel) (a : AreParts implements tops t)
    → rows_of (t.declared.rows.items ++ t.alone.items) ≡ numbered (parts_of implements tops t a)
rows_numbered implements tops t a =
    map-append view_row t.declared.rows.items t.alone.items ∙ ap (λ (z : List Row). z ++ rows_of t.alone.items) a.declared_are

pub fails_inside : (implements : List ℕ) (tops : List Placed) (t : code.TopLevel) → AreParts implements tops t
    → entries.HasTwice (rows_of (t.declared.rows.items ++ t.alone.items)) → FailsTwice implements tops
fails_inside implements tops t a h = inside (parts_of implements tops t a) (subst entries.HasTwice (rows_numbered implements tops t a) h)

-- ---- scopes

contained : {A : Type 0} → (xs : List A) (i : ℕ) (x : A) → slice_get xs i ≡ Some x → Contains xs x
contained xs i x h = (i, slice_get_within xs i x h, get_or_from_slice_get xs i x x h)

module _ (ss : List code_standing.Standing) (i : ℕ) (x : code_standing.Standing) (l : i < length ss) (e : x ≡ get_or ss i x) where
  there : slice_get (placed ss) i ≡ Some (view_standing x)
  there = slice_get-map view_standing ss i ∙ ap (option_map view_standing) (slice_get-get_or ss i x l ∙ ap Some (sym e))

  one_more : placed (take (i + 1) ss) ≡ placed (take i ss) ++ (view_standing x ∷ [])
  one_more =
      ap placed (take_more ss i x l) ∙ map-append view_standing (take i ss) (get_or ss i x ∷ [])
      ∙ ap (λ (z : code_standing.Standing). placed (take i ss) ++ (view_standing z ∷ [])) (sym e)

  pub scopes_more : AreOnceInside (placed (take i ss)) → IsOnceIn (view_top x.top.now) → AreOnceInside (placed (take (i + 1) ss))
  scopes_more f h = λ s c. elim (Contains-push_cases (placed (take i ss)) (view_standing x) s (subst (λ (z : List Placed). Contains z s) one_more c)) [
    | inl y ↦ f s y
    | inr q ↦ subst (λ (z : Placed). IsOnceIn z.top) q h
  ]

  pub fails_scope : (implements : List ℕ) → (IsOnceIn (view_top x.top.now) → ⊥) → FailsTwice implements (placed ss)
  fails_scope implements f = in_scope (view_standing x) (contained (placed ss) i (view_standing x) there) f

-- ---- functions

module _ (implements : List ℕ) (tops : List Placed) (t : code.TopLevel) (a : AreParts implements tops t) where
  abbrev parts : Parts implements tops
  parts = parts_of implements tops t a

  pub fails_defined : (AreDefinedOnce (definitions_of t.definitions.items) → ⊥) → FailsTwice implements tops
  fails_defined f = defined (λ h. f (subst AreDefinedOnce (sym a.definitions_are) h))

  pub fails_undefined : (path name : List ℕ) (part : Option (List ℕ)) → IsDeclared (rows_of t.members.rows.items) (rows_of t.names.rows.items) path name part
      → (IsDefined (definitions_of t.definitions.items) name part → ⊥) → FailsUnknown implements tops
  fails_undefined path name part d f =
      undefined parts path name part
      (subst (λ (z : List Row). IsDeclared z (names_of parts) path name part) a.members_are
      (subst (λ (z : List Row). IsDeclared (rows_of t.members.rows.items) z path name part) a.names_are d))
      (λ h. f (subst (λ (z : List Definition). IsDefined z name part) (sym a.definitions_are) h))

  pub fails_nested : (path name : List ℕ) → IsNested (rows_of t.names.rows.items) path name → FailsUnknown implements tops
  fails_nested path name n = nested parts path name (subst (λ (z : List Row). IsNested z path name) a.names_are n)

  pub fails_undeclared : (d : Definition) (function : List ℕ) → Contains (definitions_of t.definitions.items) d → d.part ≡ Some function
      → ((path : List ℕ) → IsDeclared (rows_of t.members.rows.items) (rows_of t.names.rows.items) path d.name (Some function) → ⊥) → FailsUnknown implements tops
  fails_undeclared d function at of f =
      undeclared parts d function (subst (λ (z : List Definition). Contains z d) a.definitions_are at) of
      (λ path h. f path (subst (λ (z : List Row). IsDeclared z (rows_of t.names.rows.items) path d.name (Some function)) (sym a.members_are)
      (subst (λ (z : List Row). IsDeclared (rows_of_members a.path a.members) z path d.name (Some function)) (sym a.names_are) h)))

-- ---- by the refusals of the code

second_not_once : (ds : List code_definition.Definition) (path : Bor (List ℕ)) (at : Span) → refusals.IsSecond ds path at
    → AreDefinedOnce (definitions_of ds) → ⊥
second_not_once ds path at s once =
    let a = slice_get-map view_definition ds s.first ∙ ap (option_map view_definition) s.there in
    let b = slice_get-map view_definition ds s.second ∙ ap (option_map view_definition) s.and_there in
    let e = once s.first s.second (view_definition s.one) (view_definition s.other) a b s.same_name s.same_part in
    let l = s.before in
    omega arith

viewed : (ds : List code_definition.Definition) (d : code_definition.Definition) → Contains ds d → Contains (definitions_of ds) (view_definition d)
viewed ds d c =
    contained (definitions_of ds) c.0 (view_definition d)
    (slice_get-map view_definition ds c.0 ∙ ap (option_map view_definition) (slice_get-get_or ds c.0 d c.1 ∙ ap Some c.2))

module _ (implements : List ℕ) (tops : List Placed) (t : code.TopLevel) (a : AreParts implements tops t) where
  pub fails_second : (path : Bor (List ℕ)) (at : Span) → refusals.IsSecond t.definitions.items path at → FailsTwice implements tops
  fails_second path at s = fails_defined implements tops t a (second_not_once t.definitions.items path at s)

  pub fails_lacking : (path : List ℕ) (at : Span) → refusals.IsLacking t.members.rows.items t.names.rows.items (definitions_of t.definitions.items) path at
      → FailsUnknown implements tops
  fails_lacking _ _ (refusals.nowhere p c d f) = fails_undefined implements tops t a p.of.path p.of.name p.of.part d f
  fails_lacking _ _ (refusals.no_way path n m i) = fails_nested implements tops t a path.now n.text i

  pub fails_undeclared_at : (path : Bor (List ℕ)) (at : Span) → refusals.IsUndeclared t.members.rows.items t.names.rows.items t.definitions.items path at
      → FailsUnknown implements tops
  fails_undeclared_at path at u =
      fails_undeclared implements tops t a (view_definition u.definition) u.function (viewed t.definitions.items u.definition u.there) u.of_adt u.undeclared
